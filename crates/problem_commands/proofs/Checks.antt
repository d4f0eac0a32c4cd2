-- Laws of a command's checks: their order, and what follows from the first three.
use mathlib.Core.Path.{◌≡◌, refl, sym, ◌∙◌}
use mathlib.Core.List.{List}
use mathlib.Core.Bool.{Bool, true, false}
use Prim.Native.Nat.{ℕ, ◌+◌, ◌≤◌, ◌<◌}
use native.Mathlib.Omega.{arith}
use lib.Dec.{leb}
use lib.ListN.{length, get_or}
use borrow.Author.Tests.{le-leb, lt-leb, leb-true, leb-false}
use Rattle.format.specs.Commands.{first_refusal}
use Rattle.format.specs.declared.problem.Instruction.{Instruction}
use Rattle.format.specs.declared.problem.Instruction.TheVariants as I
use Rattle.format.specs.ProblemLayout.{problem_command, problem_size}
use Rattle.format.specs.ProblemRules.{Problem, problem_placed, problem_operands_fit, problem_command_at, problem_instruction_at, problem_refusal_at}
use Rattle.problem_commands.specs.Checks.{early, late, late_in}
use Rattle.format.proofs.ProblemChecks.{placed_size, end_command, end_byte}

-- ---- the first two checks, one by one
module _ (p : Problem) (s : List ℕ) (at : ℕ) where
  pub early_3 : problem_placed p s at (problem_command_at s at) ≡ false → early p s at ≡ 3
  unfolding early first_refusal
  early_3 h = rw h

  module _ (h : problem_placed p s at (problem_command_at s at) ≡ true) where
    pub early_2 : length s < at + problem_size (problem_command_at s at) → early p s at ≡ 2
    unfolding early first_refusal
    early_2 k = rw (h, lt-leb (at + problem_size (problem_command_at s at)) (length s) k)

    pub early_0 : at + problem_size (problem_command_at s at) ≤ length s → early p s at ≡ 0
    unfolding early first_refusal
    early_0 k = rw (h, le-leb (at + problem_size (problem_command_at s at)) (length s) k)

-- ---- what follows from them
module _ (a b : Bool) where
  -- where one of them fails, it decides
  early_decides : (c r f : Bool) → 0 < first_refusal a b true false false → first_refusal a b c r f ≡ first_refusal a b true false false
  unfolding first_refusal
  early_decides c r f = go a b
    where
      go : (a b : Bool) → 0 < first_refusal a b true false false → first_refusal a b c r f ≡ first_refusal a b true false false
      go false b h = refl
      go true false h = refl
      go true true h = absurd (omega arith)

  early_passes : first_refusal a b true false false ≡ 0 → (a ≡ true) × (b ≡ true)
  unfolding first_refusal
  early_passes = go a b
    where
      go : (a b : Bool) → first_refusal a b true false false ≡ 0 → (a ≡ true) × (b ≡ true)
      go false b h = absurd (omega arith)
      go true false h = absurd (omega arith)
      go true true h = (refl, refl)

-- no check fails, so the list is not full
not_full : (a f : Bool) → first_refusal true true true a f ≡ 0 → f ≡ false
unfolding first_refusal
not_full false false h = refl
not_full false true h = absurd (omega arith)
not_full true f h = absurd (omega arith)

pub space : (keys : List ℕ) (from n k most : ℕ) → late_in keys from n k most ≡ 0 → n < most
space keys from n k most h = leb-false most n (not_full _ _ h)

-- a command that passed them, with its operands and the place of the next: the last two checks decide
pub record Passes (p : Problem) (s : List ℕ) (at : ℕ) (i : Instruction) (next : ℕ) : Type 0 where
  pub instruction : problem_instruction_at s at ≡ i
  pub stands : problem_placed p s at (problem_command_at s at) ≡ true
  pub step : next ≡ at + problem_size (problem_command_at s at)
  pub whole : next ≤ length s
  pub operands : problem_operands_fit p i ≡ true
  pub decides : problem_refusal_at p s at ≡ late p i

module _ (p : Problem) (s : List ℕ) (at : ℕ) where
  pub early_refusal : 0 < early p s at → problem_refusal_at p s at ≡ early p s at
  unfolding early problem_refusal_at
  early_refusal h = early_decides _ _ _ _ _ h

  module _ (h : early p s at ≡ 0) where
    tests : (problem_placed p s at (problem_command_at s at) ≡ true) × (leb (at + problem_size (problem_command_at s at)) (length s) ≡ true)
    unfolding early
    tests = early_passes _ _ h

    pub early_whole : at + problem_size (problem_command_at s at) ≤ length s
    early_whole = leb-true (at + problem_size (problem_command_at s at)) (length s) tests.1

    -- then the third
    pub operands_refusal : problem_operands_fit p (problem_instruction_at s at) ≡ false → problem_refusal_at p s at ≡ 4
    unfolding problem_refusal_at first_refusal
    operands_refusal l = rw (tests.0, tests.1, l)

    pub passes : (i : Instruction) (next : ℕ) → problem_operands_fit p i ≡ true → problem_instruction_at s at ≡ i → next ≡ at + problem_size (problem_command_at s at) → Passes p s at i next
    unfolding problem_refusal_at
    passes i next l e k =
        let w = early_whole in
        record { instruction = e; stands = tests.0; step = k; whole = omega arith; operands = l; decides = rw (tests.0, tests.1, e, l) }

module _ (p : Problem) (s : List ℕ) (at : ℕ) (i : Instruction) (next : ℕ) (t : Passes p s at i next) where
  pub passes_size : 1 ≤ problem_size (problem_command_at s at)
  passes_size = placed_size p s at (problem_command_at s at) t.stands

  pub passes_end : I.End ≡ i → get_or s at 0 ≡ 6
  passes_end e = end_byte (get_or s at 0) (end_command p s at (problem_command_at s at) t.stands (t.instruction ∙ sym e))

  pub passes_on : get_or s at 0 ≡ 6 → I.End ≡ i
  unfolding problem_command
  passes_on e = rw e at t.instruction

  pub passes_longer : at < next
  passes_longer = let e = t.step in let z = passes_size in omega arith
