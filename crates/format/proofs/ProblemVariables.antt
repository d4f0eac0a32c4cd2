-- "01 n(u8): number of variables .. First, and only first": the number of variables of a problem that is read is the
-- second byte of its stream.
use mathlib.Core.Path.{◌≡◌}
use mathlib.Core.Logic.{⊎_elim}
use mathlib.Core.List.{List}
use mathlib.Core.Bool.{true}
use Prim.Native.Nat.{ℕ, ◌≤◌, ◌<◌}
use native.Mathlib.Omega.{arith}
use lib.ListN.{length, get_or, get_or-eq_default}
use borrow.Author.Tests.{eqb-true, ltb-true}
use Rattle.counting.proofs.Cases.{clash, and_left, lt_or_le}
use Rattle.format.specs.Commands.{given}
use Rattle.format.specs.Operands.{number}
use Rattle.format.specs.declared.problem.Command.{Command}
use Rattle.format.specs.declared.problem.Command.TheVariants as C
use Rattle.format.specs.ProblemLayout.{problem_decoded}
use Rattle.format.specs.ProblemRules.{Problem, no_problem, order_place, problem_placed, problem_applied, problem_command_at, problem_refusal_at, problem_next, problem_language, read_problem}
use Rattle.format.proofs.Run.{passes, read_induction}
use Rattle.format.proofs.ProblemLimits.{end_leaves, place_positive, read_limits}

module _ (s : List ℕ) where
  -- after the first command
  abbrev Told : Problem → ℕ → Type 0
  Told p at = 0 < at → p.variables ≡ get_or s 1 0

  -- 01 stands at 0 alone, and no other command changes the number
  applied : (p : Problem) (at : ℕ) (k : Command) → problem_placed p s at k ≡ true → Told p at → (problem_applied p (problem_decoded k s at)).variables ≡ get_or s 1 0
  unfolding problem_applied number
  applied p at C.Variables h t = let e = eqb-true at 0 h in rw e (omega arith)
  applied p at C.Objective h t = t (ltb-true 0 at h)
  applied p at C.Inequality h t = t (ltb-true 0 at h)
  applied p at C.Term h t = t (ltb-true 0 at (and_left _ _ h))
  applied p at C.Member h t = t (ltb-true 0 at h)
  applied p at C.End h t = t (ltb-true 0 at h)
  applied p at C.Unknown h t = clash (cc)
  applied p at C.Equality h t = t (ltb-true 0 at h)
  applied p at C.Rule h t = let e = eqb-true at 2 h in t (omega arith)
  applied p at C.Order h t = let e = eqb-true at (order_place s) h in t (omega (arith, e, place_positive s))

  next : (p : Problem) (at : ℕ) → problem_refusal_at p s at ≡ 0 → Told p at → (problem_next p s at).variables ≡ get_or s 1 0
  unfolding problem_refusal_at problem_next
  next p at v t = applied p at (problem_command_at s at) (passes _ _ _ _ _ v).placed t

  read_variables : (p : Problem) → read_problem s ≡ given p → p.variables ≡ get_or s 1 0
  unfolding read_problem
  read_variables p h =
      read_induction problem_language s (λ a at cs b. Told a at → b.variables ≡ get_or s 1 0)
      (λ a at t e k. rw (end_leaves a s at e) at (next a at t.passed k))
      (λ a b at cs t e f k. f (λ _. next a at t.passed k))
      no_problem p h (λ z. absurd (omega arith))

-- the second byte of a stream that is read; it is there, as one variable is the least
pub record SecondByte (s : List ℕ) (p : Problem) : Type 0 where
  pub there : 1 < length s
  pub named : p.variables ≡ get_or s 1 0
  pub some : 1 ≤ get_or s 1 0
  pub few : get_or s 1 0 ≤ 8

pub second_byte : (s : List ℕ) (p : Problem) → read_problem s ≡ given p → SecondByte s p
second_byte s p h =
    let named = read_variables s p h in
    let limits = (read_limits s p h).variables in
    let some : 1 ≤ get_or s 1 0 = omega (arith, named, limits.0) in
    record {
      there =
          ⊎_elim (λ l. l) (λ l. absurd (let none = get_or-eq_default s 0 l in omega (arith, some)))
          (lt_or_le 1 (length s));
      named = named;
      some = some;
      few = omega (arith, named, limits.1);
    }
