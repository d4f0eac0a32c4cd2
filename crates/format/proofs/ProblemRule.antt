-- The joining rule and the sparse order of a problem that is read are those that its stream names.
use mathlib.Core.Path.{◌≡◌, refl, sym, ◌∙◌}
use mathlib.Core.Logic.{◌⊎◌, inl, inr, ⊎_elim}
use mathlib.Core.List.{List}
use mathlib.Core.Bool.{Bool, true, false, cond}
use Prim.Native.Nat.{ℕ, ◌+◌, ◌≤◌, ◌<◌}
use native.Mathlib.Nat.{eq-or-lt_of_le}
use native.Mathlib.Omega.{arith}
use lib.ListN.{get_or}
use lib.Dec.{eqb}
use borrow.Author.Tests.{eqb-true, eq-eqb, ne_eqb}
use Rattle.counting.proofs.Cases.{clash}
use Rattle.counting.proofs.Listed.{same_or_not}
use Rattle.format.specs.Commands.{given}
use Rattle.format.specs.declared.problem.Command.{Command}
use Rattle.format.specs.declared.problem.Command.TheVariants as C
use Rattle.format.specs.ProblemLayout.{problem_command, problem_size, problem_decoded, problem_unsigned}
use Rattle.format.specs.ProblemRules.{Problem, no_problem, order_place, problem_placed, problem_applied, problem_command_at, problem_refusal_at, problem_next, problem_language, read_problem}
use Rattle.format.specs.ProblemRule.{rule_named}
use Rattle.format.specs.ProblemOrder.{order_named}
use Rattle.format.proofs.Lengths.{problem_byte}
use Rattle.format.proofs.ProblemLimits.{taken_size}
use Rattle.format.proofs.Run.{passes, read_induction}

-- ---- 08 and 09 by their bytes
pub rule_command : (b : ℕ) → b ≡ 8 → problem_command b ≡ C.Rule
unfolding problem_command
rule_command b e = rw e

pub rule_byte : (b : ℕ) → problem_command b ≡ C.Rule → b ≡ 8
rule_byte b e = eqb-true b 8 (problem_byte C.Rule b e (λ u. clash (cc)))

pub order_command : (b : ℕ) → b ≡ 9 → problem_command b ≡ C.Order
unfolding problem_command
order_command b e = rw e

pub order_byte : (b : ℕ) → problem_command b ≡ C.Order → b ≡ 9
order_byte b e = eqb-true b 9 (problem_byte C.Order b e (λ u. clash (cc)))

-- the first command is 01; 08 and 09 would be as long
first_size : (p : Problem) (s : List ℕ) (k : Command) → problem_placed p s 0 k ≡ true → problem_size k ≡ 2
first_size p s C.Variables h = refl
first_size p s C.Objective h = clash (cc)
first_size p s C.Inequality h = clash (cc)
first_size p s C.Term h = clash (cc)
first_size p s C.Member h = clash (cc)
first_size p s C.End h = clash (cc)
first_size p s C.Unknown h = clash (cc)
first_size p s C.Equality h = clash (cc)
first_size p s C.Rule h = refl
first_size p s C.Order h = refl

-- ---- a command c that stands at one place, and sets a part of the problem that no other command changes
record Setting (s : List ℕ) (c : Command) (byte place value : ℕ) (part : Problem → ℕ) : Type 0 where
  command : (b : ℕ) → b ≡ byte → problem_command b ≡ c
  bytes : (b : ℕ) → problem_command b ≡ c → b ≡ byte
  only : (p : Problem) (at : ℕ) → problem_placed p s at c ≡ true → at ≡ place
  kept : (p : Problem) (at : ℕ) (k : Command) → (k ≡ c → ⊥) → part (problem_applied p (problem_decoded k s at)) ≡ part p
  sets : (p : Problem) → part (problem_applied p (problem_decoded c s place)) ≡ value
  -- the place is directly after 01, or after a second command of two bytes
  second : (place ≡ 2) ⊎ ((place ≡ 4) × (problem_size (problem_command_at s 2) ≡ 2))
  -- and no end
  goes_on : byte ≡ 6 → ⊥

module _ (s : List ℕ) (c : Command) (byte place value : ℕ) (part : Problem → ℕ) (setting : Setting s c byte place value part) where
  -- what a stream names: the value where the command stands at its place, else what there was before the first command
  abbrev named : ℕ
  named = cond (eqb (get_or s place 0) byte) value (part no_problem)

  -- what is known of the part before the command at an offset
  record Told (a : Problem) (at : ℕ) : Type 0 where
    where_at : (at ≡ 0) ⊎ (((at ≡ 2) × (place ≡ 4)) ⊎ (place ≤ at))
    early : at ≤ place → part a ≡ part no_problem
    late : place < at → part a ≡ named

  low : 2 ≤ place
  low = ⊎_elim (λ e. omega arith) (λ e. omega (arith, e.0)) setting.second

  told_start : Told no_problem 0
  told_start = record { where_at = inl refl; early = λ _. refl; late = λ b. absurd (omega arith) }

  module _ (a : Problem) (at : ℕ) (v : problem_refusal_at a s at ≡ 0) (told : Told a at) where
    placed_at : problem_placed a s at (problem_command_at s at) ≡ true
    unfolding problem_refusal_at
    placed_at = (passes _ _ _ _ _ v).placed

    size_first : at ≡ 0 → problem_size (problem_command_at s at) ≡ 2
    size_first z = rw z (first_size a s (problem_command_at s 0) (rw z at placed_at))

    size_second : at ≡ 2 → place ≡ 4 → problem_size (problem_command_at s at) ≡ 2
    size_second z f = rw z (⊎_elim (λ e. absurd (omega arith)) (λ e. e.1) setting.second)

    -- no other command changes the part, and this one stands elsewhere
    part_same : (get_or s at 0 ≡ byte → ⊥) → part (problem_next a s at) ≡ part a
    unfolding problem_next
    part_same b = setting.kept a at (problem_command_at s at) (λ e. b (setting.bytes (get_or s at 0) e))

    part_set : get_or s at 0 ≡ byte → (at ≡ place) × (part (problem_next a s at) ≡ value)
    unfolding problem_next
    part_set b =
        let k : problem_command_at s at ≡ c = setting.command (get_or s at 0) b in
        let z : at ≡ place = setting.only a at (rw k at placed_at) in
        (z, rw (k, z) (setting.sets a))

    part_away : (at ≡ place → ⊥) → part (problem_next a s at) ≡ part a
    part_away d = part_same (λ b. d (part_set b).0)

    after_place : place ≤ at → part (problem_next a s at) ≡ named
    after_place h = ⊎_elim here other (same_or_not (get_or s at 0) byte)
      where
        here : get_or s at 0 ≡ byte → part (problem_next a s at) ≡ named
        here b =
            let k = part_set b in
            let z = k.0 in
            let w : eqb (get_or s place 0) byte ≡ true = eq-eqb (get_or s place 0) byte (rw z at b) in
            rw w k.1

        other : (get_or s at 0 ≡ byte → ⊥) → part (problem_next a s at) ≡ named
        other b =
            ⊎_elim
            (λ z.
            let w : eqb (get_or s place 0) byte ≡ false = ne_eqb (get_or s place 0) byte (λ e. b (rw z at e)) in
            rw w (part_same b ∙ told.early (omega arith)))
            (λ l. part_same b ∙ told.late l)
            (eq-or-lt_of_le {n = place} {m = at} h)

    told_next : Told (problem_next a s at) (at + problem_size (problem_command_at s at))
    told_next = ⊎_elim first (⊎_elim second third) told.where_at
      where
        first : at ≡ 0 → Told (problem_next a s at) (at + problem_size (problem_command_at s at))
        first z =
            let n = size_first z in
            record {
              where_at = inr (⊎_elim (λ e. inr (omega arith)) (λ e. inl (omega arith, e.0)) setting.second);
              early = λ _. part_away (λ e. omega (arith, low)) ∙ told.early (omega arith);
              late = λ b. absurd (omega (arith, low));
            }

        second : (at ≡ 2) × (place ≡ 4) → Told (problem_next a s at) (at + problem_size (problem_command_at s at))
        second z =
            let n = size_second z.0 z.1 in
            record {
              where_at = inr (inr (omega (arith, z.0, z.1)));
              early = λ _. part_away (λ e. omega (arith, z.0, z.1)) ∙ told.early (omega (arith, z.0, z.1));
              late = λ b. absurd (omega (arith, z.0, z.1));
            }

        third : place ≤ at → Told (problem_next a s at) (at + problem_size (problem_command_at s at))
        third h = record {
          where_at = inr (inr (omega arith));
          early = λ b. absurd (omega (arith, taken_size a s at v));
          late = λ _. after_place h;
        }

  -- the end command comes behind the place, and sets nothing
  read_named : (p : Problem) → read_problem s ≡ given p → part p ≡ named
  unfolding read_problem
  read_named p h =
      read_induction problem_language s (λ a at cs b. Told a at → part b ≡ named)
      (λ a at t e k. ended a at t.passed e k)
      (λ a b at cs t e f k. f (told_next a at t.passed k))
      no_problem p h told_start
    where
      ended : (a : Problem) (at : ℕ) → problem_refusal_at a s at ≡ 0 → get_or s at 0 ≡ 6 → Told a at → part a ≡ named
      ended a at v e k =
          ⊎_elim
          (λ z. absurd (omega (arith, size_first a at v k z, end_size)))
          (⊎_elim
          (λ z. absurd (omega (arith, size_second a at v k z.0 z.1, end_size)))
          (λ b. sym (part_same a at v k (λ q. setting.goes_on (sym q ∙ e))) ∙ after_place a at v k b))
          k.where_at
        where
          end_size : problem_size (problem_command_at s at) ≡ 1
          end_size = rw e (unfold problem_command in refl)

-- ---- the rule, by 08 at offset 2
rule_kept : (p : Problem) (s : List ℕ) (at : ℕ) (k : Command) → (k ≡ C.Rule → ⊥)
    → (problem_applied p (problem_decoded k s at)).rule ≡ p.rule
unfolding problem_applied
rule_kept p s at C.Variables h = refl
rule_kept p s at C.Objective h = refl
rule_kept p s at C.Inequality h = refl
rule_kept p s at C.Term h = refl
rule_kept p s at C.Member h = refl
rule_kept p s at C.End h = refl
rule_kept p s at C.Unknown h = refl
rule_kept p s at C.Equality h = refl
rule_kept p s at C.Rule h = absurd (h refl)
rule_kept p s at C.Order h = refl

rule_setting : (s : List ℕ) → Setting s C.Rule 8 2 (problem_unsigned C.Rule 0 s 2) (λ p. p.rule)
rule_setting s = record {
  command = rule_command;
  bytes = rule_byte;
  only = λ p at h. eqb-true at 2 h;
  kept = λ p. rule_kept p s;
  sets = λ p. unfold problem_applied in refl;
  second = inl refl;
  goes_on = λ e. omega arith;
}

pub read_rule : (s : List ℕ) (p : Problem) → read_problem s ≡ given p → p.rule ≡ rule_named s
unfolding rule_named
read_rule s p h = read_named s C.Rule 8 2 _ (λ p. p.rule) (rule_setting s) p h

-- ---- the order, by 09 at offset 2, or at 4 behind an 08
order_kept : (p : Problem) (s : List ℕ) (at : ℕ) (k : Command) → (k ≡ C.Order → ⊥)
    → (problem_applied p (problem_decoded k s at)).order ≡ p.order
unfolding problem_applied
order_kept p s at C.Variables h = refl
order_kept p s at C.Objective h = refl
order_kept p s at C.Inequality h = refl
order_kept p s at C.Term h = refl
order_kept p s at C.Member h = refl
order_kept p s at C.End h = refl
order_kept p s at C.Unknown h = refl
order_kept p s at C.Equality h = refl
order_kept p s at C.Rule h = refl
order_kept p s at C.Order h = absurd (h refl)

order_second : (s : List ℕ) → (order_place s ≡ 2) ⊎ ((order_place s ≡ 4) × (problem_size (problem_command_at s 2) ≡ 2))
unfolding order_place
order_second s = go (eqb (get_or s 2 0) 8) refl
  where
    go : (b : Bool) → eqb (get_or s 2 0) 8 ≡ b → (order_place s ≡ 2) ⊎ ((order_place s ≡ 4) × (problem_size (problem_command_at s 2) ≡ 2))
    go true e = inr (rw e, rw (rule_command (get_or s 2 0) (eqb-true (get_or s 2 0) 8 e)))
    go false e = inl (rw e)

order_setting : (s : List ℕ) → Setting s C.Order 9 (order_place s) (problem_unsigned C.Order 0 s (order_place s)) (λ p. p.order)
order_setting s = record {
  command = order_command;
  bytes = order_byte;
  only = λ p at h. eqb-true at (order_place s) h;
  kept = λ p. order_kept p s;
  sets = λ p. unfold problem_applied in refl;
  second = order_second s;
  goes_on = λ e. omega arith;
}

pub read_order : (s : List ℕ) (p : Problem) → read_problem s ≡ given p → p.order ≡ order_named s
unfolding order_named
read_order s p h = read_named s C.Order 9 (order_place s) _ (λ p. p.order) (order_setting s) p h
