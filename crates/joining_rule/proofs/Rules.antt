-- Two problems that are alike but for the joining rule and the sparse order: where no fewer bases add in no fewer rounds,
-- blocks are larger, and more is counted.
use mathlib.Core.Path.{◌≡◌, refl, ap, ◌∙◌}
use mathlib.Core.Logic.{◌⊎◌, inl, inr}
use mathlib.Core.Bool.{true}
use mathlib.Core.List.{List}
use Prim.Native.Nat.{ℕ, ◌≤◌, ◌<◌}
use native.Mathlib.Omega.{arith}
use lib.ListN.{length}
use borrow.Author.Tests.{lt-ltb, ltb-true}
use Rattle.counting.proofs.Cases.{lt_or_le}
use Rattle.polynomial.specs.Terms.{Term, keys_of}
use Rattle.format.specs.ProblemLimits.{most_order}
use Rattle.format.specs.ProblemRules.{Problem, with_rule, with_order}
use Rattle.format.specs.ProblemBases.{multiplier_of}
use Rattle.format.proofs.Alike.{Alike, ruled_alike, ordered_alike, alike_basis, alike_multiplier}
use Rattle.joining_rule.specs.Rounds.{adding_bases, most_rounds, closing_of, counted_keys}
use Rattle.joining_rule.specs.Joining.{bases_of, start_from, start_set, closing, most_keys, too_large}
use Rattle.joining_rule.proofs.Rising.{Rising}
use Rattle.joining_rule.proofs.Closing.{closing_shaped, closing_rising}
use Rattle.joining_rule.proofs.Monotone.{Below, closing_below}
use Rattle.joining_rule.proofs.Bound.{most_none, most_some}
use Rattle.joining_rule.proofs.Only.{rising_shorter}
use Rattle.joining_rule.proofs.Same.{closing_same}
use Rattle.joining_rule.proofs.Start.{start_rising, start_same}
use Rattle.joining_rule.proofs.Counted.{counted_rising, counted_inside, counted_same}

-- q joins no less than p
pub record JoinsMore (p q : Problem) : Type 0 where
  pub alike : Alike p q
  pub adds : adding_bases p.rule ≤ adding_bases q.rule
  pub rounds : most_rounds p.order ≤ most_rounds q.order

-- ---- where it does
-- rule 2 has fewer bases that add than rule 1
two_one : (r : ℕ) → r ≡ 2 → adding_bases r ≤ adding_bases 1
unfolding adding_bases
two_one r e = rw e (omega arith)

pub more_rule : (p : Problem) → p.rule ≡ 2 → JoinsMore p (with_rule p 1)
more_rule p e = record { alike = ruled_alike p 1; adds = two_one p.rule e; rounds = omega arith }

-- at a larger order there are no fewer rounds
pub more_order : (p : Problem) (k : ℕ) → 0 < p.order → p.order ≤ k → JoinsMore p (with_order p k)
more_order p k some h = record {
  alike = ordered_alike p k;
  adds = omega arith;
  rounds = omega (arith, most_some p.order some, most_some k (omega arith));
}

-- and none fewer without one
pub more_without : (p : Problem) → p.order ≤ most_order → JoinsMore p (with_order p 0)
more_without p h = record { alike = ordered_alike p 0; adds = omega arith; rounds = few (lt_or_le 0 p.order) }
  where
    few : (0 < p.order) ⊎ (p.order ≤ 0) → most_rounds p.order ≤ most_rounds 0
    few (inl b) = omega (arith, most_some p.order b, most_none 0 refl)
    few (inr b) = let z : p.order ≡ 0 = omega arith in rw z (omega arith)

-- ---- what follows
module _ (p q : Problem) (more : JoinsMore p q) where
  abbrev a : Alike p q
  a = more.alike

  same_exponents : (j : ℕ) → multiplier_of q j ≡ multiplier_of p j
  unfolding multiplier_of
  same_exponents j = ap keys_of (alike_multiplier p q a j)

  -- they have the same bases and the same start
  alike_start : start_set q ≡ start_set p
  unfolding start_set
  alike_start =
      ap (λ (ts : List Term). start_from (keys_of ts) (bases_of q)) a.objective
      ∙ start_same (keys_of p.objective) (bases_of q) (bases_of p) (λ j _. alike_basis p q a j) (λ j _. same_exponents j)

  alike_closing : closing q ≡ closing_of q.rule (most_rounds q.order) (bases_of p) (start_set p)
  unfolding closing
  alike_closing =
      closing_same (bases_of q) (bases_of p) (λ j _. alike_basis p q a j) (λ j _. same_exponents j) q.rule (most_rounds q.order) (start_set q)
      ∙ ap (closing_of q.rule (most_rounds q.order) (bases_of p)) alike_start

  -- what is in one block of p is in one block of q: "Blocks of rule 2 lie inside those of rule 1"
  pub problem_below : Below (bases_of p) (closing p).state (closing q).state
  unfolding closing
  problem_below = rw alike_closing (closing_below (bases_of p) p.rule q.rule more.adds (start_set p) _ _ more.rounds)

  rising : Rising (start_set p)
  unfolding start_set
  rising = start_rising (keys_of p.objective) (bases_of p)

  -- and no more keys are counted
  keys_fewer : length (counted_keys (bases_of p) (closing p).state) ≤ length (counted_keys (bases_of q) (closing q).state)
  unfolding closing
  keys_fewer =
      rw (counted_same (bases_of q) (bases_of p) (λ j _. alike_basis p q a j) (λ j _. same_exponents j) (closing q).state)
      (rising_shorter _ _
      (counted_rising (bases_of p) (closing p).state (closing_rising p.rule _ (bases_of p) (start_set p) rising))
      (counted_rising (bases_of p) (closing q).state (rw alike_closing (closing_rising q.rule _ (bases_of p) (start_set p) rising)))
      (counted_inside (bases_of p) (closing p).state (closing q).state (closing_shaped p.rule _ (bases_of p) (start_set p)) problem_below))

  -- so where refusal 7 applies, it applies to the other
  pub large_other : too_large p ≡ true → too_large q ≡ true
  unfolding too_large
  large_other h =
      let b = ltb-true most_keys (length (counted_keys (bases_of p) (closing p).state)) h in
      lt-ltb most_keys (length (counted_keys (bases_of q) (closing q).state)) (omega (arith, keys_fewer))
