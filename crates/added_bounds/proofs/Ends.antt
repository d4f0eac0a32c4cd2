-- The verdict by what each pair and the comparing of the regions said.
use mathlib.Core.Path.{◌≡◌, sym, ap, ◌∙◌}
use mathlib.Core.Bool.{Bool, true, false}
use Prim.Native.Nat.{ℕ, ◌<◌}
use native.Mathlib.Omega.{arith}
use lib.Dec.{eqb}
use borrow.Author.Tests.{eq-eqb, ne_eqb}
use Rattle.format.specs.ProblemRules.{read_problem}
use Rattle.calls.specs.declared.PairVerdict.{PairVerdict}
use Rattle.calls.specs.Refusals.{problem_refusal}
use Rattle.calls.specs.AddedBounds.{same_region_read, refused_sum, accepted_sum, of_second, sum_second, sum_pairs, Streams, pair_by, sum_verdict}

above_zero : (n : ℕ) → 0 < n → eqb n 0 ≡ false
above_zero n h = ne_eqb n 0 (λ e. omega arith)

-- the second pair, whose verdict is w
module _ (same : Bool) (v w : PairVerdict) where
  pub second_refused : 0 < w.refusal.number → sum_second same v w ≡ refused_sum (of_second w.refusal)
  unfolding sum_second
  second_refused h = rw (above_zero w.refusal.number h)

  pub regions_differ : w.refusal.number ≡ 0 → same ≡ false → sum_second same v w ≡ refused_sum (problem_refusal 15 0)
  unfolding sum_second
  regions_differ z e = rw (eq-eqb w.refusal.number 0 z, e)

  pub both_accepted : w.refusal.number ≡ 0 → same ≡ true → sum_second same v w ≡ accepted_sum v w
  unfolding sum_second
  both_accepted z e = rw (eq-eqb w.refusal.number 0 z, e)

-- the first pair, whose verdict is v
module _ (short : Bool) (a b : Streams) (v : PairVerdict) (is : v ≡ pair_by short a) where
  abbrev same : Bool
  same = same_region_read (read_problem a.problem) (read_problem b.problem)

  pub first_refused : 0 < v.refusal.number → refused_sum v.refusal ≡ sum_verdict short a b
  unfolding sum_verdict sum_pairs
  first_refused h =
      sym (rw (above_zero v.refusal.number h)) ∙ ap (λ (w : PairVerdict). sum_pairs same w (pair_by short b)) is

  pub first_accepted : v.refusal.number ≡ 0 → sum_second same v (pair_by short b) ≡ sum_verdict short a b
  unfolding sum_verdict sum_pairs
  first_accepted z =
      sym (rw (eq-eqb v.refusal.number 0 z)) ∙ ap (λ (w : PairVerdict). sum_pairs same w (pair_by short b)) is
