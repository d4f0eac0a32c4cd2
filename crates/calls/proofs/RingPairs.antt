-- What the pair's clause `accepted` says over every ordered ring.
use mathlib.Core.Path.{◌≡◌, refl}
use mathlib.Core.Bool.{true}
use mathlib.Core.List.{List}
use Prim.Native.Nat.{ℕ}
use native.Mathlib.Omega.{arith}
use lib.Dec.{ltb}
use lib.IntN.{ℤ, pos, negsuc}
use lib.Signed.{lt_z}
use borrow.Author.Tests.{ltb-true}
use Rattle.ordered_rings.specs.Rings.{OrderedRing}
use Rattle.format.specs.Commands.{given}
use Rattle.format.specs.ProblemRules.{Problem, read_problem}
use Rattle.format.proofs.ProblemLimits.{read_limits}
use Rattle.accepting.specs.RingBounds.{WithinGapIn, EmptyIn, ZeroBelowOne}
use Rattle.accepting.proofs.RingBounds.{accepted_below_in, accepted_above_in, bounds_gap_in, below_zero_empty_in}
use Rattle.calls.specs.declared.PairVerdict.{PairVerdict}
use Rattle.calls.specs.Promises.{Stated}
use Rattle.calls.specs.RingPromises.{HoldsIn}

-- a gap below 0 is −1 or less
empty_of : {A : Type 0} (R : OrderedRing A) (p : Problem) (n : ℤ) (q : ℕ) → WithinGapIn R p n q → lt_z n (pos 0) ≡ true
    → ZeroBelowOne R → EmptyIn R p
empty_of R p (pos n) q gap e = absurd (omega (arith, ltb-true n 0 e))
empty_of R p (negsuc n) q gap e = below_zero_empty_in R p n q gap

-- For every ordered ring and every accepted pair of streams, the bounds that are returned hold over the ring.
pub stated_in : {A : Type 0} (R : OrderedRing A) (s low high : List ℕ) (v : PairVerdict) → Stated s low high v
    → (p : Problem) → read_problem s ≡ given p → HoldsIn R p v.lower v.upper
stated_in R s low high v t p read =
    let same : t.problem ≡ p = cc t.read in
    let limits = read_limits s t.problem t.read in
    let below = accepted_below_in R _ limits low t.first t.hold.first t.hold.lower in
    let above = accepted_above_in R _ limits high t.second t.hold.second t.hold.upper in
    let gap = bounds_gap_in R _ _ _ _ _ below above in
    rw (t.lower, t.upper, ← same) (record { below = below; above = above; gap = gap; empty = empty_of R _ _ _ gap })
