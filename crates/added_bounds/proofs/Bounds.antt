-- The bounds that an accepted pair of byte streams states are in the range in which they are added.
use mathlib.Core.Path.{◌≡◌}
use mathlib.Core.List.{List}
use Prim.Native.Nat.{ℕ}
use Rattle.counting.specs.Counting.{Bounded}
use Rattle.fractions.specs.Ranges.{Bound}
use Rattle.calls.specs.declared.Fraction.{Fraction}
use Rattle.calls.specs.declared.PairVerdict.{PairVerdict}
use Rattle.calls.specs.Promises.{Stated}
use Rattle.calls.specs.Check.{bound_of}
use Rattle.format.specs.declared.certificate.Header.{Header}
use Rattle.format.proofs.HeaderRange.{Ranged, read_ranged}

bound_of_lem : (h : Header) (f : Fraction) → f ≡ bound_of h → Ranged h → Bound f
bound_of_lem h f e w = rw e (record { num = w.p; den = w.q })

pub bounds_of : {s low high : List ℕ} {v : PairVerdict} → Bounded 255 low → Bounded 255 high → Stated s low high v
    → Bound v.lower × Bound v.upper
bounds_of {s} {low} {high} a b t = (
  bound_of_lem _ _ t.lower (read_ranged low a t.problem t.first t.hold.first.read),
  bound_of_lem _ _ t.upper (read_ranged high b t.problem t.second t.hold.second.read),
)
