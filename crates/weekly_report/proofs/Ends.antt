-- Where a record ends, as the code tells it: nowhere where it is cut.
use mathlib.Core.Path.{◌≡◌, refl}
use mathlib.Core.Bool.{Bool, true, false, cond}
use mathlib.Core.List.{List}
use Prim.Native.Nat.{ℕ, ◌≤◌, ◌<◌}
use lib.ListN.{length}
use borrow.Author.Tests.{ltb-true, ltb-false}
use Rattle.std.specs.Prelude.{Option, None, Some}
use Rattle.counting.proofs.Cases.{clash}
use Rattle.calls.specs.Report.{record_end, is_cut}

module _ (s : List ℕ) (at : ℕ) (r : Option ℕ) (e : r ≡ cond (is_cut s at) None (Some (record_end s at))) where
  pub end_cut : r ≡ None → length s < record_end s at
  end_cut z = go (is_cut s at) refl e
    where
      go : (b : Bool) → is_cut s at ≡ b → r ≡ cond b None (Some (record_end s at)) → length s < record_end s at
      go true c e = ltb-true (length s) (record_end s at) c
      go false c e = clash (cc)

  pub end_whole : (end : ℕ) → r ≡ Some end → (record_end s at ≤ length s) × (end ≡ record_end s at)
  end_whole end z = go (is_cut s at) refl e
    where
      go : (b : Bool) → is_cut s at ≡ b → r ≡ cond b None (Some (record_end s at))
          → (record_end s at ≤ length s) × (end ≡ record_end s at)
      go true c e = clash (cc)
      go false c e = (ltb-false (length s) (record_end s at) c, cc)
