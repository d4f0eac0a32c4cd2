-- Parts of a stream put one behind another into a list that may be too short for them.
use mathlib.Core.Path.{◌≡◌, refl, sym, ap, ◌∙◌}
use mathlib.Core.List.{List, [], ◌∷◌, ◌++◌}
use mathlib.Core.Logic.{⊎_elim}
use Prim.Native.Nat.{ℕ, zero, suc, ◌+◌, ◌-◌, ◌≤◌, min}
use Rattle.counting.proofs.Cases.{lt_or_le}
use native.Mathlib.Omega.{arith}
use lib.ListN.{length, take, drop}
use lib.Seq.{slice, take_all, take-take, length-take-le, paste, length-paste, take-paste, drop-paste}
use borrow.Rule.Slice.PartMut.{put_mid}
use Rattle.std.proofs.lemmas.Slice.{put_mid-paste}
use Rattle.office_check.specs.Steps.{Filled}

-- ---- one part
-- its first n bytes
pub part_front : (from n to : ℕ) (s : List ℕ) → from + n ≤ to → take n (drop from s) ≡ take n (slice from to s)
part_front zero n to s h = sym (take-take n to s (omega arith))
part_front (suc from) n zero s h = absurd (omega arith)
part_front (suc from) n (suc to) [] h = refl
part_front (suc from) n (suc to) (x ∷ s) h = part_front from n to s (omega arith)

module _ (before : List ℕ) (len : ℕ) (part : List ℕ) (n : ℕ) (low : len ≤ length before)
    (least : n ≡ min (length part) (length before - len)) where
  inside : n ≤ length part
  inside = omega arith

  same : take n part ≡ take (length before - len) part
  same =
      ⊎_elim
      (λ h. take_all n part (omega (arith, h, least)) ∙ sym (take_all (length before - len) part (omega (arith, h))))
      (λ h. let e : n ≡ length before - len = omega (arith, h, least) in ap (λ (m : ℕ). take m part) e)
      (lt_or_le (length part) (length before - len))

  filled : Filled before len part (paste before len part n) (len + n)
  filled = record {
    long = length-paste before len part n (omega arith) inside;
    within = omega arith;
    room = omega arith;
    bytes = take-paste before len part n low inside ∙ ap (λ (x : List ℕ). take len before ++ x) same;
    past = drop-paste before len part n low inside;
  }

  -- as the code leaves it: the part's first n elements in the place of k behind len elements
  pub filled_by : (k : ℕ) (last : List ℕ) → n ≡ k → last ≡ take n part
      → Filled before len part (put_mid len k before last) (len + n)
  filled_by k last e h =
      let long = length-take-le n part inside in
      let pasted : put_mid len k before last ≡ paste before len part n =
      put_mid-paste len k before last (take n part) n h e (sym long)
      ∙ ap (λ (x : List ℕ). take len before ++ x ++ drop (len + n) before) (take_all n (take n part) (omega (arith, long))) in
      rw pasted filled
