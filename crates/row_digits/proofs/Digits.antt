-- Laws of the digits of a factor: how large they are, that they give the factor, and so three parts of the products; and the digits in
-- arrays.
use mathlib.Core.Path.{◌≡◌, refl, sym, ap, ap₂, ◌∙◌}
use mathlib.Core.Bool.{Bool, true, false, cond, ◌||◌}
use mathlib.Core.List.{List, [], ◌∷◌, ◌++◌}
use mathlib.Core.Logic.{⊎_elim}
use Prim.Native.Nat.{ℕ, zero, suc, ◌+◌, ◌-◌, ◌^◌, ◌≤◌, ◌<◌}
use native.Mathlib.Nat.{eq-or-lt_of_le}
use native.Mathlib.Omega.{arith}
use borrow.Author.Tests.{ltb-true, ltb-false}
use lib.Dec.{ltb}
use lib.IntN.{ℤ, pos, negsuc, neg_ℤ, nat_abs, ◌+ℤ◌, ◌-ℤ◌, ◌*ℤ◌, +ℤ_idr, *ℤ-zero}
use lib.ListN.{length, get_or, set}
use lib.Seq.{get_or-set_same, get_or-set_other}
use lib.Signed.{shr_z}
use mir.Syntax.{w32, w64}
use mir.Val.{SFits}
use Rattle.integers.proofs.Ranges.{abs_fits, fits_abs, abs_mul, abs_neg, abs_sum, mod_z, floor_lt, floor_rest}
use Rattle.integers.proofs.Ring.{view, diffs, ⊖-eq}
use Rattle.counting.specs.Counting.{listed}
use Rattle.counting.proofs.Cases.{clash}
use Rattle.counting.proofs.Listed.{listed_same}
use Rattle.polynomial.specs.Terms.{Term, term}
use Rattle.polynomial.specs.Algebra.{sum}
use Rattle.polynomial.proofs.Keys.{Keys}
use Rattle.flat.specs.TermArrays.{terms_in}
use Rattle.format.specs.All.{All}
use Rattle.row_digits.specs.declared.Part.{Part}
use Rattle.row_digits.specs.declared.Part.TheVariants as P
use Rattle.row_outer.specs.Outer.{factor_most, digit_most, above, in_row, outer_at}
use Rattle.row_digits.specs.Digits.{digit_base, high_digit, low_digit, digits, Narrow, part_of, HoldsDigits}
use Rattle.row_outer.proofs.Prefixes.{at}
use Rattle.row_outer.proofs.Gram.{sum_same}
use Rattle.row_outer.proofs.Halves.{sum_alike, sum_zeros, sum_plus, sum_times}

-- ---- one factor
between : (b a : ℕ) → a ≤ suc b + suc b → nat_abs (pos a -ℤ pos (suc b)) ≤ suc b
between b a h = go (ltb a (suc b)) refl
  where
    go : (t : Bool) → ltb a (suc b) ≡ t → nat_abs (cond t (negsuc (suc b - suc a)) (pos (a - suc b))) ≤ suc b
    go true e = let l = ltb-true a (suc b) e in omega arith
    go false e = let l = ltb-false a (suc b) e in omega arith

module _ (l : ℤ) where
  low_is : low_digit l ≡ pos (mod_z (l +ℤ pos (2 ^ 15)) digit_base) -ℤ pos (2 ^ 15)
  unfolding low_digit high_digit
  low_is =
      let z = l +ℤ pos (2 ^ 15) in
      less l (shr_z z digit_base *ℤ pos digit_base) (pos (2 ^ 15)) ∙ ap (λ (v : ℤ). v -ℤ pos (2 ^ 15)) (floor_rest z digit_base (omega arith))
    where
      less : (l m h : ℤ) → l -ℤ m ≡ (l +ℤ h -ℤ m) -ℤ h
      less l m h = rw ((view l).eq, (view m).eq, (view h).eq) (simp diffs (⊖-eq _ _ _ _ (omega arith)))

  pub low_small : nat_abs (low_digit l) ≤ digit_most
  low_small =
      let m = floor_lt (l +ℤ pos (2 ^ 15)) digit_base (omega arith) in
      rw low_is (between 32767 (mod_z (l +ℤ pos (2 ^ 15)) digit_base) (omega arith))

  pub digits_value : l ≡ low_digit l +ℤ pos digit_base *ℤ high_digit l
  unfolding low_digit
  digits_value = back l (high_digit l)
    where
      back : (l h : ℤ) → l ≡ (l -ℤ h *ℤ pos digit_base) +ℤ pos digit_base *ℤ h
      back l h = rw ((view l).eq, (view h).eq) (simp diffs (⊖-eq _ _ _ _ (omega arith)))

  high_multiple : pos digit_base *ℤ high_digit l ≡ l +ℤ neg_ℤ (low_digit l)
  unfolding low_digit
  high_multiple = left l (high_digit l)
    where
      left : (l h : ℤ) → pos digit_base *ℤ h ≡ l +ℤ neg_ℤ (l -ℤ h *ℤ pos digit_base)
      left l h = rw ((view l).eq, (view h).eq) (simp diffs (⊖-eq _ _ _ _ (omega arith)))

  pub high_small : nat_abs l ≤ factor_most → nat_abs (high_digit l) ≤ digit_most
  high_small h =
      let e = ap nat_abs high_multiple in
      omega (arith, abs_mul (pos digit_base) (high_digit l), abs_sum l (neg_ℤ (low_digit l)), abs_neg (low_digit l), low_small)

  pub low_same : high_digit l ≡ pos 0 → low_digit l ≡ l
  unfolding low_digit
  low_same e = rw e (+ℤ_idr l)

-- the steps from a factor of 32 bits to its digits fit 64 bits, and the digits 32
module _ {l : ℤ} (f : SFits w32 l) where
  high_most : nat_abs (high_digit l) ≤ digit_most
  high_most = high_small l (fits_abs f)

  pub moved_fits : SFits w64 (l +ℤ pos (2 ^ 15))
  moved_fits = abs_fits (omega (arith, fits_abs f, abs_sum l (pos (2 ^ 15))))

  pub high_fits : SFits w64 (high_digit l)
  high_fits = abs_fits (omega (arith, high_most))

  pub high_narrow : SFits w32 (high_digit l)
  high_narrow = abs_fits (omega (arith, high_most))

  pub multiple_fits : SFits w64 (high_digit l *ℤ pos digit_base)
  multiple_fits = abs_fits (omega (arith, high_most, abs_mul (high_digit l) (pos digit_base)))

  pub low_fits : SFits w64 (low_digit l)
  low_fits = abs_fits (omega (arith, low_small l))

  pub low_narrow : SFits w32 (low_digit l)
  low_narrow = abs_fits (omega (arith, low_small l))

-- ---- the sums of the digits
module _ (m : ℕ → ℤ) where
  pub digits_sum : (F : List Term) → sum m F ≡ sum m (digits low_digit F) +ℤ pos digit_base *ℤ sum m (digits high_digit F)
  digits_sum [] = refl
  digits_sum (t ∷ F) =
      ap₂ (λ (c s : ℤ). c *ℤ m t.key +ℤ s) (digits_value t.coefficient) (digits_sum F)
      ∙ step (low_digit t.coefficient) (high_digit t.coefficient) (m t.key) (sum m (digits low_digit F)) (sum m (digits high_digit F))
    where
      step : (l h x a b : ℤ) → (l +ℤ pos digit_base *ℤ h) *ℤ x +ℤ (a +ℤ pos digit_base *ℤ b) ≡ (l *ℤ x +ℤ a) +ℤ pos digit_base *ℤ (h *ℤ x +ℤ b)
      step l h x a b = rw ((view l).eq, (view h).eq, (view x).eq, (view a).eq, (view b).eq) (simp diffs (⊖-eq _ _ _ _ (omega arith)))

  -- without a wide factor the upper digits are 0
  narrow_sum : (F : List Term) → Narrow F → sum m (digits high_digit F) ≡ pos 0
  unfolding All
  narrow_sum [] h = refl
  narrow_sum (t ∷ F) h = rw (h.0, narrow_sum F h.1) (none (m t.key))
    where
      none : (x : ℤ) → pos 0 *ℤ x +ℤ pos 0 ≡ pos 0
      none x = rw (view x).eq (simp diffs (⊖-eq _ _ _ _ (omega arith)))

pub keys_digits : (A : ℕ → Type 0) (d : ℤ → ℤ) (F : List Term) → Keys A F → Keys A (digits d F)
keys_digits A d [] h = tt
keys_digits A d (t ∷ F) h = (h.0, keys_digits A d F h.1)

-- ---- the products of digits at a place
-- the parts with upper digits
pub data Upper : Part → Type 0 where
  cross_upper : Upper P.Cross
  high_upper : Upper P.High

module _ (w : ℤ) (x : ℕ) where
  module _ (F : List Term) where
    abbrev L : List Term
    L = digits low_digit F

    abbrev H : List Term
    H = digits high_digit F

    -- on the right
    right_digits : (G : List Term) → sum (in_row F x) G ≡ sum (in_row L x) G +ℤ pos digit_base *ℤ sum (in_row H x) G
    right_digits G =
        sum_alike _ _ (λ i. digits_sum (above x i) F) G
        ∙ sum_plus (in_row L x) (λ i. pos digit_base *ℤ in_row H x i) G
        ∙ ap (λ (z : ℤ). sum (in_row L x) G +ℤ z) (sum_times (pos digit_base) (in_row H x) G)

    -- the three parts
    pub outer_parts : outer_at w F F x ≡ part_of P.Low w F x +ℤ pos (2 ^ 16) *ℤ part_of P.Cross w F x +ℤ pos (2 ^ 32) *ℤ part_of P.High w F x
    unfolding outer_at part_of
    outer_parts =
        ap (λ (z : ℤ). w *ℤ z)
        (digits_sum (in_row F x) F ∙ ap₂ (λ (a b : ℤ). a +ℤ pos digit_base *ℤ b) (right_digits L) (right_digits H))
        ∙ regroup w (sum (in_row L x) L) (sum (in_row H x) L) (sum (in_row L x) H) (sum (in_row H x) H)
      where
        regroup : (w a b c d : ℤ)
            → w *ℤ (a +ℤ pos digit_base *ℤ b +ℤ pos digit_base *ℤ (c +ℤ pos digit_base *ℤ d)) ≡ w *ℤ a +ℤ pos (2 ^ 16) *ℤ (w *ℤ b +ℤ w *ℤ c) +ℤ pos (2 ^ 32) *ℤ (w *ℤ d)
        regroup w a b c d = rw ((view w).eq, (view a).eq, (view b).eq, (view c).eq, (view d).eq) (simp diffs (⊖-eq _ _ _ _ (omega arith)))

    -- without a wide factor the parts with upper digits are 0
    module _ (n : Narrow F) where
      left_none : (G : List Term) → outer_at w H G x ≡ pos 0
      unfolding outer_at
      left_none G = ap (λ (z : ℤ). w *ℤ z) (narrow_sum (in_row G x) F n) ∙ *ℤ-zero w

      right_none : (G : List Term) → outer_at w G H x ≡ pos 0
      unfolding outer_at
      right_none G = ap (λ (z : ℤ). w *ℤ z) (sum_alike _ _ (λ i. narrow_sum (above x i) F n) G ∙ sum_zeros G) ∙ *ℤ-zero w

      pub upper_none : {part : Part} → Upper part → part_of part w F x ≡ pos 0
      unfolding part_of
      upper_none cross_upper = rw (right_none L, left_none L)
      upper_none high_upper = left_none H

  -- where no two keys have the place, nothing is added
  module _ (A : ℕ → Type 0) (z : (i k : ℕ) → A i → A k → above x i k ≡ pos 0) where
    outer_none : (F G : List Term) → Keys A F → Keys A G → outer_at w F G x ≡ pos 0
    unfolding outer_at
    outer_none F G h k =
        ap (λ (v : ℤ). w *ℤ v) (sum_same A _ _ (λ i a. sum_same A _ _ (λ j b. z i j a b) G k ∙ sum_zeros G) F h ∙ sum_zeros F) ∙ *ℤ-zero w

    pub part_none : (part : Part) (F : List Term) → Keys A F → part_of part w F x ≡ pos 0
    unfolding part_of
    part_none P.Low F h = let l = keys_digits A low_digit F h in outer_none _ _ l l
    part_none P.Cross F h =
        let l = keys_digits A low_digit F h in
        let u = keys_digits A high_digit F h in
        rw (outer_none _ _ l u, outer_none _ _ u l)
    part_none P.High F h = let u = keys_digits A high_digit F h in outer_none _ _ u u

-- ---- the digits in arrays
digits_append : (d : ℤ → ℤ) (F G : List Term) → digits d (F ++ G) ≡ digits d F ++ digits d G
digits_append d [] G = refl
digits_append d (t ∷ F) G = rw (digits_append d F G)

digits_listed : (d : ℤ → ℤ) (f : ℕ → Term) (n : ℕ) → digits d (listed n f) ≡ listed n (λ i. term (f i).key (d (f i).coefficient))
unfolding listed
digits_listed d f zero = refl
digits_listed d f (suc n) = digits_append d (listed n f) (f n ∷ []) ∙ ap (λ (F : List Term). F ++ (term (f n).key (d (f n).coefficient) ∷ [])) (digits_listed d f n)

pub all_append : {X : Type 0} (A : X → Type 0) (k l : List X) → All A k → All A l → All A (k ++ l)
unfolding All
all_append A [] l h m = m
all_append A (x ∷ k) l h m = (h.0, all_append A k l h.1 m)

narrow_listed : (f : ℕ → Term) (n : ℕ) → ((i : ℕ) → i < n → high_digit (f i).coefficient ≡ pos 0) → Narrow (listed n f)
unfolding listed All
narrow_listed f zero h = tt
narrow_listed f (suc n) h = all_append _ (listed n f) (f n ∷ []) (narrow_listed f n (λ i b. h i (omega arith))) (h n (omega arith), tt)

module _ {d : ℤ → ℤ} {factors : List ℤ} {count : ℕ} {held : List ℤ} {wide : Bool} (q : HoldsDigits d factors count held wide) (indices : List ℕ) where
  pub held_digits : terms_in count indices held ≡ digits d (terms_in count indices factors)
  unfolding terms_in
  held_digits = listed_same count _ _ (λ k b. ap (term (get_or indices k 0)) (q.there k b)) ∙ sym (digits_listed d (at indices factors) count)

  pub held_narrow : wide ≡ false → Narrow (terms_in count indices factors)
  unfolding terms_in
  held_narrow e = narrow_listed (at indices factors) count (q.narrow e)

pub neither : (a : Bool) {b : Bool} → a || b ≡ false → (a ≡ false) × (b ≡ false)
neither true e = clash (cc)
neither false e = (refl, e)

-- the loops: one digit more, where the places before it are as they were
module _ {d : ℤ → ℤ} {factors : List ℤ} {t : ℕ} {held : List ℤ} {wide : Bool} (q : HoldsDigits d factors t held wide) where
  abbrev l : ℤ
  l = get_or factors t (pos 0)

  pub digits_more : t < length held → {b : Bool} → (b ≡ false → high_digit l ≡ pos 0) → HoldsDigits d factors (t + 1) (set held t (d l)) (wide || b)
  digits_more h {b} z =
      record {
        there = λ k i.
            ⊎_elim
            (λ e. rw e (get_or-set_same held t (d l) (pos 0) h))
            (λ i. get_or-set_other held t k (d l) (pos 0) (λ e. omega arith) ∙ q.there k i)
            (eq-or-lt_of_le {n = k} {m = t} (omega arith));
        narrow = λ e k i.
            ⊎_elim
            (λ i. rw i (z (neither wide e).1))
            (q.narrow (neither wide e).0 k)
            (eq-or-lt_of_le {n = k} {m = t} (omega arith));
      }
