-- Sums that are divided by 2^16 between the parts that are added to them: a sum that is no multiple of 2^16 differs, and
-- any other is 0 in the end if and only if the whole difference is.
use Rattle.std.proofs.Common.{Option, None, Some, IfSome}
use Rattle.std.proofs.lemmas.Option.{IfSome_then}
use mathlib.Core.Path.{◌≡◌, refl, sym, ap, ◌∙◌}
use mathlib.Core.Bool.{Bool, true, false}
use mathlib.Core.Logic.{◌⊎◌, inl, inr, ⊎_elim}
use mathlib.Core.List.{List}
use Prim.Native.Nat.{ℕ, ◌+◌, ◌*◌, ◌^◌, ◌<◌}
use native.Mathlib.Nat.{eq-or-lt_of_le, mul-pos, eq_of_mul-eq-mul_left}
use native.Mathlib.Omega.{arith}
use borrow.Author.Tests.{eqb-true, eqb-false}
use lib.Dec.{eqb}
use lib.IntN.{ℤ, pos, neg_ℤ, nat_abs, ◌+ℤ◌, ◌*ℤ◌}
use lib.ListN.{get_or}
use Rattle.integers.proofs.Ring.{view, diffs, ⊖-eq, ⊖-eq⁻¹}
use Rattle.integers.proofs.Ranges.{abs_mul, abs_zero}
use Rattle.accepting.specs.Judgement.{same_number}
use Rattle.accepting.proofs.Difference.{same_equal, same_self}
use Rattle.counting.proofs.Cases.{clash}
use Rattle.wide_sums.specs.Sums.{step, carried, value_at, Room, HasRoom, Uneven, Floor, Divided}
use Rattle.wide_sums.proofs.Floors.{floor_uneven, floor_exact}
use Rattle.wide_sums.proofs.Tables.{shrunk_none, shrunk_more}
use Rattle.identity_check.specs.Compare.{smaller_of, AtMost, Nonzero, Smallest, DividedSums, Reached}
use Rattle.identity_check.proofs.Least.{at_most_found, smallest_start, smallest_not, smallest_more}

-- ---- the divisions, one place after another
module _ {table : List ℕ} {found : Option ℕ} {hi₀ lo₀ : List ℤ} where
  pub dividing_start : DividedSums table 0 found hi₀ lo₀ hi₀ lo₀ found
  dividing_start = record { floors = λ q b. absurd (omega arith); smallest = smallest_start; high = shrunk_none; low = shrunk_none }

  module _ {m : ℕ} {r : Option ℕ} {hi₁ lo₁ : List ℤ} (h : DividedSums table m found hi₀ lo₀ hi₁ lo₁ r) where
    -- a place that comes later is as it was
    pub dividing_room : {n : ℕ} → HasRoom n (2 ^ 36) hi₀ → m < n → Room hi₁ m carried
    dividing_room r b =
        record {
          inside = omega (arith, r.long, h.high.long);
          small = rw (h.high.rest m (omega arith)) (r.small m b);
        }

    module _ {hi₂ lo₂ : List ℤ} {b : Bool} (d : Divided m hi₁ lo₁ hi₂ lo₂ b) where
      abbrev floor : Floor (value_at hi₀ lo₀ m) (value_at hi₂ lo₂ m)
      floor =
          record {
            rest = d.floor.rest;
            low = d.floor.low;
            is = rw (← h.high.rest m (omega arith), ← h.low.rest m (omega arith)) d.floor.is;
          }

      more : {r' : Option ℕ} → Smallest (λ q. Uneven (value_at hi₀ lo₀ q)) table (m + 1) found r' → DividedSums table (m + 1) found hi₀ lo₀ hi₂ lo₂ r'
      more s =
          record {
            floors = λ q l.
                ⊎_elim
                (λ (e : q ≡ m). rw e floor)
                (λ k. let o : q ≡ m → ⊥ = λ e. omega arith in rw (d.high.other q o, d.low.other q o) (h.floors q k))
                (eq-or-lt_of_le {n = q} {m = m} (omega arith));
            smallest = s;
            high = shrunk_more h.high d.high;
            low = shrunk_more h.low d.low;
          }

      pub dividing_exact : b ≡ true → DividedSums table (m + 1) found hi₀ lo₀ hi₂ lo₂ r
      dividing_exact e = more (smallest_not h.smallest (λ f. f (value_at hi₂ lo₂ m) (floor_exact floor (d.yes e))))

      pub dividing_uneven : b ≡ false → DividedSums table (m + 1) found hi₀ lo₀ hi₂ lo₂ (Some (smaller_of r (get_or table m 0)))
      dividing_uneven e = more (smallest_more h.smallest (floor_uneven floor (d.no e)))

-- ---- whole numbers
zero_factor : (f : ℕ) (v : ℤ) → 0 < f → pos f *ℤ v ≡ pos 0 → v ≡ pos 0
zero_factor f v p e = abs_zero v (eq_of_mul-eq-mul_left f p (nat_abs v) 0 (sym (abs_mul (pos f) v) ∙ ap nat_abs e ∙ omega arith))

zero_times : (f : ℕ) (v : ℤ) → v ≡ pos 0 → pos f *ℤ v ≡ pos 0
zero_times f v e = rw e (simp diffs (⊖-eq _ _ _ _ (omega arith)))

-- what is left of a multiple, and of the sum that it makes 0
divided_part : (f : ℕ) (x y e : ℤ) → x ≡ y *ℤ pos step → pos f *ℤ (x +ℤ pos step *ℤ e) ≡ pos (f * step) *ℤ (y +ℤ e)
divided_part f x y e h = rw (h, (view y).eq, (view e).eq) (simp diffs (⊖-eq _ _ _ _ (omega arith)))

other_side : (x e : ℤ) → x +ℤ pos step *ℤ e ≡ pos 0 → x ≡ neg_ℤ e *ℤ pos step
other_side x e h =
    let k = ⊖-eq⁻¹ _ _ _ _ (simp diffs at (rw ((view x).eq, (view e).eq) at h)) in
    rw ((view x).eq, (view e).eq) (simp diffs (⊖-eq _ _ _ _ (omega arith)))

-- ---- the differences, from the first part to the last
module _ {D : ℕ → ℤ} {table : List ℕ} {n : ℕ} where
  pub reached_start : {W : ℕ → ℤ} → ((q : ℕ) → q < n → D q ≡ W q) → Reached D W table n None
  reached_start {W} h =
      record { factor = 1; positive = omega arith; there = tt; each = λ q b. inr (h q b ∙ once (W q)) }
    where
      once : (v : ℤ) → v ≡ pos 1 *ℤ v
      once v = rw (view v).eq (simp diffs (⊖-eq _ _ _ _ (omega arith)))

  pub reached_same : {W W' : ℕ → ℤ} {r : Option ℕ} → Reached D W table n r → ((q : ℕ) → q < n → W q ≡ W' q) → Reached D W' table n r
  reached_same h e =
      record {
        factor = h.factor;
        positive = h.positive;
        there = h.there;
        each = λ q b. ⊎_elim (λ w. inl w) (λ m. inr (m ∙ ap (λ (v : ℤ). pos h.factor *ℤ v) (e q b))) (h.each q b);
      }

  pub reached_of : {D' W : ℕ → ℤ} {r : Option ℕ} → Reached D' W table n r → ((q : ℕ) → q < n → D q ≡ D' q) → Reached D W table n r
  reached_of {r = r} h e =
      record {
        factor = h.factor;
        positive = h.positive;
        there = IfSome_then r h.there (λ k w. (w.0, w.1, λ z. w.2 (sym (e w.0 w.1) ∙ z), w.3));
        each = λ q b. ⊎_elim (λ w. inl (λ z. w.0 (sym (e q b) ∙ z), w.1)) (λ m. inr (e q b ∙ m)) (h.each q b);
      }

  -- a division before what is added 2^16 times
  module _ {hi₀ lo₀ hi₁ lo₁ : List ℤ} {found r : Option ℕ} (d : DividedSums table n found hi₀ lo₀ hi₁ lo₁ r) (E : ℕ → ℤ)
      (h : Reached D (λ q. value_at hi₀ lo₀ q +ℤ pos step *ℤ E q) table n found) where
    uneven_differs : (q : ℕ) → D q ≡ pos h.factor *ℤ (value_at hi₀ lo₀ q +ℤ pos step *ℤ E q) → Uneven (value_at hi₀ lo₀ q) → D q ≡ pos 0 → ⊥
    uneven_differs q m u z = u (neg_ℤ (E q)) (other_side (value_at hi₀ lo₀ q) (E q) (zero_factor h.factor _ h.positive (sym m ∙ z)))

    abbrev Known : ℕ → Type 0
    Known q = (D q ≡ pos 0 → ⊥) × AtMost (get_or table q 0) r

    kept : (q : ℕ) → (D q ≡ pos 0 → ⊥) × AtMost (get_or table q 0) found → Known q
    kept q w = (w.0, at_most_found _ found r d.smallest.first w.1)

    step_each : (q : ℕ) (b : q < n) → D q ≡ pos h.factor *ℤ (value_at hi₀ lo₀ q +ℤ pos step *ℤ E q) → (t : Bool) → eqb (d.floors q b).rest 0 ≡ t
        → Known q ⊎ (D q ≡ pos (h.factor * step) *ℤ (value_at hi₁ lo₁ q +ℤ E q))
    step_each q b m true e = inr (m ∙ divided_part h.factor (value_at hi₀ lo₀ q) (value_at hi₁ lo₁ q) (E q) (floor_exact (d.floors q b) (eqb-true _ 0 e)))
    step_each q b m false e =
        let u = floor_uneven (d.floors q b) (eqb-false _ 0 e) in
        inl (uneven_differs q m u, d.smallest.each q b u)

    pub reached_divided : Reached D (λ q. value_at hi₁ lo₁ q +ℤ E q) table n r
    reached_divided =
        record {
          factor = h.factor * step;
          positive = mul-pos h.positive (omega arith);
          there = ⊎_elim (λ (e : r ≡ found). rw e h.there) (λ w. rw w.3 (w.0, w.1, ⊎_elim (λ k. k.0) (λ m. uneven_differs w.0 m w.2) (h.each w.0 w.1), refl)) d.smallest.one;
          each = λ q b. ⊎_elim (λ w. inl (kept q w)) (λ m. step_each q b m (eqb (d.floors q b).rest 0) refl) (h.each q b);
        }

-- ---- the smallest key that differs
pub record Least (D : ℕ → ℤ) (table : List ℕ) (n : ℕ) (r : Option ℕ) : Type 0 where
  pub none : r ≡ None → (q : ℕ) → q < n → D q ≡ pos 0
  pub there : IfSome r (λ k. (q : ℕ) × (q < n) × (D q ≡ pos 0 → ⊥) × (get_or table q 0 ≡ k))
  pub least : (q : ℕ) → q < n → (D q ≡ pos 0 → ⊥) → AtMost (get_or table q 0) r

module _ {D : ℕ → ℤ} {table : List ℕ} {n : ℕ} (hi lo : List ℤ) {found r : Option ℕ} (h : Reached D (value_at hi lo) table n found)
    (s : Smallest (Nonzero hi lo) table n found r) where
  zero_or_not : (q : ℕ) (t : Bool) → same_number (value_at hi lo q) (pos 0) ≡ t → (value_at hi lo q ≡ pos 0) ⊎ Nonzero hi lo q
  zero_or_not q true e = inl (same_equal _ _ e)
  zero_or_not q false e = inr (λ z. let t : same_number (value_at hi lo q) (pos 0) ≡ true = rw z (same_self (pos 0)) in clash (cc))

  tested : (q : ℕ) → (value_at hi lo q ≡ pos 0) ⊎ Nonzero hi lo q
  tested q = zero_or_not q (same_number (value_at hi lo q) (pos 0)) refl

  zero_there : (q : ℕ) → D q ≡ pos h.factor *ℤ value_at hi lo q → value_at hi lo q ≡ pos 0 → D q ≡ pos 0
  zero_there q m z = m ∙ zero_times h.factor (value_at hi lo q) z

  -- a place that differs has a key, and one whose sum is 0 does not differ
  zero_or_known : (q : ℕ) → q < n → (D q ≡ pos 0) ⊎ AtMost (get_or table q 0) r
  zero_or_known q b =
      ⊎_elim (λ w. inr (at_most_found _ found r s.first w.1)) (λ m. ⊎_elim (λ z. inl (zero_there q m z)) (λ u. inr (s.each q b u)) (tested q)) (h.each q b)

  pub reached_end : Least D table n r
  reached_end =
      record {
        none = λ e q b. ⊎_elim (λ z. z) (λ k. absurd (rw e at k)) (zero_or_known q b);
        there = ⊎_elim
            (λ (e : r ≡ found). rw e h.there)
            (λ w. rw w.3 (w.0, w.1, ⊎_elim (λ k. k.0) (λ m z. w.2 (zero_factor h.factor _ h.positive (sym m ∙ z))) (h.each w.0 w.1), refl))
            s.one;
        least = λ q b f. ⊎_elim (λ z. absurd (f z)) (λ k. k) (zero_or_known q b);
      }
