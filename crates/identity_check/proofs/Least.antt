-- The smallest of the keys at the places that a predicate holds of, one place after another.
use Rattle.std.proofs.Common.{Option, None, Some, IfSome, min}
use Rattle.std.proofs.lemmas.Option.{IfSome_then}
use mathlib.Core.Path.{◌≡◌, refl, ap, ◌∙◌}
use mathlib.Core.Logic.{◌⊎◌, inl, inr, ⊎_elim}
use mathlib.Core.List.{List}
use Prim.Native.Nat.{ℕ, ◌+◌, ◌≤◌, ◌<◌}
use native.Mathlib.Nat.{eq-or-lt_of_le}
use native.Mathlib.Omega.{arith}
use lib.ListN.{get_or}
use Rattle.counting.proofs.Cases.{lt_or_le}
use Rattle.identity_check.specs.Compare.{smaller_of, AtMost, Smallest}

-- ---- a key that may be there
pub at_most_found : (a : ℕ) (found r : Option ℕ) → IfSome found (λ k. AtMost k r) → AtMost a found → AtMost a r
at_most_found a None r f h = absurd h
at_most_found a (Some k) None f h = absurd f
at_most_found a (Some k) (Some j) f h = omega arith

at_most_itself : (r : Option ℕ) → IfSome r (λ k. AtMost k r)
at_most_itself None = tt
at_most_itself (Some k) = omega arith

-- ---- the smaller of it and another
smaller_first : (a : ℕ) (r : Option ℕ) (key : ℕ) → AtMost a r → smaller_of r key ≤ a
smaller_first a None key h = absurd h
smaller_first a (Some k) key h = omega arith

smaller_second : (r : Option ℕ) (key : ℕ) → smaller_of r key ≤ key
smaller_second None key = omega arith
smaller_second (Some k) key = omega arith

smaller_one : (r : Option ℕ) (key : ℕ) → (Some (smaller_of r key) ≡ r) ⊎ (smaller_of r key ≡ key)
smaller_one None key = inr refl
smaller_one (Some k) key =
    ⊎_elim
    (λ (h : k < key). let e : min k key ≡ k = omega arith in inl (ap Some e))
    (λ (h : key ≤ k). let e : min k key ≡ key = omega arith in inr e)
    (lt_or_le k key)

module _ {P : ℕ → Type 0} {table : List ℕ} {found : Option ℕ} where
  pub smallest_start : Smallest P table 0 found found
  smallest_start = record { one = inl refl; first = at_most_itself found; each = λ q b. absurd (omega arith) }

  module _ {m : ℕ} {r : Option ℕ} (s : Smallest P table m found r) where
    -- a place of which it does not hold
    pub smallest_not : (P m → ⊥) → Smallest P table (m + 1) found r
    smallest_not f =
        record {
          one = ⊎_elim (λ (e : r ≡ found). inl e) (λ w. inr (w.0, omega (arith, w.1), w.2, w.3)) s.one;
          first = s.first;
          each = λ q b p. ⊎_elim (λ (e : q ≡ m). absurd (f (rw e at p))) (λ d. s.each q d p) (eq-or-lt_of_le {n = q} {m = m} (omega arith));
        }

    -- one of which it does
    pub smallest_more : P m → Smallest P table (m + 1) found (Some (smaller_of r (get_or table m 0)))
    smallest_more p =
        let key = get_or table m 0 in
        record {
          one = ⊎_elim
              (λ (e : Some (smaller_of r key) ≡ r). ⊎_elim (λ (i : r ≡ found). inl (e ∙ i)) (λ w. inr (w.0, omega (arith, w.1), w.2, e ∙ w.3)) s.one)
              (λ (e : smaller_of r key ≡ key). inr (m, omega arith, p, ap Some e))
              (smaller_one r key);
          first = IfSome_then found s.first (λ k h. smaller_first _ r key h);
          each = λ q b h.
              ⊎_elim
              (λ (e : q ≡ m). rw e (smaller_second r key))
              (λ d. smaller_first _ r key (s.each q d h))
              (eq-or-lt_of_le {n = q} {m = m} (omega arith));
        }
