-- Laws of the loops that join a basis by its pairs in turn. T, B and S are as in Join.antt of joining_rule.
use mathlib.Core.Path.{◌≡◌, sym, ◌∙◌}
use mathlib.Core.Logic.{◌⊎◌, inl, inr, ⊎_elim}
use mathlib.Core.Bool.{true, false}
use mathlib.Core.List.{List}
use Prim.Native.Nat.{ℕ, ◌+◌, ◌*◌, ◌≤◌, ◌<◌}
use native.Mathlib.Nat.{add_comm}
use native.Mathlib.Omega.{arith}
use lib.ListN.{length, get_or}
use Rattle.counting.proofs.Cases.{never, lt_or_le}
use Rattle.joining_rule.specs.Join.{linked}
use Rattle.joining_rule.proofs.Members.{linked_from, linked_by}
use Rattle.round_laws.specs.Joins.{Together, Has, Among, Parts, Two, Through, LinkedIn}
use Rattle.round_laws.proofs.Joins.{has_ordered}

module _ (T B S : List ℕ) where
  -- what a look at the support tells
  pub linked_through : (x y : ℕ) → linked S T (get_or B x 0 + get_or B y 0) ≡ true → Through T B S x y
  linked_through x y e = linked_from S T (get_or B x 0 + get_or B y 0) (λ t h m. record { t = t; exponent = h; hits = m }) e

  pub not_through : (x y : ℕ) → linked S T (get_or B x 0 + get_or B y 0) ≡ false → Through T B S x y → ⊥
  not_through x y e p = never (sym e ∙ linked_by S T (get_or B x 0 + get_or B y 0) p.t p.exponent p.hits)

  module _ (q : ℕ) where
    -- no pair has these places
    pub rows_none : (p : ℕ) (L : List ℕ) → ((x y : ℕ) → x < y → y < length B → q ≤ 64 * x + y → 64 * x + y < p → ⊥) → Has (LinkedIn T B S q p) (length B) L
    rows_none p L h = record { at = λ x y _ hy w. absurd (h x y w.order hy w.from w.before) }

    pub rows_more : (p r : ℕ) → p ≤ r → Among (LinkedIn T B S q p) (LinkedIn T B S q r) (length B)
    rows_more p r b x y _ _ w = record { order = w.order; from = w.from; before = omega (arith, w.before); through = w.through }

    -- those of the places behind
    pub rows_then : (p r : ℕ) → q ≤ p → p ≤ r → Parts (LinkedIn T B S q p) (LinkedIn T B S p r) (LinkedIn T B S q r) (length B)
    rows_then p r b d = record {
      split = λ x y _ _ v.
          ⊎_elim
          (λ l. inl (record { order = v.order; from = v.from; before = l; through = v.through }))
          (λ l. inr (record { order = v.order; from = l; before = v.before; through = v.through }))
          (lt_or_le (64 * x + y) p);
      left = rows_more p r d;
      right = λ x y _ _ v. record { order = v.order; from = omega (arith, v.from); before = v.before; through = v.through };
    }

    -- the next pair
    module _ (few : length B ≤ 64) (i k : ℕ) (order : i < k) (hk : k < length B) (low : q ≤ 64 * i + k) where
      either : (x y : ℕ) → y < length B → LinkedIn T B S q (64 * i + k + 1) x y → LinkedIn T B S q (64 * i + k) x y ⊎ Two i k x y
      either x y hy w =
          ⊎_elim
          (λ l. inl (record { order = w.order; from = w.from; before = l; through = w.through }))
          (λ l. inr (record { first = omega (arith, w.before); second = omega (arith, w.before) }))
          (lt_or_le (64 * x + y) (64 * i + k))

      -- it is linked, or in one block already, or not linked
      pub rows_hit : Through T B S i k → Parts (LinkedIn T B S q (64 * i + k)) (Two i k) (LinkedIn T B S q (64 * i + k + 1)) (length B)
      rows_hit t = record {
        split = λ x y _ hy p. either x y hy p;
        left = rows_more (64 * i + k) (64 * i + k + 1) (omega arith);
        right = λ x y _ _ p. rw (p.first, p.second) (record { order = order; from = low; before = omega arith; through = t });
      }

      pub rows_same : (L : List ℕ) → Together L i k → Has (LinkedIn T B S q (64 * i + k)) (length B) L → Has (LinkedIn T B S q (64 * i + k + 1)) (length B) L
      rows_same L s j = record { at = λ x y hx hy p. ⊎_elim (λ w. j.at x y hx hy w) (λ w. rw (w.first, w.second) s) (either x y hy p) }

      pub rows_not : (L : List ℕ) → (Through T B S i k → ⊥) → Has (LinkedIn T B S q (64 * i + k)) (length B) L → Has (LinkedIn T B S q (64 * i + k + 1)) (length B) L
      rows_not L d j = record { at = λ x y hx hy p. ⊎_elim (λ w. j.at x y hx hy w) (λ w. absurd (d (rw (w.first, w.second) at p.through))) (either x y hy p) }

  -- all pairs
  pub rows_end : (L : List ℕ) → length B ≤ 64 → Has (LinkedIn T B S 0 (64 * length B)) (length B) L → Has (Through T B S) (length B) L
  rows_end L few j =
      has_ordered (Through T B S) (length B) L
      (λ x y p. record { t = p.t; exponent = p.exponent; hits = rw (add_comm (get_or B y 0) (get_or B x 0)) p.hits })
      (λ x y o h p. j.at x y (omega arith) h (record { order = o; from = omega arith; before = omega arith; through = p }))
