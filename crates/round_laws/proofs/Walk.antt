-- Laws of the walk that joins the pairs with a sum s, from the last to the first. It is at place v - 1, and the next
-- one is v' - 1; which places it comes by, the index of pairs tells.
use mathlib.Core.Path.{◌≡◌, ◌∙◌}
use mathlib.Core.Logic.{◌⊎◌, inl, inr, ⊎_elim}
use mathlib.Core.List.{List}
use Prim.Native.Nat.{ℕ, ◌+◌, ◌-◌, ◌*◌, ◌/◌, ◌%◌, ◌≤◌, ◌<◌}
use native.Mathlib.Nat.{add_comm}
use native.Mathlib.Omega.{arith}
use lib.ListN.{length, get_or}
use Rattle.counting.proofs.Cases.{lt_or_le}
use Rattle.round_laws.specs.Joins.{Together, Has, Among, Parts, Two, WithSum, SumFrom}
use Rattle.round_laws.proofs.Joins.{has_ordered}

module _ (B : List ℕ) (s : ℕ) where
  -- two indices in any order
  pub sums_has : (L : List ℕ) → ((x y : ℕ) → x < y → y < length B → get_or B x 0 + get_or B y 0 ≡ s → Together L x y) → Has (WithSum B s) (length B) L
  sums_has L f = has_ordered (WithSum B s) (length B) L (λ x y p. record { sum = add_comm (get_or B y 0) (get_or B x 0) ∙ p.sum }) (λ x y o h p. f x y o h p.sum)

  -- all that have it stand before v
  pub walk_start : (v : ℕ) (L : List ℕ) → ((x y : ℕ) → x < y → y < length B → get_or B x 0 + get_or B y 0 ≡ s → 64 * x + y < v) → Has (SumFrom B s v) (length B) L
  walk_start v L before = record { at = λ x y _ h p. absurd (omega (arith, p.from, before x y p.order h p.sum)) }

  -- of those from v' on and before v, only the pair at v - 1 has it
  module _ (few : length B ≤ 64) (v v' : ℕ) (less : v' < v)
      (only : (x y : ℕ) → x < y → y < length B → get_or B x 0 + get_or B y 0 ≡ s → v' ≤ 64 * x + y → 64 * x + y < v → 64 * x + y ≡ v - 1) where
    pub walk_more : Among (SumFrom B s v) (SumFrom B s v') (length B)
    walk_more x y _ _ p = record { sum = p.sum; order = p.order; from = omega (arith, p.from) }

    either : (x y : ℕ) → y < length B → SumFrom B s v' x y → SumFrom B s v x y ⊎ Two ((v - 1) / 64) ((v - 1) % 64) x y
    either x y h p =
        ⊎_elim
        (λ l. let e = only x y p.order h p.sum p.from l in inr (record { first = omega arith; second = omega arith }))
        (λ l. inl (record { sum = p.sum; order = p.order; from = l }))
        (lt_or_le (64 * x + y) v)

    pub walk_hit : (v - 1) / 64 < (v - 1) % 64 → get_or B ((v - 1) / 64) 0 + get_or B ((v - 1) % 64) 0 ≡ s → Parts (SumFrom B s v) (Two ((v - 1) / 64) ((v - 1) % 64)) (SumFrom B s v') (length B)
    walk_hit o e = record {
      split = λ x y _ h p. either x y h p;
      left = walk_more;
      right = λ x y _ _ p. rw (p.first, p.second) (record { sum = e; order = o; from = omega arith });
    }

    pub walk_miss : (get_or B ((v - 1) / 64) 0 + get_or B ((v - 1) % 64) 0 ≡ s → ⊥) → Among (SumFrom B s v') (SumFrom B s v) (length B)
    walk_miss d x y _ h p = ⊎_elim (λ q. q) (λ q. absurd (d (rw (q.first, q.second) at p.sum))) (either x y h p)

  -- where the walk ends, every two indices with the sum are in one block
  pub walk_end : (v : ℕ) (L : List ℕ) → v ≤ 0 → Has (SumFrom B s v) (length B) L → Has (WithSum B s) (length B) L
  walk_end v L b j = sums_has L (λ x y o h e. j.at x y (omega arith) h (record { sum = e; order = o; from = omega arith }))
