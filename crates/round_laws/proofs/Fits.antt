-- Laws of the loops that gather the bits of a basis's sums, and the sums that a member of the support leads to.
use mathlib.Core.Path.{◌≡◌, refl, sym}
use mathlib.Core.Logic.{⊎_elim}
use mathlib.Core.List.{List, [], ◌∷◌, ◌++◌}
use Prim.Native.Nat.{ℕ, ◌+◌, ◌*◌, ◌%◌, ◌^◌, ◌≤◌, ◌<◌}
use native.Mathlib.Nat.{add_comm}
use native.Mathlib.Numerals.{add-one}
use native.Mathlib.Omega.{arith}
use lib.Bits.{bit_or, or_lt}
use lib.ListN.{length, get_or, take}
use lib.Seq.{take-suc}
use Rattle.counting.proofs.Cases.{lt_or_le}
use Rattle.joining_rule.proofs.Elements.{not_nil, in_here, in_snoc, snoc_keeps, snoc_in}
use Rattle.round_laws.specs.Joins.{Has, Among, WithSum, Through, SomeOf}
use Rattle.round_laws.specs.Fits.{SumBits, Takes, Taken, Fitting}
use Rattle.round_laws.proofs.Bits.{fits_new, fits_old, only_fit}
use Rattle.round_laws.proofs.Joins.{has_ordered}
use Rattle.round_laws.proofs.Fresh.{only_one}

-- ---- the bits of the sums
module _ (B : List ℕ) where
  pub bits_start : SumBits B 0 0
  bits_start = record { low = omega arith; at = λ x y _ _ h. absurd (omega arith) }

  -- one pair more
  pub bits_next : length B ≤ 64 → (i k bits : ℕ) → k < length B → get_or B i 0 + get_or B k 0 < 2 ^ 61 → SumBits B (64 * i + k) bits → SumBits B (64 * i + k + 1) (bit_or bits (get_or B i 0 + get_or B k 0))
  bits_next few i k bits h low b = record {
    low = or_lt 61 bits (get_or B i 0 + get_or B k 0) b.low low;
    at = λ x y o u p.
        ⊎_elim
        (λ w. fits_old bits (get_or B x 0 + get_or B y 0) (get_or B i 0 + get_or B k 0) (b.at x y o u w))
        (λ w.
        let e : x ≡ i = omega arith in
        let f : y ≡ k = omega arith in
        rw (e, f) (fits_new bits (get_or B i 0 + get_or B k 0)))
        (lt_or_le (64 * x + y) (64 * i + k));
  }

  -- places that no pair has
  pub bits_to : (p q bits : ℕ) → ((x y : ℕ) → x < y → y < length B → 64 * x + y < q → 64 * x + y < p) → SumBits B p bits → SumBits B q bits
  bits_to p q bits h b = record { low = b.low; at = λ x y o u w. b.at x y o u (h x y o u w) }

-- ---- r is x − t modulo 2^64
module _ (B : List ℕ) (bits : ℕ) (b : SumBits B (64 * length B) bits) (few : length B ≤ 64) (x t r : ℕ) (low : r < 2 ^ 64) (e : (r + t) % 2 ^ 64 ≡ x) where
  -- a sum that t takes to x has no other bits, and is r
  in_order : (u v : ℕ) → u < v → v < length B → Takes B x t u v → bit_or r bits ≡ bits
  in_order u v o h p =
      let q : get_or B u 0 + get_or B v 0 ≡ r = only_fit x t r low e (get_or B u 0 + get_or B v 0) p.sum in
      rw (← q) (b.at u v o h (omega arith))

  -- so t takes no sum of two indices to x, where r has others
  pub fits_none : (bit_or r bits ≡ bits → ⊥) → (u v : ℕ) → u < length B → v < length B → Takes B x t u v → u ≡ v
  fits_none d u v hu hv p =
      ⊎_elim
      (λ o. absurd (d (in_order u v o hv p)))
      (λ o. ⊎_elim (λ w. absurd (d (in_order v u w hu (record { sum = omega (arith, p.sum) })))) (λ w. omega arith) (lt_or_le v u))
      (lt_or_le u v)

-- ---- what a member links, by the list of the sums that lead to it
module _ (T B : List ℕ) (x : ℕ) where
  pub fitting_start : Fitting (take 0 T) B x []
  fitting_start = record { from = λ s m. not_nil s m; all = λ t u v m _ _ _. not_nil t m }

  module _ (i : ℕ) (h : i < length T) (sums : List ℕ) (f : Fitting (take i T) B x sums) where
    more : take (i + 1) T ≡ take i T ++ (get_or T i 0 ∷ [])
    more = rw (add-one i, take-suc T i 0 h)

    sooner : (s : ℕ) → Taken (take i T) x s → Taken (take (i + 1) T) x s
    sooner s p = record { t = p.t; exponent = rw more (snoc_keeps p.t (take i T) (get_or T i 0) p.exponent); sum = p.sum }

    pub fitting_hit : (r : ℕ) → get_or T i 0 + r ≡ x → Fitting (take (i + 1) T) B x (sums ++ (r ∷ []))
    fitting_hit r e = record {
      from = λ s m.
          ⊎_elim
          (λ q. record { t = get_or T i 0; exponent = rw more (snoc_in (take i T) (get_or T i 0)); sum = omega arith })
          (λ w. sooner s (f.from s w))
          (in_snoc s sums r m);
      all = λ t u v m o k p.
          ⊎_elim
          (λ q. let w : r ≡ get_or B u 0 + get_or B v 0 = omega (arith, p.sum) in rw (← w) (snoc_in sums r))
          (λ w. snoc_keeps _ sums r (f.all t u v w o k p))
          (in_snoc t (take i T) (get_or T i 0) (rw more at m));
    }

    pub fitting_miss : ((u v : ℕ) → u < length B → v < length B → Takes B x (get_or T i 0) u v → u ≡ v) → Fitting (take (i + 1) T) B x sums
    fitting_miss none = record {
      from = λ s m. sooner s (f.from s m);
      all = λ t u v m o k p.
          ⊎_elim
          (λ q. absurd (omega (arith, none u v (omega arith) k (rw (← q) at p))))
          (λ w. f.all t u v w o k p)
          (in_snoc t (take i T) (get_or T i 0) (rw more at m));
    }

  -- the pairs with one of these sums are those that x links
  module _ (sums : List ℕ) (f : Fitting T B x sums) where
    pub sums_through : Among (SomeOf (WithSum B) sums) (Through T B (x ∷ [])) (length B)
    sums_through u v _ _ p =
        let w = f.from p.item p.listed in
        record { t = w.t; exponent = w.exponent; hits = in_here _ x [] (omega (arith, w.sum, p.holds.sum)) }

    pub through_sums : (L : List ℕ) → Has (SomeOf (WithSum B) sums) (length B) L → Has (Through T B (x ∷ [])) (length B) L
    through_sums L j =
        has_ordered (Through T B (x ∷ [])) (length B) L
        (λ u v p. record { t = p.t; exponent = p.exponent; hits = rw (add_comm (get_or B v 0) (get_or B u 0)) p.hits })
        (λ u v o h p.
        j.at u v (omega arith) h
        (record { item = get_or B u 0 + get_or B v 0; listed = f.all p.t u v p.exponent o h (record { sum = sym (only_one _ x p.hits) }); holds = record { sum = refl } }))
