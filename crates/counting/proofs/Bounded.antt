-- Laws of lists of small numbers: their parts, and lists that are put together.
use mathlib.Core.List.{List, [], ◌∷◌, ◌++◌}
use Prim.Native.Nat.{ℕ, zero, suc, ◌+◌}
use native.Mathlib.Omega.{arith}
use lib.ListN.{take, drop, replicate}
use lib.Seq.{get_or-drop}
use Rattle.counting.specs.Counting.{Bounded}

module _ (m : ℕ) where
  pub bounded_zeros : (n : ℕ) → Bounded m (replicate n 0)
  bounded_zeros zero i = omega arith
  bounded_zeros (suc n) zero = omega arith
  bounded_zeros (suc n) (suc i) = bounded_zeros n i

  pub bounded_take : (n : ℕ) (l : List ℕ) → Bounded m l → Bounded m (take n l)
  bounded_take zero l b i = omega arith
  bounded_take (suc n) [] b i = omega arith
  bounded_take (suc n) (x ∷ l) b zero = b zero
  bounded_take (suc n) (x ∷ l) b (suc i) = bounded_take n l (λ k. b (suc k)) i

  pub bounded_drop : (a : ℕ) (l : List ℕ) → Bounded m l → Bounded m (drop a l)
  bounded_drop a l b i = rw (get_or-drop a l i 0) (b (a + i))

  pub bounded_part : (a n : ℕ) (l : List ℕ) → Bounded m l → Bounded m (take n (drop a l))
  bounded_part a n l b = bounded_take n (drop a l) (bounded_drop a l b)

  pub bounded_append : (k l : List ℕ) → Bounded m k → Bounded m l → Bounded m (k ++ l)
  bounded_append [] l b c i = c i
  bounded_append (x ∷ k) l b c zero = b zero
  bounded_append (x ∷ k) l b c (suc i) = bounded_append k l (λ j. b (suc j)) c i
