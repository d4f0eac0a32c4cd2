-- Lists made of pieces of one length, one after the other.
use native.Mathlib.Omega.{arith}
use native.Mathlib.Nat.{mul-zero, mul-suc}
use mathlib.Core.Path.{◌≡◌, sym, ◌∙◌}
use mathlib.Core.List.{List, [], ◌∷◌, ◌++◌, append_assoc, flat_map}
use Prim.Native.Nat.{ℕ, zero, suc, ◌+◌, ◌*◌, ◌<◌}
use lib.ListN.{length, take, drop, get_or, length-append}
use lib.Seq.{take_at, drop_at, drop-drop}

module _ {A : Type 0} (f : A → List ℕ) (m : ℕ) (each : (x : A) → length (f x) ≡ m) where
  pub pieces_length : (l : List A) → length (flat_map f l) ≡ m * length l
  unfolding flat_map
  pieces_length [] = sym (mul-zero m)
  pieces_length (x ∷ l) = simp (length-append, each, pieces_length l, mul-suc) (omega arith)

  -- piece i stands at m × i
  pub piece_at : (l : List A) (i : ℕ) (d : A) (rest : List ℕ) → i < length l
      → take m (drop (m * i) (flat_map f l ++ rest)) ≡ f (get_or l i d)
  unfolding flat_map
  piece_at [] i d rest h = absurd (omega arith)
  piece_at (x ∷ l) zero d rest h = rw (mul-zero, append_assoc) (take_at (f x) (flat_map f l ++ rest) m (each x))
  piece_at (x ∷ l) (suc i) d rest h =
      let e : m * suc i ≡ m + m * i = mul-suc m i ∙ omega arith in
      rw (e, ← drop-drop, append_assoc, drop_at (f x) (flat_map f l ++ rest) m (each x))
      (piece_at l i d rest (omega arith))
