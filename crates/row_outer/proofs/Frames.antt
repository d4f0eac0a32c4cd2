-- The entries of the table of sums: those that are not 0 are at indices of the basis, on or above the diagonal.
use mathlib.Core.Path.{◌≡◌, refl, sym, ap, ◌∙◌}
use mathlib.Core.List.{List}
use mathlib.Core.Logic.{⊎_elim}
use Prim.Native.Nat.{ℕ, zero, suc, ◌+◌, ◌*◌, ◌/◌, ◌%◌, ◌≤◌, ◌<◌}
use native.Mathlib.Omega.{arith}
use lib.IntN.{ℤ, pos, ◌+ℤ◌, ◌*ℤ◌, +ℤ_idr, zero-*ℤ}
use lib.ListN.{length, get_or, replicate}
use Rattle.counting.specs.Counting.{listed}
use Rattle.counting.proofs.Cases.{lt_or_le}
use Rattle.polynomial.specs.Terms.{Term}
use Rattle.polynomial.specs.Algebra.{sum}
use Rattle.row_outer.specs.Frame.{Empty, Framed, Next, Entered}
use Rattle.row_outer.proofs.Prefixes.{sum_more}

-- ---- a table of zeros
pub zeros_empty : (n : ℕ) → Empty (replicate n (pos 0))
zeros_empty zero x = refl
zeros_empty (suc n) zero = refl
zeros_empty (suc n) (suc x) = zeros_empty n x

-- ---- a table within its frame
module _ {m c : ℕ} {g : List ℤ} (f : Framed m c g) where
  rows_none : (x : ℕ) → m ≤ x / 64 → get_or g x (pos 0) ≡ pos 0
  rows_none x h = ⊎_elim (λ b. f.lower x (omega arith)) (f.columns x) (lt_or_le (x % 64) m)

  -- past the rows of the basis
  pub past_none : (x : ℕ) → 64 * m ≤ x → get_or g x (pos 0) ≡ pos 0
  past_none x h = rows_none x (omega arith)

  -- between a place and the next
  pub between_none : {x r : ℕ} → Next m x r → (y : ℕ) → x < y → y < r → get_or g y (pos 0) ≡ pos 0
  between_none n y a b = ⊎_elim (f.columns y) (f.lower y) (n.between y a b)

pub framed_entered : {basis : List ℕ} {c : ℕ} {g : List ℤ} → Framed (length basis) c g → (x : ℕ) → Entered c basis x (get_or g x (pos 0))
framed_entered f x = record { row = rows_none f x; column = f.columns x; small = f.small x }

-- an entry that is not 0 is at indices of the basis
module _ (c : ℕ) (basis : List ℕ) (x : ℕ) (a : ℤ) (e : Entered c basis x a) (f : a ≡ pos 0 → ⊥) where
  pub entered_row : x / 64 < length basis
  entered_row = ⊎_elim (λ l. l) (λ l. absurd (f (e.row l))) (lt_or_le (x / 64) (length basis))

  pub entered_column : x % 64 < length basis
  entered_column = ⊎_elim (λ l. l) (λ l. absurd (f (e.column l))) (lt_or_le (x % 64) (length basis))

-- the terms past a place of the table have coefficient 0
pub rest_none : (m : ℕ → ℤ) (f : ℕ → Term) (n d : ℕ) → ((i : ℕ) → n ≤ i → i < n + d → (f i).coefficient ≡ pos 0) → sum m (listed n f) ≡ sum m (listed (n + d) f)
rest_none m f n zero h = ap (λ (k : ℕ). sum m (listed k f)) (omega arith)
rest_none m f n (suc d) h =
    rest_none m f n d (λ i l u. h i l (omega arith))
    ∙ sym (+ℤ_idr _)
    ∙ ap (λ (z : ℤ). sum m (listed (n + d) f) +ℤ z) (sym (zero-*ℤ (m (f (n + d)).key)) ∙ ap (λ (z : ℤ). z *ℤ m (f (n + d)).key) (sym (h (n + d) (omega arith) (omega arith))))
    ∙ sum_more m f (n + d)
    ∙ ap (λ (k : ℕ). sum m (listed k f)) (omega arith)
