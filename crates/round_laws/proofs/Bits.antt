-- The bits of the sums of a basis: a number that has others is no sum of two of its keys. x − t is taken modulo 2^64,
-- so it needs no test whether t is above x.
use mathlib.Core.Path.{◌≡◌, refl, sym, ap, ◌∙◌}
use Prim.Native.Nat.{ℕ, ◌+◌, ◌/◌, ◌%◌, ◌^◌, ◌≤◌, ◌<◌, max}
use native.Mathlib.Omega.{arith}
use lib.Arith.{bin_ind, digits_div, digits_mod}
use lib.Bits.{bit_or, or_step, or_comm, or_self, or_add_and, and_le_r}

-- ---- the digits of a or b
or_half : (a b : ℕ) → bit_or a b / 2 ≡ bit_or (a / 2) (b / 2)
or_half a b = ap (λ (x : ℕ). x / 2) (or_step a b) ∙ digits_div (bit_or (a / 2) (b / 2)) (omega arith)

or_low : (a b : ℕ) → bit_or a b % 2 ≡ max (a % 2) (b % 2)
or_low a b = ap (λ (x : ℕ). x % 2) (or_step a b) ∙ digits_mod (bit_or (a / 2) (b / 2)) (omega arith)

or_assoc : (a b c : ℕ) → bit_or (bit_or a b) c ≡ bit_or a (bit_or b c)
or_assoc a =
    bin_ind (λ (n : ℕ). (b c : ℕ) → bit_or (bit_or n b) c ≡ bit_or n (bit_or b c)) (λ b c. refl)
    (λ n ih b c.
    or_step (bit_or n b) c
    ∙ rw (or_half n b, or_low n b, ih (b / 2) (c / 2))
    (sym (or_step n (bit_or b c) ∙ rw (or_half b c, or_low b c) (omega arith))))
    a

-- ---- bits that a number has none beside: one more number, and those before it
pub fits_new : (bits s : ℕ) → bit_or s (bit_or bits s) ≡ bit_or bits s
fits_new bits s = ap (bit_or s) (or_comm bits s) ∙ sym (or_assoc s s bits) ∙ ap (λ (x : ℕ). bit_or x bits) (or_self s) ∙ or_comm s bits

pub fits_old : (bits s u : ℕ) → bit_or s bits ≡ bits → bit_or s (bit_or bits u) ≡ bit_or bits u
fits_old bits s u e = sym (or_assoc s bits u) ∙ ap (λ (x : ℕ). bit_or x u) e

fits_low : (bits s : ℕ) → bit_or s bits ≡ bits → s ≤ bits
fits_low bits s e = omega (arith, or_add_and s bits, and_le_r s bits)

-- ---- r is x − t modulo 2^64
module _ (x t r : ℕ) (low : r < 2 ^ 64) (e : (r + t) % 2 ^ 64 ≡ x) where
  -- with no other bits it is x − t
  pub fit_is : (bits : ℕ) → bits < 2 ^ 62 → t < 2 ^ 62 → bit_or r bits ≡ bits → t + r ≡ x
  fit_is bits h k f = omega (arith, fits_low bits r f)

  -- a number that t takes to x is it
  pub only_fit : (s : ℕ) → t + s ≡ x → s ≡ r
  only_fit s q = omega arith
