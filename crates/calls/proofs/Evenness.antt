-- What it means that a mask meets an exponent evenly, and why it is additive: over sums of exponents, and over exclusive
-- or of masks.
use mathlib.Core.Path.{◌≡◌, sym, ap, ◌∙◌}
use mathlib.Core.Bool.{true}
use Prim.Native.Nat.{ℕ, min, ◌+◌, ◌*◌, ◌%◌, ◌≤◌, ◌<◌}
use native.Mathlib.Omega.{arith}
use lib.Bits.{bit_and, bit_xor, and_le_l, xor_lt}
use lib.Dec.{eqb}
use borrow.Author.Tests.{eqb-true, eq-eqb}
use Rattle.counting.specs.Counting.{sum_to}
use Rattle.counting.proofs.Sums.{sum_to_same, sum_to_add}
use Rattle.polynomial.specs.Monomial.{exponent, degree}
use Rattle.polynomial.proofs.Exponents.{exponents_add}
use Rattle.counting.proofs.Binary.{by_bit, low, sum_to_parity, digit, digit_low, ones_digits, digit_made, digit_and, digit_xor}
use Rattle.calls.specs.Symmetries.{parity_byte, ones_in_common, is_even, meets_evenly}

-- r · e: the sum of the exponents of the variables that the mask r has, "bit i − 1 for variable i"
unfoldable pub inner : ℕ → ℕ → ℕ
inner r e = sum_to 8 (λ i. digit i r * exponent (i + 1) e)

-- bit i − 1 of the parity byte is the parity of variable i
pub parity_digit : (i e : ℕ) → i < 8 → digit i (parity_byte e) ≡ exponent (i + 1) e % 2
unfolding parity_byte
parity_digit i e h = digit_made 8 (λ i. exponent (i + 1) e % 2) (λ k b. low (exponent (k + 1) e)) i h

-- ---- the ones in common and r · e are even alike

both_odd : (d x : ℕ) → d < 2 → min d (x % 2) % 2 ≡ d * x % 2
both_odd d x h = by_bit (λ d. min d (x % 2) % 2 ≡ d * x % 2) d h (omega arith) (omega arith)

common_inner : (r e : ℕ) → r < 256 → ones_in_common r (parity_byte e) % 2 ≡ inner r e % 2
unfolding inner
common_inner r e h =
    ap (λ (n : ℕ). n % 2) (ones_digits 8 (bit_and r (parity_byte e)) (omega (arith, and_le_l r (parity_byte e))))
    ∙ sum_to_parity 8 _ _ (λ i b.
    rw (digit_and i r (parity_byte e), parity_digit i e b) (both_odd (digit i r) (exponent (i + 1) e) (digit_low i r)))

-- "r · e ≡ 0 modulo 2" (paper 000, definition 6.1)
pub meets_inner : (r e : ℕ) → r < 256 → meets_evenly r e ≡ is_even (inner r e)
unfolding meets_evenly
meets_inner r e h = ap (λ (n : ℕ). eqb n 0) (common_inner r e h)

module _ (r e : ℕ) (h : r < 256) where
  pub meets_even : meets_evenly r e ≡ true → inner r e % 2 ≡ 0
  meets_even m = eqb-true (inner r e % 2) 0 (sym (meets_inner r e h) ∙ m)

  pub even_meets : inner r e % 2 ≡ 0 → meets_evenly r e ≡ true
  even_meets m = meets_inner r e h ∙ eq-eqb (inner r e % 2) 0 m

-- ---- additive

-- over the sum of two exponents, where nothing is carried
pub inner_sum : (r a b : ℕ) → degree a + degree b ≤ 255 → inner r (a + b) ≡ inner r a + inner r b
unfolding inner
inner_sum r a b h =
    sum_to_same 8 _ _ (λ i l. rw (exponents_add (i + 1) a b (omega arith) (omega arith) h) (omega arith))
    ∙ sum_to_add 8 (λ i. digit i r * exponent (i + 1) a) (λ i. digit i r * exponent (i + 1) b)

one_of_both : (c d x : ℕ) → c < 2 → d < 2 → (c + d) % 2 * x % 2 ≡ (c * x + d * x) % 2
one_of_both c d x h k =
    by_bit (λ c. (c + d) % 2 * x % 2 ≡ (c * x + d * x) % 2) c h
    (by_bit (λ d. (0 + d) % 2 * x % 2 ≡ (0 * x + d * x) % 2) d k (omega arith) (omega arith))
    (by_bit (λ d. (1 + d) % 2 * x % 2 ≡ (1 * x + d * x) % 2) d k (omega arith) (omega arith))

-- over the exclusive or of two masks
pub inner_xor : (r q e : ℕ) → inner (bit_xor r q) e % 2 ≡ (inner r e + inner q e) % 2
unfolding inner
inner_xor r q e =
    sum_to_parity 8 _ _ (λ i b. rw (digit_xor i r q) (one_of_both (digit i r) (digit i q) (exponent (i + 1) e) (digit_low i r) (digit_low i q)))
    ∙ ap (λ (n : ℕ). n % 2) (sum_to_add 8 (λ i. digit i r * exponent (i + 1) e) (λ i. digit i q * exponent (i + 1) e))

-- so what two masks meet evenly, their exclusive or does
pub meets_xor : (r q e : ℕ) → r < 256 → q < 256 → meets_evenly r e ≡ true → meets_evenly q e ≡ true → meets_evenly (bit_xor r q) e ≡ true
meets_xor r q e hr hq mr mq =
    even_meets (bit_xor r q) e (xor_lt 8 r q hr hq) (inner_xor r q e ∙ (let a = meets_even r e hr mr in let b = meets_even q e hq mq in omega arith))
