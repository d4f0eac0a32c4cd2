-- Binary digits of whole numbers, and sums over them: the digits of an exclusive or and of a number made of digits, and
-- the ones of a number.
use mathlib.Core.Path.{◌≡◌, refl, sym, ap, ap₂, ◌∙◌}
use Prim.Native.Nat.{ℕ, zero, suc, min, ◌+◌, ◌*◌, ◌/◌, ◌%◌, ◌^◌, ◌<◌}
use native.Mathlib.Nat.{pow-suc, mul_comm, div-div-eq-div-mul}
use native.Mathlib.Omega.{arith}
use lib.Arith.{digits_div, digits_mod}
use lib.Bits.{bit_and, bit_xor, differ, and_step, and_shr, xor_step, xor_shr}
use lib.Count.{ones, ones_step}
use Rattle.counting.specs.Counting.{sum_to}
use Rattle.counting.proofs.Sums.{sum_to_same, sum_to_first, sum_to_times}

-- ---- one digit

pub by_bit : (P : ℕ → Type 0) (x : ℕ) → x < 2 → P 0 → P 1 → P x
by_bit P zero h p q = p
by_bit P (suc zero) h p q = q
by_bit P (suc (suc x)) h p q = absurd (omega arith)

pub low : (n : ℕ) → n % 2 < 2
low n = omega arith

pub sum_mod : (a b : ℕ) → (a + b) % 2 ≡ (a % 2 + b % 2) % 2
sum_mod a b = omega arith

-- the parity of a sum tells where two parities differ
pub differ_both : (x y : ℕ) → x < 2 → y < 2 → (x + y) % 2 ≡ differ x y
differ_both x y h i =
    by_bit (λ x. (x + y) % 2 ≡ differ x y) x h
    (by_bit (λ y. (0 + y) % 2 ≡ differ 0 y) y i refl refl)
    (by_bit (λ y. (1 + y) % 2 ≡ differ 1 y) y i refl refl)

-- exclusive or, with the lowest digits written out
pub xor_more : (c d x y : ℕ) → x < 2 → y < 2 → bit_xor (c * 2 + x) (d * 2 + y) ≡ bit_xor c d * 2 + differ x y
xor_more c d x y h i =
    xor_step (c * 2 + x) (d * 2 + y)
    ∙ ap₂ (λ (u v : ℕ). u * 2 + v) (ap₂ bit_xor (digits_div c h) (digits_div d i)) (ap₂ differ (digits_mod c h) (digits_mod d i))

-- summands of equal parity have sums of equal parity
pub sum_to_parity : (n : ℕ) (f g : ℕ → ℕ) → ((i : ℕ) → i < n → f i % 2 ≡ g i % 2) → sum_to n f % 2 ≡ sum_to n g % 2
unfolding sum_to
sum_to_parity zero f g h = refl
sum_to_parity (suc n) f g h =
    sum_mod (sum_to n f) (f n)
    ∙ ap₂ (λ (x y : ℕ). (x + y) % 2) (sum_to_parity n f g (λ i b. h i (omega arith))) (h n (omega arith))
    ∙ sym (sum_mod (sum_to n g) (g n))

-- ---- the digits of a number

-- digit i, from the lowest on, which is digit 0
unfoldable pub digit : ℕ → ℕ → ℕ
digit i n = n / 2 ^ i % 2

pub digit_low : (i n : ℕ) → digit i n < 2
unfolding digit
digit_low i n = low (n / 2 ^ i)

digit_first : (n : ℕ) → digit 0 n ≡ n % 2
unfolding digit
digit_first n = let e : n / 1 ≡ n = omega arith in rw e

digit_next : (i n : ℕ) → digit (suc i) n ≡ digit i (n / 2)
unfolding digit
digit_next i n = let e : 2 ^ suc i ≡ 2 * 2 ^ i = pow-suc 2 i ∙ mul_comm (2 ^ i) 2 in rw (e, div-div-eq-div-mul n 2 (2 ^ i))

-- the ones are as many as the digits add up to
pub ones_digits : (n x : ℕ) → x < 2 ^ n → ones x ≡ sum_to n (λ i. digit i x)
unfolding sum_to ones
ones_digits zero x h = let e : x ≡ 0 = omega arith in rw e
ones_digits (suc n) x h =
    ones_step x
    ∙ ap₂ (λ (a b : ℕ). a + b) (sym (digit_first x))
    (ones_digits n (x / 2) (omega (arith, pow-suc 2 n)) ∙ sum_to_same n _ _ (λ i b. sym (digit_next i x)))
    ∙ sym (sum_to_first n (λ i. digit i x))

-- the number with the digits f 0, f 1, .., f (n − 1)
abbrev pub made_of : ℕ → (ℕ → ℕ) → ℕ
made_of n f = sum_to n (λ i. f i * 2 ^ i)

made_first : (n : ℕ) (f : ℕ → ℕ) → made_of (suc n) f ≡ made_of n (λ i. f (suc i)) * 2 + f 0
made_first n f =
    let e : f 0 * 2 ^ 0 ≡ f 0 = omega arith in
    let m = sum_to_same n (λ i. f (suc i) * 2 ^ suc i) (λ i. 2 * (f (suc i) * 2 ^ i)) (λ i b. rw (pow-suc 2 i) (omega arith)) in
    let t = sum_to_times n 2 (λ i. f (suc i) * 2 ^ i) in
    omega (arith, sum_to_first n (λ i. f i * 2 ^ i))

pub digit_made : (n : ℕ) (f : ℕ → ℕ) → ((i : ℕ) → i < n → f i < 2) → (i : ℕ) → i < n → digit i (made_of n f) ≡ f i
digit_made zero f h i b = absurd (omega arith)
digit_made (suc n) f h zero b = let l = h 0 (omega arith) in rw (made_first n f, digit_first _) (digits_mod (made_of n (λ i. f (suc i))) l)
digit_made (suc n) f h (suc i) b =
    let l = h 0 (omega arith) in
    let m = made_of n (λ i. f (suc i)) in
    let e : (m * 2 + f 0) / 2 ≡ m = omega arith in
    rw (made_first n f, digit_next i _, e) (digit_made n (λ i. f (suc i)) (λ k c. h (suc k) (omega arith)) i (omega arith))

-- ---- the digits of what two numbers give

pub digit_and : (i a b : ℕ) → digit i (bit_and a b) ≡ min (digit i a) (digit i b)
unfolding digit
digit_and i a b = ap (λ (x : ℕ). x % 2) (and_shr a b i) ∙ last (a / 2 ^ i) (b / 2 ^ i)
  where
    last : (x y : ℕ) → bit_and x y % 2 ≡ min (x % 2) (y % 2)
    last x y = let l : min (x % 2) (y % 2) < 2 = omega arith in rw (and_step x y) (digits_mod (bit_and (x / 2) (y / 2)) l)

pub digit_xor : (i a b : ℕ) → digit i (bit_xor a b) ≡ (digit i a + digit i b) % 2
unfolding digit
digit_xor i a b = ap (λ (x : ℕ). x % 2) (xor_shr a b i) ∙ last (a / 2 ^ i) (b / 2 ^ i)
  where
    last : (x y : ℕ) → bit_xor x y % 2 ≡ (x % 2 + y % 2) % 2
    last x y =
        let d : differ (x % 2) (y % 2) ≡ (x % 2 + y % 2) % 2 = sym (differ_both (x % 2) (y % 2) (low x) (low y)) in
        rw (xor_step x y, d) (digits_mod (bit_xor (x / 2) (y / 2)) (low (x % 2 + y % 2)))
