-- The fewest digits that hold a number are its digits in base ten.
use native.Mathlib.Omega.{arith}
use native.Mathlib.Nat.{pow-suc, one-le-pow, pow-le-pow_right, eq-zero-or-pos}
use mathlib.Core.Path.{◌≡◌, refl, sym, ap, ◌∙◌}
use mathlib.Core.Logic.{⊎_elim}
use mathlib.Core.List.{List, [], ◌∷◌, ◌++◌}
use Prim.Native.Nat.{ℕ, zero, suc, ◌-◌, ◌/◌, ◌%◌, ◌^◌, ◌≤◌, ◌<◌}
use Rattle.io.specs.Digits.{last_digits, hex_digit_ascii, IsDigitCount}
use Rattle.lines.specs.Lines.{leading, decimal}

leading_zero : (f : ℕ) → leading f 0 ≡ []
leading_zero zero = refl
leading_zero (suc f) = refl

-- a number of k + 1 digits
digits_leading : (k f m : ℕ) → m ≤ f → m < 10 ^ suc k → 10 ^ k ≤ m → last_digits 10 (suc k) m ≡ leading f m
digits_leading k zero m hf hm hk = absurd (omega (arith, one-le-pow k 10 (omega arith)))
digits_leading k (suc f) zero hf hm hk = absurd (omega (arith, one-le-pow k 10 (omega arith)))
digits_leading zero (suc f) (suc m) hf hm hk =
    let z : suc m / 10 ≡ 0 = omega arith in
    ap (λ (l : List ℕ). l ++ (hex_digit_ascii (suc m % 10) ∷ [])) (sym (leading_zero f) ∙ ap (leading f) (sym z))
digits_leading (suc k) (suc f) (suc m) hf hm hk =
    ap (λ (l : List ℕ). l ++ (hex_digit_ascii (suc m % 10) ∷ []))
    (digits_leading k f (suc m / 10) (omega arith) (omega (arith, pow-suc 10 (suc k))) (omega (arith, pow-suc 10 k)))

pub fewest_decimal : (n r : ℕ) → IsDigitCount 10 1 n r → last_digits 10 r n ≡ decimal n
unfolding decimal
fewest_decimal n zero h = absurd (omega (arith, h.0))
fewest_decimal n (suc zero) h =
    let z : n / 10 ≡ 0 = omega (arith, h.1) in
    ap (λ (l : List ℕ). l ++ (hex_digit_ascii (n % 10) ∷ [])) (sym (leading_zero n) ∙ ap (leading n) (sym z))
fewest_decimal n (suc (suc k)) h =
    let e : suc (suc k) - 1 ≡ suc k = omega arith in
    let least = rw e at (h.2 (omega arith)) in
    ap (λ (l : List ℕ). l ++ (hex_digit_ascii (n % 10) ∷ []))
    (digits_leading k n (n / 10) (omega arith) (omega (arith, h.1, pow-suc 10 (suc k)))
    (omega (arith, least, pow-suc 10 k)))

-- a number of 64 bits has at most 20 digits
pub fewest_short : (n r : ℕ) → n < 2 ^ 64 → IsDigitCount 10 1 n r → r ≤ 20
fewest_short n r hn h =
    ⊎_elim
    (λ (short : r - 20 ≡ 0). omega arith)
    (λ (long : 0 < r - 20).
    let grown : 10 ^ 20 ≤ 10 ^ (r - 1) = pow-le-pow_right (omega arith) {i = 20} {j = r - 1} (omega arith) in
    absurd (omega (arith, h.2 (omega arith))))
    (eq-zero-or-pos (r - 20))
