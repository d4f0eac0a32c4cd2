-- The digits of one more byte.
use native.Mathlib.Numerals.{add-one}
use mathlib.Core.Path.{◌≡◌, refl, ap}
use mathlib.Core.List.{List, [], ◌∷◌, ◌++◌}
use Prim.Native.Nat.{ℕ, ◌+◌, ◌/◌, ◌%◌, ◌<◌}
use lib.ListN.{length, take, get_or}
use lib.Seq.{take-suc}
use Rattle.io.specs.Digits.{hex_digit_ascii}
use Rattle.lines.specs.Lines.{hexadecimal}

hexadecimal_byte :
    (s : List ℕ) (b : ℕ)
    → hexadecimal (s ++ (b ∷ [])) ≡ hexadecimal s ++ (hex_digit_ascii (b / 16) ∷ []) ++ (hex_digit_ascii (b % 16) ∷ [])
hexadecimal_byte [] b = refl
hexadecimal_byte (x ∷ s) b = ap (λ (l : List ℕ). hex_digit_ascii (x / 16) ∷ (hex_digit_ascii (x % 16) ∷ l)) (hexadecimal_byte s b)

pub hexadecimal_more : (s : List ℕ) (i : ℕ) → i < length s
    → hexadecimal (take (i + 1) s)
    ≡ hexadecimal (take i s) ++ (hex_digit_ascii (get_or s i 0 / 16) ∷ []) ++ (hex_digit_ascii (get_or s i 0 % 16) ∷ [])
hexadecimal_more s i h = rw (add-one i, take-suc s i 0 h) (hexadecimal_byte (take i s) (get_or s i 0))
