-- A byte of a file's name as it is written on standard error.
use Rattle.std.specs.Prelude.{Bool, false, cond, List, [], ◌∷◌, ℕ, ◌/◌, ◌%◌, leb, ltb, eqb}
use Rattle.io.specs.Digits.{hex_digit_ascii}

-- a printable character of ASCII: from the space to ~
abbrev pub is_shown : ℕ → Bool
is_shown b = cond (ltb b 32) false (leb b 126)

-- the backslash as \\, a newline as \n, another printable character as it is, and any other byte as \x and two
-- hexadecimal digits
abbrev pub escaped : ℕ → List ℕ
escaped b =
    cond (eqb b 92) (92 ∷ 92 ∷ [])
    (cond (eqb b 10) (92 ∷ 110 ∷ [])
    (cond (is_shown b) (b ∷ []) (92 ∷ 120 ∷ hex_digit_ascii (b / 16) ∷ hex_digit_ascii (b % 16) ∷ [])))
