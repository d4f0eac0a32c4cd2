-- A text in bytes that are lent.
use Rattle.std.specs.Prelude.{cond, List, ◌++◌, ℕ, ltb, length, drop}

-- the bytes at exit: the text where it fits, and what is past it stays; otherwise nothing is written
unfoldable pub text_left : List ℕ → List ℕ → List ℕ
text_left text out = cond (ltb (length out) (length text)) out (text ++ drop (length text) out)
