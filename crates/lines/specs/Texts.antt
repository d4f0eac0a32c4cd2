-- The text that a buffer holds.
use Rattle.std.specs.Prelude.{List, ℕ, take}
use Rattle.lines.specs.declared.Text.{Text}

abbrev pub text_of : Text → List ℕ
text_of t = take t.len t.bytes
