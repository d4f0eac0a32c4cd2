-- A command as its layout writes it, for both kinds of stream: the layout's byte and then the operands, without gaps.
use Rattle.std.specs.Prelude.{List, [], ◌∷◌, ◌++◌, ℕ, ◌-◌, ◌*◌, ℤ}
use Rattle.format.specs.Layouts.{Layout, line, none}
use Rattle.calls.specs.Report.{little_endian, unsigned}

-- an operand: "u and i mean unsigned and signed"
pub data Operand : Type 0 where
  u : ℕ → Operand
  i : ℤ → Operand

-- the number that stands for it in w bytes: "signed ones two's complement"
unfoldable pub operand_number : ℕ → Operand → ℕ
operand_number w (u x) = x
operand_number w (i z) = unsigned (8 * w - 1) z

-- "Operands are little-endian", by the widths of a layout
unfoldable pub operand_bytes : List ℕ → List Operand → List ℕ
operand_bytes [] os = []
operand_bytes (w ∷ ws) [] = []
operand_bytes (w ∷ ws) (o ∷ os) = little_endian w (operand_number w o) ++ operand_bytes ws os

unfoldable pub command_bytes : Layout → List Operand → List ℕ
command_bytes (line b ws) os = b ∷ operand_bytes ws os
command_bytes none os = []
