-- Layouts of commands, for both kinds of stream: a command is its byte and then its operands, without gaps.
use Rattle.std.specs.Prelude.{◌≡◌, Bool, false, cond, List, [], ◌∷◌, ℕ, ◌+◌, ◌-◌, ◌*◌, eqb, ℤ, get_or, take}
use Rattle.format.specs.Operands.{number, signed}

-- "u and i mean unsigned and signed with their width in bits. E is 8 exponent bytes": the widths in bytes
abbrev pub u8 : ℕ
u8 = 1

abbrev pub u16 : ℕ
u16 = 2

abbrev pub i16 : ℕ
i16 = 2

abbrev pub i32 : ℕ
i32 = 4

abbrev pub E : ℕ
E = 8

-- the layout of a command: its byte and its operands' widths in their order; `none` of what is no command of the stream
pub data Layout : Type 0 where
  line : ℕ → List ℕ → Layout
  none : Layout

abbrev pub widths : Layout → List ℕ
widths (line b ws) = ws
widths none = []

abbrev pub total : List ℕ → ℕ
total [] = 0
total (w ∷ ws) = w + total ws

-- a command's length: its byte and its operands
abbrev pub length_of : Layout → ℕ
length_of (line b ws) = 1 + total ws
length_of none = 0

-- operand i of a command at an offset, from operand 0 on: it stands behind the byte and the operands before it
abbrev pub unsigned_operand : Layout → ℕ → List ℕ → ℕ → ℕ
unsigned_operand l i s at = number (get_or (widths l) i 0) s (at + (1 + total (take i (widths l))))

-- the same of a signed one, in 8 bits for each byte
abbrev pub signed_operand : Layout → ℕ → List ℕ → ℕ → ℤ
signed_operand l i s at = signed (8 * get_or (widths l) i 0 - 1) (unsigned_operand l i s at)

-- whether a byte is that of a layout
abbrev pub has_byte : Layout → ℕ → Bool
has_byte (line b ws) byte = eqb byte b
has_byte none byte = false

-- the command of a list that a byte names; `unknown` where it names none
abbrev pub command_named : {A : Type 0} → (A → Layout) → A → List A → ℕ → A
command_named layout unknown [] byte = unknown
command_named layout unknown (k ∷ ks) byte = cond (has_byte (layout k) byte) k (command_named layout unknown ks byte)

-- a number is "0 exactly where the command is unknown": where k is the unknown one, and nowhere else
pub record ZeroUnknown {A : Type 0} (unknown k : A) (r : ℕ) : Type 0 where
  pub zero : k ≡ unknown → r ≡ 0
  pub only : r ≡ 0 → k ≡ unknown
