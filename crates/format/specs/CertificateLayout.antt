-- The certificate stream's commands and their layouts.
use Rattle.std.specs.Prelude.{List, [], ◌∷◌, ℕ, ℤ}
use Rattle.format.specs.Layouts.{u8, u16, i16, i32, Layout, line, none, length_of, unsigned_operand, signed_operand, command_named}
use Rattle.format.specs.declared.certificate.Command.{Command}
use Rattle.format.specs.declared.certificate.Command.TheVariants as C
use Rattle.format.specs.declared.certificate.Instruction.{Instruction}
use Rattle.format.specs.declared.certificate.Instruction.TheVariants as I

-- the layouts, line by line
abbrev pub certificate_layout : Command → Layout
-- "10 side(u8) D(u16) p(i32) q(u16): side 0 lower, 1 upper"
certificate_layout C.Header = line 0x10 (u8 ∷ u16 ∷ i32 ∷ u16 ∷ [])
-- "11 j(u8) w(u16): begins a row on basis j, .. with weight w"
certificate_layout C.Row = line 0x11 (u8 ∷ u16 ∷ [])
-- "12 i(u8) l(i16): entry of the row begun last"
certificate_layout C.Entry = line 0x12 (u8 ∷ i16 ∷ [])
-- "13: end"
certificate_layout C.End = line 0x13 []
-- "Certificate command 14 j(u8) w(i16) begins a row on an equality"
certificate_layout C.EqualityRow = line 0x14 (u8 ∷ i16 ∷ [])
-- "Certificate command 15 i(u8) l(i32) is an entry with a wider factor"
certificate_layout C.WideEntry = line 0x15 (u8 ∷ i32 ∷ [])
certificate_layout C.Unknown = none

abbrev pub certificate_commands : List Command
certificate_commands = C.Header ∷ C.Row ∷ C.Entry ∷ C.End ∷ C.EqualityRow ∷ C.WideEntry ∷ []

-- the command that a byte names
unfoldable pub certificate_command : ℕ → Command
certificate_command b = command_named certificate_layout C.Unknown certificate_commands b

-- a command's length; 0 of what is no command
abbrev pub certificate_size : Command → ℕ
certificate_size k = length_of (certificate_layout k)

-- operand i of a command at an offset, by its layout
abbrev pub certificate_unsigned : Command → ℕ → List ℕ → ℕ → ℕ
certificate_unsigned k i s at = unsigned_operand (certificate_layout k) i s at

abbrev pub certificate_signed : Command → ℕ → List ℕ → ℕ → ℤ
certificate_signed k i s at = signed_operand (certificate_layout k) i s at

-- a command with its operands, at an offset
abbrev pub certificate_decoded : Command → List ℕ → ℕ → Instruction
certificate_decoded C.Header s at =
    I.Header (certificate_unsigned C.Header 0 s at) (certificate_unsigned C.Header 1 s at)
    (certificate_signed C.Header 2 s at) (certificate_unsigned C.Header 3 s at)
certificate_decoded C.Row s at = I.Row (certificate_unsigned C.Row 0 s at) (certificate_unsigned C.Row 1 s at)
certificate_decoded C.Entry s at = I.Entry (certificate_unsigned C.Entry 0 s at) (certificate_signed C.Entry 1 s at)
certificate_decoded C.End s at = I.End
certificate_decoded C.EqualityRow s at =
    I.EqualityRow (certificate_unsigned C.EqualityRow 0 s at) (certificate_signed C.EqualityRow 1 s at)
certificate_decoded C.WideEntry s at =
    I.WideEntry (certificate_unsigned C.WideEntry 0 s at) (certificate_signed C.WideEntry 1 s at)
certificate_decoded C.Unknown s at = I.End
