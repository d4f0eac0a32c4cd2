-- What the answers of reads mean, and how many bytes of a file count.
use Rattle.std.specs.Prelude.{ℕ, zero, suc, ◌≤◌, Result, Ok, Err, Option, None, Some}
use Rattle.file_reader.specs.declared.Extent.{Extent}
use Rattle.file_reader.specs.declared.Extent.TheVariants.{Whole, Longer}
use Rattle.file_reader.specs.declared.Start.{Start}
use Rattle.file_reader.specs.declared.Start.TheVariants.{Whole as WholeStart, Full}

-- the bytes that a read moved, and at the end none; a failure stays one
abbrev pub meaning : {E : Type 0} → Result ℕ E → Result (Option ℕ) E
meaning (Ok zero) = Ok None
meaning (Ok (suc n)) = Ok (Some (suc n))
meaning (Err e) = Err e

-- bytes that were moved are at least 1, and have room
abbrev pub Within : ℕ → Option ℕ → Type 0
Within room (Some n) = (1 ≤ n) × (n ≤ room)
Within room None = Unit {0}

-- how many bytes of the buffer count
abbrev pub kept : {E : Type 0} → Result Extent E → ℕ
kept (Ok (Whole n)) = n
kept (Ok (Longer n)) = n
kept (Err e) = 0

-- a file that ended in the buffer has no more bytes than it
abbrev pub Fitting : {F : Type 0} → ℕ → Start ℕ F → Type 0
Fitting room (WholeStart n) = n ≤ room
Fitting room (Full file) = Unit {0}
