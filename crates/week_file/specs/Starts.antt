-- What the start of a file comes to, by what is left in the buffers.
use Rattle.std.specs.Prelude.{◌≡◌, List, ℕ, ◌≤◌, length, take}
use Rattle.lines.specs.ReportLines.{week_answer}
use Rattle.file_reader.specs.declared.Start.{Start}
use Rattle.file_reader.specs.declared.Start.TheVariants.{Whole, Full}
use Rattle.week_file.specs.declared.Answered.{Answered}

-- of a whole file, the text for its records; of a longer one nothing is said yet
abbrev pub Answering : {F : Type 0} → List ℕ → List ℕ → Start Answered F → Type 0
Answering records text (Whole a) =
    (take a.text text ≡ week_answer (take a.records records))
    × ((a.records ≤ length records) × (length text ≡ 8192))
Answering records text (Full file) = Unit {0}
