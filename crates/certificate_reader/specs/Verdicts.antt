-- What the checks of the command at an offset ask and say, and the entries that they pass one after another.
use Rattle.std.specs.Prelude.{◌≡◌, List, ℕ, ◌+◌, ◌<◌, length, get_or, Result, IfOk}
use Rattle.faults.specs.declared.Fault.{Fault}
use Rattle.faults.specs.Numbers.{number_in}
use Rattle.format.specs.ProblemRules.{Problem}
use Rattle.format.specs.declared.certificate.Instruction.{Instruction}
use Rattle.format.specs.CertificateRules.{Certificate, certificate_instruction_at, certificate_refusal_at}
use Rattle.certificate_commands.specs.declared.Progress.{Progress}
use Rattle.certificate_commands.specs.Kept.{Sized, ProblemSizes, progress_of, ProgressWithin, advanced}

-- a problem's sizes, a progress within its limits, and an offset in the stream
pub record Asked (sizes : List ℕ) (g : Progress) (s : List ℕ) (at : ℕ) : Type 0 where
  pub bounded : ProgressWithin g
  pub sized : ProblemSizes sizes
  pub inside : at < length s

-- the refusal of the command there, for every problem of the sizes and every certificate with the progress; and, where it
-- is none, what the command says
pub record Told (sizes : List ℕ) (g : Progress) (s : List ℕ) (at : ℕ) (r : Result Instruction Fault) : Type 0 where
  pub number : (p : Problem) (c : Certificate) → Sized p sizes → g ≡ progress_of c
      → number_in r ≡ certificate_refusal_at p c s at
  pub instruction : IfOk r (λ i. i ≡ certificate_instruction_at s at)

-- an entry by command 12 stands there
pub record EntryThere (s : List ℕ) (at : ℕ) : Type 0 where
  pub inside : at < length s
  pub byte : get_or s at 0 ≡ 0x12

-- from the progress g at the offset `from`, entries by 12 that no check refuses, up to another progress and offset
pub data EntriesRead (sizes s : List ℕ) (g : Progress) (from : ℕ) : Progress → ℕ → Type 0 where
  none : EntriesRead sizes s g from g from
  more : {h : Progress} {at : ℕ} → EntriesRead sizes s g from h at → EntryThere s at
      → ((p : Problem) (c : Certificate) → Sized p sizes → h ≡ progress_of c → certificate_refusal_at p c s at ≡ 0)
      → EntriesRead sizes s g from (advanced h (certificate_instruction_at s at)) (at + 4)
