-- What the reader says of a certificate stream that is read against the problem p.
use Rattle.std.specs.Prelude.{◌≡◌, List, ℕ, Result, MatchResult}
use Rattle.faults.specs.declared.Misread.{Misread}
use Rattle.faults.specs.Numbers.{fault_number}
use Rattle.format.specs.Commands.{refused, given}
use Rattle.format.specs.declared.certificate.Header.{Header}
use Rattle.format.specs.ProblemRules.{Problem}
use Rattle.format.specs.CertificateRules.{Certificate, read_certificate}
use Rattle.certificate_reader.specs.declared.Reading.{Reading}
use Rattle.certificate_rows.specs.Offsets.{rows_by, RowsStand}

-- the stream gives a certificate, and the offsets give its rows
pub record GivenRows (p : Problem) (s : List ℕ) (header : Header) (starts : List ℕ) (rows : ℕ) : Type 0 where
  pub certificate : Certificate
  pub read : read_certificate p s ≡ given certificate
  pub header_is : header ≡ certificate.header
  pub rows_are : certificate.rows ≡ rows_by s starts rows
  pub stand : RowsStand s starts rows

-- it gives a certificate, or the refusal of a fault at a place
abbrev pub Validated : Problem → List ℕ → Result Reading Misread → List ℕ → Type 0
Validated p s r starts =
    MatchResult r (λ t. GivenRows p s t.header starts t.rows) (λ m. read_certificate p s ≡ refused (fault_number m.fault) m.place)
