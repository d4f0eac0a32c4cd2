-- A stream that is read can be walked.
use mathlib.Core.List.{List}
use Prim.Native.Nat.{ℕ}
use Rattle.format.specs.ProblemRules.{Problem}
use Rattle.format.specs.declared.certificate.Header.{Header}
use Rattle.format.proofs.WithinLimits.{Limits}
use Rattle.format.proofs.CertificateLimits.{read_sound}
use Rattle.certificate_rows.specs.Offsets.{Walkable}
use Rattle.certificate_reader.specs.Rows.{GivenRows}

abbrev pub given_walkable : (p : Problem) → Limits p → (s : List ℕ) (t : Header) (starts : List ℕ) (rows : ℕ) → GivenRows p s t starts rows → Walkable s starts rows
given_walkable p l s t starts rows g =
    record {
      problem = p;
      rows_sound = record { limits = l; stand = g.stand; sound = rw g.rows_are at (read_sound p s g.certificate g.read).rows };
    }
