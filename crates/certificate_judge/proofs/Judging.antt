-- Laws of the steps on one certificate: reading, refusal 8 and refusal 9 together are the judgement.
use mathlib.Core.Path.{◌≡◌, refl, sym}
use mathlib.Core.List.{List}
use mathlib.Core.Option.{Option, none, some}
use Prim.Native.Nat.{ℕ}
use lib.ListN.{length}
use Rattle.format.specs.Commands.{refused, given}
use Rattle.format.specs.ProblemRules.{Problem}
use Rattle.format.specs.CertificateRules.{Certificate, read_certificate}
use Rattle.format.specs.declared.certificate.Header.{Header}
use Rattle.joining_rule.proofs.Bytes.{bytes_long}
use Rattle.accepting.specs.Judgement.{judge, judge_read, by_identity, split_place, difference_key}
use Rattle.calls.specs.Refusals.{certificate_refusal}
use Rattle.row_blocks.specs.Places.{place_judged, SplitTold}
use Rattle.certificate_reader.specs.Rows.{GivenRows}
use Rattle.certificate_reader.proofs.Walk.{given_walkable}
use Rattle.identity_rows.specs.Walk.{Comparable}
use Rattle.identity_check.specs.Compare.{difference_of, Given}
use Rattle.std.specs.Prelude.{Err, Some, None}
use Rattle.std.specs.Prelude as Code
use Rattle.certificate_judge.specs.Steps.{JoinedProblem, judged_of, judged_from}

-- ---- a certificate that is read against a joined problem
module _ {p : Problem} {keys : List ℕ} {coefficients : _} {sizes labels table : List ℕ} {n : ℕ} {idx : List ℕ} (j : JoinedProblem p keys coefficients sizes labels table n idx) where
  pub labels_long : length labels ≡ 576
  labels_long = rw j.labels_are (bytes_long _)

  module _ {s : List ℕ} {t : Header} {starts : List ℕ} {rows : ℕ} (g : GivenRows p s t starts rows) where
    pub joined_comparable : Comparable s starts rows keys coefficients sizes
    joined_comparable = record { problem = p; flat = j.flat; rows_sound = (given_walkable p j.limits s t starts rows g).rows_sound }

    pub joined_given : Given p g.certificate s starts rows t keys coefficients sizes table n
    joined_given = record { flat = j.flat; header_is = g.header_is; rows_are = g.rows_are; compared = j.compared }

-- ---- the judgement
module _ (P : Problem) (s : List ℕ) where
  pub judge_refused : (stream n at : ℕ) → read_certificate P s ≡ refused n at → Err (certificate_refusal stream n at 0) ≡ judged_of stream (judge P s)
  unfolding judge
  judge_refused stream n at e = rw e refl

  module _ (c : Certificate) (e : read_certificate P s ≡ given c) (stream : ℕ) where
    -- by what the answer to refusal 8 tells
    judged : (r : Code.Option ℕ) → SplitTold r (split_place P c.rows) → judge P s ≡ place_judged r (by_identity c (difference_key P c))
    unfolding judge judge_read
    judged r f = rw e (sym (f.tells (by_identity c (difference_key P c))))

    pub judge_split : (at : ℕ) → SplitTold (Some at) (split_place P c.rows) → Err (certificate_refusal stream 8 at 0) ≡ judged_of stream (judge P s)
    judge_split at f = rw (judged (Some at) f) refl

    pub judge_compared : (t : Header) (d : Code.Option ℕ) → SplitTold None (split_place P c.rows) → t ≡ c.header → d ≡ difference_of (difference_key P c) → judged_from stream t d ≡ judged_of stream (judge P s)
    judge_compared t d f g h = rw (judged None f, g, h) (go (difference_key P c))
      where
        go : (o : Option ℕ) → judged_from stream c.header (difference_of o) ≡ judged_of stream (by_identity c o)
        go (some k) = refl
        go none = refl
