-- Every certificate that a stream of bytes gives keeps to its problem's rules: so nothing past the documents' numbers
-- is read. And written again it is read as the same certificate, but for the places.
use mathlib.Core.Path.{◌≡◌}
use mathlib.Core.Bool.{true, not}
use mathlib.Core.List.{List, [], ◌∷◌}
use Prim.Native.Nat.{ℕ, ◌+◌, ◌-◌, ◌^◌, ◌<◌}
use native.Mathlib.Omega.{arith}
use lib.Dec.{leb}
use lib.IntN.{ℤ, pos, negsuc}
use lib.ListN.{length}
use Rattle.counting.specs.Counting.{Bounded}
use Rattle.counting.proofs.Cases.{clash, and_left, and_right}
use Rattle.format.specs.All.{All}
use Rattle.format.specs.Commands.{given}
use Rattle.format.specs.Operands.{number, signed}
use Rattle.format.specs.declared.problem.Kind.{Kind}
use Rattle.format.specs.declared.problem.Kind.TheVariants as K
use Rattle.format.specs.declared.certificate.Command.{Command}
use Rattle.format.specs.declared.certificate.Command.TheVariants as C
use Rattle.format.specs.CertificateLayout.{certificate_decoded}
use Rattle.format.specs.ProblemRules.{Problem}
use Rattle.format.specs.ProblemBases.{is_equality, kind_of}
use Rattle.format.specs.CertificateRules.{Entry, Row, Certificate, no_certificate, no_row, last_row, with_row, entered, certificate_operands_fit, certificate_applied, certificate_command_at, certificate_next, certificate_language, read_certificate}
use Rattle.format.proofs.Numbers.{number_low}
use Rattle.format.proofs.Run.{read_induction}
use Rattle.format.proofs.ProblemLimits.{all_more, all_set, all_at}
use Rattle.format.proofs.CertificateChecks.{passed}
use Rattle.format.proofs.CertificateLimits.{SoundRow, read_sound}
use Rattle.written.specs.Legal.{OfBits, Legal, WeightOf, LegalRow, LegalCertificate}
use Rattle.written.specs.CertificateWritten.{encode_certificate, placed}
use Rattle.written.proofs.ProblemLegal.{signed_bits}
use Rattle.written.proofs.CertificateRoundTrip.{encoded_certificate_read}

-- a number of 16 bits is one of 32
more_bits : (z : ℤ) → OfBits 16 z → OfBits 32 z
more_bits (pos n) h = omega arith
more_bits (negsuc n) h = omega arith

-- ---- numbers have their bits
record WideRow (p : Problem) (r : Row) : Type 0 where
  weight : WeightOf (kind_of p r.basis) r.weight
  factors : All (λ (e : Entry). OfBits 32 e.factor) r.entries

record Wide (p : Problem) (c : Certificate) : Type 0 where
  scale : c.header.scale < 2 ^ 16
  numerator : OfBits 32 c.header.p
  denominator : c.header.q < 2 ^ 16
  rows : All (WideRow p) c.rows

-- 11 is not on an equality, and 14 is
inequality_weight : (k : Kind) (w : ℕ) → not (is_equality k) ≡ true → w < 2 ^ 16 → WeightOf k (pos w)
inequality_weight K.Inequality w h b = b
inequality_weight K.Equality w h b = clash (cc)

equality_weight : (k : Kind) (w : ℤ) → is_equality k ≡ true → OfBits 16 w → WeightOf k w
equality_weight K.Inequality w h b = clash (cc)
equality_weight K.Equality w h b = b

module _ (p : Problem) where
  row_wide : (c : Certificate) (j : ℕ) (w : ℤ) → Wide p c → WeightOf (kind_of p j) w → Wide p (with_row c j w)
  unfolding All
  row_wide c j w q h = record {
    scale = q.scale;
    numerator = q.numerator;
    denominator = q.denominator;
    rows = all_more _ c.rows _ q.rows (record { weight = h; factors = tt });
  }

  none_wide : WideRow p no_row
  unfolding All kind_of
  none_wide = record { weight = omega arith; factors = tt }

  entry_wide : (c : Certificate) (n : ℕ) (l : ℤ) (at : ℕ) → Wide p c → OfBits 32 l → Wide p (entered c n l at)
  entry_wide c n l at q h =
      let last = all_at (WideRow p) c.rows (length c.rows - 1) no_row q.rows none_wide in
      record {
        scale = q.scale;
        numerator = q.numerator;
        denominator = q.denominator;
        rows =
            all_set (WideRow p) c.rows _ _ q.rows
            (record { weight = last.weight; factors = all_more _ (last_row c.rows).entries _ last.factors h });
      }

  module _ (s : List ℕ) (bytes : Bounded 255 s) where
    wide_applied : (c : Certificate) (at : ℕ) (k : Command)
        → certificate_operands_fit p c (certificate_decoded k s at) ≡ true → Wide p c
        → Wide p (certificate_applied c (certificate_decoded k s at) at)
    unfolding certificate_applied
    wide_applied c at C.Header f w = record {
      scale = number_low s bytes 2 (at + 2);
      numerator = signed_bits 31 _ (number_low s bytes 4 (at + 4));
      denominator = number_low s bytes 2 (at + 8);
      rows = w.rows;
    }
    wide_applied c at C.Row f w =
        let j = number 1 s (at + 1) in
        let low = leb j (length p.conditions) in
        row_wide c j _ w
        (inequality_weight (kind_of p j) _ (and_left (not (is_equality (kind_of p j))) _ (and_right low _ f))
        (number_low s bytes 2 (at + 2)))
    wide_applied c at C.Entry f w =
        let l = signed 15 (number 2 s (at + 2)) in
        entry_wide c _ l at w (more_bits l (signed_bits 15 _ (number_low s bytes 2 (at + 2))))
    wide_applied c at C.End f w = w
    wide_applied c at C.Unknown f w = w
    wide_applied c at C.EqualityRow f w =
        let j = number 1 s (at + 1) in
        let low = leb j (length p.conditions) in
        let w' = signed 15 (number 2 s (at + 2)) in
        row_wide c j w' w
        (equality_weight (kind_of p j) w' (and_left (is_equality (kind_of p j)) _ (and_right low _ f))
        (signed_bits 15 _ (number_low s bytes 2 (at + 2))))
    wide_applied c at C.WideEntry f w = entry_wide c _ _ at w (signed_bits 31 _ (number_low s bytes 4 (at + 2)))

    read_wide : (c : Certificate) → read_certificate p s ≡ given c → Wide p c
    unfolding read_certificate certificate_next All
    read_wide c h =
        read_induction (certificate_language p) s (λ a at cs b. Wide p a → Wide p b)
        (λ a at t e w. w)
        (λ a b at cs t e f w.
        f (wide_applied a at (certificate_command_at s at) (passed p a s at t.passed).allowed w))
        no_certificate c h
        (record { scale = omega arith; numerator = omega arith; denominator = omega arith; rows = tt })

  legal_rows : (rs : List Row) → All (SoundRow p) rs → All (WideRow p) rs → All (LegalRow p) rs
  unfolding All
  legal_rows [] t w = tt
  legal_rows (r ∷ rs) t w =
      (record { sound = t.0; weight = w.0.weight; factors = w.0.factors }, legal_rows rs t.1 w.1)

-- ---- the law, from the reader's side
module _ (p : Problem) (s : List ℕ) (bytes : Bounded 255 s) (c : Certificate)
    (read : read_certificate p s ≡ given c) where
  pub read_certificate_legal : LegalCertificate p c
  read_certificate_legal =
      let k = read_sound p s c read in
      let w = read_wide p s bytes c read in
      record {
        side = k.side;
        scale = (k.scale, w.scale);
        numerator = w.numerator;
        denominator = (k.q, w.denominator);
        count = k.count;
        rows = legal_rows p c.rows k.rows w.rows;
      }

  pub read_certificate_again : Legal p → read_certificate p (encode_certificate p c) ≡ given (placed p c)
  read_certificate_again problem = encoded_certificate_read p c read_certificate_legal problem
