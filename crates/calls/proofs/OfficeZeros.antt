-- The zeros of the office's verdict: those of the check, with places as sent, and no notes with a refusal.
use mathlib.Core.Path.{◌≡◌, refl, sym, ◌∙◌}
use mathlib.Core.Bool.{Bool, true, false, cond, ◌&&◌}
use mathlib.Core.List.{List}
use Prim.Native.Nat.{ℕ, ◌<◌}
use native.Mathlib.Omega.{arith}
use lib.Dec.{eqb}
use borrow.Author.Tests.{eqb-true}
use Rattle.format.specs.Notes.{note_offsets, place_sent, without_notes}
use Rattle.calls.specs.declared.CheckVerdict.{CheckVerdict}
use Rattle.calls.specs.declared.Refusal.{Refusal}
use Rattle.calls.specs.Check.{check_verdict}
use Rattle.calls.specs.Superseding.{is_accepted}
use Rattle.calls.specs.Refusals.{certificate_refusal}
use Rattle.calls.specs.Office.{refusal_sent, verdict_sent, note_count, cannot_hold, refused_notes, office_of, office_verdict}
use Rattle.calls.specs.Zeros.{RefusalZeros, CheckZeros, OfficeZeros}
use Rattle.calls.proofs.Zeros.{certificate_zeros, check_refused_lem}
use Rattle.calls.proofs.Checking.{check_zeros}

module _ (t : List ℕ) where
  -- the number stays, and a place of stream 1 is one of a refusal
  sent_zeros : (r : Refusal) → RefusalZeros r → RefusalZeros (refusal_sent t r)
  unfolding refusal_sent
  sent_zeros r z = go (eqb r.stream 1) refl
    where
      go : (b : Bool) → eqb r.stream 1 ≡ b
          → RefusalZeros
          (cond b
          (record { number = r.number; stream = r.stream; place = place_sent (note_offsets t) r.place; key = r.key }) r)
      go true e = record {
        stream = z.stream;
        place = λ h. absurd (omega (arith, z.stream h, eqb-true r.stream 1 e));
        key = z.key;
      }
      go false e = z

  sent_number : (r : Refusal) → (refusal_sent t r).number ≡ r.number
  unfolding refusal_sent
  sent_number r = go (eqb r.stream 1)
    where
      go : (b : Bool)
          → (cond b
          (record { number = r.number; stream = r.stream; place = place_sent (note_offsets t) r.place; key = r.key }) r
          ).number
          ≡ r.number
      go true = refl
      go false = refl

  module _ (v : CheckVerdict) (z : CheckZeros v) where
    was : 0 < (verdict_sent t v).refusal.number → 0 < v.refusal.number
    unfolding verdict_sent
    was h = rw (sent_number v.refusal) at h

    check_sent : CheckZeros (verdict_sent t v)
    unfolding verdict_sent
    check_sent = record {
      refusal = sent_zeros v.refusal z.refusal;
      side = λ h. z.side (was h);
      bound = λ h. z.bound (was h);
      rounds = λ h. z.rounds (was h);
      rule = λ h. z.rule (was h);
    }

    office_of_zeros : (room : ℕ) → OfficeZeros (office_of t room v)
    unfolding office_of
    office_of_zeros room = go (is_accepted v) (cannot_hold room t) refl
      where
        go : (a b : Bool) → is_accepted v ≡ a
            → OfficeZeros
            (cond (a && b) refused_notes (record { check = verdict_sent t v; notes = cond a (note_count t) 0 }))
        go true true e = record {
          check = check_refused_lem _ (certificate_zeros 1 13 0 0 (omega arith) (λ _. refl));
          notes = λ _. refl;
        }
        go true false e =
            record { check = check_sent; notes = λ h. absurd (omega (arith, was h, eqb-true v.refusal.number 0 e)) }
        go false b e = record { check = check_sent; notes = λ _. refl }

pub office_zeros : (short : Bool) (s t : List ℕ) (room : ℕ) → OfficeZeros (office_verdict short s t room)
unfolding office_verdict
office_zeros short s t room =
    office_of_zeros t (check_verdict short s (without_notes t)) (check_zeros short s (without_notes t) _ refl) room
