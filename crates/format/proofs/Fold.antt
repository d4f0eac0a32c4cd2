-- Reading a certificate is a fold over its commands: each is checked and taken by its own bytes, by the offset of the
-- first of them, and by what was read before.
use mathlib.Core.Path.{◌≡◌, refl, sym, ap, ◌∙◌}
use mathlib.Core.Bool.{Bool, true, false, cond}
use mathlib.Core.List.{List, [], ◌∷◌, ◌++◌, flatten, append-nil, append_assoc}
use Prim.Native.Nat.{ℕ, zero, suc, ◌+◌, ◌≤◌, ◌<◌}
use native.Mathlib.Omega.{arith}
use lib.Dec.{eqb, leb, ltb}
use lib.ListN.{length, get_or, length-append, get_or-append}
use lib.Seq.{get_or-append-add}
use borrow.Author.Tests.{le-leb, lt-leb, lt-ltb, le-ltb, eqb-true}
use Rattle.format.specs.All.{All}
use Rattle.format.specs.Commands.{Outcome, refused, given, first_refusal, Language, run, read_whole}
use Rattle.format.specs.ProblemRules.{Problem}
use Rattle.format.specs.CertificateLayout.{certificate_command, certificate_size}
use Rattle.format.specs.CertificateRules.{Certificate, no_certificate, certificate_placed, certificate_operands_fit, certificate_repeated, certificate_full, certificate_applied, certificate_instruction_at, certificate_refusal_at, certificate_next, certificate_language, read_certificate}
use Rattle.format.specs.Cut.{command_of, Whole}
use Rattle.format.proofs.SameBytes.{SameRun, run_decoded}

-- the number of the refusal that a whole command meets at an offset, or 0
unfoldable pub refusal_of : Problem → Certificate → ℕ → List ℕ → ℕ
refusal_of p c at r =
    let i = certificate_instruction_at r 0 in
    first_refusal (certificate_placed c at (command_of r)) true (certificate_operands_fit p c i) (certificate_repeated c i)
    (certificate_full c i)

-- what has been read after it
unfoldable pub applied : Certificate → ℕ → List ℕ → Certificate
applied c at r = certificate_applied c (certificate_instruction_at r 0) at

-- at the end command: nothing stands behind it
abbrev pub ended_by : Certificate → ℕ → List (List ℕ) → Outcome Certificate
ended_by c at [] = given c
ended_by c at (r ∷ rs) = refused 2 (at + 1)

-- the fold, from an offset on
unfoldable pub read_commands : Problem → Certificate → ℕ → List (List ℕ) → Outcome Certificate
read_commands p c at [] = refused 2 at
read_commands p c at (r ∷ rs) =
    cond (ltb 0 (refusal_of p c at r)) (refused (refusal_of p c at r) at)
    (cond (eqb (get_or r 0 0) 0x13) (ended_by c at rs) (read_commands p (applied c at r) (at + length r) rs))

-- ---- one command, in the stream and by itself
module _ (front r back : List ℕ) (whole : Whole r) where
  abbrev at : ℕ
  at = length front

  abbrev s : List ℕ
  s = front ++ (r ++ back)

  at_run : (x : ℕ) → x < length r → get_or s (at + x) 0 ≡ get_or r x 0
  at_run x h = get_or-append-add front (r ++ back) x 0 ∙ get_or-append r back 0 x h

  first_byte : get_or s at 0 ≡ get_or r 0 0
  first_byte = let e : at + 0 ≡ at = omega arith in rw e at (at_run 0 whole.some)

  stream_length : length s ≡ at + (length r + length back)
  stream_length = rw (length-append front, length-append r)

  instruction : certificate_instruction_at s at ≡ certificate_instruction_at r 0
  instruction =
      let z : (x : ℕ) → 0 + x ≡ x = (λ x. omega arith) in
      rw first_byte
      (run_decoded r 0 s at (length r) (record { bytes = λ x h. rw (z x) (at_run x h) }) (command_of r)
      (omega (arith, whole.long)))

  same_refusal : (p : Problem) (c : Certificate) → certificate_refusal_at p c s at ≡ refusal_of p c at r
  unfolding certificate_refusal_at refusal_of
  same_refusal p c =
      rw (instruction, first_byte, le-leb (at + certificate_size (command_of r)) (length s) (omega (arith, whole.long, stream_length)))

  same_next : (c : Certificate) → certificate_next c s at ≡ applied c at r
  unfolding certificate_next applied
  same_next c = rw instruction

-- the end command has one byte
pub end_length : (r : List ℕ) → Whole r → get_or r 0 0 ≡ 0x13 → length r ≡ 1
unfolding certificate_command
end_length r w e = w.long ∙ rw e

module _ (p : Problem) where
  abbrev language : Language Certificate
  language = certificate_language p

  fold_from : (f : ℕ) (c : Certificate) (front : List ℕ) (rs : List (List ℕ)) → All Whole rs → length (flatten rs) < f
      → run language f c (front ++ flatten rs) (length front) ≡ read_commands p c (length front) rs
  unfolding All flatten run read_commands
  fold_from zero c front rs w h = absurd (omega arith)
  fold_from (suc f) c front [] w h =
      rw (append-nil front, le-leb (length front) (length front) (omega arith))
  fold_from (suc f) c front (r ∷ rs) w h =
      let back = flatten rs in
      let n = stream_length front r back w.0 in
      let m : length back < f = omega (arith, w.0.some, length-append r back) in
      let further =
      rw (append_assoc front r back, length-append front r) at (fold_from f (applied c (length front) r) (front ++ r) rs w.1 m) in
      rw (lt-leb (length (front ++ (r ++ back))) (length front) (omega (arith, w.0.some)), same_refusal front r back w.0 p c, first_byte front r back w.0, ← w.0.long, same_next front r back w.0 c, further)
      (ap (λ (o : Outcome Certificate). cond (ltb 0 (refusal_of p c (length front) r)) (refused (refusal_of p c (length front) r) (length front)) o)
      (go (eqb (get_or r 0 0) 0x13) refl))
    where
      -- behind the end command
      end : (rs : List (List ℕ)) → All Whole rs → length r ≡ 1
          → cond (ltb (length front + 1) (length (front ++ (r ++ flatten rs)))) (refused 2 (length front + 1)) (given c)
          ≡ ended_by c (length front) rs
      end [] w e =
          rw (le-ltb (length front + 1) (length (front ++ (r ++ []))) (omega (arith, length-append front (r ++ []), length-append {A = ℕ} r [])))
      end (q ∷ rs) w e =
          rw (lt-ltb (length front + 1) (length (front ++ (r ++ (q ++ flatten rs)))) (omega (arith, w.0.some, length-append front (r ++ (q ++ flatten rs)), length-append r (q ++ flatten rs), length-append q (flatten rs))))

      go : (b : Bool) → eqb (get_or r 0 0) 0x13 ≡ b
          → cond b (cond (ltb (length front + 1) (length (front ++ (r ++ flatten rs)))) (refused 2 (length front + 1)) (given c))
          (read_commands p (applied c (length front) r) (length front + length r) rs)
          ≡ cond b (ended_by c (length front) rs) (read_commands p (applied c (length front) r) (length front + length r) rs)
      go true e = end rs w.1 (end_length r w.0 (eqb-true _ _ e))
      go false e = refl

  -- the law
  pub read_fold : (rs : List (List ℕ)) → All Whole rs
      → read_certificate p (flatten rs) ≡ read_commands p no_certificate 0 rs
  unfolding read_certificate read_whole
  read_fold rs w = fold_from (length (flatten rs) + 1) no_certificate [] rs w (omega arith)
