-- Request 10 speaks of every certificate stream that reads: notes put in between any of its commands, after 10 and
-- before 13, are notes put in.
use mathlib.Core.Path.{◌≡◌, refl, sym, ap, ◌∙◌}
use mathlib.Core.Bool.{Bool, true, false}
use mathlib.Core.List.{List, [], ◌∷◌, ◌++◌, flatten}
use Prim.Native.Nat.{ℕ, ◌+◌}
use native.Mathlib.Omega.{arith}
use lib.Dec.{eqb}
use lib.ListN.{length, get_or}
use borrow.Author.Tests.{eqb-false}
use Rattle.counting.proofs.Cases.{clash}
use Rattle.format.specs.All.{All}
use Rattle.format.specs.Commands.{given}
use Rattle.format.specs.ProblemRules.{Problem}
use Rattle.format.specs.CertificateRules.{Certificate, no_certificate, read_certificate}
use Rattle.format.specs.Cut.{command_of, Whole, commands_of}
use Rattle.format.specs.RowOrder.{HeaderCommand}
use Rattle.format.specs.PutIn.{Piece, command, note, IsPiece, whole, eight, sent, plain, PutIn}
use Rattle.format.proofs.Cut.{read_cuts}
use Rattle.format.proofs.Fold.{applied, ended_by, read_commands, read_fold}
use Rattle.format.proofs.RowReading.{refused_not, passed_step, step_ended, step_passed, not_end}
use Rattle.format.proofs.RowOrder.{flatten_append}
use Rattle.format.proofs.RowCut.{placed, first_header}

-- the commands among some pieces, and the texts of the notes
unfoldable pub commands_in : List Piece → List (List ℕ)
commands_in [] = []
commands_in (command r ∷ ps) = r ∷ commands_in ps
commands_in (note text ∷ ps) = commands_in ps

unfoldable pub texts_in : List Piece → List (List ℕ)
texts_in [] = []
texts_in (command r ∷ ps) = texts_in ps
texts_in (note text ∷ ps) = text ∷ texts_in ps

plain_bytes : (ps : List Piece) → plain ps ≡ flatten (commands_in ps)
unfolding plain commands_in flatten
plain_bytes [] = refl
plain_bytes (command r ∷ ps) = rw (plain_bytes ps)
plain_bytes (note text ∷ ps) = plain_bytes ps

abbrev end : List (List ℕ)
end = (0x13 ∷ []) ∷ []

abbrev Before : List ℕ → Type 0
Before r = get_or r 0 0 ≡ 0x13 → ⊥

-- of a stream that is read only the last command is 13
before_end : (p : Problem) (c : Certificate) (at : ℕ) (rs : List (List ℕ)) (d : Certificate)
    → read_commands p c at (rs ++ end) ≡ given d → All Before rs
unfolding All
before_end p c at [] d h = tt
before_end p c at (r ∷ rs) d h = go (before_end p (applied c at r) (at + length r) rs d) (eqb (get_or r 0 0) 0x13) refl
  where
    ended : (rs : List (List ℕ)) → ended_by c at (rs ++ end) ≡ given d → ⊥
    ended [] f = refused_not _ _ d f
    ended (q ∷ rs) f = refused_not _ _ d f

    go : (read_commands p (applied c at r) (at + length r) (rs ++ end) ≡ given d → All Before rs) → (t : Bool)
        → eqb (get_or r 0 0) 0x13 ≡ t → Before r × All Before rs
    go next true e =
        let v = passed_step p c at r (rs ++ end) d h in
        absurd (ended rs (sym (step_ended p c at r (rs ++ end) v e) ∙ h))
    go next false e =
        let v = passed_step p c at r (rs ++ end) d h in
        (eqb-false _ _ e, next (sym (step_passed p c at r (rs ++ end) e v) ∙ h))

pieces_are : (ps : List Piece) → All Whole (commands_in ps ++ end) → All Before (commands_in ps)
    → All (λ text. length text ≡ 8) (texts_in ps) → All IsPiece ps
unfolding All commands_in texts_in
pieces_are [] w b n = tt
pieces_are (command r ∷ ps) w b n = (whole w.0 b.0, pieces_are ps w.1 b.1 n)
pieces_are (note text ∷ ps) w b n = (eight n.0, pieces_are ps w b n.1)

module _ (p : Problem) (s : List ℕ) (c : Certificate) (read : read_certificate p s ≡ given c) where
  -- the stream's commands are a header, those among the pieces, and 13
  pub notes_anywhere : (header : List ℕ) (pieces : List Piece) → commands_of s ≡ header ∷ (commands_in pieces ++ end)
      → All (λ text. length text ≡ 8) (texts_in pieces) → PutIn s (header ++ (sent pieces ++ (0x13 ∷ [])))
  unfolding All flatten commands_of
  notes_anywhere header pieces e n =
      let q = read_cuts p s c read in
      let w = rw e at q.whole in
      let f : read_commands p no_certificate 0 (commands_of s) ≡ given c =
      sym (read_fold p (commands_of s) q.whole) ∙ ap (read_certificate p) q.all ∙ read in
      let g = rw e at f in
      let v = passed_step p no_certificate 0 header (commands_in pieces ++ end) c g in
      let k = first_header p (command_of header) (placed p no_certificate 0 header v) in
      let goes = not_end header (λ z. clash (cc)) in
      let m = sym (step_passed p no_certificate 0 header (commands_in pieces ++ end) goes v) ∙ g in
      let b = before_end p (applied no_certificate 0 header) (0 + length header) (commands_in pieces) c m in
      record {
        header = header;
        pieces = pieces;
        rest = [];
        headed = record { whole = w.0; header = k };
        each = pieces_are pieces w.1 b n;
        without =
            sym q.all ∙ ap flatten e ∙ rw (flatten_append (commands_in pieces) end, plain_bytes pieces);
        noted = refl;
      }
