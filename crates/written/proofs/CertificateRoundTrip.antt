-- Every certificate that keeps to its problem's rules is read as it was written, with the places that its layout gives.
use mathlib.Core.Path.{◌≡◌, refl, sym, ap, ◌∙◌}
use mathlib.Core.Bool.{Bool, true, false, cond}
use mathlib.Core.List.{List, [], ◌∷◌, ◌++◌, append-nil, append_assoc, flat_map}
use Prim.Native.Nat.{ℕ, zero, suc, ◌+◌, ◌-◌, ◌^◌, ◌≤◌, ◌<◌}
use native.Mathlib.Omega.{arith}
use lib.Dec.{leb, ltb}
use lib.IntN.{ℤ, pos, negsuc, nat_abs}
use lib.ListN.{length, length-append}
use lib.Seq.{set_at}
use lib.Signed.{◌≤ℤ◌}
use borrow.Author.Tests.{le-leb, lt-leb, lt-ltb, ltb-true}
use Rattle.counting.proofs.Cases.{clash}
use Rattle.format.specs.All.{All}
use Rattle.format.specs.Commands.{Outcome, given, first_refusal}
use Rattle.format.specs.declared.problem.Kind.{Kind}
use Rattle.format.specs.declared.problem.Kind.TheVariants as K
use Rattle.format.specs.declared.certificate.Command.TheVariants as C
use Rattle.format.specs.declared.certificate.Instruction.{Instruction}
use Rattle.format.specs.declared.certificate.Instruction.TheVariants as I
use Rattle.format.specs.declared.certificate.Header.{Header}
use Rattle.format.specs.ProblemRules.{Problem}
use Rattle.format.specs.ProblemBases.{basis_of, kind_of}
use Rattle.format.specs.CertificateRules.{Entry, Row, Certificate, no_certificate, last_row, rises, with_row, with_entry, entered, certificate_applied, certificate_language, read_certificate}
use Rattle.format.proofs.WithinLimits.{Monomials}
use Rattle.format.proofs.ProblemLimits.{all_at, monomials_none}
use Rattle.format.proofs.CertificateChecks.{last_append}
use Rattle.format.proofs.CertificateLimits.{IndicesRise}
use Rattle.format.proofs.Run.{Left, left_start}
use Rattle.written.specs.Legal.{OfBits, Legal, LegalRow, LegalCertificate}
use Rattle.written.specs.CertificateWritten.{certificate_bytes, certificate_stream, header_command, narrow, entry_command, beginning, row_command, entry_commands, row_commands, encode_certificate, placed_entries, placed_rows, placed}
use Rattle.written.proofs.OneLess.{not_nonzero}
use Rattle.written.proofs.CertificateSteps.{command_of, Sized, bytes_some, refusal_of, written_next, written_end}

-- what was read, with a row begun last
abbrev begun : Header → List Row → Row → Certificate
begun h rs r = record { header = h; rows = rs ++ (r ∷ []) }

-- ---- an entry, by 12 or by 15
entry_sized : (e : Entry) → e.index < 256 → OfBits 32 e.factor → Sized (entry_command e)
unfolding entry_command
entry_sized e i f = go e.factor f (narrow e.factor) refl
  where
    go : (l : ℤ) → OfBits 32 l → (b : Bool) → narrow l ≡ b
        → Sized (cond b (I.Entry e.index l) (I.WideEntry e.index l))
    go (pos n) f true q = (i, ltb-true n (2 ^ 15) q)
    go (pos n) f false q = (i, f)
    go (negsuc n) f true q = (i, ltb-true n (2 ^ 15) q)
    go (negsuc n) f false q = (i, f)

-- by 12 where b, and else by 15
abbrev entry_by : Bool → Entry → Instruction
entry_by b e = cond b (I.Entry e.index e.factor) (I.WideEntry e.index e.factor)

entry_goes : (e : Entry) → command_of (entry_command e) ≡ C.End → ⊥
unfolding entry_command
entry_goes e = go (narrow e.factor)
  where
    go : (b : Bool) → command_of (entry_by b e) ≡ C.End → ⊥
    go true h = clash (cc)
    go false h = clash (cc)

module _ (p : Problem) (h : Header) (rs : List Row) (r : Row) (at : ℕ) (e : Entry) where
  some_rows : 0 < length (rs ++ (r ∷ []))
  some_rows = omega (arith, length-append rs (r ∷ []))

  entry_passes : 0 < at → e.index < length (basis_of p r.basis) → (e.factor ≡ pos 0 → ⊥)
      → rises r.entries e.index ≡ true → refusal_of p (begun h rs r) at (entry_command e) ≡ 0
  unfolding refusal_of first_refusal entry_command
  entry_passes b i f q = go (narrow e.factor)
    where
      last : last_row (rs ++ (r ∷ [])) ≡ r
      last = last_append rs r

      rows : ltb 0 (length (rs ++ (r ∷ []))) ≡ true
      rows = lt-ltb 0 _ some_rows

      go : (t : Bool) → refusal_of p (begun h rs r) at (entry_by t e) ≡ 0
      go true = rw (lt-ltb 0 at b, rows, last, lt-ltb e.index _ i, not_nonzero e.factor f, q)
      go false = rw (lt-ltb 0 at b, rows, last, lt-ltb e.index _ i, not_nonzero e.factor f, q)

  entry_applied : certificate_applied (begun h rs r) (entry_command e) at
      ≡ begun h rs (with_entry r (record { index = e.index; factor = e.factor; place = at }))
  unfolding certificate_applied entry_command
  entry_applied = go (narrow e.factor)
    where
      n : length (rs ++ (r ∷ [])) - 1 ≡ length rs
      n = omega (arith, length-append rs (r ∷ []))

      new : Entry
      new = record { index = e.index; factor = e.factor; place = at }

      both : entered (begun h rs r) e.index e.factor at ≡ begun h rs (with_entry r new)
      both = rw (last_append rs r, n, set_at rs r [] (with_entry r new) (length rs) refl)

      go : (t : Bool) → certificate_applied (begun h rs r) (entry_by t e) at ≡ begun h rs (with_entry r new)
      go true = both
      go false = both

-- ---- the entries of a row: their indices rise
Follows : List Entry → List Entry → Type 0
Follows ds [] = Unit {0}
Follows ds (e ∷ es) = rises ds e.index ≡ true

pub rises_last : (ds : List Entry) (e : Entry) (n : ℕ) → rises (ds ++ (e ∷ [])) n ≡ ltb e.index n
rises_last [] e n = refl
rises_last (x ∷ []) e n = refl
rises_last (x ∷ y ∷ ds) e n = rises_last (y ∷ ds) e n

follows_next : (ds : List Entry) (e d : Entry) (es : List Entry) → d.index ≡ e.index → IndicesRise (e ∷ es)
    → Follows (ds ++ (d ∷ [])) es
unfolding IndicesRise Follows
follows_next ds e d [] q h = tt
follows_next ds e d (f ∷ es) q h = rises_last ds d f.index ∙ rw q (lt-ltb e.index f.index h.0)

rise_next : (e : Entry) (es : List Entry) → IndicesRise (e ∷ es) → IndicesRise es
unfolding IndicesRise
rise_next e [] h = tt
rise_next e (f ∷ es) h = h.1

module _ (p : Problem) (s : List ℕ) (o : Outcome Certificate) (h : Header) (rs : List Row) (j : ℕ) (w : ℤ)
    (few : length (basis_of p j) ≤ 64) where
  abbrev sofar : List Entry → Certificate
  sofar ds = begun h rs (record { basis = j; weight = w; entries = ds })

  entries_read : (ds es : List Entry) (front back : List ℕ)
      → s ≡ front ++ (certificate_stream (entry_commands es) ++ back) → 0 < length front
      → All (λ (e : Entry). e.index < length (basis_of p j)) es
      → All (λ (e : Entry). e.factor ≡ pos 0 → ⊥) es → All (λ (e : Entry). OfBits 32 e.factor) es
      → Follows ds es → IndicesRise es → Left (certificate_language p) s o (sofar ds) (length front)
      → Left (certificate_language p) s o (sofar (ds ++ placed_entries (length front) es))
      (length (front ++ certificate_stream (entry_commands es)))
  unfolding All certificate_stream flat_map entry_commands placed_entries Follows
  entries_read ds [] front back e b i f g q m l = rw (append-nil front, append-nil ds) l
  entries_read ds (x ∷ es) front back e b i f g q m l =
      let y = certificate_bytes (entry_command x) in
      let ys = certificate_stream (entry_commands es) in
      let d : Entry = record { index = x.index; factor = x.factor; place = length front } in
      let here : s ≡ front ++ (y ++ (ys ++ back)) = e ∙ ap (λ (t : List ℕ). front ++ t) (append_assoc y ys back) in
      let n = length-append front y in
      let low : x.index < 256 = let z = i.0 in omega arith in
      let row : Row = record { basis = j; weight = w; entries = ds } in
      let v = entry_passes p h rs row (length front) x b i.0 f.0 q in
      let size = entry_sized x low g.0 in
      let next = written_next p s front (ys ++ back) (entry_command x) here size o (sofar ds) l (entry_goes x) v in
      let a = entry_applied p h rs row (length front) x in
      let then = here ∙ sym (append_assoc front y (ys ++ back)) in
      let more =
      entries_read (ds ++ (d ∷ [])) es (front ++ y) back then (omega arith) i.1 f.1 g.1
      (follows_next ds x d es refl m) (rise_next x es m) (rw a at next) in
      rw (append_assoc front y ys, append_assoc ds (d ∷ []) (placed_entries (length (front ++ y)) es), n) at more

-- ---- a row, by 11 or by 14
positive_is : (w : ℤ) → pos 1 ≤ℤ w → (pos (nat_abs w) ≡ w) × (1 ≤ nat_abs w)
positive_is (pos zero) h = absurd h.le
positive_is (pos (suc n)) h = (refl, omega arith)
positive_is (negsuc n) h = absurd h.le

module _ (p : Problem) (c : Certificate) (at : ℕ) (r : Row) (legal : LegalRow p r) (room : length c.rows < 128)
    (b : 0 < at) (low : length p.conditions ≤ 8) where
  record Begins (x : Instruction) : Type 0 where
    sized : Sized x
    goes : command_of x ≡ C.End → ⊥
    passes : refusal_of p c at x ≡ 0
    applied : certificate_applied c x at ≡ with_row c r.basis r.weight

  row_begins : Begins (row_command p r)
  unfolding refusal_of first_refusal certificate_applied
  row_begins = go (kind_of p r.basis) refl
    where
      j : leb r.basis (length p.conditions) ≡ true
      j = le-leb r.basis _ legal.sound.basis

      basis : r.basis < 256
      basis = let k = legal.sound.basis in omega arith

      full : leb 128 (length c.rows) ≡ false
      full = lt-leb 128 (length c.rows) room

      go : (k : Kind) → kind_of p r.basis ≡ k → Begins (beginning k r.basis r.weight)
      go K.Inequality e =
          let w = positive_is r.weight (legal.sound.positive e) in
          record {
            sized = (basis, rw e at legal.weight);
            goes = λ z. clash (cc);
            passes = rw (lt-ltb 0 at b, j, e, le-leb 1 (nat_abs r.weight) w.1, full);
            applied = rw w.0;
          }
      go K.Equality e = record {
        sized = (basis, rw e at legal.weight);
        goes = λ z. clash (cc);
        passes = rw (lt-ltb 0 at b, j, e, not_nonzero r.weight legal.sound.weight, full);
        applied = refl;
      }

pub stream_append : (xs ys : List Instruction)
    → certificate_stream (xs ++ ys) ≡ certificate_stream xs ++ certificate_stream ys
unfolding certificate_stream flat_map
stream_append [] ys = refl
stream_append (x ∷ xs) ys =
    ap (λ (l : List ℕ). certificate_bytes x ++ l) (stream_append xs ys) ∙ sym (append_assoc (certificate_bytes x) _ _)

row_stream : (p : Problem) (r : Row) (rs : List Row)
    → certificate_stream (row_commands p (r ∷ rs))
    ≡ certificate_bytes (row_command p r)
    ++ (certificate_stream (entry_commands r.entries) ++ certificate_stream (row_commands p rs))
row_stream p r rs =
    let e = stream_append (entry_commands r.entries) (row_commands p rs) in
    unfold certificate_stream flat_map row_commands in ap (λ (l : List ℕ). certificate_bytes (row_command p r) ++ l) e

follows_first : (es : List Entry) → Follows [] es
unfolding Follows
follows_first [] = tt
follows_first (e ∷ es) = refl

module _ (p : Problem) (conditions : length p.conditions ≤ 8) (few : (j : ℕ) → length (basis_of p j) ≤ 64)
    (s : List ℕ) (o : Outcome Certificate) (h : Header) where
  abbrev rowed : List Row → Certificate
  rowed rs = record { header = h; rows = rs }

  rows_read : (done rs : List Row) (front back : List ℕ) → s ≡ front ++ (certificate_stream (row_commands p rs) ++ back)
      → 0 < length front → length done + length rs ≤ 128 → All (LegalRow p) rs
      → Left (certificate_language p) s o (rowed done) (length front)
      → Left (certificate_language p) s o (rowed (done ++ placed_rows p (length front) rs))
      (length (front ++ certificate_stream (row_commands p rs)))
  unfolding All placed_rows
  rows_read done [] front back e b m q l =
      let z : certificate_stream (row_commands p []) ≡ [] = unfold certificate_stream flat_map row_commands in refl in
      rw (z, append-nil front, append-nil done) l
  rows_read done (r ∷ rs) front back e b m q l =
      let y = certificate_bytes (row_command p r) in
      let ys = certificate_stream (entry_commands r.entries) in
      let zs = certificate_stream (row_commands p rs) in
      let is = row_stream p r rs in
      let here : s ≡ front ++ (y ++ (ys ++ (zs ++ back))) =
      e ∙ rw (is, append_assoc y (ys ++ zs) back, append_assoc ys zs back) in
      let then : s ≡ (front ++ y) ++ (ys ++ (zs ++ back)) = here ∙ sym (append_assoc front y (ys ++ (zs ++ back))) in
      let last : s ≡ ((front ++ y) ++ ys) ++ (zs ++ back) = then ∙ sym (append_assoc (front ++ y) ys (zs ++ back)) in
      let n = length-append front y in
      let k = length-append (front ++ y) ys in
      let x = row_begins p (rowed done) (length front) r q.0 (omega arith) b conditions in
      let next =
      written_next p s front (ys ++ (zs ++ back)) (row_command p r) here x.sized o (rowed done) l x.goes
      x.passes in
      let sound = q.0.sound in
      let row : Row =
      record { basis = r.basis; weight = r.weight; entries = placed_entries (length (front ++ y)) r.entries } in
      let entries =
      entries_read p s o h done r.basis r.weight (few r.basis) [] r.entries (front ++ y) (zs ++ back) then
      (omega arith) sound.indices sound.factors q.0.factors (follows_first r.entries) sound.rising
      (rw x.applied at next) in
      let d = length-append done (row ∷ []) in
      let rest =
      rows_read (done ++ (row ∷ [])) rs ((front ++ y) ++ ys) back last (omega arith) (omega arith) q.1 entries in
      rw (is, ← append_assoc front y (ys ++ zs), ← append_assoc (front ++ y) ys zs, ← n, ← k)
      (rw (append_assoc done (row ∷ []) (placed_rows p (length ((front ++ y) ++ ys)) rs)) at rest)

-- no basis of a legal problem has more than 64 monomials
pub basis_few : (p : Problem) → Legal p → (j : ℕ) → length (basis_of p j) ≤ 64
unfolding basis_of
basis_few p l j =
    (all_at (Monomials p.variables 8 64) p.bases j [] l.members (monomials_none p.variables 8 64)).count

-- ---- the header
module _ (p : Problem) (c : Certificate) (legal : LegalCertificate p c) where
  abbrev h : Header
  h = c.header

  header_read : (s back : List ℕ) → s ≡ certificate_bytes (header_command h) ++ back
      → Left (certificate_language p) s (read_certificate p s) (record { header = h; rows = [] })
      (length (certificate_bytes (header_command h)))
  unfolding read_certificate certificate_applied
  header_read s back e =
      let side = legal.side in
      let d = le-leb 1 h.scale legal.scale.0 in
      let q = le-leb 1 h.q legal.denominator.0 in
      let v : refusal_of p no_certificate 0 (header_command h) ≡ 0 =
      unfold refusal_of first_refusal in rw (le-leb h.side 1 side, d, q) in
      written_next p s [] back (header_command h) e
      (omega arith, legal.scale.1, legal.numerator, legal.denominator.1) _ no_certificate
      (left_start (certificate_language p) s no_certificate) (λ z. clash (cc)) v

  -- the stream without its end, and what may stand behind it
  abbrev commands : List Instruction
  commands = header_command h ∷ row_commands p c.rows

  pub commands_some : 0 < length (certificate_stream commands)
  unfolding certificate_stream flat_map
  commands_some =
      let y = certificate_bytes (header_command h) in
      omega (arith, length-append y (certificate_stream (row_commands p c.rows)), bytes_some (header_command h))

  module _ (problem : Legal p) where
    pub commands_read : (s back : List ℕ) → s ≡ certificate_stream commands ++ back
        → Left (certificate_language p) s (read_certificate p s) (placed p c) (length (certificate_stream commands))
    unfolding certificate_stream flat_map placed
    commands_read s back e =
        let y = certificate_bytes (header_command h) in
        let d : s ≡ y ++ (certificate_stream (row_commands p c.rows) ++ back) = e ∙ append_assoc y _ back in
        let few = legal.count in
        rows_read p problem.conditions (basis_few p problem) s _ h [] c.rows y back d
        (bytes_some (header_command h)) (omega arith) legal.rows (header_read s _ d)

    pub encoded_certificate_read : read_certificate p (encode_certificate p c) ≡ given (placed p c)
    unfolding encode_certificate
    encoded_certificate_read =
        let s = certificate_stream (header_command h ∷ (row_commands p c.rows ++ (I.End ∷ []))) in
        let one : certificate_stream (I.End ∷ []) ≡ certificate_bytes I.End ++ [] =
        unfold certificate_stream flat_map in refl in
        let e : s ≡ certificate_stream commands ++ (certificate_bytes I.End ++ []) =
        stream_append commands (I.End ∷ []) ∙ rw one in
        sym (written_end p s (certificate_stream commands) e commands_some (read_certificate p s) (placed p c)
        (commands_read s (certificate_bytes I.End ++ []) e))
