-- The runs of rows in another order: the stream reads where the first does, and gives the same rows in that order, each
-- where it stands.
use mathlib.Core.Path.{◌≡◌, refl, sym, ap, ◌∙◌}
use mathlib.Core.Bool.{Bool, true, false, cond, ◌&&◌}
use mathlib.Core.List.{List, [], ◌∷◌, ◌++◌, flatten, append-nil, append_assoc}
use Prim.Native.Nat.{ℕ, zero, suc, ◌+◌, ◌≤◌, ◌<◌}
use native.Mathlib.Omega.{arith}
use lib.Dec.{eqb}
use lib.ListN.{length, get_or, length-append}
use borrow.Author.Tests.{ne_eqb}
use Rattle.counting.proofs.Cases.{clash}
use Rattle.format.specs.All.{All}
use Rattle.format.specs.Commands.{Outcome, refused, given}
use Rattle.format.specs.ProblemRules.{Problem}
use Rattle.format.specs.declared.certificate.Command.{Command}
use Rattle.format.specs.declared.certificate.Command.TheVariants as C
use Rattle.format.specs.CertificateLayout.{certificate_command, certificate_size, certificate_decoded}
use Rattle.format.specs.CertificateRules.{Row, Certificate, no_certificate, certificate_applied, certificate_instruction_at, read_certificate}
use Rattle.format.specs.Cut.{command_of, Whole}
use Rattle.format.specs.Permuted.{Permuted, none, same, exchanged, then}
use Rattle.format.specs.RowOrder.{EntryCommand, RowRun, IsRow, run_bytes, rows_bytes, in_order, HeaderCommand, OtherOrder, rows_at}
use Rattle.format.proofs.Fold.{refusal_of, applied, read_commands, read_fold}
use Rattle.format.proofs.RowReading.{row_commands, RowPasses, RowsPass, step_passed, passed_step, not_end, rows_read, read_rows}

-- ---- what holds of each element, and their number, do not depend on the order
pub permuted_all : {A : Type 0} (P : A → Type 0) {l l' : List A} → Permuted l l' → All P l → All P l'
unfolding All
permuted_all P none h = tt
permuted_all P (same q) h = (h.0, permuted_all P q h.1)
permuted_all P exchanged h = (h.1.0, (h.0, h.1.1))
permuted_all P (then q r) h = permuted_all P r (permuted_all P q h)

pub permuted_length : {A : Type 0} {l l' : List A} → Permuted l l' → length l' ≡ length l
permuted_length none = refl
permuted_length (same q) = rw (permuted_length q)
permuted_length exchanged = refl
permuted_length (then q r) = permuted_length r ∙ permuted_length q

pub permuted_back : {A : Type 0} {l l' : List A} → Permuted l l' → Permuted l' l
permuted_back none = none
permuted_back (same q) = same (permuted_back q)
permuted_back exchanged = exchanged
permuted_back (then q r) = then (permuted_back r) (permuted_back q)

pub other_back : {s t : List ℕ} → OtherOrder s t → OtherOrder t s
other_back o = record {
  header = o.header;
  rows = o.others;
  others = o.rows;
  headed = o.headed;
  each = permuted_all IsRow o.order o.each;
  order = permuted_back o.order;
  first = o.second;
  second = o.first;
}

passes_permuted : (p : Problem) (n : ℕ) {rows others : List RowRun} → Permuted rows others → RowsPass p n rows
    → RowsPass p n others
passes_permuted p n q h =
    let m = permuted_length q in
    let few = h.few in
    record { each = permuted_all (RowPasses p) q h.each; few = omega arith }

-- ---- the commands of such a stream
pub flatten_append : {A : Type 0} (l k : List (List A)) → flatten (l ++ k) ≡ flatten l ++ flatten k
unfolding flatten
flatten_append [] k = refl
flatten_append (a ∷ l) k = rw (flatten_append l k) (sym (append_assoc a (flatten l) (flatten k)))

pub rows_bytes_lem : (rows : List RowRun) → flatten (row_commands rows) ≡ rows_bytes rows ++ (0x13 ∷ [])
unfolding flatten row_commands rows_bytes
rows_bytes_lem [] = refl
rows_bytes_lem (r ∷ rows) =
    rw (flatten_append r.entries (row_commands rows), rows_bytes_lem rows, append_assoc (r.begin ++ flatten r.entries) (rows_bytes rows) (0x13 ∷ []), append_assoc r.begin (flatten r.entries) (rows_bytes rows ++ (0x13 ∷ [])))

entries_whole : (es rest : List (List ℕ)) → All EntryCommand es → All Whole rest → All Whole (es ++ rest)
unfolding All
entries_whole [] rest h w = w
entries_whole (e ∷ es) rest h w = (h.0.whole, entries_whole es rest h.1 w)

rows_whole : (rows : List RowRun) → All IsRow rows → All Whole (row_commands rows)
unfolding All row_commands certificate_command
rows_whole [] h = (record { some = omega arith; long = refl }, tt)
rows_whole (r ∷ rows) h = (h.0.whole, entries_whole r.entries (row_commands rows) h.0.entries (rows_whole rows h.1))

-- ---- the header
pub header_applied : (h : List ℕ) → command_of h ≡ C.Header → (applied no_certificate 0 h).rows ≡ []
unfolding applied certificate_applied
header_applied h = go (command_of h)
  where
    go : (k : Command) → k ≡ C.Header → (certificate_applied no_certificate (certificate_decoded k h 0) 0).rows ≡ []
    go k e = rw e

module _ (p : Problem) (header : List ℕ) (headed : HeaderCommand header) where
  long : length header ≡ 10
  long = headed.whole.long ∙ rw headed.header

  -- what was read after it
  abbrev start : Certificate
  start = applied no_certificate 0 header

  module _ (rows : List RowRun) (each : All IsRow rows) where
    is_fold : read_certificate p (in_order header rows) ≡ read_commands p no_certificate 0 (header ∷ row_commands rows)
    unfolding All flatten
    is_fold = rw (← (rows_bytes_lem rows)) (read_fold p (header ∷ row_commands rows) (headed.whole, rows_whole rows each))

    goes : eqb (get_or header 0 0) 0x13 ≡ false
    goes = let e = headed.header in not_end header (λ f. clash (cc))

    ten : 0 + length header ≡ 10
    ten = omega (arith, long)

    record Read (d : Certificate) : Type 0 where
      passed : refusal_of p no_certificate 0 header ≡ 0
      pass : RowsPass p (length start.rows) rows

    -- where it reads, the header and all rows pass
    read_passes : (d : Certificate) → read_certificate p (in_order header rows) ≡ given d → Read d
    read_passes d h =
        let f = sym is_fold ∙ h in
        let v = passed_step p no_certificate 0 header (row_commands rows) d f in
        let k = rw ten at (sym (step_passed p no_certificate 0 header (row_commands rows) goes v) ∙ f) in
        record {
          passed = v;
          pass = read_rows p start 10 rows d (omega arith) (rw (header_applied header headed.header) (omega arith)) each k;
        }

    -- and where they pass, it reads
    passes_read : refusal_of p no_certificate 0 header ≡ 0 → RowsPass p (length start.rows) rows
        → read_certificate p (in_order header rows) ≡ given (record { header = start.header; rows = rows_at 10 rows })
    passes_read v q =
        let e = rows_read p start 10 rows (omega arith) each q in
        is_fold
        ∙ step_passed p no_certificate 0 header (row_commands rows) goes v
        ∙ rw (ten, e, header_applied header headed.header)

  -- a stream in this form that reads gives its rows, each where it stands
  pub form_given : (rows : List RowRun) → All IsRow rows → (c : Certificate) → read_certificate p (in_order header rows)
      ≡ given c
      → c.rows ≡ rows_at 10 rows
  form_given rows each c h =
      let k = read_passes rows each c h in
      let e = sym h ∙ passes_read rows each k.passed k.pass in
      let f : c ≡ record { header = start.header; rows = rows_at 10 rows } = cc in
      ap (λ (x : Certificate). x.rows) f

  -- so does every other order of its runs, with the same header
  pub form_permuted : (rows others : List RowRun) → All IsRow rows → Permuted rows others → (c : Certificate)
      → read_certificate p (in_order header rows) ≡ given c
      → read_certificate p (in_order header others) ≡ given (record { header = c.header; rows = rows_at 10 others })
  form_permuted rows others each q c h =
      let k = read_passes rows each c h in
      let e = sym h ∙ passes_read rows each k.passed k.pass in
      let f : c ≡ record { header = start.header; rows = rows_at 10 rows } = cc in
      rw f (passes_read others (permuted_all IsRow q each) k.passed (passes_permuted p (length start.rows) q k.pass))

-- ---- request 14: every order reads, and gives the rows in that order
pub record OrderRead (p : Problem) {s t : List ℕ} (o : OtherOrder s t) (c : Certificate) : Type 0 where
  pub other : Certificate
  pub read : read_certificate p t ≡ given other
  pub header : other.header ≡ c.header
  pub rows : c.rows ≡ rows_at 10 o.rows
  pub others : other.rows ≡ rows_at 10 o.others

pub order_read : (p : Problem) {s t : List ℕ} (o : OtherOrder s t) (c : Certificate) → read_certificate p s ≡ given c
    → OrderRead p o c
order_read p o c h =
    let e = rw o.first at h in
    record {
      other = record { header = c.header; rows = rows_at 10 o.others };
      read = rw o.second (form_permuted p o.header o.headed o.rows o.others o.each o.order c e);
      header = refl;
      rows = form_given p o.header o.headed o.rows o.each c e;
      others = refl;
    }
