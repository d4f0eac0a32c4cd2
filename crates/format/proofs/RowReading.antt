-- How the runs of rows are read: each is refused or taken by itself, but for the number of rows, and gives its row.
use mathlib.Core.Path.{◌≡◌, refl, sym, ap, ◌∙◌}
use mathlib.Core.Bool.{Bool, true, false, cond, not, ◌&&◌}
use mathlib.Core.List.{List, [], ◌∷◌, ◌++◌, flatten, append-nil, append_assoc}
use Prim.Native.Nat.{ℕ, zero, suc, ◌+◌, ◌-◌, ◌≤◌, ◌<◌}
use native.Mathlib.Omega.{arith}
use lib.Dec.{eqb, leb, ltb}
use lib.IntN.{ℤ}
use lib.ListN.{length, get_or, set, length-append}
use lib.Seq.{set_at}
use borrow.Author.Tests.{lt-ltb, le-ltb, lt-leb, leb-false, ne_eqb, eqb-true}
use Rattle.counting.proofs.Cases.{clash}
use Rattle.format.specs.All.{All}
use Rattle.format.specs.Commands.{Outcome, refused, given, first_refusal}
use Rattle.format.specs.ProblemRules.{Problem, nonzero}
use Rattle.format.specs.ProblemBases.{basis_of}
use Rattle.format.specs.declared.certificate.Command.{Command}
use Rattle.format.specs.declared.certificate.Command.TheVariants as C
use Rattle.format.specs.declared.certificate.Instruction.{Instruction}
use Rattle.format.specs.declared.certificate.Header.{Header}
use Rattle.format.specs.CertificateLayout.{certificate_command, certificate_decoded}
use Rattle.format.specs.CertificateRules.{Entry, Row, Certificate, no_certificate, last_row, certificate_placed, certificate_operands_fit, rises, certificate_repeated, most_rows, certificate_full, with_entry, certificate_applied, certificate_instruction_at}
use Rattle.format.specs.Cut.{command_of, Whole}
use Rattle.format.specs.RowOrder.{begins_row, is_entry, EntryCommand, RowRun, IsRow, run_bytes, entry_by, entries_at, basis_by, row_by, row_at, rows_at}
use Rattle.format.proofs.Run.{Passes, passes}
use Rattle.format.proofs.CertificateChecks.{last_append}
use Rattle.format.proofs.Fold.{refusal_of, applied, ended_by, read_commands}

-- ---- one command of the fold
pub refused_not : (n at : ℕ) (d : Certificate) → refused n at ≡ given d → ⊥
refused_not n at d h = clash (cc)

module _ (p : Problem) (c : Certificate) (at : ℕ) (r : List ℕ) (rs : List (List ℕ)) where
  -- where it is read, it passes
  pub passed_step : (d : Certificate) → read_commands p c at (r ∷ rs) ≡ given d → refusal_of p c at r ≡ 0
  unfolding read_commands
  passed_step d h = go (refusal_of p c at r) refl h
    where
      go : (n : ℕ) → refusal_of p c at r ≡ n
          → cond (ltb 0 n) (refused n at) (cond (eqb (get_or r 0 0) 0x13) (ended_by c at rs) (read_commands p (applied c at r) (at + length r) rs)) ≡ given d
          → refusal_of p c at r ≡ 0
      go zero e h = e
      go (suc n) e h = absurd (refused_not (suc n) at d (rw (lt-ltb 0 (suc n) (omega arith)) at h))

  pub step_ended : refusal_of p c at r ≡ 0 → eqb (get_or r 0 0) 0x13 ≡ true → read_commands p c at (r ∷ rs)
      ≡ ended_by c at rs
  unfolding read_commands
  step_ended h e = rw (h, e)

  pub step_passed : eqb (get_or r 0 0) 0x13 ≡ false → refusal_of p c at r ≡ 0
      → read_commands p c at (r ∷ rs) ≡ read_commands p (applied c at r) (at + length r) rs
  unfolding read_commands
  step_passed goes h = rw (h, goes)

-- the end command's byte is that of no other command
pub not_end : (r : List ℕ) → (command_of r ≡ C.End → ⊥) → eqb (get_or r 0 0) 0x13 ≡ false
unfolding certificate_command
not_end r h = ne_eqb (get_or r 0 0) 0x13 (λ e. h (rw e))

-- ---- the command that begins a row: its operands, and the number of rows
row_refusal : Problem → ℕ → Instruction → ℕ
row_refusal p n i = first_refusal true true (certificate_operands_fit p no_certificate i) false (leb most_rows n)

-- an entry: its operands, and the indices before it in its row
entry_refusal : Problem → ℕ → List Entry → Entry → ℕ
entry_refusal p j es e = first_refusal true true (ltb e.index (length (basis_of p j)) && nonzero e.factor) (not (rises es e.index)) false

-- what was read, with a row begun last
abbrev begun : Header → List Row → Row → Certificate
begun h rs r = record { header = h; rows = rs ++ (r ∷ []) }

module _ (p : Problem) (at : ℕ) (r : List ℕ) (behind : 0 < at) where
  abbrev i : Instruction
  i = certificate_instruction_at r 0

  module _ (c : Certificate) where
    begin_refusal : begins_row (command_of r) ≡ true → refusal_of p c at r ≡ row_refusal p (length c.rows) i
    unfolding refusal_of row_refusal
    begin_refusal = go (command_of r)
      where
        go : (k : Command) → begins_row k ≡ true
            → first_refusal (certificate_placed c at k) true (certificate_operands_fit p c (certificate_decoded k r 0)) (certificate_repeated c (certificate_decoded k r 0)) (certificate_full c (certificate_decoded k r 0))
            ≡ first_refusal true true (certificate_operands_fit p no_certificate (certificate_decoded k r 0)) false (leb most_rows (length c.rows))
        go C.Header h = clash (cc)
        go C.Row h = rw (lt-ltb 0 at behind)
        go C.Entry h = clash (cc)
        go C.End h = clash (cc)
        go C.Unknown h = clash (cc)
        go C.EqualityRow h = rw (lt-ltb 0 at behind)
        go C.WideEntry h = clash (cc)

    begin_applied : begins_row (command_of r) ≡ true → applied c at r ≡ begun c.header c.rows (row_by i [])
    unfolding applied certificate_applied
    begin_applied = go (command_of r)
      where
        go : (k : Command) → begins_row k ≡ true
            → certificate_applied c (certificate_decoded k r 0) at
            ≡ begun c.header c.rows (row_by (certificate_decoded k r 0) [])
        go C.Header h = clash (cc)
        go C.Row h = refl
        go C.Entry h = clash (cc)
        go C.End h = clash (cc)
        go C.Unknown h = clash (cc)
        go C.EqualityRow h = refl
        go C.WideEntry h = clash (cc)

  module _ (h : Header) (rs : List Row) (row : Row) where
    some_rows : 0 < length (rs ++ (row ∷ []))
    some_rows = omega (arith, length-append rs (row ∷ []))

    entry_refusal_lem : is_entry (command_of r) ≡ true
        → refusal_of p (begun h rs row) at r ≡ entry_refusal p row.basis row.entries (entry_by i at)
    unfolding refusal_of entry_refusal
    entry_refusal_lem = go (command_of r)
      where
        go : (k : Command) → is_entry k ≡ true
            → first_refusal (certificate_placed (begun h rs row) at k) true (certificate_operands_fit p (begun h rs row) (certificate_decoded k r 0)) (certificate_repeated (begun h rs row) (certificate_decoded k r 0)) (certificate_full (begun h rs row) (certificate_decoded k r 0))
            ≡ (let e = entry_by (certificate_decoded k r 0) at in first_refusal true true (ltb e.index (length (basis_of p row.basis)) && nonzero e.factor) (not (rises row.entries e.index)) false)
        go C.Header e = clash (cc)
        go C.Row e = clash (cc)
        go C.Entry e = rw (last_append rs row, lt-ltb 0 at behind, lt-ltb 0 (length (rs ++ (row ∷ []))) some_rows)
        go C.End e = clash (cc)
        go C.Unknown e = clash (cc)
        go C.EqualityRow e = clash (cc)
        go C.WideEntry e = rw (last_append rs row, lt-ltb 0 at behind, lt-ltb 0 (length (rs ++ (row ∷ []))) some_rows)

    -- one more entry of the row begun last
    last_entry : (e : Entry)
        → set (rs ++ (row ∷ [])) (length (rs ++ (row ∷ [])) - 1) (with_entry (last_row (rs ++ (row ∷ []))) e)
        ≡ rs ++ (with_entry row e ∷ [])
    last_entry e =
        let n = length-append rs (row ∷ []) in
        let m : length rs ≡ length (rs ++ (row ∷ [])) - 1 = omega arith in
        rw (last_append rs row) (set_at rs row [] (with_entry row e) _ m)

    entry_applied : is_entry (command_of r) ≡ true
        → applied (begun h rs row) at r ≡ begun h rs (with_entry row (entry_by i at))
    unfolding applied certificate_applied
    entry_applied = go (command_of r)
      where
        go : (k : Command) → is_entry k ≡ true
            → certificate_applied (begun h rs row) (certificate_decoded k r 0) at
            ≡ begun h rs (with_entry row (entry_by (certificate_decoded k r 0) at))
        go C.Header e = clash (cc)
        go C.Row e = clash (cc)
        go C.Entry e = rw (last_entry (entry_by (certificate_decoded C.Entry r 0) at))
        go C.End e = clash (cc)
        go C.Unknown e = clash (cc)
        go C.EqualityRow e = clash (cc)
        go C.WideEntry e = rw (last_entry (entry_by (certificate_decoded C.WideEntry r 0) at))

begins_goes : (r : List ℕ) → begins_row (command_of r) ≡ true → eqb (get_or r 0 0) 0x13 ≡ false
begins_goes r h = not_end r (λ e. clash (cc))

entry_goes : (r : List ℕ) → is_entry (command_of r) ≡ true → eqb (get_or r 0 0) 0x13 ≡ false
entry_goes r h = not_end r (λ e. clash (cc))

-- ---- the entries of a row: what they meet does not depend on where they stand
pub rises_moved : (a b : ℕ) (es : List (List ℕ)) (i : ℕ) → rises (entries_at a es) i ≡ rises (entries_at b es) i
unfolding entries_at
rises_moved a b [] i = refl
rises_moved a b (e ∷ []) i = refl
rises_moved a b (e ∷ f ∷ es) i = rises_moved (a + length e) (b + length e) (f ∷ es) i

entries_append : (a : ℕ) (es : List (List ℕ)) (e : List ℕ)
    → entries_at a (es ++ (e ∷ []))
    ≡ entries_at a es ++ (entry_by (certificate_instruction_at e 0) (a + length (flatten es)) ∷ [])
unfolding entries_at flatten
entries_append a [] e = let z : a + 0 ≡ a = omega arith in rw z
entries_append a (f ∷ es) e =
    let z : a + length f + length (flatten es) ≡ a + (length f + length (flatten es)) = omega arith in
    rw (entries_append (a + length f) es e, z, length-append f (flatten es))

-- they pass, in a row on basis j, behind some entries of it
EntriesPass : Problem → ℕ → List (List ℕ) → List (List ℕ) → Type 0
EntriesPass p j done [] = Unit {0}
EntriesPass p j done (e ∷ es) =
    (entry_refusal p j (entries_at 0 done) (entry_by (certificate_instruction_at e 0) 0) ≡ 0) × EntriesPass p j (done ++ (e ∷ [])) es

module _ (p : Problem) (h : Header) (rs : List Row) (i : Instruction) (a : ℕ) where
  -- the row begun last, with the entries so far
  abbrev sofar : List (List ℕ) → Certificate
  sofar done = begun h rs (row_by i (entries_at a done))

  module _ (done : List (List ℕ)) (e : List ℕ) (is : EntryCommand e) where
    abbrev here : ℕ
    here = a + length (flatten done)

    refusal_here : 0 < here → refusal_of p (sofar done) here e
        ≡ entry_refusal p (basis_by i) (entries_at 0 done) (entry_by (certificate_instruction_at e 0) 0)
    refusal_here b =
        entry_refusal_lem p here e b h rs (row_by i (entries_at a done)) is.entry
        ∙ (unfold entry_refusal in rw (rises_moved a 0 done (entry_by (certificate_instruction_at e 0) 0).index))

    applied_here : 0 < here → applied (sofar done) here e ≡ sofar (done ++ (e ∷ []))
    applied_here b =
        entry_applied p here e b h rs (row_by i (entries_at a done)) is.entry ∙ rw (entries_append a done e)

  length_more : (done : List (List ℕ)) (e : List ℕ) → length (flatten (done ++ (e ∷ [])))
      ≡ length (flatten done) + length e
  unfolding flatten
  length_more [] e = rw (append-nil e) (omega arith)
  length_more (f ∷ done) e = rw (length-append f, length-append f, length_more done e) (omega arith)

  entries_taken : (done es rest : List (List ℕ)) → 0 < a → All EntryCommand es → EntriesPass p (basis_by i) done es
      → read_commands p (sofar done) (a + length (flatten done)) (es ++ rest)
      ≡ read_commands p (sofar (done ++ es)) (a + length (flatten done) + length (flatten es)) rest
  unfolding EntriesPass All flatten
  entries_taken done [] rest b w q =
      let z : a + length (flatten done) + 0 ≡ a + length (flatten done) = omega arith in rw (z, append-nil done)
  entries_taken done (e ∷ es) rest b w q =
      let n = length_more done e in
      let z : a + (length (flatten done) + length e) ≡ a + length (flatten done) + length e = omega arith in
      let y : a + length (flatten done) + length e + length (flatten es) ≡ a + length (flatten done) + (length e + length (flatten es)) = omega arith in
      step_passed p (sofar done) (a + length (flatten done)) e (es ++ rest) (entry_goes e w.0.entry) (refusal_here done e w.0 (omega arith) ∙ q.0)
      ∙ rw (applied_here done e w.0 (omega arith), length-append e (flatten es), ← y)
      (rw (n, z, append_assoc done (e ∷ []) es) at (entries_taken (done ++ (e ∷ [])) es rest b w.1 q.1))

  taken_entries : (done es rest : List (List ℕ)) (d : Certificate) → 0 < a → All EntryCommand es
      → read_commands p (sofar done) (a + length (flatten done)) (es ++ rest) ≡ given d
      → EntriesPass p (basis_by i) done es
  unfolding EntriesPass All flatten
  taken_entries done [] rest d b w q = tt
  taken_entries done (e ∷ es) rest d b w q =
      let n = length_more done e in
      let z : a + (length (flatten done) + length e) ≡ a + length (flatten done) + length e = omega arith in
      let goes = entry_goes e w.0.entry in
      let v = passed_step p (sofar done) (a + length (flatten done)) e (es ++ rest) d q in
      let k = sym (step_passed p (sofar done) (a + length (flatten done)) e (es ++ rest) goes v) ∙ q in (
        sym (refusal_here done e w.0 (omega arith)) ∙ v,
        taken_entries (done ++ (e ∷ [])) es rest d b w.1 (rw (n, z) (rw (applied_here done e w.0 (omega arith)) at k)),
      )

-- ---- the rows: the commands of their runs, and the end command
unfoldable pub row_commands : List RowRun → List (List ℕ)
row_commands [] = (0x13 ∷ []) ∷ []
row_commands (r ∷ rs) = r.begin ∷ (r.entries ++ row_commands rs)

-- a row passes by itself
pub record RowPasses (p : Problem) (r : RowRun) : Type 0 where
  begins : certificate_operands_fit p no_certificate (certificate_instruction_at r.begin 0) ≡ true
  entries : EntriesPass p (basis_by (certificate_instruction_at r.begin 0)) [] r.entries

pub record RowsPass (p : Problem) (n : ℕ) (rows : List RowRun) : Type 0 where
  pub each : All (RowPasses p) rows
  pub few : n + length rows ≤ most_rows

abbrev with_rows : Certificate → List Row → Certificate
with_rows c rs = record { header = c.header; rows = c.rows ++ rs }

row_refusal_0 : (p : Problem) (n : ℕ) (i : Instruction) → certificate_operands_fit p no_certificate i ≡ true
    → n < most_rows → row_refusal p n i ≡ 0
unfolding row_refusal first_refusal
row_refusal_0 p n i e h = rw (e, lt-leb most_rows n h)

row_refusal_passes : (p : Problem) (n : ℕ) (i : Instruction) → row_refusal p n i ≡ 0
    → (certificate_operands_fit p no_certificate i ≡ true) × (n < most_rows)
unfolding row_refusal
row_refusal_passes p n i h =
    let q = passes true true (certificate_operands_fit p no_certificate i) false (leb most_rows n) h in
    (q.allowed, leb-false most_rows n q.full)

end_read : (p : Problem) (c : Certificate) (at : ℕ) → 0 < at → read_commands p c at ((0x13 ∷ []) ∷ []) ≡ given c
unfolding read_commands refusal_of first_refusal certificate_command
end_read p c at h = rw (lt-ltb 0 at h)

module _ (p : Problem) where
  -- a row begun, and its entries
  module _ (c : Certificate) (at : ℕ) (b : 0 < at) (r : RowRun) (is : IsRow r) (rest : List (List ℕ)) where
    abbrev k : Instruction
    k = certificate_instruction_at r.begin 0

    abbrev after : ℕ
    after = at + length r.begin

    begin_read : row_refusal p (length c.rows) k ≡ 0
        → read_commands p c at (r.begin ∷ (r.entries ++ rest))
        ≡ read_commands p (sofar p c.header c.rows k after []) (after + length (flatten {A = ℕ} [])) (r.entries ++ rest)
    unfolding flatten entries_at
    begin_read v =
        let z : after + 0 ≡ after = omega arith in
        step_passed p c at r.begin (r.entries ++ rest) (begins_goes r.begin is.begins) (begin_refusal p at r.begin b c is.begins ∙ v)
        ∙ rw (begin_applied p at r.begin b c is.begins, z)

    row_read : RowPasses p r → length c.rows < most_rows
        → read_commands p c at (r.begin ∷ (r.entries ++ rest))
        ≡ read_commands p (with_rows c (row_at at r ∷ [])) (at + length (run_bytes r)) rest
    unfolding flatten row_at
    row_read q n =
        let z : after + 0 + length (flatten r.entries) ≡ at + (length r.begin + length (flatten r.entries)) = omega arith in
        begin_read (row_refusal_0 p (length c.rows) k q.begins n)
        ∙ entries_taken p c.header c.rows k after [] r.entries rest (omega arith) is.entries q.entries
        ∙ rw (z, length-append r.begin (flatten r.entries))

    read_row : (d : Certificate) → read_commands p c at (r.begin ∷ (r.entries ++ rest)) ≡ given d
        → RowPasses p r × (length c.rows < most_rows)
    read_row d h =
        let v = sym (begin_refusal p at r.begin b c is.begins) ∙ passed_step p c at r.begin (r.entries ++ rest) d h in
        let q = row_refusal_passes p (length c.rows) k v in (
          record {
            begins = q.0;
            entries = taken_entries p c.header c.rows k after [] r.entries rest d (omega arith) is.entries (sym (begin_read v) ∙ h);
          },
          q.1,
        )

  -- where all pass, the stream reads, and gives the rows
  pub rows_read : (c : Certificate) (at : ℕ) (rows : List RowRun) → 0 < at → All IsRow rows
      → RowsPass p (length c.rows) rows
      → read_commands p c at (row_commands rows) ≡ given (with_rows c (rows_at at rows))
  unfolding All row_commands rows_at
  rows_read c at [] b w q = rw (append-nil c.rows) (end_read p c at b)
  rows_read c at (r ∷ rows) b w q =
      let few = q.few in
      let n = length-append c.rows (row_at at r ∷ []) in
      row_read c at b r w.0 (row_commands rows) q.each.0 (omega arith)
      ∙ rows_read (with_rows c (row_at at r ∷ [])) (at + length (run_bytes r)) rows (omega arith) w.1
      (record { each = q.each.1; few = omega arith })
      ∙ rw (append_assoc c.rows (row_at at r ∷ []) (rows_at (at + length (run_bytes r)) rows))

  -- and where it reads, all pass
  pub read_rows : (c : Certificate) (at : ℕ) (rows : List RowRun) (d : Certificate) → 0 < at
      → length c.rows ≤ most_rows
      → All IsRow rows → read_commands p c at (row_commands rows) ≡ given d → RowsPass p (length c.rows) rows
  unfolding All row_commands
  read_rows c at [] d b m w h = record { each = tt; few = omega arith }
  read_rows c at (r ∷ rows) d b m w h =
      let q = read_row c at b r w.0 (row_commands rows) d h in
      let n = length-append c.rows (row_at at r ∷ []) in
      let more = sym (row_read c at b r w.0 (row_commands rows) q.0 q.1) ∙ h in
      let i = read_rows (with_rows c (row_at at r ∷ [])) (at + length (run_bytes r)) rows d (omega arith) (omega arith) w.1 more in
      let few = i.few in
      record { each = (q.0, i.each); few = omega arith }
