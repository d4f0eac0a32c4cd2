-- One more than a count allows is refused with 6, and a monomial twice or an index that does not rise with 5, behind
-- every legal problem and certificate.
use mathlib.Core.Path.{◌≡◌, refl, sym, ap, ◌∙◌}
use mathlib.Core.Bool.{true, not}
use mathlib.Core.List.{List, [], ◌∷◌, ◌++◌}
use Prim.Native.Nat.{ℕ, suc, ◌+◌, ◌-◌, ◌*◌, ◌^◌, ◌≤◌, ◌<◌}
use native.Mathlib.Omega.{arith}
use lib.Dec.{ltb}
use lib.IntN.{ℤ, pos}
use lib.ListN.{length, length-append}
use lib.Seq.{get_or_at}
use borrow.Author.Tests.{le-leb, lt-ltb, le-ltb}
use Rattle.polynomial.specs.Monomial.{degree}
use Rattle.polynomial.proofs.Monomials.{key_low}
use Rattle.format.specs.Commands.{first_refusal}
use Rattle.format.specs.declared.problem.Instruction.{Instruction as ProblemInstruction}
use Rattle.format.specs.declared.problem.Instruction.TheVariants as P
use Rattle.format.specs.declared.certificate.Instruction.{Instruction as CertificateInstruction}
use Rattle.format.specs.declared.certificate.Instruction.TheVariants as I
use Rattle.format.specs.ProblemRules.{Condition, Problem, no_condition, last_condition, fitting, read_problem}
use Rattle.format.specs.ProblemBases.{basis_of}
use Rattle.format.specs.CertificateRules.{Entry, Row, Certificate, last_row, rises, read_certificate}
use Rattle.format.proofs.CertificateChecks.{last_append}
use Rattle.written.specs.Legal.{Legal, LegalCertificate}
use Rattle.written.specs.ProblemWritten.{problem_bytes, head_commands, body_commands, open_problem}
use Rattle.written.specs.CertificateWritten.{certificate_bytes, header_command, entry_command, open_certificate, placed_entries, placed_row, row_end, placed_rows, placed}
use Rattle.written.specs.CommandOrder.{Head}
use Rattle.written.specs.OneMore.{Monomial, Refuses, OneMoreRefused, RefusesRow, OneMoreRowRefused}
use Rattle.written.proofs.OneLess.{not_nonzero}
use Rattle.written.proofs.ProblemSteps as ProblemSteps
use Rattle.written.proofs.ProblemOrders.{commands_read, commands_some}
use Rattle.written.proofs.ProblemRoundTrip.{problem_commands_lem, head_is, body_placed}
use Rattle.written.proofs.CertificateSteps as CertificateSteps
use Rattle.written.proofs.CertificateRoundTrip as CertificateReading

-- ---- problems
module _ (p : Problem) (legal : Legal p) where
  abbrev front : List ℕ
  front = open_problem p

  headed : Head (head_commands p)
  headed = head_is p.variables p.rule p.order

  open_some : 0 < length front
  unfolding open_problem
  open_some =
      commands_some (head_commands p) (body_commands p) headed (body_placed p legal) (rw (problem_commands_lem p legal) legal)

  -- one more command: its own checks
  module _ (x : ProblemInstruction) (sized : ProblemSteps.Sized x) (number : ℕ) (some : 0 < number)
      (checks : (s : List ℕ) → ProblemSteps.refusal_of p s (length front) x ≡ number) where
    refused_here : Refuses p number x
    unfolding open_problem
    refused_here rest =
        let s = front ++ (problem_bytes x ++ rest) in
        let e = problem_commands_lem p legal in
        let left =
        rw e at (commands_read (head_commands p) (body_commands p) headed (body_placed p legal) (rw e legal) s
        (problem_bytes x ++ rest) refl) in
        let c = checks s in
        sym (rw c at (ProblemSteps.written_refused s front rest x refl sized (read_problem s) p left (rw c some)))

  fits : (d k : ℕ) → Monomial p.variables d k → fitting p.variables d k ≡ true
  unfolding fitting
  fits d k m = rw (le-leb (degree k) d m.degree) m.variables

  low : (d k : ℕ) → Monomial p.variables d k → k ≤ d * 2 ^ 56
  low d k m = key_low p.variables d k legal.variables.1 m.degree m.variables

  last_is : (gs : List Condition) (g : Condition) → p.conditions ≡ gs ++ (g ∷ []) → last_condition p.conditions ≡ g
  last_is gs g e =
      let n = length-append gs (g ∷ []) in
      let z : length (gs ++ (g ∷ [])) - 1 ≡ length gs = omega arith in
      rw (e, z) (get_or_at gs g [] no_condition (length gs) refl)

  last_some : (gs : List Condition) (g : Condition) → p.conditions ≡ gs ++ (g ∷ [])
      → ltb 0 (length p.conditions) ≡ true
  last_some gs g e = rw e (lt-ltb 0 (length (gs ++ (g ∷ []))) (omega (arith, length-append gs (g ∷ []))))

  pub one_more_refused : OneMoreRefused p
  unfolding ProblemSteps.refusal_of first_refusal basis_of
  one_more_refused =
      let b = lt-ltb 0 (length front) open_some in
      record {
        objective = λ h k c t a.
            refused_here (P.Objective k c) (omega (arith, low 32 k t.monomial), t.bits) 6 (omega arith)
            (λ s. rw (b, fits 32 k t.monomial, not_nonzero c t.nonzero, a, h));
        inequality = λ h. refused_here P.Inequality tt 6 (omega arith) (λ s. rw (b, h));
        equality = λ h. refused_here P.Equality tt 6 (omega arith) (λ s. rw (b, h));
        term = λ gs g e h k c t a.
            refused_here (P.Term k c) (omega (arith, low 16 k t.monomial), t.bits) 6 (omega arith)
            (λ s. rw (b, last_some gs g e, fits 16 k t.monomial, not_nonzero c t.nonzero, last_is gs g e, a, h));
        member = λ j n h k m a.
            let few = legal.conditions in
            refused_here (P.Member j k) (omega arith, omega (arith, low 8 k m)) 6 (omega arith)
            (λ s. rw (b, le-leb j (length p.conditions) n, fits 8 k m, a, h));
        objective_twice = λ k c t a.
            refused_here (P.Objective k c) (omega (arith, low 32 k t.monomial), t.bits) 5 (omega arith)
            (λ s. rw (b, fits 32 k t.monomial, not_nonzero c t.nonzero, a));
        term_twice = λ gs g e k c t a.
            refused_here (P.Term k c) (omega (arith, low 16 k t.monomial), t.bits) 5 (omega arith)
            (λ s. rw (b, last_some gs g e, fits 16 k t.monomial, not_nonzero c t.nonzero, last_is gs g e, a));
        member_twice = λ j n k m a.
            let few = legal.conditions in
            refused_here (P.Member j k) (omega arith, omega (arith, low 8 k m)) 5 (omega arith)
            (λ s. rw (b, le-leb j (length p.conditions) n, fits 8 k m, a));
      }

-- ---- certificates: what the places leave as it was
placed_length : (p : Problem) (at : ℕ) (rs : List Row) → length (placed_rows p at rs) ≡ length rs
unfolding placed_rows
placed_length p at [] = refl
placed_length p at (r ∷ rs) = ap suc (placed_length p (row_end p at r) rs)

record LastEntry (at : ℕ) (es : List Entry) (e : Entry) : Type 0 where
  before : List Entry
  place : ℕ
  is : placed_entries at (es ++ (e ∷ []))
      ≡ before ++ (record { index = e.index; factor = e.factor; place = place } ∷ [])

last_entry : (at : ℕ) (es : List Entry) (e : Entry) → LastEntry at es e
unfolding placed_entries
last_entry at [] e = record { before = []; place = at; is = refl }
last_entry at (x ∷ es) e =
    let d = last_entry (at + length (certificate_bytes (entry_command x))) es e in
    let y : Entry = record { index = x.index; factor = x.factor; place = at } in
    record { before = y ∷ d.before; place = d.place; is = ap (λ (l : List Entry). y ∷ l) d.is }

placed_rises : (at : ℕ) (es : List Entry) (e : Entry) (n : ℕ)
    → rises (placed_entries at (es ++ (e ∷ []))) n ≡ ltb e.index n
placed_rises at es e n =
    let d = last_entry at es e in
    let last : Entry = record { index = e.index; factor = e.factor; place = d.place } in
    rw d.is (CertificateReading.rises_last d.before last n)

record LastPlaced (p : Problem) (at : ℕ) (rs : List Row) (r : Row) : Type 0 where
  before : List Row
  place : ℕ
  is : placed_rows p at (rs ++ (r ∷ [])) ≡ before ++ (placed_row p place r ∷ [])

last_placed : (p : Problem) (at : ℕ) (rs : List Row) (r : Row) → LastPlaced p at rs r
unfolding placed_rows
last_placed p at [] r = record { before = []; place = at; is = refl }
last_placed p at (x ∷ rs) r =
    let d = last_placed p (row_end p at x) rs r in
    let y = placed_row p at x in
    record { before = y ∷ d.before; place = d.place; is = ap (λ (l : List Row). y ∷ l) d.is }

module _ (p : Problem) (problem : Legal p) (c : Certificate) (legal : LegalCertificate p c) where
  abbrev behind : List ℕ
  behind = open_certificate p c

  behind_some : 0 < length behind
  unfolding open_certificate
  behind_some = CertificateReading.commands_some p c legal

  module _ (x : CertificateInstruction) (sized : CertificateSteps.Sized x) (number : ℕ) (some : 0 < number)
      (checks : CertificateSteps.refusal_of p (placed p c) (length behind) x ≡ number) where
    refused_row : RefusesRow p c number x
    unfolding open_certificate
    refused_row rest =
        let s = behind ++ (certificate_bytes x ++ rest) in
        let left = CertificateReading.commands_read p c legal problem s (certificate_bytes x ++ rest) refl in
        sym (rw checks at (CertificateSteps.written_refused p s behind rest x refl sized (read_certificate p s)
        (placed p c) left (rw checks some)))

  rows_same : length (placed p c).rows ≡ length c.rows
  unfolding placed
  rows_same = placed_length p _ c.rows

  -- the row begun last, and its last index
  module _ (rs : List Row) (r : Row) (last : c.rows ≡ rs ++ (r ∷ [])) where
    some_rows : 0 < length (placed p c).rows
    some_rows = rw (rows_same, last) (omega (arith, length-append rs (r ∷ [])))

    record LastIs : Type 0 where
      place : ℕ
      is : last_row (placed p c).rows ≡ placed_row p place r

    last_row_lem : LastIs
    unfolding placed
    last_row_lem =
        let d = last_placed p (length (certificate_bytes (header_command c.header))) rs r in
        record { place = d.place; is = rw (last, d.is) (last_append d.before (placed_row p d.place r)) }

    module _ (es : List Entry) (e : Entry) (indices : r.entries ≡ es ++ (e ∷ [])) (n : ℕ) (l : ℤ)
        (under : n ≤ e.index) (inside : n < length (basis_of p r.basis)) (nonzero-l : l ≡ pos 0 → ⊥) where
      not_rising : not (rises (last_row (placed p c).rows).entries n) ≡ true
      not_rising =
          ap (λ (row : Row). not (rises row.entries n)) last_row_lem.is ∙ go _
        where
          go : (at : ℕ) → not (rises (placed_entries at r.entries) n) ≡ true
          go at =
              ap (λ (l : List Entry). not (rises (placed_entries at l) n)) indices
              ∙ rw (placed_rises at es e n, le-ltb e.index n under)

      index_low : n < 256
      index_low = omega (arith, CertificateReading.basis_few p problem r.basis)

      entry_five : CertificateSteps.refusal_of p (placed p c) (length behind) (I.Entry n l) ≡ 5
      unfolding CertificateSteps.refusal_of first_refusal
      entry_five =
          let b = lt-ltb 0 (length behind) behind_some in
          rw (b, lt-ltb 0 _ some_rows, not_rising, last_row_lem.is, lt-ltb n _ inside, not_nonzero l nonzero-l)

      wide_five : CertificateSteps.refusal_of p (placed p c) (length behind) (I.WideEntry n l) ≡ 5
      unfolding CertificateSteps.refusal_of first_refusal
      wide_five =
          let b = lt-ltb 0 (length behind) behind_some in
          rw (b, lt-ltb 0 _ some_rows, not_rising, last_row_lem.is, lt-ltb n _ inside, not_nonzero l nonzero-l)

  pub one_more_row_refused : OneMoreRowRefused p c
  unfolding CertificateSteps.refusal_of first_refusal
  one_more_row_refused =
      let b = lt-ltb 0 (length behind) behind_some in
      let few = problem.conditions in
      record {
        row = λ h j w n k a m.
            refused_row (I.Row j w) (omega arith, m) 6 (omega arith)
            (rw (b, le-leb j (length p.conditions) n, k, le-leb 1 w a, rows_same, h));
        equality_row_lem = λ h j w n k a m.
            refused_row (I.EqualityRow j w) (omega arith, m) 6 (omega arith)
            (rw (b, le-leb j (length p.conditions) n, k, not_nonzero w a, rows_same, h));
        entry = λ rs r q es e i n l u v a m.
            refused_row (I.Entry n l) (index_low rs r q es e i n l u v a, m) 5 (omega arith)
            (entry_five rs r q es e i n l u v a);
        wide_entry_lem = λ rs r q es e i n l u v a m.
            refused_row (I.WideEntry n l) (index_low rs r q es e i n l u v a, m) 5 (omega arith)
            (wide_five rs r q es e i n l u v a);
      }
