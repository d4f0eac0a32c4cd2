-- Every certificate stream that reads is its header, the runs of its rows and its end. So request 14 speaks of all of
-- them: each order of the runs reads, and gives the rows in that order.
use mathlib.Core.Path.{◌≡◌, refl, sym, ap, ◌∙◌}
use mathlib.Core.Bool.{Bool, true, false, cond, ◌&&◌}
use mathlib.Core.List.{List, [], ◌∷◌, ◌++◌, flatten}
use Prim.Native.Nat.{ℕ, zero, suc, ◌+◌, ◌≤◌, ◌<◌}
use native.Mathlib.Omega.{arith}
use lib.Dec.{eqb, ltb}
use lib.ListN.{length, get_or}
use borrow.Author.Tests.{eqb-true, ltb-true}
use Rattle.counting.proofs.Cases.{clash, and_right}
use Rattle.format.specs.All.{All}
use Rattle.format.specs.Commands.{given}
use Rattle.format.specs.ProblemRules.{Problem}
use Rattle.format.specs.declared.certificate.Command.{Command}
use Rattle.format.specs.declared.certificate.Command.TheVariants as C
use Rattle.format.specs.CertificateRules.{Certificate, no_certificate, entry_placed, certificate_placed, read_certificate}
use Rattle.format.specs.Cut.{command_of, Whole, commands_of}
use Rattle.format.specs.Permuted.{Permuted}
use Rattle.format.specs.RowOrder.{begins_row, is_entry, EntryCommand, RowRun, IsRow, in_order, HeaderCommand, OtherOrder, rows_at}
use Rattle.format.proofs.Run.{passes}
use Rattle.format.proofs.Lengths.{certificate_byte}
use Rattle.format.proofs.Cut.{Cuts, read_cuts}
use Rattle.format.proofs.Fold.{refusal_of, applied, ended_by, read_commands, end_length, read_fold}
use Rattle.format.proofs.RowReading.{refused_not, step_ended, step_passed, passed_step, not_end, row_commands}
use Rattle.format.proofs.RowOrder.{rows_bytes_lem, header_applied, OrderRead, order_read}

pub placed : (p : Problem) (c : Certificate) (at : ℕ) (r : List ℕ) → refusal_of p c at r ≡ 0
    → certificate_placed c at (command_of r) ≡ true
unfolding refusal_of
placed p c at r h = (passes _ _ _ _ _ h).placed

-- one byte
one_byte : (r : List ℕ) (b : ℕ) → length r ≡ 1 → get_or r 0 0 ≡ b → r ≡ b ∷ []
one_byte [] b n e = absurd (omega arith)
one_byte (x ∷ []) b n e = rw e
one_byte (x ∷ y ∷ r) b n e = absurd (omega arith)

-- what stands behind a command: further entries of its row, and then rows
record Behind (c : Certificate) (rs : List (List ℕ)) : Type 0 where
  entries : List (List ℕ)
  rows : List RowRun
  is : rs ≡ entries ++ row_commands rows
  further : All EntryCommand entries
  each : All IsRow rows
  none : length c.rows ≡ 0 → entries ≡ []

module _ (p : Problem) where
  -- the end command, with nothing behind it
  behind_end : (c : Certificate) (r : List ℕ) (rs : List (List ℕ)) (at : ℕ) (d : Certificate) → Whole r → get_or r 0 0
      ≡ 0x13
      → ended_by c at rs ≡ given d → Behind c (r ∷ rs)
  unfolding All row_commands
  behind_end c r [] at d w e h = record {
    entries = [];
    rows = [];
    is = ap (λ (x : List ℕ). x ∷ []) (one_byte r 0x13 (end_length r w e) e);
    further = tt;
    each = tt;
    none = λ z. refl;
  }
  behind_end c r (q ∷ rs) at d w e h = absurd (refused_not _ _ d h)

  -- a command that begins a row, with the entries behind it; and one more entry
  module _ (c : Certificate) (r : List ℕ) (rs : List (List ℕ)) (w : Whole r) (c' : Certificate) (m : Behind c' rs) where
    behind_row : (k : Command) → command_of r ≡ k → begins_row k ≡ true → Behind c (r ∷ rs)
    unfolding All row_commands
    behind_row k e b = record {
      entries = [];
      rows = record { begin = r; entries = m.entries } ∷ m.rows;
      is = ap (λ (x : List (List ℕ)). r ∷ x) m.is;
      further = tt;
      each = (record { whole = w; begins = rw e b; entries = m.further }, m.each);
      none = λ z. refl;
    }

    behind_entry : (k : Command) → command_of r ≡ k → is_entry k ≡ true → 0 < length c.rows → Behind c (r ∷ rs)
    unfolding All
    behind_entry k e b some = record {
      entries = r ∷ m.entries;
      rows = m.rows;
      is = ap (λ (x : List (List ℕ)). r ∷ x) m.is;
      further = (record { whole = w; entry = rw e b }, m.further);
      each = m.each;
      none = λ z. absurd (omega arith);
    }

  behind : (c : Certificate) (at : ℕ) (rs : List (List ℕ)) (d : Certificate) → 0 < at → All Whole rs
      → read_commands p c at rs ≡ given d → Behind c rs
  unfolding All read_commands
  behind c at [] d b w h = absurd (refused_not _ _ d h)
  behind c at (r ∷ rs) d b w h =
      step (behind (applied c at r) (at + length r) rs d (omega arith) w.1) (eqb (get_or r 0 0) 0x13) refl
    where
      some : entry_placed c at ≡ true → 0 < length c.rows
      some q = ltb-true 0 (length c.rows) (and_right (ltb 0 at) _ q)

      more : (k : Command) → command_of r ≡ k → eqb (get_or r 0 0) 0x13 ≡ false → certificate_placed c at k ≡ true
          → Behind (applied c at r) rs → Behind c (r ∷ rs)
      more C.Header e f q m = absurd (omega (arith, eqb-true at 0 q))
      more C.Row e f q m = behind_row c r rs w.0 _ m C.Row e refl
      more C.Entry e f q m = behind_entry c r rs w.0 _ m C.Entry e refl (some q)
      more C.End e f q m = let x = certificate_byte C.End (get_or r 0 0) e (λ z. clash (cc)) in clash (cc)
      more C.Unknown e f q m = clash (cc)
      more C.EqualityRow e f q m = behind_row c r rs w.0 _ m C.EqualityRow e refl
      more C.WideEntry e f q m = behind_entry c r rs w.0 _ m C.WideEntry e refl (some q)

      step : (read_commands p (applied c at r) (at + length r) rs ≡ given d → Behind (applied c at r) rs)
          → (t : Bool) → eqb (get_or r 0 0) 0x13 ≡ t → Behind c (r ∷ rs)
      step next true e =
          let v = passed_step p c at r rs d h in
          behind_end c r rs at d w.0 (eqb-true _ _ e) (sym (step_ended p c at r rs v e) ∙ h)
      step next false e =
          let v = passed_step p c at r rs d h in
          more (command_of r) refl e (placed p c at r v) (next (sym (step_passed p c at r rs e v) ∙ h))

  -- the first command is the header
  pub first_header : (k : Command) → certificate_placed no_certificate 0 k ≡ true → k ≡ C.Header
  first_header C.Header h = refl
  first_header C.Row h = clash (cc)
  first_header C.Entry h = clash (cc)
  first_header C.End h = clash (cc)
  first_header C.Unknown h = clash (cc)
  first_header C.EqualityRow h = clash (cc)
  first_header C.WideEntry h = clash (cc)

-- a stream as its header, the runs of its rows and its end
pub record InRows (s : List ℕ) : Type 0 where
  pub header : List ℕ
  pub rows : List RowRun
  pub headed : HeaderCommand header
  pub each : All IsRow rows
  pub is : s ≡ in_order header rows
  pub commands : commands_of s ≡ header ∷ row_commands rows

module _ (p : Problem) (s : List ℕ) (c : Certificate) (read : read_certificate p s ≡ given c) where
  cut_rows : (rs : List (List ℕ)) → commands_of s ≡ rs → All Whole rs → flatten rs ≡ s
      → read_commands p no_certificate 0 rs ≡ given c → InRows s
  unfolding All read_commands flatten
  cut_rows [] q w e h = absurd (refused_not _ _ c h)
  cut_rows (r ∷ rs) q w e h =
      let v = passed_step p no_certificate 0 r rs c h in
      let k = first_header p (command_of r) (placed p no_certificate 0 r v) in
      let goes = not_end r (λ f. clash (cc)) in
      let z : 0 < 0 + length r = omega (arith, w.0.some) in
      let m = behind p (applied no_certificate 0 r) (0 + length r) rs c z w.1 (sym (step_passed p no_certificate 0 r rs goes v) ∙ h) in
      let f = m.none (rw (header_applied r k)) in
      let i : rs ≡ row_commands m.rows = m.is ∙ rw f in
      record {
        header = r;
        rows = m.rows;
        headed = record { whole = w.0; header = k };
        each = m.each;
        is = sym e ∙ ap (λ (x : List (List ℕ)). r ++ flatten x) i ∙ ap (λ (x : List ℕ). r ++ x) (rows_bytes_lem m.rows);
        commands = q ∙ ap (λ (x : List (List ℕ)). r ∷ x) i;
      }

  -- request 14, of every stream that reads
  pub reads_in_rows : InRows s
  unfolding commands_of
  reads_in_rows =
      let q = read_cuts p s c read in
      let e = q.all in
      cut_rows (commands_of s) refl q.whole e (sym (read_fold p (commands_of s) q.whole) ∙ rw e read)

-- any order of its runs is another order, and so reads
pub other_order : {s : List ℕ} (i : InRows s) (others : List RowRun) → Permuted i.rows others
    → OtherOrder s (in_order i.header others)
other_order i others q = record {
  header = i.header;
  rows = i.rows;
  others = others;
  headed = i.headed;
  each = i.each;
  order = q;
  first = i.is;
  second = refl;
}
