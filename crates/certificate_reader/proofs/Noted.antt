-- What the reader's loop notes of the rows: a row begun, one entry more, and the offsets.
use mathlib.Core.Path.{◌≡◌, refl, ap, ap₂, sym, ◌∙◌}
use mathlib.Core.List.{List, [], ◌∷◌, ◌++◌}
use mathlib.Core.Bool.{true, false}
use mathlib.Core.Logic.{⊎_elim}
use Prim.Native.Nat.{ℕ, zero, suc, ◌+◌, ◌-◌, ◌≤◌, ◌<◌}
use native.Mathlib.Nat.{eq-or-lt_of_le}
use native.Mathlib.Numerals.{add-one}
use native.Mathlib.Omega.{arith}
use lib.Dec.{leb, ltb}
use lib.IntN.{pos}
use lib.ListN.{length, get_or, set, length-set}
use lib.Seq.{get_or-set_same, get_or-set_other}
use borrow.Author.Tests.{leb-true, leb-false, ltb-true, eqb-true}
use Rattle.counting.proofs.Cases.{clash, and_left, and_right}
use Rattle.counting.specs.Counting.{listed}
use Rattle.counting.proofs.Listed.{listed_more, listed_set}
use Rattle.format.specs.declared.certificate.Command.{Command}
use Rattle.format.specs.declared.certificate.Command.TheVariants as C
use Rattle.format.specs.ProblemRules.{Problem}
use Rattle.format.specs.Operands.{number, signed}
use Rattle.format.specs.CertificateLayout.{certificate_size, certificate_decoded}
use Rattle.format.specs.CertificateRules.{Entry, Row, Certificate, no_row, last_row, most_rows, entry_placed, rows_full, with_row, with_entry, entered, certificate_applied, certificate_command_at, certificate_instruction_at, certificate_refusal_at, certificate_next}
use Rattle.format.proofs.Lengths.{certificate_byte}
use Rattle.format.proofs.CertificateChecks.{Passed, passed}
use Rattle.certificate_commands.specs.declared.Progress.{Progress}
use Rattle.certificate_commands.specs.Kept.{progress_of, advanced}
use Rattle.certificate_rows.specs.Offsets.{size_at, entry_at, basis_at, weight_at, entries_from, row_at, rows_by, GivesEntry, by_entry, by_wide, EntriesStand, done, BeginsRow, by_row, by_equality, RowStands, RowsStand}
use Rattle.certificate_commands.proofs.Asked.{rows_are}
use Rattle.certificate_rows.proofs.Offsets.{none_left, stand_is, stand_more, rows_length, row_by}

-- ---- one row: begun, by 11 or by 14, and with one entry more
begins_size : {k : Command} → BeginsRow k → certificate_size k ≡ 4
begins_size by_row = refl
begins_size by_equality = refl

module _ (s : List ℕ) where
  -- its weight is the operand of its command
  weight_row : (at : ℕ) → certificate_command_at s at ≡ C.Row → weight_at s at ≡ pos (number 2 s (at + 2))
  weight_row at e = rw (eqb-true (get_or s at 0) 0x11 (certificate_byte C.Row (get_or s at 0) e (λ u. clash (cc))))

  weight_equality : (at : ℕ) → certificate_command_at s at ≡ C.EqualityRow → weight_at s at ≡ signed 15 (number 2 s (at + 2))
  weight_equality at e = rw (certificate_byte C.EqualityRow (get_or s at 0) e (λ u. clash (cc)))

  module _ (at : ℕ) (e : BeginsRow (certificate_command_at s at)) where
    begun_none : (row_at s at (at + 4)).entries ≡ []
    begun_none = rw (begins_size e) (none_left s (at + 4 - at) (at + 4))

    row_begun : at + 4 ≤ length s → RowStands s at (at + 4)
    row_begun h = record { command = e; entries = rw begun_none done; inside = h }

  module _ (from at : ℕ) (k : RowStands s from at) (e : GivesEntry (certificate_command_at s at)) where
    abbrev longer : List Entry
    longer = (row_at s from at).entries ++ (entry_at s at ∷ [])

    abbrev after : ℕ
    after = at + size_at s at

    stand_longer : EntriesStand s after (from + 4) longer
    stand_longer = stand_more k.entries e

    entries_longer : (row_at s from after).entries ≡ longer
    entries_longer =
        ap (λ (n : ℕ). entries_from (after - from) s after (from + n)) (begins_size k.command)
        ∙ stand_is stand_longer (after - from) (omega arith)

    row_longer : after ≤ length s → RowStands s from after
    row_longer h = record { command = k.command; entries = rw entries_longer stand_longer; inside = h }

    row_entry : row_at s from after ≡ with_entry (row_at s from at) (entry_at s at)
    row_entry = rw entries_longer

-- ---- all rows: the last offset stored anew
module _ (s starts : List ℕ) (n x : ℕ) where
  rows_begun : n + 1 < length starts → rows_by s (set starts (n + 1) x) (n + 1) ≡ rows_by s starts n ++ (row_at s (get_or starts n 0) x ∷ [])
  unfolding rows_by
  rows_begun h =
      listed_more n _ _ _
      (λ i l. rw (get_or-set_other starts (n + 1) i x 0 (λ q. omega arith), get_or-set_other starts (n + 1) (i + 1) x 0 (λ q. omega arith)))
      (rw (get_or-set_other starts (n + 1) n x 0 (λ q. omega arith), get_or-set_same starts (n + 1) x 0 h))

  rows_longer : n + 1 < length starts → rows_by s (set starts (n + 1) x) (n + 1) ≡ set (rows_by s starts (n + 1)) n (row_at s (get_or starts n 0) x)
  unfolding rows_by
  rows_longer h =
      listed_set (n + 1) _ _ n _
      (λ i l f. rw (get_or-set_other starts (n + 1) i x 0 (λ q. omega arith), get_or-set_other starts (n + 1) (i + 1) x 0 (λ q. f (omega arith))))
      (λ l. rw (get_or-set_other starts (n + 1) n x 0 (λ q. omega arith), get_or-set_same starts (n + 1) x 0 h))

  -- what stands before the last row stays
  stand_set : n + 1 < length starts → n + 1 ≤ most_rows → ((r : ℕ) → r < n → RowStands s (get_or starts r 0) (get_or starts (r + 1) 0)) → RowStands s (get_or starts n 0) x
      → RowsStand s (set starts (n + 1) x) (n + 1)
  stand_set h m k l =
      record {
        few = m;
        each = λ r b.
            ⊎_elim
            (λ e. rw (e, get_or-set_other starts (n + 1) n x 0 (λ q. omega arith), get_or-set_same starts (n + 1) x 0 h) l)
            (λ d. rw (get_or-set_other starts (n + 1) r x 0 (λ q. omega arith), get_or-set_other starts (n + 1) (r + 1) x 0 (λ q. omega arith)) (k r d))
            (eq-or-lt_of_le {n = r} {m = n} (omega arith));
      }

-- ---- what the reader's loop notes before the command at an offset: the offsets give the n rows rs read so far, and the last is where
-- that command stands
pub record Noted (s starts : List ℕ) (at n : ℕ) (rs : List Row) : Type 0 where
  pub starts_length : length starts ≡ 129
  pub first : at ≡ 0 → n ≡ 0
  pub last : 0 < at → get_or starts n 0 ≡ at
  pub are : rs ≡ rows_by s starts n
  pub stand : RowsStand s starts n

pub noted_start : (s starts : List ℕ) → length starts ≡ 129 → Noted s starts 0 0 []
unfolding rows_by listed
noted_start s starts h = record {
  starts_length = h;
  first = λ _. refl;
  last = λ z. absurd (omega arith);
  are = refl;
  stand = record { few = omega arith; each = λ r b. absurd (omega arith) };
}

module _ (p : Problem) (s starts : List ℕ) (at : ℕ) (c : Certificate) (g : Progress) (is : g ≡ progress_of c) (k : Noted s starts at g.rows c.rows) where
  -- the offset after the command, stored
  abbrev After : Command → Type 0
  After i =
      let a = certificate_decoded i s at in
      let n = (advanced g a).rows in
      let x = at + certificate_size i in
      Noted s (set starts n x) x n (certificate_applied c a at).rows

  noted_header : Passed p c s at C.Header → After C.Header
  unfolding certificate_applied rows_by listed
  noted_header h =
      let z = eqb-true at 0 h.placed in
      let n = k.first z in
      let l = k.starts_length in
      record {
        starts_length = length-set starts _ _ ∙ l;
        first = λ q. n;
        last = λ q. get_or-set_same starts g.rows _ 0 (omega arith);
        are = rw n (rw n at k.are);
        stand = record { few = omega arith; each = λ r b. absurd (omega arith) };
      }

  noted_begun : BeginsRow (certificate_command_at s at) → 0 < at → rows_full c ≡ false → at + 4 ≤ length s
      → Noted s (set starts (g.rows + 1) (at + 4)) (at + 4) (g.rows + 1) (with_row c (basis_at s at) (weight_at s at)).rows
  noted_begun e z full whole =
      let n = g.rows in
      let m : n < most_rows = let f = leb-false most_rows (length c.rows) full in let q = rows_are c g is in omega arith in
      let l = k.starts_length in
      let y = k.last z in
      record {
        starts_length = length-set starts _ _ ∙ l;
        first = λ q. absurd (omega arith);
        last = λ q. get_or-set_same starts (n + 1) _ 0 (omega arith);
        are = sym (rows_begun s starts n (at + 4) (omega arith) ∙ rw (y, begun_none s at e, ← k.are));
        stand = stand_set s starts n (at + 4) (omega arith) (omega arith) k.stand.each (rw y (row_begun s at e whole));
      }

  noted_row : certificate_command_at s at ≡ C.Row → Passed p c s at C.Row → After C.Row
  unfolding certificate_applied
  noted_row e h =
      rw (weight_row s at e) at (noted_begun (rw e by_row) (ltb-true 0 at h.placed) h.full (leb-true _ _ h.whole))

  noted_equality : certificate_command_at s at ≡ C.EqualityRow → Passed p c s at C.EqualityRow → After C.EqualityRow
  unfolding certificate_applied
  noted_equality e h =
      rw (weight_equality s at e) at (noted_begun (rw e by_equality) (ltb-true 0 at h.placed) h.full (leb-true _ _ h.whole))

  -- an entry, by either command
  noted_entered : GivesEntry (certificate_command_at s at) → entry_placed c at ≡ true → leb (at + size_at s at) (length s) ≡ true
      → Noted s (set starts g.rows (at + size_at s at)) (at + size_at s at) g.rows (entered c (entry_at s at).index (entry_at s at).factor at).rows
  unfolding entry_at
  noted_entered e placed whole = go g.rows k.stand.few (k.last z) k.are k.stand.each (omega (arith, ltb-true 0 (length c.rows) (and_right (ltb 0 at) _ placed), rows_are c g is))
    where
      z : 0 < at
      z = ltb-true 0 at (and_left _ _ placed)

      x : ℕ
      x = at + size_at s at

      go : (n : ℕ) → n ≤ most_rows → get_or starts n 0 ≡ at → c.rows ≡ rows_by s starts n → ((r : ℕ) → r < n → RowStands s (get_or starts r 0) (get_or starts (r + 1) 0)) → 0 < n
          → Noted s (set starts n x) x n (entered c (entry_at s at).index (entry_at s at).factor at).rows
      go zero f y q w b = absurd (omega arith)
      go (suc m) f y q w b =
          let l = k.starts_length in
          let here : RowStands s (get_or starts m 0) at = rw y at (rw (add-one m) at (w m (omega arith))) in
          let u : suc m - 1 ≡ m = omega arith in
          let last : last_row (rows_by s starts (suc m)) ≡ row_at s (get_or starts m 0) at = rw (rows_length s starts (suc m), u, row_by s starts (suc m) m no_row (omega arith), add-one m, y) in
          record {
            starts_length = length-set starts _ _ ∙ l;
            first = λ q. absurd (omega (arith, z));
            last = λ q. get_or-set_same starts (suc m) _ 0 (omega arith);
            are =
                ap (λ (rs : List Row). set rs (length rs - 1) (with_entry (last_row rs) (entry_at s at))) q
                ∙ ap₂ (set (rows_by s starts (suc m))) (ap (λ (n : ℕ). n - 1) (rows_length s starts (suc m)) ∙ u)
                (ap (λ (r : Row). with_entry r (entry_at s at)) last ∙ sym (row_entry s (get_or starts m 0) at here e))
                ∙ sym (rw (add-one m) at (rows_longer s starts m x (omega arith)));
            stand = rw (add-one m) at (stand_set s starts m x (omega arith) (omega arith) (λ r d. w r (omega arith)) (row_longer s (get_or starts m 0) at here e (leb-true _ _ whole)));
          }

  noted_entry : {i : Command} → GivesEntry i → certificate_command_at s at ≡ i → Passed p c s at i → After i
  unfolding certificate_applied entry_at
  noted_entry by_entry e h = rw e at (noted_entered (rw e by_entry) h.placed (rw e h.whole))
  noted_entry by_wide e h = rw e at (noted_entered (rw e by_wide) h.placed (rw e h.whole))

  pub noted_next : certificate_refusal_at p c s at ≡ 0 → (get_or s at 0 ≡ 0x13 → ⊥)
      → let n = (advanced g (certificate_instruction_at s at)).rows in Noted s (set starts n (at + size_at s at)) (at + size_at s at) n (certificate_next c s at).rows
  unfolding certificate_next
  noted_next v d = go (certificate_command_at s at) refl (passed p c s at v)
    where
      go : (i : Command) → certificate_command_at s at ≡ i → Passed p c s at i → After i
      go C.Header e h = noted_header h
      go C.Row e h = noted_row e h
      go C.Entry e h = noted_entry by_entry e h
      go C.End e h = absurd (d (eqb-true _ 0x13 (certificate_byte C.End _ e (λ u. clash (cc)))))
      go C.Unknown e h = clash (let y = h.placed in cc)
      go C.EqualityRow e h = noted_equality e h
      go C.WideEntry e h = noted_entry by_wide e h
