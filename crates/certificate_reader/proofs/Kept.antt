-- The header and the progress that the reader keeps are those of the certificate that is read.
use mathlib.Core.Path.{◌≡◌, refl, ap, sym, subst, ◌∙◌}
use mathlib.Core.List.{List}
use mathlib.Core.Bool.{true, false}
use Prim.Native.Nat.{ℕ, ◌+◌, ◌≤◌, ◌<◌}
use native.Mathlib.Numerals.{add-one}
use native.Mathlib.Omega.{arith}
use lib.Dec.{leb, ltb}
use lib.IntN.{ℤ}
use lib.ListN.{length, get_or, set, length-append, length-set}
use lib.Seq.{set-set}
use borrow.Author.Tests.{leb-true, leb-false, ltb-true}
use Rattle.std.specs.Prelude.{Ok, Err}
use Rattle.counting.proofs.Cases.{and_left, and_right}
use Rattle.faults.specs.declared.Fault.{Fault}
use Rattle.faults.specs.declared.Fault.TheVariants.{Cut, Misplaced, Unfit, Repeated, Excess}
use Rattle.faults.specs.Numbers.{fault_number}
use Rattle.format.specs.Commands.{refused}
use Rattle.format.proofs.Run.{Left, left_start, left_end, left_refused, left_extra, left_given, left_next}
use Rattle.format.specs.ProblemRules.{Problem}
use Rattle.format.proofs.WithinLimits.{Limits}
use Rattle.format.specs.declared.certificate.Command.{Command}
use Rattle.format.specs.declared.certificate.Command.TheVariants as C
use Rattle.format.specs.declared.certificate.Header.{Header}
use Rattle.format.specs.CertificateLayout.{certificate_command, certificate_decoded}
use Rattle.format.specs.declared.certificate.Instruction.{Instruction}
use Rattle.format.specs.CertificateRules.{Certificate, no_header, no_certificate, last_row, most_rows, entry_placed, rows_full, with_row, entered, certificate_placed, certificate_applied, certificate_command_at, certificate_instruction_at, certificate_refusal_at, certificate_next, certificate_language, read_certificate}
use Rattle.format.proofs.CertificateChecks.{last_append, last_set, Passed, passed, taken_size, taken_whole}
use Rattle.certificate_commands.specs.declared.Progress.{Progress}
use Rattle.certificate_commands.specs.Kept.{Sized, ProblemSizes, progress_of, no_progress, headed, begun, risen, advanced, ProgressWithin}
use Rattle.certificate_rows.specs.Offsets.{size_at}
use Rattle.certificate_reader.specs.Rows.{GivenRows}
use Rattle.certificate_reader.specs.Verdicts.{Told, EntryThere, EntriesRead, none, more}
use Rattle.certificate_commands.proofs.Asked.{rows_are, floor_more}
use Rattle.certificate_reader.proofs.Noted.{Noted, noted_start, noted_next}

-- ---- the header and the progress of what has been read after a command
with_row_progress : (c : Certificate) (j : ℕ) (w : ℤ) → progress_of (with_row c j w) ≡ begun (progress_of c) j
unfolding progress_of
with_row_progress c j w = rw (last_append c.rows, length-append c.rows)

module _ (c : Certificate) (s : List ℕ) (at : ℕ) where
  next_header : (certificate_next c s at).header ≡ headed c.header (certificate_instruction_at s at)
  unfolding certificate_next certificate_applied
  next_header = go (certificate_command_at s at)
    where
      go : (k : Command) → (certificate_applied c (certificate_decoded k s at) at).header ≡ headed c.header (certificate_decoded k s at)
      go C.Header = refl
      go C.Row = refl
      go C.Entry = refl
      go C.End = refl
      go C.Unknown = refl
      go C.EqualityRow = refl
      go C.WideEntry = refl

  entered_progress : (i : ℕ) (l : ℤ) → entry_placed c at ≡ true → progress_of (entered c i l at) ≡ risen (progress_of c) i
  unfolding progress_of
  entered_progress i l p =
      let n = ltb-true 0 (length c.rows) (and_right (ltb 0 at) _ p) in
      rw (last_set c.rows _ n, length-set c.rows, floor_more (last_row c.rows).entries, ← add-one i)

  applied_progress : (k : Command) → certificate_placed c at k ≡ true → progress_of (certificate_applied c (certificate_decoded k s at) at) ≡ advanced (progress_of c) (certificate_decoded k s at)
  unfolding certificate_applied progress_of
  applied_progress C.Header p = refl
  applied_progress C.Row p = with_row_progress c _ _
  applied_progress C.Entry p = entered_progress _ _ p
  applied_progress C.End p = refl
  applied_progress C.Unknown p = refl
  applied_progress C.EqualityRow p = with_row_progress c _ _
  applied_progress C.WideEntry p = entered_progress _ _ p

  next_progress : certificate_placed c at (certificate_command_at s at) ≡ true → progress_of (certificate_next c s at) ≡ advanced (progress_of c) (certificate_instruction_at s at)
  unfolding certificate_next
  next_progress p = applied_progress (certificate_command_at s at) p

-- ---- what the reader's loop keeps, read against the problem p: from the command at the offset at on, the rules give what they give for
-- the whole stream s; of the certificate read so far, the header t, the progress g and the offsets of the rows are at hand
pub record Held (p : Problem) (s : List ℕ) (t : Header) (g : Progress) (starts : List ℕ) (at : ℕ) : Type 0 where
  pub read : Certificate
  pub header : t ≡ read.header
  pub progress : g ≡ progress_of read
  pub bounded : ProgressWithin g
  pub inside : at ≤ length s
  pub noted : Noted s starts at g.rows read.rows
  pub left : Left (certificate_language p) s (read_certificate p s) read at

-- the same for every problem with these sizes
pub record HeldFor (sizes s : List ℕ) (t : Header) (g : Progress) (starts : List ℕ) (at : ℕ) : Type 0 where
  pub held : (p : Problem) → Limits p → Sized p sizes → Held p s t g starts at

module _ (p : Problem) (s : List ℕ) where
  pub held_start : (starts : List ℕ) → length starts ≡ 129 → Held p s no_header no_progress starts 0
  unfolding read_certificate progress_of
  held_start starts h = record {
    read = no_certificate;
    header = refl;
    progress = refl;
    bounded = record { rows = omega arith; basis = omega arith };
    inside = omega arith;
    noted = noted_start s starts h;
    left = left_start (certificate_language p) s no_certificate;
  }

  module _ (t : Header) (g : Progress) (starts : List ℕ) (at : ℕ) (k : Held p s t g starts at) where
    -- the stream ends here
    pub held_end : length s ≤ at → read_certificate p s ≡ refused 2 at
    held_end e =
        let i = k.inside in
        let z : at ≡ length s = omega arith in
        rw z (sym (left_end (certificate_language p) s _ k.read at k.left e))

    module _ (e : at < length s) where
      pub held_refused : (v : ℕ) → v ≡ certificate_refusal_at p k.read s at → 0 < v → read_certificate p s ≡ refused v at
      held_refused v z o = rw z (sym (left_refused (certificate_language p) s _ k.read at k.left e (rw z at o)))

      module _ (v : certificate_refusal_at p k.read s at ≡ 0) where
        -- the end command
        pub held_extra : get_or s at 0 ≡ 0x13 → at + 1 < length s → read_certificate p s ≡ refused 2 (at + 1)
        held_extra b m = sym (left_extra (certificate_language p) s _ k.read at k.left e v b m)

        pub held_given : get_or s at 0 ≡ 0x13 → length s ≤ at + 1 → GivenRows p s t starts g.rows
        held_given b m = record {
          certificate = k.read;
          read = sym (left_given (certificate_language p) s _ k.read at k.left e v b m);
          header_is = k.header;
          rows_are = k.noted.are;
          stand = k.noted.stand;
        }

        -- the progress keeps its limits
        begun_within : Limits p → (j : ℕ) → leb j (length p.conditions) ≡ true → rows_full k.read ≡ false → ProgressWithin (begun g j)
        begun_within l j b full =
            let low = leb-true j (length p.conditions) b in
            let r = leb-false most_rows (length k.read.rows) full in
            let n = rows_are k.read g k.progress in
            record { rows = omega arith; basis = let m = l.conditions in omega arith }

        bounded_next : Limits p → ProgressWithin (advanced g (certificate_instruction_at s at))
        bounded_next l = go (certificate_command_at s at) (passed p k.read s at v)
          where
            go : (i : Command) → Passed p k.read s at i → ProgressWithin (advanced g (certificate_decoded i s at))
            go C.Header h = k.bounded
            go C.Row h = begun_within l _ (and_left _ _ h.allowed) h.full
            go C.Entry h = record { rows = k.bounded.rows; basis = k.bounded.basis }
            go C.End h = k.bounded
            go C.Unknown h = k.bounded
            go C.EqualityRow h = begun_within l _ (and_left _ _ h.allowed) h.full
            go C.WideEntry h = record { rows = k.bounded.rows; basis = k.bounded.basis }

        pub held_next : Limits p → (get_or s at 0 ≡ 0x13 → ⊥)
            → let h = advanced g (certificate_instruction_at s at) in let x = at + size_at s at in
            Held p s (headed t (certificate_instruction_at s at)) h (set starts h.rows x) x
        held_next l b = record {
          read = certificate_next k.read s at;
          header = ap (λ (x : Header). headed x (certificate_instruction_at s at)) k.header ∙ sym (next_header k.read s at);
          progress =
              ap (λ (x : Progress). advanced x (certificate_instruction_at s at)) k.progress
              ∙ sym (next_progress k.read s at (passed p k.read s at v).placed);
          bounded = bounded_next l;
          inside = taken_whole p k.read s at v;
          noted = noted_next p s starts at k.read g k.progress k.noted v b;
          left = left_next (certificate_language p) s _ k.read at k.left e v b (taken_size p k.read s at v);
        }

-- ---- a run of entries
pub run_from : {sizes s : List ℕ} {g : Progress} {from : ℕ} {h : Progress} {at : ℕ} → EntriesRead sizes s g from h at → from ≤ at
run_from none = omega arith
run_from (more w e v) = omega (arith, run_from w)

-- the command that its byte names
pub entry_command_lem : (s : List ℕ) (at : ℕ) → get_or s at 0 ≡ 0x12 → certificate_command_at s at ≡ C.Entry
unfolding certificate_command
entry_command_lem s at e = rw e

-- an entry leaves the progress within its limits
pub entry_within : (s : List ℕ) (g : Progress) (at : ℕ) → EntryThere s at → ProgressWithin g → ProgressWithin (advanced g (certificate_instruction_at s at))
entry_within s g at e w = rw (entry_command_lem s at e.byte) (record { rows = w.rows; basis = w.basis })

-- what the loop keeps after it: the row's end is stored once
module _ (p : Problem) (s : List ℕ) (limits : Limits p) {sizes : List ℕ} (sized : Sized p sizes) (t : Header) where
  held_entry : (h : Progress) (starts : List ℕ) (at : ℕ) → Held p s t h (set starts h.rows at) at → EntryThere s at
      → ((q : Problem) (c : Certificate) → Sized q sizes → h ≡ progress_of c → certificate_refusal_at q c s at ≡ 0)
      → let g = advanced h (certificate_instruction_at s at) in Held p s t g (set starts g.rows (at + 4)) (at + 4)
  held_entry h starts at k e v =
      let c = entry_command_lem s at e.byte in
      let n = held_next p s t h (set starts h.rows at) at k e.inside (v p k.read sized k.progress) limits (λ b. let q = e.byte in omega arith) in
      rw c
      (subst (λ (l : List ℕ). Held p s t (advanced h (certificate_decoded C.Entry s at)) l (at + 4)) (set-set starts h.rows at (at + 4)) (rw c at n))

  pub held_run : (g : Progress) (starts : List ℕ) (from : ℕ) → Held p s t g (set starts g.rows from) from → {h : Progress} {at : ℕ} → EntriesRead sizes s g from h at → Held p s t h (set starts h.rows at) at
  held_run g starts from k none = k
  held_run g starts from k (more {h} {at} w e v) = held_entry h starts at (held_run g starts from k w) e v

-- ---- one turn of the loop, by what the checks of the command tell
pub fault_some : (f : Fault) → 0 < fault_number f
fault_some Cut = omega arith
fault_some Misplaced = omega arith
fault_some Unfit = omega arith
fault_some Repeated = omega arith
fault_some Excess = omega arith

module _ {sizes s : List ℕ} {t : Header} {g : Progress} {starts : List ℕ} {at : ℕ} (k : HeldFor sizes s t g starts at) (e : at < length s) where
  -- it is refused
  pub turn_refused : {f : Fault} → Told sizes g s at (Err f) → (p : Problem) → Limits p → Sized p sizes → read_certificate p s ≡ refused (fault_number f) at
  turn_refused {f} o p l z = let h = k.held p l z in held_refused p s t g starts at h e _ (o.number p h.read z h.progress) (fault_some f)

  module _ {i : Instruction} (o : Told sizes g s at (Ok i)) where
    none_refused : (p : Problem) (l : Limits p) (z : Sized p sizes) → certificate_refusal_at p (k.held p l z).read s at ≡ 0
    none_refused p l z = let h = k.held p l z in sym (o.number p h.read z h.progress)

    -- it is the end command
    end_size : get_or s at 0 ≡ 0x13 → size_at s at ≡ 1
    unfolding certificate_command
    end_size b = rw b

    pub turn_extra : get_or s at 0 ≡ 0x13 → at + size_at s at < length s → (p : Problem) → Limits p → Sized p sizes → read_certificate p s ≡ refused 2 (at + size_at s at)
    turn_extra b m p l z = let n = end_size b in rw n (held_extra p s t g starts at (k.held p l z) e (none_refused p l z) b (omega arith))

    pub turn_given : get_or s at 0 ≡ 0x13 → length s ≤ at + size_at s at → (p : Problem) → Limits p → Sized p sizes → GivenRows p s t starts g.rows
    turn_given b m p l z = let n = end_size b in held_given p s t g starts at (k.held p l z) e (none_refused p l z) b (omega arith)

    -- the loop goes on behind it
    pub turn_size : ProblemSizes sizes → 1 ≤ size_at s at
    turn_size q = taken_size q.problem (k.held q.problem q.limits q.sized).read s at (none_refused q.problem q.limits q.sized)

    module _ (b : get_or s at 0 ≡ 0x13 → ⊥) where
      turn_next : (p : Problem) → Limits p → Sized p sizes → let h = advanced g i in let x = at + size_at s at in Held p s (headed t i) h (set starts h.rows x) x
      turn_next p l z = rw o.instruction (held_next p s t g starts at (k.held p l z) e (none_refused p l z) l b)

      pub turn_bounded : ProblemSizes sizes → ProgressWithin (advanced g i)
      turn_bounded q = (turn_next q.problem q.limits q.sized).bounded

      -- and behind the entries that follow it
      module _ {h : Progress} {x : ℕ} (w : EntriesRead sizes s (advanced g i) (at + size_at s at) h x) where
        pub turn_run : HeldFor sizes s (headed t i) h (set starts h.rows x) x
        turn_run = record { held = λ p l z. held_run p s l z (headed t i) (advanced g i) starts _ (turn_next p l z) w }

        pub turn_rows : ProblemSizes sizes → h.rows ≤ most_rows
        turn_rows q = (turn_run.held q.problem q.limits q.sized).bounded.rows

-- a turn at a command that is not refused
pub ruleset turns = (turn_extra, turn_given, turn_size, turn_bounded, turn_run, turn_rows, run_from)
