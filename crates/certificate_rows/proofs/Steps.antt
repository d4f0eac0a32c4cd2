-- Laws of the walks: over the entries of a row, and over the rows of a stream.
use mathlib.Core.Path.{◌≡◌, refl}
use mathlib.Core.List.{List, [], ◌∷◌}
use Prim.Native.Nat.{ℕ, ◌+◌, ◌-◌, ◌*◌, ◌^◌, ◌≤◌, ◌<◌}
use native.Mathlib.Omega.{arith}
use lib.IntN.{nat_abs}
use lib.ListN.{length, get_or}
use Rattle.counting.specs.Counting.{Bounded}
use Rattle.format.specs.declared.certificate.Command.{Command}
use Rattle.format.specs.Layouts.{widths}
use Rattle.format.specs.CertificateLayout.{certificate_layout}
use Rattle.format.proofs.Numbers.{operand_small}
use Rattle.format.specs.CertificateRules.{Entry, no_row, certificate_command_at}
use Rattle.format.proofs.CertificateLimits.{SoundRow, all_within}
use Rattle.certificate_rows.specs.Offsets.{size_at, entry_at, row_at, rows_by, GivesEntry, by_entry, by_wide, EntryStands, EntriesStand, done, more, Walkable}
use Rattle.certificate_rows.proofs.Offsets.{entry_long, stand_low, rows_length, row_by}

-- ---- one entry: it stands at the offset, and the others after it
pub record Step (s : List ℕ) (to at : ℕ) (es : List Entry) : Type 0 where
  pub others : List Entry
  pub is : es ≡ entry_at s at ∷ others
  pub command : GivesEntry (certificate_command_at s at)
  pub stand : EntriesStand s to (at + size_at s at) others
  pub within : at + size_at s at ≤ to

pub step_of : {s : List ℕ} {to at : ℕ} {es : List Entry} → EntriesStand s to at es → at < to → Step s to at es
step_of done h = absurd (omega arith)
step_of (more e w) h = let b = stand_low w in record { others = _; is = refl; command = e; stand = w; within = omega arith }

pub step_entry : {s : List ℕ} {to at : ℕ} {es : List Entry} → Step s to at es → to ≤ length s → EntryStands s at
step_entry t h = record { command = t.command; inside = let b = t.within in omega arith }

-- a step is one of at least four bytes
pub step_long : {s : List ℕ} {to at : ℕ} {es : List Entry} → Step s to at es → 4 ≤ size_at s at
step_long t = entry_long t.command

pub step_none : {s : List ℕ} {to at : ℕ} {es : List Entry} → EntriesStand s to at es → to ≤ at → es ≡ []
step_none done h = refl
step_none (more e w) h = absurd (omega (arith, stand_low w, entry_long e))

-- ---- how large a factor is, by its width: at most 2^15 of 12, at most 2^31 of 15
abbrev pub factor_width : Command → ℕ
factor_width k = get_or (widths (certificate_layout k)) 1 0

pub factor_small : (s : List ℕ) → Bounded 255 s → (at : ℕ) → nat_abs (entry_at s at).factor ≤ 2 ^ (8 * factor_width (certificate_command_at s at) - 1)
unfolding entry_at
factor_small s bytes at = operand_small s bytes (factor_width (certificate_command_at s at)) _

pub width_most : {k : Command} → GivesEntry k → 2 ^ (8 * factor_width k - 1) ≤ 2 ^ 31
width_most by_entry = omega arith
width_most by_wide = omega arith

-- ---- one row
-- a row keeps its limits
pub walk_sound : {s starts : List ℕ} {rows : ℕ} (w : Walkable s starts rows) (r : ℕ) → r < rows → SoundRow w.problem (row_at s (get_or starts r 0) (get_or starts (r + 1) 0))
walk_sound {s} {starts} {rows} w r h =
    let n = rows_length s starts rows in
    rw (row_by s starts rows r no_row h) at (all_within (SoundRow w.problem) (rows_by s starts rows) r no_row (omega arith) w.rows_sound.sound)
