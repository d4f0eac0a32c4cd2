-- Laws of the rows by their offsets: the commands of an entry, and the walk over the entries of a row.
use mathlib.Core.Path.{◌≡◌, refl, ap}
use mathlib.Core.List.{List, [], ◌∷◌, ◌++◌}
use Prim.Native.Nat.{ℕ, zero, suc, ◌+◌, ◌≤◌, ◌<◌}
use native.Mathlib.Omega.{arith}
use lib.ListN.{length, get_or}
use borrow.Author.Tests.{lt-ltb, le-ltb}
use Rattle.counting.proofs.Listed.{listed_at, listed_length}
use Rattle.format.specs.declared.certificate.Command.{Command}
use Rattle.format.specs.CertificateLayout.{certificate_size}
use Rattle.format.specs.CertificateRules.{Entry, Row, certificate_command_at}
use Rattle.certificate_rows.specs.Offsets.{size_at, entry_at, entries_from, row_at, rows_by, GivesEntry, by_entry, by_wide, EntriesStand, done, more}

-- ---- a command of an entry: both have at least four bytes
pub entry_long : {k : Command} → GivesEntry k → 4 ≤ certificate_size k
entry_long by_entry = omega arith
entry_long by_wide = omega arith

-- ---- the walk over the entries
pub none_left : (s : List ℕ) (n to : ℕ) → entries_from n s to to ≡ []
unfolding entries_from
none_left s zero to = refl
none_left s (suc n) to = rw (le-ltb to to (omega arith))

module _ {s : List ℕ} where
  pub stand_low : {to at : ℕ} {es : List Entry} → EntriesStand s to at es → at + length es ≤ to
  stand_low done = omega arith
  stand_low (more e w) = omega (arith, stand_low w, entry_long e)

  -- the entries that stand there are those that are defined
  pub stand_is : {to at : ℕ} {es : List Entry} → EntriesStand s to at es → (n : ℕ) → to ≤ at + n → entries_from n s to at ≡ es
  unfolding entries_from
  stand_is {to} done n h = none_left s n to
  stand_is (more e w) zero h = absurd (omega (arith, stand_low w, entry_long e))
  stand_is {to} (more {at} {es} e w) (suc n) h =
      let b = stand_low w in
      let m = entry_long e in
      let l : at < to = omega arith in
      rw (lt-ltb at to l) (ap (λ (l : List Entry). entry_at s at ∷ l) (stand_is w n (omega arith)))

  pub stand_more : {to at : ℕ} {es : List Entry} → EntriesStand s to at es → GivesEntry (certificate_command_at s to)
      → EntriesStand s (to + size_at s to) at (es ++ (entry_at s to ∷ []))
  stand_more done e = more e done
  stand_more (more f w) e = more f (stand_more w e)

-- ---- all rows
pub rows_length : (s starts : List ℕ) (n : ℕ) → length (rows_by s starts n) ≡ n
unfolding rows_by
rows_length s starts n = listed_length n _

-- row r of the rows by their offsets
pub row_by : (s starts : List ℕ) (n r : ℕ) (d : Row) → r < n → get_or (rows_by s starts n) r d ≡ row_at s (get_or starts r 0) (get_or starts (r + 1) 0)
unfolding rows_by
row_by s starts n r d h = listed_at n _ r d h
