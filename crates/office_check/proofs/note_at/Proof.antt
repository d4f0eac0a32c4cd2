-- `note_at`: too few bytes, or by the byte.
use borrow.Author.Rules.{rules}
use native.Mathlib.Omega.{arith}
use borrow.Author.Tests.{le-leb}
use mathlib.Core.Path.{sym}
use Prim.Native.Nat.{◌+◌}
use lib.ListN.{length}
use Rattle.format.specs.Notes.{note_length}
use Rattle.office_check.proofs.Walks.{here_not}
use Rattle.office_check.proofs.note_at.Statement.{statement}
use Rattle.office_check.proofs.note_at.Tie as tie

sub-if1 : tie.Need-overflow_sub-s
sub-if1 c = search rules

returns : tie.Need-returns-then-s-at-lt9
returns c = let a = c.args in sym (here_not a.s.now a.at (omega arith))

shared-slice-read-result : tie.Need-bounds-s-at
shared-slice-read-result c = search rules

returns-2 : tie.Need-returns
returns-2 c =
    let a = c.args in
    rw (le-leb (a.at + note_length) (length a.s.now) (omega arith))

pub note_at_spec : {M : Type 1} → statement M
note_at_spec = tie.close (tie.spec sub-if1 returns shared-slice-read-result returns-2)
