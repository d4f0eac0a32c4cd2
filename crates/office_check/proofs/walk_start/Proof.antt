-- `walk_start`: by the two tests.
use borrow.Author.Rules.{rules}
use mathlib.Core.Path.{sym}
use Rattle.office_check.proofs.Walks.{start_short, start_other, start_headed}
use Rattle.office_check.proofs.walk_start.Statement.{statement}
use Rattle.office_check.proofs.walk_start.Tie as tie

returns : tie.Need-returns-then-s-lt10
returns c = sym (start_short _ c.if-s-lt10.true)

shared-slice-read-first : tie.Need-bounds-s-0
shared-slice-read-first c = search rules

returns-2 : tie.Need-returns-then-first-eq16
returns-2 c = sym (start_headed _ c.if-s-lt10.false c.if-first-eq16.true)

returns-3 : tie.Need-returns-else-first-eq16
returns-3 c = sym (start_other _ c.if-first-eq16.false)

pub walk_start_spec : {M : Type 1} → statement M
walk_start_spec = tie.close (tie.spec returns shared-slice-read-first returns-2 returns-3)
