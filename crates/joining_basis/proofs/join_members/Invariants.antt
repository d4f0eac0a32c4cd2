-- `join_members`: what the members before place m link is joined.
use Rattle.std.proofs.Common.{◌≡◌, length}
use Rattle.joining_blocks.specs.Tables.{standing_at, SameTables}
use Rattle.joining_basis.proofs.Latest.{ToMember}
use Rattle.joining_basis.proofs.join_members.Given as goal

abbrev pub invariant-loop-m : goal.invariant-loop-m
invariant-loop-m l = record {
  members : ToMember l.basis.exponents.now l.basis.keys.now (standing_at l.fn.tables l.fn.start) (standing_at l.tables l.r) l.m;
  long : length l.fits ≡ 32;
  same : SameTables l.fn.tables l.tables;
}
