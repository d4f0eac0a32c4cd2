-- `note_fits`: the first n numbers are those that the exponents so far take to x, for every basis whose sums have no
-- bits but these.
use Rattle.std.proofs.Common.{◌≡◌, ◌≤◌, length, take}
use Rattle.joining_basis.proofs.Fits.{FitsAll}
use Rattle.joining_basis.proofs.note_fits.Given as goal

abbrev pub invariant-loop-t : goal.invariant-loop-t
invariant-loop-t l = record {
  few : l.n ≤ l.t-index;
  long : length l.fits ≡ 32;
  fit : FitsAll (take l.t-index l.exponents) l.bits l.x (take l.n l.fits);
}
