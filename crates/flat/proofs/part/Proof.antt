-- `part`: a part from a place to that place and n more has n numbers.
use borrow.Author.Rules.{rules}
use native.Mathlib.Omega.{arith}
use mathlib.Core.Path.{◌≡◌}
use Prim.Native.Nat.{◌+◌, ◌-◌}
use Rattle.flat.proofs.part.Statement.{statement}
use Rattle.flat.proofs.part.Tie as tie

add-result : tie.Need-overflow_add-result
add-result c = search rules

mul-result : tie.Need-offset_bounds-l-from
mul-result c = search rules

sub-result : tie.Need-slice_bounds-result-count
sub-result c = search rules

part-result-start : tie.Need-slice_bounds-result-start
part-result-start c = search rules

part-result-end : tie.Need-slice_bounds-result-end
part-result-end c = search rules

returns : tie.Need-returns
returns c = let a = c.args in let e : a.from + a.n - a.from ≡ a.n = omega arith in rw e

pub part_spec : {M : Type 1} → statement M
part_spec =
    tie.close (tie.spec add-result mul-result sub-result part-result-start part-result-end returns)
