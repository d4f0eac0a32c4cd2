-- The numbers before i are in place.
use Rattle.std.proofs.Common.{◌≡◌, take}
use Rattle.counting.specs.Counting.{listed}
use Rattle.joining_bases.proofs.number.Given as goal

abbrev pub invariant-loop-i : goal.invariant-loop-i
invariant-loop-i l = take l.i l.part ≡ listed l.i (λ i. i)
