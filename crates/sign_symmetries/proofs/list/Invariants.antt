-- `list`: the masks passed, in front of zeros.
use Rattle.std.proofs.Common.{◌≡◌, ◌≤◌, length, drop}
use Rattle.sign_symmetries.specs.Parities.{even_all}
use Rattle.sign_symmetries.proofs.Listing.{Written}
use Rattle.sign_symmetries.proofs.list.Given as goal

abbrev pub invariant-loop-r : goal.invariant-loop-r
invariant-loop-r l =
    (l.count ≤ l.r) × (length l.out ≡ length l.fn.out)
    × Written (λ m. even_all m l.bytes) l.r l.count l.out (drop 256 l.fn.out)
