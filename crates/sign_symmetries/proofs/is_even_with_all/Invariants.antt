-- `is_even_with_all`: what is left decides as long as each byte passed is met evenly.
use Rattle.std.proofs.Common.{◌≡◌, drop}
use Rattle.sign_symmetries.specs.Parities.{even_all}
use Rattle.sign_symmetries.proofs.is_even_with_all.Given as goal

abbrev pub invariant-loop-byte : goal.invariant-loop-byte
invariant-loop-byte l = even_all l.mask l.bytes ≡ even_all l.mask (drop l.byte-index l.bytes)
