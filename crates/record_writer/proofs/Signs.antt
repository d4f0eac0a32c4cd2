-- The bits of a signed number are those of the document.
use Rattle.std.proofs.Common.{◌≡◌, refl, ℤ, pos, negsuc, w64, of_z, arith}
use Rattle.std.proofs.lemmas.Bool.{le-ltb}
use Rattle.calls.specs.Report.{unsigned}

pub unsigned_is : (n : ℤ) → of_z w64 n ≡ unsigned 63 n
unfolding unsigned
unsigned_is (pos a) = rw (le-ltb a 0 (omega arith)) refl
unsigned_is (negsuc k) = refl
