-- `signed64`: the bits stand for the number.
use Rattle.std.proofs.Common.{refl, w64}
use Rattle.std.proofs.lemmas.Int.{of_z-to_z}
use Rattle.operand_reader.proofs.Operands.{signed_bits}
use Rattle.operand_reader.proofs.signed64.Goals as goal

pub returns : goal.returns
returns c = rw (c.cast_signed.ensures, of_z-to_z w64 c.args.x c.ranges.x.fits) (signed_bits w64 c.args.x refl c.ranges.x.fits)
