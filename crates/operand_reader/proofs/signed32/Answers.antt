-- `signed32`: the bits stand for the number.
use Rattle.std.proofs.Common.{refl, w32}
use Rattle.std.proofs.lemmas.Int.{of_z-to_z}
use Rattle.operand_reader.proofs.Operands.{signed_bits}
use Rattle.operand_reader.proofs.signed32.Goals as goal

pub returns : goal.returns
returns c = rw (c.cast_signed.ensures, of_z-to_z w32 c.args.x c.requires) (signed_bits w32 c.args.x refl c.requires)
