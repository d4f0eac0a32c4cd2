-- `signed16`: the bits stand for the number, and to widen it changes nothing.
use Rattle.std.proofs.Common.{refl, w16, w32, rules}
use Rattle.std.proofs.lemmas.Int.{to_z-of_z, of_z-to_z}
use Rattle.operand_reader.proofs.Operands.{signed_bits}
use Rattle.operand_reader.proofs.signed16.Goals as goal

pub returns : goal.returns
returns c = rw (to_z-of_z w32 c.from.result (search rules), c.from.ensures, c.cast_signed.ensures, of_z-to_z w16 c.args.x c.requires) (signed_bits w16 c.args.x refl c.requires)
