use Rattle.std.proofs.Common.{◌∙◌, ap, w64, of_z}
use mir.Facts.{to_z-of_z}
use Rattle.record_writer.proofs.Signs.{unsigned_is}
use Rattle.record_writer.proofs.bits.Goals as goal

pub returns : goal.returns
returns c = c.cast_unsigned.ensures ∙ ap (of_z w64) (to_z-of_z c.ranges.n) ∙ unsigned_is c.args.n
