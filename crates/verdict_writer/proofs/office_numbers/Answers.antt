use Rattle.std.proofs.Common.{refl}
use Rattle.verdict_numbers.specs.Numbers.{check_numbers, office_numbers}
use Rattle.verdict_writer.proofs.office_numbers.Goals as goal

pub returns : goal.returns
unfolding check_numbers office_numbers
returns c = rw (c.copy_from_slice.ensures.after, c.check_numbers.ensures) refl
