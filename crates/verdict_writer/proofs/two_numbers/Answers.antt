use Rattle.std.proofs.Common.{refl}
use Rattle.verdict_numbers.specs.Numbers.{check_numbers, two_numbers}
use Rattle.verdict_writer.proofs.two_numbers.Goals as goal

pub returns : goal.returns
unfolding check_numbers two_numbers
returns c =
    rw (c.copy_from_slice.ensures.after, c.check_numbers.ensures, c.copy_from_slice-2.ensures.after, c.check_numbers-2.ensures) refl
