-- `sum_at`: two keys of monomials of degree at most 8 are together below 2^64.
use Rattle.std.proofs.Common.{◌/◌, ◌%◌, arith}
use Rattle.joining_pairs.proofs.sum_at.Goals as goal

pub overflow_add-result : goal.overflow_add-result
overflow_add-result c = omega (arith, c.requires.0.keys (c.args.p / 64), c.requires.0.keys (c.args.p % 64))
