-- `put_objective`: where no check failed, there is room for one more coefficient too.
use Rattle.std.proofs.Common.{◌<◌, sym, arith, get_or}
use Rattle.problem_commands.proofs.Checks.{space}
use Rattle.problem_storing.proofs.put_objective.Goals as goal

pub bounds-coefficients-n : goal.bounds-coefficients-n
bounds-coefficients-n c =
    let n = get_or c.args.sizes.now 18 0 in
    let h : n < 256 = space c.args.keys.now 864 n c.args.key 256 (sym c.in_ok-put.ensures.0) in
    omega arith
