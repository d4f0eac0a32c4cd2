-- `put`: where no check failed, the list has room for one more.
use Rattle.std.proofs.Common.{◌<◌, sym, arith, get_or}
use Rattle.problem_commands.proofs.Checks.{space}
use Rattle.problem_storing.proofs.put.Goals as goal

pub bounds-keys-from : goal.bounds-keys-from
bounds-keys-from c =
    let n = get_or c.args.sizes.now c.args.which 0 in
    let h : n < c.args.limit = space c.args.keys.now c.args.from n c.args.key c.args.limit (sym c.in_ok-check_room.ensures) in
    omega arith
