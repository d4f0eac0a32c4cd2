-- `Polynomial::put`: where no check failed, there is room for one more term.
use Rattle.std.proofs.Common.{sym}
use Rattle.problem_commands.proofs.Checks.{space}
use Rattle.problem_storing.proofs.Polynomial.put.Goals as goal

pub bounds-self-n : goal.bounds-self-n
bounds-self-n c = space c.args.self.now.keys 0 c.args.self.now.count c.args.key 32 (sym c.in_ok-check_room.ensures)

pub bounds-self-n-2 : goal.bounds-self-n-2
bounds-self-n-2 c = space c.args.self.now.keys 0 c.args.self.now.count c.args.key 32 (sym c.in_ok-check_room.ensures)
