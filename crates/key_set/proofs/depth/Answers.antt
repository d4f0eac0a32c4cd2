-- `depth`: every link leads back.
use Rattle.std.proofs.Common.{◌-◌, arith}
use Rattle.key_set.proofs.depth.Goals as goal

pub loop-n-init : goal.loop-n-init
loop-n-init c = c.requires.0.back c.args.p (omega arith)

pub loop-n-preserved : goal.loop-n-preserved
loop-n-preserved c = omega (arith, c.requires.0.back (c.loop-n.v - 1) (omega arith))
