-- `read`: each end of the loop, and one turn.
use Rattle.std.proofs.Common.{arith}
use Rattle.counting.specs.Counting.{Bounded}
use Rattle.problem_commands.proofs.Checks.{passes_longer}
use Rattle.problem_reader.proofs.Steps.{starting, ended, first_refusing, late_refusing, going_on, extra, complete}
use Rattle.problem_reader.proofs.read.Goals as goal

pub loop-at-init : goal.loop-at-init
loop-at-init c = starting c.args.s.now c.args.keys.now c.args.coefficients.now c.args.sizes.now c.one.result c.requires c.one.ensures.0 c.one.ensures.1

pub returns-in-Err : goal.returns-in-Err
returns-in-Err c =
    let g = c.loop-at.invariant in
    first_refusing g (omega arith) c.in-Err.fault (c.in-Err.ensures g.problem g.held.variables g.held.count)

pub returns-then-next-s : goal.returns-then-next-s
returns-then-next-s c =
    let g = c.loop-at.invariant in
    let t = c.in-Ok.ensures g.problem g.held.variables g.held.count in
    extra g (omega arith) (rw c.in-End.is at t) c.if-next-s.true

pub returns-in-End : goal.returns-in-End
returns-in-End c =
    let g = c.loop-at.invariant in
    let t = c.in-Ok.ensures g.problem g.held.variables g.held.count in
    let o = c.lay_out_last in
    complete g (omega arith) (rw c.in-End.is at t) c.if-next-s.false o.new.keys o.new.coefficients o.new.sizes o.ensures.0 o.ensures.1 o.ensures.2

pub returns-in-Err-store : goal.returns-in-Err-store
returns-in-Err-store c =
    let g = c.loop-at.invariant in
    let t = c.in-Ok.ensures g.problem g.held.variables g.held.count in
    let b : Bounded 255 c.args.s.now = λ i. omega (arith, c.type_inv.s i) in
    late_refusing g (omega arith) t c.in-Err-store.fault (c.in-Err-store.ensures g.problem c.args.s.now c.loop-at.at c.in-Ok.command.1 g.held t b c.in_default.not-End)

pub loop-at-smaller : goal.loop-at-smaller
loop-at-smaller c =
    let g = c.loop-at.invariant in
    let t = c.in-Ok.ensures g.problem g.held.variables g.held.count in
    let l = passes_longer g.problem c.args.s.now c.loop-at.at c.in-Ok.command.0 c.in-Ok.command.1 t in
    let w = t.whole in
    omega arith

pub loop-at-preserved : goal.loop-at-preserved
loop-at-preserved c =
    let g = c.loop-at.invariant in
    let t = c.in-Ok.ensures g.problem g.held.variables g.held.count in
    let b : Bounded 255 c.args.s.now = λ i. omega (arith, c.type_inv.s i) in
    going_on g (omega arith) t (c.in_default-store.ensures g.problem c.args.s.now c.loop-at.at c.in-Ok.command.1 g.held t b c.in_default.not-End)

pub returns : goal.returns
returns c = ended c.loop-at.invariant (omega arith)
