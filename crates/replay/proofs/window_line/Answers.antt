-- `window_line`: what is written, with the outcomes that are left, is the line.
use Rattle.std.proofs.Common.{ap, ◌∙◌, rules, arith}
use Rattle.calls.specs.declared.Fraction.{Fraction}
use Rattle.calls.specs.Window.{window_after, push_verdict}
use Rattle.replay.proofs.Written.{written_more, written_done}
use Rattle.replay.proofs.window_line.Goals as goal

pub loop-i-preserved : goal.loop-i-preserved
loop-i-preserved c =
    let l = c.loop-i in
    let a = c.arrival_at.ensures in
    let v = c.push-pushed.ensures.verdict ∙ ap (λ (x : Fraction). push_verdict l.window x) a in
    let n = c.push-pushed.ensures.state ∙ ap (λ (x : Fraction). window_after l.window x) a in
    record {
      counted = omega (arith, c.loop-i-test.true);
      short = omega (arith, c.append_outcome-at.ensures.1, l.invariant.short);
      same_length = search rules;
      written =
          rw n
          (written_more c.args.run.now l.window l.i c.loop-i-test.true l.invariant.written
          (rw v at c.append_outcome-at.ensures.0));
    }

pub returns : goal.returns
returns c =
    let l = c.loop-i in
    written_done c.args.run.now l.window l.i c.loop-i-test.false l.invariant.written c.append.ensures
