-- `is_linked`: one more exponent.
use Rattle.std.proofs.Common.{sym, ◌∙◌, arith}
use Rattle.joining_rule.proofs.Laws.{linked_hit, linked_miss, linked_done}
use Rattle.joining_basis.proofs.is_linked.Goals as goal

pub is_before-requires : goal.is_before-requires
is_before-requires c = (c.requires.0.support, c.requires.0.index, c.requires.1)

pub returns-then-is_before : goal.returns-then-is_before
returns-then-is_before c =
    linked_hit _ _ _ c.loop-t.t-index (omega arith) c.loop-t.invariant (sym c.is_before.ensures ∙ c.if-is_before.true)

pub loop-t-preserved : goal.loop-t-preserved
loop-t-preserved c =
    linked_miss _ _ _ c.loop-t.t-index (omega arith) c.loop-t.invariant (sym c.is_before.ensures ∙ c.if-is_before.false)

pub returns : goal.returns
returns c = linked_done _ _ _ c.loop-t.t-index (omega arith) c.loop-t.invariant
