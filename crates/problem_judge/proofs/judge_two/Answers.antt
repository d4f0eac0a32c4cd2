-- `judge_two`: refusal 1, or what was judged, and the tables cleared.
use Rattle.std.proofs.Common.{◌≡◌, true, false, sym, ◌∙◌}
use Rattle.calls.specs.Tables.{tables, tables_short}
use Rattle.calls.specs.Checks.{problem_of}
use Rattle.work_tables.proofs.Tables.{tables_cleared}
use Rattle.problem_judge.proofs.judge_two.Goals as goal

pub returns-then-is_short-clause-judged : goal.returns-then-is_short-clause-judged
unfolding problem_of
returns-then-is_short-clause-judged c =
    let a = c.args in
    let e : tables_short (tables a.table.now a.high.now a.low.now) ≡ true = sym c.is_short.ensures ∙ c.if-is_short.true in
    rw e (rw c.problem_refusal.ensures at c.both_refused.ensures)

pub returns-clause-tables : goal.returns-clause-tables
returns-clause-tables c =
    let a = c.args in
    let e : tables_short (tables a.table.now a.high.now a.low.now) ≡ false = sym c.is_short.ensures ∙ c.if-is_short.false in
    rw e (tables_cleared c.judge_streams-two.ensures.1 c.clear_tables.ensures)
