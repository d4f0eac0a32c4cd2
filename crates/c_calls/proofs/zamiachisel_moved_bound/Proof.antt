-- `zamiachisel_moved_bound`: the clauses of the call, with its verdict in the run.
use borrow.Author.Rules.{rules}
use mathlib.Core.Path.{refl}
use mathlib.Core.Bool.{Bool}
use Rattle.calls.specs.declared.AdjustedVerdict.{AdjustedVerdict}
use Rattle.calls.specs.Tables.{Tables, tables, tables_short}
use Rattle.calls.specs.Adjusted.{adjusted_verdict, adjusted_checked}
use Rattle.calls.specs.Checks.{problem_of}
use Rattle.calls.specs.Check.{check_verdict}
use Rattle.verdict_numbers.specs.Numbers.{adjusted_numbers}
use Rattle.verdict_numbers.proofs.RunsOfZeros.{adjusted_run}
use Rattle.c_calls.proofs.Whole.{too_short, whole}
use Rattle.c_calls.proofs.zamiachisel_moved_bound.Statement.{statement}
use Rattle.c_calls.proofs.zamiachisel_moved_bound.Tie as tie

returns : tie.Need-returns-then-verdict-lt-MOVED
unfolding adjusted_verdict adjusted_checked check_verdict adjusted_numbers problem_of
returns c =
    let a = c.args in
    let lent : Tables = tables a.keys.now a.high.now a.low.now in
    let of : Bool → AdjustedVerdict = λ b. adjusted_verdict b a.problem.now a.certificate.now a.changes.now in
    too_short 6 a.verdict.now (tables_short lent) adjusted_numbers of (λ b. b) lent c.if-verdict-lt-MOVED.true refl refl

returns-2 : tie.Need-returns
unfolding adjusted_numbers
returns-2 c =
    let p = c in
    let q = p in
    let k = q in
    let i = k in
    let a = i.args in
    let lent : Tables = tables a.keys.now a.high.now a.low.now in
    let of : Bool → AdjustedVerdict = λ b. adjusted_verdict b a.problem.now a.certificate.now a.changes.now in
    let v = k.moved_bound-v.result in
    let e = k.moved_bound-v.ensures in
    whole 6 a.verdict.now (tables_short lent) adjusted_numbers of (λ b. b) lent i.if-verdict-lt-MOVED.false v e.0 q.adjusted_numbers-numbers.result p.put_numbers.new.run p.put_numbers.result (tables k.moved_bound-v.new.keys k.moved_bound-v.new.high k.moved_bound-v.new.low) q.adjusted_numbers-numbers.ensures p.put_numbers.ensures.0 p.put_numbers.ensures.1 e.1.0 (adjusted_run a.verdict.now v e.1.1.1.1.1.1.0)

pub zamiachisel_moved_bound_spec : {M : Type 1} → statement M
zamiachisel_moved_bound_spec =
    tie.close
    (tie.spec
    returns
    (λ c κs. search rules)
    (λ c κs. search rules)
    (λ c. search rules)
    (λ c κs. search rules)
    (λ c. search rules)
    (λ c. search rules)
    (λ c. search rules)
    (λ c. search rules)
    returns-2)
