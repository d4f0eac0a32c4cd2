-- `zamiachisel_sum`: the clauses of the call, with its verdict in the run.
use borrow.Author.Rules.{rules}
use mathlib.Core.Path.{refl}
use mathlib.Core.Bool.{Bool}
use Rattle.calls.specs.declared.SumVerdict.{SumVerdict}
use Rattle.calls.specs.Tables.{Tables, tables, tables_short}
use Rattle.calls.specs.AddedBounds.{streams, sum_verdict, sum_pairs}
use Rattle.calls.specs.Checks.{problem_of}
use Rattle.calls.specs.Pair.{pair_verdict}
use Rattle.verdict_numbers.specs.Numbers.{sum_numbers}
use Rattle.verdict_numbers.proofs.RunsOfZeros.{sum_run}
use Rattle.c_calls.proofs.Whole.{too_short, whole}
use Rattle.c_calls.proofs.zamiachisel_sum.Statement.{statement}
use Rattle.c_calls.proofs.zamiachisel_sum.Tie as tie

returns : tie.Need-returns-then-verdict-lt-SUM
unfolding sum_verdict sum_pairs pair_verdict sum_numbers problem_of
returns c =
    let a = c.args in
    let lent : Tables = tables a.keys.now a.high.now a.low.now in
    let of : Bool → SumVerdict = λ b. sum_verdict b (streams a.problem1.now a.low1.now a.high1.now) (streams a.problem2.now a.low2.now a.high2.now) in
    too_short 10 a.verdict.now (tables_short lent) sum_numbers of (λ b. b) lent c.if-verdict-lt-SUM.true refl refl

returns-2 : tie.Need-returns
unfolding sum_numbers
returns-2 c =
    let p = c in
    let q = p in
    let k = q in
    let i = k in
    let a = i.args in
    let lent : Tables = tables a.keys.now a.high.now a.low.now in
    let of : Bool → SumVerdict = λ b. sum_verdict b (streams a.problem1.now a.low1.now a.high1.now) (streams a.problem2.now a.low2.now a.high2.now) in
    let v = k.sum-v.result in
    let e = k.sum-v.ensures in
    whole 10 a.verdict.now (tables_short lent) sum_numbers of (λ b. b) lent i.if-verdict-lt-SUM.false v e.0 q.sum_numbers-numbers.result p.put_numbers.new.run p.put_numbers.result (tables k.sum-v.new.keys k.sum-v.new.high k.sum-v.new.low) q.sum_numbers-numbers.ensures p.put_numbers.ensures.0 p.put_numbers.ensures.1 e.1.0 (sum_run a.verdict.now v e.1.1.1.1.1.1.1.1.1.0)

pub zamiachisel_sum_spec : {M : Type 1} → statement M
zamiachisel_sum_spec =
    tie.close
    (tie.spec
    returns
    (λ c κs. search rules)
    (λ c κs. search rules)
    (λ c. search rules)
    (λ c κs. search rules)
    (λ c. search rules)
    (λ c. search rules)
    (λ c. search rules)
    (λ c. search rules)
    returns-2)
