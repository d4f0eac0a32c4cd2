-- `zamiachisel_pair`: the clauses of the call, with its verdict in the run.
use borrow.Author.Rules.{rules}
use mathlib.Core.Path.{refl}
use mathlib.Core.Bool.{Bool}
use Rattle.calls.specs.declared.PairVerdict.{PairVerdict}
use Rattle.calls.specs.Tables.{Tables, tables, tables_short}
use Rattle.calls.specs.Pair.{pair_verdict}
use Rattle.calls.specs.Checks.{problem_of}
use Rattle.verdict_numbers.specs.Numbers.{pair_numbers}
use Rattle.verdict_numbers.proofs.RunsOfZeros.{pair_run}
use Rattle.c_calls.proofs.Whole.{too_short, whole}
use Rattle.c_calls.proofs.zamiachisel_pair.Statement.{statement}
use Rattle.c_calls.proofs.zamiachisel_pair.Tie as tie

returns : tie.Need-returns-then-verdict-lt-PAIR
unfolding pair_verdict pair_numbers problem_of
returns c =
    let a = c.args in
    let lent : Tables = tables a.keys.now a.high.now a.low.now in
    let of : Bool → PairVerdict = λ b. pair_verdict b a.problem.now a.first.now a.second.now in
    too_short 13 a.verdict.now (tables_short lent) pair_numbers of (λ b. b) lent c.if-verdict-lt-PAIR.true refl refl

returns-2 : tie.Need-returns
unfolding pair_numbers
returns-2 c =
    let p = c in
    let q = p in
    let k = q in
    let i = k in
    let a = i.args in
    let lent : Tables = tables a.keys.now a.high.now a.low.now in
    let of : Bool → PairVerdict = λ b. pair_verdict b a.problem.now a.first.now a.second.now in
    let v = k.pair-v.result in
    let e = k.pair-v.ensures in
    whole 13 a.verdict.now (tables_short lent) pair_numbers of (λ b. b) lent i.if-verdict-lt-PAIR.false v e.0 q.pair_numbers-numbers.result p.put_numbers.new.run p.put_numbers.result (tables k.pair-v.new.keys k.pair-v.new.high k.pair-v.new.low) q.pair_numbers-numbers.ensures p.put_numbers.ensures.0 p.put_numbers.ensures.1 e.1.0 (pair_run a.verdict.now v e.1.1.1.1.1.1.1.1.1.1.1.1.1.1.0)

pub zamiachisel_pair_spec : {M : Type 1} → statement M
zamiachisel_pair_spec =
    tie.close
    (tie.spec
    returns
    (λ c κs. search rules)
    (λ c κs. search rules)
    (λ c. search rules)
    (λ c κs. search rules)
    (λ c. search rules)
    (λ c. search rules)
    (λ c. search rules)
    (λ c. search rules)
    returns-2)
