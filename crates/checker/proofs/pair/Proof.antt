-- `pair`: the verdict by what became of both certificates, and the clauses from the equation.
use borrow.Author.Rules.{rules}
use native.Mathlib.Omega.{arith}
use mathlib.Core.Path.{ap, ◌∙◌}
use Rattle.counting.specs.Counting.{Bounded}
use Rattle.calls.specs.Tables.{tables, tables_short}
use Rattle.calls.proofs.Pushing.{byte_clauses}
use Rattle.checker.specs.Verdicts.{pair_from}
use Rattle.checker.proofs.Verdicts.{pair_judged}
use Rattle.checker.proofs.pair.Statement.{statement}
use Rattle.checker.proofs.pair.Tie as tie

-- both certificates are streams of bytes
second-bytes : (c : tie.After-shared_slice_known-3-1) → Bounded 255 c.args.second.now
second-bytes c i = let b = c.shared_slice_known-3-1.given i in omega arith

first-bytes : (c : tie.After-shared_slice_known-3-1) → Bounded 255 c.args.first.now
first-bytes c i = let b = c.shared_slice_known-2-1.given i in omega arith

returns : tie.Need-returns
returns c =
    let k = c in
    let n = k in
    let a = n.args in
    let short = tables_short (tables a.keys.now a.high.now a.low.now) in
    let e = k.judge_two.ensures in
    let v = c.pair_of.ensures ∙ ap pair_from e.0 ∙ pair_judged short a.problem.now a.first.now a.second.now in
    (v, (e.1, byte_clauses short a.problem.now a.first.now a.second.now (first-bytes n.before.before.before.before.before.before.before.before.before.before) (second-bytes n.before.before.before.before.before.before.before.before.before.before) _ v))

pub pair_spec : {M : Type 1} → statement M
pair_spec =
    tie.close
    (tie.spec
    (λ c κs. search rules)
    (λ c κs. search rules)
    (λ c. search rules)
    (λ c. search rules)
    (λ c. search rules)
    returns)
