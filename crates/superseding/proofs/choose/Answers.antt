-- `choose`: the verdict from the two checks, and its fields in the four numbers.
use Rattle.std.proofs.Common.{◌≡◌, ap}
use Rattle.calls.specs.Tables.{tables, tables_short}
use Rattle.calls.specs.declared.SupersedingVerdict.{SupersedingVerdict}
use Rattle.calls.specs.Superseding.{superseding_verdict}
use Rattle.calls.proofs.SupersedingKept.{choice_zeros}
use Rattle.superseding.proofs.choose.Goals as goal

pub returns : goal.returns
unfolding superseding_verdict
returns c =
    let a = c.args in
    let short = tables_short (tables a.keys.now a.high.now a.low.now) in
    let two = c.check_two-two.ensures in
    let v : c.decide-v.result ≡ superseding_verdict short a.problem.now a.first.now a.second.now = rw (← two.first, ← two.second) c.decide-v.ensures in
    let chosen = ap (λ (w : SupersedingVerdict). w.chosen) v in
    let refusal = ap (λ (w : SupersedingVerdict). w.refusal) v in
    record {
      chosen = chosen;
      numbers = refusal;
      tables = two.tables;
      zeros = choice_zeros short a.problem.now a.first.now a.second.now _ _ chosen refusal;
    }
