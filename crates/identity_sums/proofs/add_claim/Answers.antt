-- `add_claim`: the objective's terms, and the term of 1, make minus the claim.
use Rattle.std.proofs.Common.{rules, arith}
use mir.Facts.{to_z-of_z}
use mir.Syntax.{w64}
use mir.Val.{SFits}
use Rattle.integers.proofs.Ranges.{abs_fits}
use Rattle.identity_sums.specs.Tables.{Negates}
use Rattle.identity_sums.proofs.Growth.{grown_then}
use Rattle.identity_sums.proofs.Claims.{claim_sum}
use Rattle.identity_sums.proofs.add_claim.Goals as goal

pub returns : goal.returns
returns c =
    let h = c.args.header in
    let n : Negates h.side h.scale h.p h.q c.negate-f.result = search rules in
    let x : SFits w64 c.negate-f.result.objective = abs_fits (omega (arith, n.objective_small)) in
    let y : SFits w64 c.negate-f.result.constant = abs_fits (omega (arith, n.constant_small)) in
    grown_then (simp (to_z-of_z x) at c.add_objective.ensures) (simp (to_z-of_z y) at c.add_number.ensures) (claim_sum h _ _ n) (omega arith)
