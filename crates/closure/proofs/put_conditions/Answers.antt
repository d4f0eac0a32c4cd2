-- `closure::put_conditions` meets its contract.
use Rattle.std.proofs.Common.{ℕ, ◌+◌, List, arith}
use Rattle.counting.specs.Counting.{from_to}
use Rattle.counting.proofs.Steps.{from_to_done, from_to_more}
use Rattle.joining_rule.specs.Sets.{insert_all}
use Rattle.joining_rule.proofs.Extending.{from_to_extends}
use Rattle.joining_rule.proofs.Start.{insert_all_extends}
use Rattle.joining_products.proofs.Growing.{growing_start, growing_step, growing_full, growing_end}
use Rattle.joining_bases.specs.Parts.{exponents_in}
use Rattle.closure.proofs.put_conditions.Goals as goal

-- the exponents of polynomial j put in
abbrev step : List ℕ → List ℕ → ℕ → List ℕ → List ℕ
step keys sizes j = insert_all (exponents_in keys sizes j)

pub loop-j-init : goal.loop-j-init
loop-j-init c = growing_start _ _ _ _ c.requires.0.0 c.requires.0.1

pub returns-in_err-n : goal.returns-in_err-n
returns-in_err-n c =
    let f = step c.args.keys.now c.args.sizes.now in
    growing_full _ _ _ _ _ _ _ c.loop-j.invariant _ _ _ c.in_err-n.ensures.0 (from_to (c.loop-j.j + 1) 9 f) (from_to_more _ _ _ _ (omega arith))
    (from_to_extends f (λ j X. insert_all_extends _ X) _ 9 _) _ c.from_residual.ensures.0

pub loop-j-preserved : goal.loop-j-preserved
loop-j-preserved c =
    growing_step _ _ _ _ _ _ _ c.loop-j.invariant _ _ _ _ c.in_ok-n.ensures.0 _ (from_to_more _ _ _ _ (omega arith)) c.in_ok-n.ensures.1 (insert_all_extends _ _)

pub returns : goal.returns
returns c =
    let g = c.loop-j.invariant in
    (growing_end _ _ _ _ _ _ _ g (from_to_done _ _ _ _ (omega arith)), g.holds.few)
