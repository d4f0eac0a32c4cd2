-- The iterator gives the first nine numbers, whose sum is small.
use Rattle.std.proofs.Common.{◌<◌, ◌^◌, take, get_or, ◌∙◌, arith, rules}
use Rattle.std.specs.List.{sum}
use Rattle.std.proofs.lemmas.Iterator.{YieldsList-from_slice, YieldsList-from_map}
use Rattle.std.proofs.lemmas.Iterator.Consumers.{sum_by_from_yields_List, fits_by_from_yields_list}
use Rattle.joining_bases.proofs.Labels.{sum_taken, sum_small}
use Rattle.joining_bases.proofs.total.Goals as goal

pub sum-requires-clause-fits : goal.sum-requires-clause-fits
sum-requires-clause-fits c =
    let l = c.args.state.now in
    let few : sum (take 9 l) < 2 ^ 64 = omega (arith, sum_taken l 9 (omega arith), sum_small (λ j. get_or l j 0) 64 9 c.requires) in
    fits_by_from_yields_list (λ x. x) (take 9 l) c.map.result _ (YieldsList-from_map _ (λ x. x) (YieldsList-from_slice (take 9 l) cc) c.map.ensures.closure (λ x r q k. search rules)) few

pub returns : goal.returns
returns c =
    let l = c.args.state.now in
    sum_by_from_yields_List (λ x. x) (take 9 l) c.map.result _ c.sum.ensures.ran (YieldsList-from_map _ (λ x. x) (YieldsList-from_slice (take 9 l) cc) c.map.ensures.closure (λ x r q k. search rules))
    ∙ sum_taken l 9 (omega arith)
