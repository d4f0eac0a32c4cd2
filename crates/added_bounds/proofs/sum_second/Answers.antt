-- `sum_second`: each return by what the second pair and the regions said.
use Rattle.std.proofs.Common.{◌≡◌, sym, ap, ◌∙◌, arith}
use Rattle.calls.specs.AddedBounds.{sum_second, same_region_read}
use Rattle.format.specs.ProblemRules.{read_problem}
use Rattle.calls.proofs.Pairing.{pair_stream}
use Rattle.added_bounds.proofs.Bounds.{bounds_of}
use Rattle.added_bounds.proofs.Ends.{second_refused, regions_differ, both_accepted}
use Rattle.added_bounds.proofs.sum_second.Goals as goal

pub of_second-requires : goal.of_second-requires
of_second-requires c = pair_stream _ _ _ _ _ c.pair-w.ensures.verdict

pub returns-then-w-gt0-clause-verdict : goal.returns-then-w-gt0-clause-verdict
returns-then-w-gt0-clause-verdict c =
    let same = same_region_read (read_problem c.args.problem1.now) (read_problem c.args.problem2.now) in
    let refused = rw c.of_second.ensures at c.refuse.ensures in
    refused ∙ sym (second_refused same c.args.v _ c.if-w-gt0.true) ∙ ap (sum_second same c.args.v) c.pair-w.ensures.verdict

pub returns-then-not-is_same-clause-verdict : goal.returns-then-not-is_same-clause-verdict
returns-then-not-is_same-clause-verdict c =
    let same = same_region_read (read_problem c.args.problem1.now) (read_problem c.args.problem2.now) in
    let refused = rw c.problem_refusal.ensures at c.refuse-then-not-is_same.ensures in
    refused
    ∙ sym (regions_differ same c.args.v c.pair-w.result (omega (arith, c.if-w-gt0.false)) (sym c.is_same.ensures ∙ c.if-not-is_same.true))
    ∙ ap (sum_second same c.args.v) c.pair-w.ensures.verdict

pub add-requires : goal.add-requires
add-requires c =
    let stated = c.pair-w.ensures.accepted.only (omega (arith, c.if-w-gt0.false)) in
    let b =
    bounds_of (λ i. let h = c.type_inv.low2 i in omega arith) (λ i. let h = c.type_inv.high2 i in omega arith) stated in
    (c.requires.0, c.requires.1, b.0, b.1)

pub returns-clause-verdict : goal.returns-clause-verdict
returns-clause-verdict c =
    let same = same_region_read (read_problem c.args.problem1.now) (read_problem c.args.problem2.now) in
    c.add.ensures
    ∙ sym (both_accepted same c.args.v c.pair-w.result (omega (arith, c.if-w-gt0.false)) (sym c.is_same.ensures ∙ c.if-not-is_same.false))
    ∙ ap (sum_second same c.args.v) c.pair-w.ensures.verdict
