-- `joining_products::add_row` meets its contract.
use Rattle.joining_rule.proofs.Extending.{add_extends}
use Rattle.round_laws.specs.Added.{add_list}
use Rattle.round_laws.specs.Lists.{list_from}
use Rattle.round_laws.proofs.Crossing.{list_extends}
use Rattle.round_laws.proofs.Merging.{list_done}
use lib.ListN.{get_or}
use Rattle.joining_products.proofs.Adding.{adding_asks, adding_step, adding_full, adding_anew, adding_end, rest_low, rest_next, rest_less, row_turn}
use Rattle.joining_products.proofs.add_row.Goals as goal

pub add_pair-requires : goal.add_pair-requires
add_pair-requires c = (
  adding_asks _ _ _ _ _ _ _ _ _ _ _ c.loop-i.invariant.1 _ c.requires.0,
  rest_low _ _ _ c.loop-i.invariant.0 c.loop-i-test.true,
  c.requires.3,
)

pub returns-in_err-n : goal.returns-in_err-n
returns-in_err-n c =
    let follow = c.args.follow.now in
    adding_full _ _ _ _ _ _ _ _ _ _ _ c.loop-i.invariant.1 _ _ _ _ c.in_err-n.ensures.0
    (add_list c.args.basis.exponents.now c.args.basis.keys.now c.args.k (list_from follow (get_or follow c.loop-i.i 0)))
    (row_turn _ _ _ c.loop-i.invariant.0 c.loop-i-test.true _ _ _ _) (list_extends c.args.basis.exponents.now c.args.basis.keys.now _ _ _) _ c.from_residual.ensures.0

pub loop-i-smaller : goal.loop-i-smaller
loop-i-smaller c = rest_less _ _ _ c.loop-i.invariant.0 c.loop-i-test.true

pub loop-i-preserved : goal.loop-i-preserved
loop-i-preserved c = (
  rest_next _ _ _ c.loop-i.invariant.0 c.loop-i-test.true,
  adding_step _ _ _ _ _ _ _ _ _ _ _ c.loop-i.invariant.1 _ _ _ _ _ c.in_ok-n.ensures.0 _
      (row_turn _ _ _ c.loop-i.invariant.0 c.loop-i-test.true _ _ _ _) c.in_ok-n.ensures.1 c.add_pair.auto.pairs (add_extends c.args.basis.exponents.now _ _),
)

pub returns : goal.returns
returns c =
    let g = c.loop-i.invariant.1 in
    (adding_end _ _ _ _ _ _ _ _ _ _ _ (adding_anew _ _ _ _ _ _ _ _ _ _ _ g _ c.shorten.ensures) (list_done _ _ _ _ c.loop-i.i _ c.loop-i-test.false), g.growing.holds.few)
