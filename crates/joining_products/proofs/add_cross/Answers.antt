-- `joining_products::add_cross` meets its contract.
use lib.ListN.{get_or}
use Rattle.round_laws.specs.Added.{add_lists}
use Rattle.round_laws.specs.Lists.{list_from}
use Rattle.round_laws.proofs.Crossing.{list_extends, lists_extend}
use Rattle.round_laws.proofs.Merging.{lists_done}
use Rattle.joining_products.proofs.Adding.{adding_asks, adding_step, adding_full, adding_end, rest_low, rest_next, rest_less, cross_turn}
use Rattle.joining_products.proofs.add_cross.Goals as goal

pub add_row-requires : goal.add_row-requires
add_row-requires c = (
  adding_asks _ _ _ _ _ _ _ _ _ _ _ c.loop-k.invariant.1 _ c.requires.0,
  c.requires.1,
  c.requires.2,
  rest_low _ _ _ c.loop-k.invariant.0 c.loop-k-test.true,
)

pub returns-in_err-n : goal.returns-in_err-n
returns-in_err-n c =
    let follow = c.args.follow.now in
    adding_full _ _ _ _ _ _ _ _ _ _ _ c.loop-k.invariant.1 _ _ _ _ c.in_err-n.ensures.0
    (add_lists c.args.basis.exponents.now c.args.basis.keys.now (list_from follow c.args.m.a) (list_from follow (get_or follow c.loop-k.k 0)))
    (cross_turn _ _ _ c.loop-k.invariant.0 c.loop-k-test.true _ _ _ _) (lists_extend c.args.basis.exponents.now c.args.basis.keys.now _ _ _) _ c.from_residual.ensures.0

pub loop-k-smaller : goal.loop-k-smaller
loop-k-smaller c = rest_less _ _ _ c.loop-k.invariant.0 c.loop-k-test.true

pub loop-k-preserved : goal.loop-k-preserved
loop-k-preserved c = (
  rest_next _ _ _ c.loop-k.invariant.0 c.loop-k-test.true,
  adding_step _ _ _ _ _ _ _ _ _ _ _ c.loop-k.invariant.1 _ _ _ _ _ c.in_ok-n.ensures.0 _
      (cross_turn _ _ _ c.loop-k.invariant.0 c.loop-k-test.true _ _ _ _) c.in_ok-n.ensures.1 c.add_row.auto.pairs (list_extends c.args.basis.exponents.now c.args.basis.keys.now _ _ _),
)

pub returns : goal.returns
returns c =
    let g = c.loop-k.invariant.1 in
    (adding_end _ _ _ _ _ _ _ _ _ _ _ g (lists_done _ _ _ _ c.loop-k.k _ c.loop-k-test.false), g.growing.holds.few)
