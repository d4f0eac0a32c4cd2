-- `joining_products::add_pair` meets its contract: a small basis adds all, another what it is not told of.
use Rattle.joining_products.proofs.Adding.{added_told, added_marked}
use Rattle.joining_products.proofs.add_pair.Goals as goal

pub returns-then-is_done : goal.returns-then-is_done
returns-then-is_done c =
    let d = c.is_done.ensures in
    (added_told _ _ _ _ _ _ _ c.requires.0 c.if-basis-le-PLAIN.false _ (d.before c.if-is_done.true) (d.same c.if-is_done.true), c.requires.0.basis.support.few)

pub returns : goal.returns
returns c = let e = c.add_slotted.ensures in (added_marked _ _ _ _ _ _ _ c.requires.0 c.if-basis-le-PLAIN.false _ (c.is_done.ensures.marked c.if-is_done.false) _ _ _ e.0, e.1)
