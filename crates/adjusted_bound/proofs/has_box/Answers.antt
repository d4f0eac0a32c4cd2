-- `has_box`: by whether the condition at hand is a box.
use Rattle.std.proofs.Common.{◌<◌, length, sym, ◌∙◌, arith}
use Rattle.adjusted_bound.proofs.Searched.{box_found, box_passed, searched_all}
use Rattle.adjusted_bound.proofs.has_box.Goals as goal

pub returns-then-is_box : goal.returns-then-is_box
returns-then-is_box c p f i e =
    let a = c.args in
    let h : c.loop-j.j < length p.conditions = omega (arith, c.loop-j-test.true, f.conditions) in
    box_found p a.keys.now a.coefficients.now a.sizes.now f i c.loop-j.j h (sym (c.is_box.ensures i e) ∙ c.if-is_box.true)
    (c.loop-j.invariant p f i e)

pub loop-j-preserved : goal.loop-j-preserved
loop-j-preserved c p f i e =
    let a = c.args in
    let h : c.loop-j.j < length p.conditions = omega (arith, c.loop-j-test.true, f.conditions) in
    box_passed p a.keys.now a.coefficients.now a.sizes.now f i c.loop-j.j h (sym (c.is_box.ensures i e) ∙ c.if-is_box.false)
    (c.loop-j.invariant p f i e)

pub returns : goal.returns
returns c p f i e = searched_all i p.conditions c.loop-j.j (omega (arith, c.loop-j-test.false, f.conditions)) (c.loop-j.invariant p f i e)
