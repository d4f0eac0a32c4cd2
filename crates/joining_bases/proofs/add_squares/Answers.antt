-- `joining_bases::add_squares` meets its contract.
use Rattle.std.proofs.Common.{◌+◌, sym, arith}
use Rattle.joining_products.proofs.Growing.{growing_start, growing_skip, growing_step, growing_full, growing_end}
use Rattle.joining_bases.specs.Parts.{bases_in, squares_to}
use Rattle.joining_bases.proofs.Squares.{squares_from, squares_start, squares_more, squares_done, squares_rest, squares_extend}
use Rattle.joining_bases.proofs.add_squares.Goals as goal

pub loop-j-init : goal.loop-j-init
loop-j-init c =
    let h = c.requires.0 in
    growing_skip _ _ _ _ _ _ _ (growing_start _ (squares_to c.args.adding _) _ _ h.support h.index) _ (sym (squares_start _ _ _))

pub add_squares-requires : goal.add_squares-requires
add_squares-requires c =
    rw (c.exponents.ensures, c.basis.ensures)
    (record { support = c.loop-j.invariant.holds; index = c.loop-j.invariant.index; basis = c.requires.0.arrays.limits c.loop-j.j (omega arith) })

pub returns-in_err-n : goal.returns-in_err-n
returns-in_err-n c =
    let e = rw (c.exponents.ensures, c.basis.ensures) at c.in_err-n.ensures.0 in
    growing_full _ _ _ _ _ _ _ c.loop-j.invariant _ _ _ e (squares_from c.args.adding (bases_in c.args.keys.now c.args.sizes.now) (c.loop-j.j + 1)) (squares_more _ _ c.loop-j.j _ (omega arith)) (squares_rest _ _ (c.loop-j.j + 1) _) _ c.from_residual.ensures.0

pub loop-j-preserved : goal.loop-j-preserved
loop-j-preserved c =
    let e = rw (c.exponents.ensures, c.basis.ensures) at c.in_ok-n.ensures.0 in
    growing_step _ _ _ _ _ _ _ c.loop-j.invariant _ _ _ _ e _ (squares_more _ _ c.loop-j.j _ (omega arith)) c.in_ok-n.ensures.1 (squares_extend _ _ _)

pub returns : goal.returns
returns c =
    let g = c.loop-j.invariant in
    (growing_end _ _ _ _ _ _ _ g (squares_done _ _ c.loop-j.j _ (omega arith)), g.holds.few)
