-- `joining_bases::put_missing` meets its contract.
use Rattle.std.proofs.Common.{◌+◌, ◌*◌, get_or, sym, ◌∙◌, arith}
use Rattle.key_set.proofs.Keys.{keys_rising}
use Rattle.joining_rule.specs.Rounds.{extend_to}
use Rattle.joining_rule.proofs.Extending.{extend_extends}
use Rattle.joining_rule.proofs.Rounds.{adding_most}
use Rattle.joining_products.proofs.Growing.{growing_start, growing_skip, growing_step, growing_full, growing_end}
use Rattle.joining_bases.specs.Parts.{bases_in, labels_in}
use Rattle.joining_bases.proofs.Pieces.{taken_long}
use Rattle.joining_bases.proofs.Labels.{labels_at_lem, part_is}
use Rattle.joining_bases.proofs.Turns.{basis_long, arrays_sizes}
use Rattle.joining_bases.proofs.Noting.{extend_from, missing_start, missing_more, missing_done, missing_extends}
use Rattle.joining_bases.proofs.put_missing.Goals as goal

pub loop-j-init : goal.loop-j-init
loop-j-init c =
    let h = c.requires.held in
    growing_skip _ _ _ _ _ _ _ (growing_start _ (extend_to 9 (bases_in c.args.keys.now c.args.sizes.now) (labels_in c.args.sizes.now c.args.labels.now)) _ _ h.support h.index) _
    (rw c.adding_bases-j.ensures (sym (missing_start _ _ _ _ (adding_most c.args.support.rule) (keys_rising _ _) c.requires.full)))

pub add_blocks-requires : goal.add_blocks-requires
add_blocks-requires c =
    let j = c.loop-j.j in
    let a = c.requires.held.arrays in
    rw (c.exponents.ensures, c.basis.ensures) (
      record { support = c.loop-j.invariant.holds; index = c.loop-j.invariant.index; basis = a.limits j (omega arith) },
      taken_long (64 * j) (get_or c.args.sizes.now j 0) c.args.labels.now (omega (arith, (arrays_sizes _ _ a).small j (omega arith), c.requires.long)) ∙ sym (basis_long _ _ a j (omega arith)),
    )

pub returns-in_err-n : goal.returns-in_err-n
returns-in_err-n c =
    let j = c.loop-j.j in
    let p = part_is _ (arrays_sizes _ _ c.requires.held.arrays) c.args.labels.now j ∙ sym (labels_at_lem _ _ j (omega arith)) in
    let e = rw (c.exponents.ensures, c.basis.ensures, p) at c.in_err-n.ensures.0 in
    growing_full _ _ _ _ _ _ _ c.loop-j.invariant _ _ _ e (extend_from (j + 1) (bases_in c.args.keys.now c.args.sizes.now) (labels_in c.args.sizes.now c.args.labels.now)) (missing_more _ _ j _ (omega arith)) (missing_extends _ _ (j + 1) _) _ c.from_residual.ensures.0

pub loop-j-preserved : goal.loop-j-preserved
loop-j-preserved c =
    let j = c.loop-j.j in
    let p = part_is _ (arrays_sizes _ _ c.requires.held.arrays) c.args.labels.now j ∙ sym (labels_at_lem _ _ j (omega arith)) in
    let e = rw (c.exponents.ensures, c.basis.ensures, p) at c.in_ok-n.ensures.0 in
    growing_step _ _ _ _ _ _ _ c.loop-j.invariant _ _ _ _ e _ (missing_more _ _ j _ (omega arith)) c.in_ok-n.ensures.1 (extend_extends _ _ _ _)

pub returns : goal.returns
returns c =
    let g = c.loop-j.invariant in
    (growing_end _ _ _ _ _ _ _ g (missing_done _ _ c.loop-j.j _ (omega arith)), g.holds.few)
