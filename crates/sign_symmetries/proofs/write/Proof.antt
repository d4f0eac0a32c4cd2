-- `write`: the masks that meet the gathered bytes are the symmetries.
use borrow.Author.Rules.{rules}
use native.Mathlib.Omega.{arith}
use mathlib.Core.Path.{refl, sym, ap, ◌∙◌}
use mathlib.Core.List.{List}
use Prim.Native.Nat.{ℕ, ◌^◌}
use lib.ListN.{length}
use lib.Seq.{length-take-le}
use Rattle.calls.specs.Symmetries.{mask_bytes}
use Rattle.sign_symmetries.proofs.Gathering.{shifted_one, masks_found}
use Rattle.sign_symmetries.proofs.write.Statement.{statement}
use Rattle.sign_symmetries.proofs.write.Tie as tie

gather-requires : tie.Need-gather-count-requires
gather-requires c κs = (c.requires.0, refl)

array-share-prefix-bytes : tie.Need-slice_bounds-bytes-end
array-share-prefix-bytes c = let g = c.gather-count.ensures in omega (arith, g.few, g.long)

slice-aggregate-list : tie.Need-slice_bounds-list-end
slice-aggregate-list c = let g = c.gather-count.ensures in sym (length-take-le _ _ (omega (arith, g.few, g.long)))

shl-list : tie.Need-overflow_shl-n
shl-list c = omega (arith, c.requires.1)

list-requires : tie.Need-list-requires
list-requires c κs =
    let s = c in
    let w = shifted_one s.args.n s.requires.1 in
    (omega (arith, w.0, w.1), s.requires.2)

same_length : tie.Need-shape_of-out
same_length c = search rules

returns : tie.Need-returns
returns c =
    let l = c in
    let g = l in
    let s = g in
    let w = shifted_one s.args.n s.requires.1 in
    (λ p k f v.
    let e = masks_found p _ _ (g.gather-count.ensures.parities p k f) (w.0 ∙ ap (λ (n : ℕ). 2 ^ n) (sym v)) in
    (l.list.ensures.0 ∙ ap length e, l.list.ensures.1 ∙ ap (λ (m : List ℕ). mask_bytes m s.args.out.now) e))

pub write_spec : {M : Type 1} → statement M
write_spec =
    tie.close
    (tie.spec
    gather-requires
    array-share-prefix-bytes
    slice-aggregate-list
    shl-list
    list-requires
    same_length
    returns)
