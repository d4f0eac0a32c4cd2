-- `is_box`: by the kind, the number of terms, and these in either order.
use borrow.Author.Rules.{sfits_of, rules}
use native.Mathlib.Omega.{arith}
use mathlib.Core.Path.{◌≡◌, sym, ◌∙◌}
use mathlib.Core.Bool.{false}
use Prim.Native.Nat.{◌+◌, ◌*◌}
use lib.IntN.{pos}
use lib.ListN.{get_or}
use mir.Syntax.{w32}
use mir.Val.{SFits}
use mir.Facts.{to_z-of_z}
use Rattle.flat.specs.Flat.{equality_in}
use Rattle.adjusted_bound.proofs.Boxes.{no_equality, no_terms_lem, this_way, that_way}
use Rattle.adjusted_bound.proofs.is_box.Statement.{statement}
use Rattle.adjusted_bound.proofs.is_box.Tie as tie

abbrev start : tie.Else-is_equality → tie.Start
start c = c.before.before.before.before

inequality : (c : tie.Else-is_equality) → let a = (start c).args in equality_in a.sizes.now a.j ≡ false
inequality c = sym c.is_equality.ensures ∙ c.if-is_equality.false

-- the coefficients are numbers of 32 bits
abbrev from-d : tie.After-d-1 → tie.Start
from-d c = start c.before.before.before.before.before.before

first_fits : (c : tie.After-d-1) → let a = (from-d c).args in SFits w32 (get_or a.coefficients.now (32 * a.j) (pos 0))
first_fits c = sfits_of c.c-1.given

second_fits : (c : tie.After-d-1)
    → let a = (from-d c).args in SFits w32 (get_or a.coefficients.now (32 * a.j + 1) (pos 0))
second_fits c = sfits_of c.d-1.given

is-equality-requires : tie.Need-is_equality-requires
is-equality-requires c κs = omega (arith, c.requires.0.sizes_length)

returns : tie.Need-returns-then-is_equality
returns c =
    let e = c in
    let a = e.args in
    λ i s.
    no_equality i a.keys.now a.coefficients.now a.sizes.now a.j (sym e.is_equality.ensures ∙ c.if-is_equality.true)

add-if2 : tie.Need-overflow_add-j
add-if2 c = search rules

mul-if2 : tie.Need-offset_bounds-sizes-j
mul-if2 c = search rules

shared-slice-read-if2 : tie.Need-bounds-sizes-j
shared-slice-read-if2 c = search rules

returns-2 : tie.Need-returns-then-sizes-j-ne2
returns-2 c =
    let d = c in
    let a = (start d.before.before).args in
    λ i s. no_terms_lem i a.keys.now a.coefficients.now a.sizes.now a.j (inequality d.before.before) c.if-sizes-j-ne2.true

mul_at : tie.Need-overflow_mul-at
mul_at c = search rules

add-k : tie.Need-overflow_add-k
add-k c = search rules

mul-k : tie.Need-offset_bounds-keys-at
mul-k c = search rules

shared-slice-read-k : tie.Need-bounds-keys-at
shared-slice-read-k c = search rules

add-l : tie.Need-overflow_add-l
add-l c = search rules

add-l-2 : tie.Need-overflow_add-l-2
add-l-2 c = search rules

mul-l : tie.Need-offset_bounds-keys-at-2
mul-l c = search rules

shared-slice-read-l : tie.Need-bounds-keys-at-2
shared-slice-read-l c = search rules

mul-c : tie.Need-offset_bounds-coefficients-at
mul-c c = search rules

shared-slice-copy-out-c : tie.Need-bounds-coefficients-at
shared-slice-copy-out-c c = search rules

add-d : tie.Need-overflow_add-d
add-d c = search rules

mul-d : tie.Need-offset_bounds-coefficients-at-2
mul-d c = search rules

shared-slice-copy-out-d : tie.Need-bounds-coefficients-at-2
shared-slice-copy-out-d c = search rules

are-terms-requires : tie.Need-are_terms-requires
are-terms-requires c κs = search rules

returns-3 : tie.Need-returns-then-are_terms
returns-3 c =
    let t = c in
    let d = t in
    let e = d in
    let a = (start e.before.before.before.before.before.before.before.before).args in
    λ i s.
    this_way i a.keys.now a.coefficients.now a.sizes.now a.j (inequality e.before.before.before.before.before.before.before.before) d.if-sizes-j-ne2.false a.square s
    (sym (simp (to_z-of_z, first_fits t.before.before, second_fits t.before.before) at t.are_terms.ensures) ∙ c.if-are_terms.true)

are-terms-requires-2 : tie.Need-are_terms-requires-2
are-terms-requires-2 c κs = search rules

returns-4 : tie.Need-returns
returns-4 c =
    let f = c in
    let t = f in
    let d = t in
    let e = d in
    let a = (start e.before.before.before.before.before.before.before.before.before).args in
    λ i s.
    simp (to_z-of_z, first_fits t.before.before.before, second_fits t.before.before.before) at c.are_terms-2.ensures
    ∙ that_way i a.keys.now a.coefficients.now a.sizes.now a.j (inequality e.before.before.before.before.before.before.before.before.before) d.if-sizes-j-ne2.false a.square s
    (sym (simp (to_z-of_z, first_fits t.before.before.before, second_fits t.before.before.before) at t.are_terms.ensures) ∙ f.if-are_terms.false)

pub is_box_spec : {M : Type 1} → statement M
is_box_spec =
    tie.close
    (tie.spec
    is-equality-requires
    returns
    add-if2
    mul-if2
    shared-slice-read-if2
    returns-2
    mul_at
    add-k
    mul-k
    shared-slice-read-k
    add-l
    add-l-2
    mul-l
    shared-slice-read-l
    mul-c
    shared-slice-copy-out-c
    add-d
    mul-d
    shared-slice-copy-out-d
    are-terms-requires
    returns-3
    are-terms-requires-2
    returns-4)
