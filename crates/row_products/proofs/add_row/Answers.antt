-- `add_row`: the arrays hold the row's entries, and the part says what is added of them.
use Rattle.std.proofs.Common.{◌≡◌, refl, ◌∙◌, w64, to_z, of_z, arith, rules}
use mir.Facts.{to_z-of_z}
use Rattle.counting.specs.Counting.{Bounded}
use Rattle.certificate_rows.specs.Offsets.{weight_at}
use Rattle.certificate_rows.proofs.Offsets.{stand_low}
use Rattle.row_products.proofs.Gathering.{low_few, row_held}
use Rattle.row_products.proofs.add_row.Goals as goal

pub read_row-n-requires : goal.read_row-n-requires
read_row-n-requires c =
    let bytes : Bounded 255 c.args.s.now = λ i. omega (arith, c.type_inv.s i) in
    (c.requires.1.stands, low_few bytes c.requires.1, refl, refl)

pub weight_at-w-requires : goal.weight_at-w-requires
weight_at-w-requires c = let k = c.requires.1.stands in omega (arith, stand_low k.entries, k.inside)

pub add_low-requires : goal.add_low-requires
add_low-requires c =
    let bytes : Bounded 255 c.args.s.now = λ i. omega (arith, c.type_inv.s i) in
    let w : to_z w64 (of_z w64 c.weight_at-w.result) ≡ weight_at c.args.s.now c.args.from = to_z-of_z {w = w64} (search rules) ∙ c.weight_at-w.ensures in
    rw w (row_held bytes c.requires.1 c.read_row-n.ensures refl c.requires.0)

pub add_cross-requires : goal.add_cross-requires
add_cross-requires c =
    let bytes : Bounded 255 c.args.s.now = λ i. omega (arith, c.type_inv.s i) in
    let w : to_z w64 (of_z w64 c.weight_at-w.result) ≡ weight_at c.args.s.now c.args.from = to_z-of_z {w = w64} (search rules) ∙ c.weight_at-w.ensures in
    rw w (row_held bytes c.requires.1 c.read_row-n.ensures refl c.requires.0)

pub add_high-requires : goal.add_high-requires
add_high-requires c =
    let bytes : Bounded 255 c.args.s.now = λ i. omega (arith, c.type_inv.s i) in
    let w : to_z w64 (of_z w64 c.weight_at-w.result) ≡ weight_at c.args.s.now c.args.from = to_z-of_z {w = w64} (search rules) ∙ c.weight_at-w.ensures in
    rw w (row_held bytes c.requires.1 c.read_row-n.ensures refl c.requires.0)
