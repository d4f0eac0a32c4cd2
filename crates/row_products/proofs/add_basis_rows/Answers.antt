use Rattle.std.proofs.Common.{arith, ◌∙◌, sym}
use Rattle.format.specs.CertificateRules.{no_row}
use Rattle.certificate_rows.proofs.Offsets.{stand_low, rows_length, row_by}
use Rattle.row_products.proofs.Gathering.{gathering_start, gathering_small, gathering_end, gathering_row, gathering_other, walked_low}
use Rattle.row_products.proofs.add_basis_rows.Goals as goal
use Rattle.row_products.proofs.add_basis_rows.Goals.{then-basis_at-j, else-basis_at-j}

pub loop-r-init : goal.loop-r-init
loop-r-init c = gathering_start c.requires.0

pub basis_at-requires : goal.basis_at-requires
basis_at-requires c =
    let stands = c.requires.1.rows_sound.stand.each c.loop-r.r c.loop-r-test.true in
    omega (arith, stand_low stands.entries, stands.inside)

pub add_row-wide-requires : goal.add_row-wide-requires
add_row-wide-requires c =
    let v = c.loop-r.invariant in (
      gathering_small v (omega (arith, c.requires.1.rows_sound.stand.few)),
      rw v.long (walked_low c.requires.1 c.loop-r.r c.loop-r-test.true (sym c.basis_at.ensures ∙ c.if-basis_at-j.true)),
    )

pub loop-r-preserved : goal.loop-r-preserved
loop-r-preserved c =
    let v = c.loop-r.invariant in
    let h = c.loop-r-test.true in
    let rows = c.args.rows in
    let count = rows_length rows.stream.now rows.starts.now rows.count in
    let is = row_by rows.stream.now rows.starts.now rows.count c.loop-r.r no_row h in
    elim c.if-basis_at-j.branch [
      | then-basis_at-j w ↦
          rw (w.g-is, w.found-is, w.unwrap_or.ensures)
          (gathering_row v (omega (arith, count)) _ is (sym c.basis_at.ensures ∙ w.if-basis_at-j.true) w.add_row-wide.ensures)
      | else-basis_at-j w ↦
          rw (w.g-is, w.found-is) (gathering_other v (omega (arith, count)) _ is (λ e. w.if-basis_at-j.false (c.basis_at.ensures ∙ e)))
    ]

pub returns : goal.returns
returns c =
    let rows = c.args.rows in
    let n = rows_length rows.stream.now rows.starts.now rows.count in
    gathering_end c.loop-r.invariant (omega (arith, c.requires.1.rows_sound.stand.few)) (omega (arith, c.loop-r-test.false))
