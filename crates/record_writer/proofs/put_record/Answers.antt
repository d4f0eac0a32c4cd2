use mathlib.Core.List.{flat_map}
use Rattle.std.proofs.Common.{◌≡◌, refl, ap, ◌∙◌, length, arith}
use Rattle.calls.specs.Report.{little_endian, fields_of}
use Rattle.record_writer.proofs.Written.{next}
use Rattle.record_writer.proofs.put_record.Goals as goal

pub loop-k-init : goal.loop-k-init
unfolding flat_map
loop-k-init c = refl

pub loop-k-preserved : goal.loop-k-preserved
unfolding fields_of
loop-k-preserved c =
    let f = c.fields_of-fields.result in
    let n : length f ≡ 8 = ap length c.fields_of-fields.ensures in
    next (little_endian 4) 4 (λ x. refl) f c.loop-k.k c.args.part.now c.loop-k.part 0 c.put_field.new.part (omega arith) c.loop-k.invariant c.put_field.ensures

pub returns : goal.returns
unfolding fields_of
returns c =
    let k : c.loop-k.k ≡ 8 = omega (arith, c.loop-k-test.false) in
    c.loop-k.invariant ∙ simp (k, c.fields_of-fields.ensures)
