-- `answer_blocks`: by what became of the problem.
use Rattle.std.proofs.Common.{◌≡◌, length, refl, sym, ◌∙◌}
use lib.Seq.{length-take-le, take-length}
use Rattle.key_set.proofs.Index.{indexed_start}
use Rattle.certificate_judge.proofs.Judging.{labels_long}
use Rattle.checker.proofs.Verdicts.{blocks_refused_lem, bytes_refused, blocks_found_lem, bytes_found}
use Rattle.checker.proofs.answer_blocks.Goals as goal

pub prepare-requires : goal.prepare-requires
prepare-requires c = (record { keys_zero = refl; coefficients_zero = refl; sizes_zero = refl }, c.requires.1, indexed_start _)

pub copy_from_slice-requires : goal.copy_from_slice-requires
copy_from_slice-requires c = length-take-le 576 c.args.out.now c.requires.0 ∙ sym (labels_long (c.prepare.ensures.ready _ c.in-Ok.is).joined)

pub returns-in-Err : goal.returns-in-Err
returns-in-Err c =
    let e = c.prepare.ensures.refuses _ c.in-Err.is in
    (c.refuse_blocks.ensures ∙ blocks_refused_lem _ e, bytes_refused _ e c.args.out.now, c.prepare.ensures.rest)

pub returns-in-Ok : goal.returns-in-Ok
returns-in-Ok c =
    let q = c.prepare.ensures.ready _ c.in-Ok.is in
    let l : length c.prepare.new.labels ≡ 576 = labels_long q.joined in (
      blocks_found_lem _ q.gives _ _ _ _ refl q.blocks q.rounds q.joined.flat.rule,
      bytes_found _ q.gives c.args.out.now _ _ q.joined.labels_are (rw (c.copy_from_slice.ensures.after, take-length c.prepare.new.labels, l) refl),
      c.prepare.ensures.rest,
    )
