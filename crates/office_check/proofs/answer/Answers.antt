-- `answer`: by the refusal and the length of the buffer.
use Rattle.std.proofs.Common.{◌∙◌, arith}
use Rattle.office_check.proofs.Answers.{texts_short, told_refused, told_short, told_accepted, buffer_refused, buffer_short, buffer_accepted}
use Rattle.office_check.proofs.answer.Goals as goal

pub returns-then-check-gt0 : goal.returns-then-check-gt0
returns-then-check-gt0 c =
    let a = c.args in
    record {
      verdict = told_refused a.certificate.now a.v _ c.verdict_sent-check.ensures _ c.if-check-gt0.true;
      buffer = buffer_refused a.certificate.now c.verdict_sent-check.result _ c.if-check-gt0.true;
    }

pub overflow_mul-notes : goal.overflow_mul-notes
overflow_mul-notes c = record { fits = omega (arith, texts_short c.args.certificate.now, c.requires.0, c.well_formed.0.0) }

pub returns-then-buffer-notes : goal.returns-then-buffer-notes
returns-then-buffer-notes c =
    let a = c.args in
    let b = c.if-buffer-notes.true in
    let short = told_short a.certificate.now a.v _ c.verdict_sent-check.ensures _ c.if-check-gt0.false in
    record {
      verdict = c.refuse_notes.ensures ∙ short (omega (arith, c.requires.0));
      buffer = buffer_short a.certificate.now _ _ c.refuse_notes.ensures;
    }

pub returns : goal.returns
returns c =
    let a = c.args in
    record {
      verdict =
          told_accepted a.certificate.now a.v _ c.verdict_sent-check.ensures _ a.notes c.requires.0 c.if-check-gt0.false
          (omega (arith, c.if-buffer-notes.false, c.requires.0));
      buffer = buffer_accepted a.certificate.now c.verdict_sent-check.result _ _ c.if-check-gt0.false c.put_notes.ensures;
    }
