-- `append_record_words`: the refusal or the bounds.
use native.Mathlib.Omega.{arith}
use borrow.Author.Tests.{lt-ltb, le-ltb}
use Rattle.lines.specs.ReportLines.{field_at, record_words}
use Rattle.text.proofs.reports.append_record_words.Goals as goal

pub returns-then-number-gt0 : goal.returns-then-number-gt0
unfolding record_words
returns-then-number-gt0 c =
    let s = c.args.bytes.now in
    let e = c.field_at-number.ensures.0 in
    let h = rw e at c.if-number-gt0.true in
    rw (lt-ltb 0 (field_at s 0) h)
    (rw e at c.append_refused.ensures.0, omega (arith, c.append_refused.ensures.1))

pub returns : goal.returns
unfolding record_words
returns c =
    let s = c.args.bytes.now in
    let h = rw c.field_at-number.ensures.0 at c.if-number-gt0.false in
    rw (le-ltb 0 (field_at s 0) h)
    (rw (c.bound_at.ensures, c.bound_at-2.ensures) at c.append_bounds.ensures.0, c.append_bounds.ensures.1)
