-- `entry_run`: the entries before the offset are read, none of them refused.
use mathlib.Core.Path.{sym}
use Rattle.certificate_reader.specs.Verdicts.{EntryThere, none, more}
use Rattle.certificate_reader.proofs.Kept.{entry_command_lem, entry_within}
use Rattle.certificate_reader.proofs.entry_run.Goals as goal

pub loop-entry-init : goal.loop-entry-init
loop-entry-init c = (c.requires.0, none)

pub verdict_of-requires : goal.verdict_of-requires
verdict_of-requires c =
    let e : EntryThere c.args.s.now c.loop-entry.at = c.is_entry.ensures c.loop-entry-test.true in
    let w = c.loop-entry.invariant.0 in
    (record { bounded = record { rows = w.rows; basis = w.basis }; sized = c.requires.1; inside = e.inside }, sym (entry_command_lem c.args.s.now _ e.byte))

pub loop-entry-preserved : goal.loop-entry-preserved
loop-entry-preserved c =
    let e : EntryThere c.args.s.now c.loop-entry.at = c.is_entry.ensures c.loop-entry-test.true in
    let k = c.loop-entry.invariant in
    rw (c.progress_after-progress.ensures, c.in-Ok.ensures.instruction)
    (entry_within _ _ _ e k.0, more k.1 e (λ p r z f. sym (c.in-Ok.ensures.number p r z f)))
