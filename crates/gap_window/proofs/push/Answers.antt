-- `push`: refused with the state as it was, or the widest of the state with the new gap.
use Rattle.std.proofs.Common.{◌∙◌, sym}
use Rattle.gap_window.proofs.Promised.{refused, accepted}
use Rattle.gap_window.proofs.push.Goals as goal

pub returns-then-is_refused : goal.returns-then-is_refused
returns-then-is_refused c =
    let r = refused c.args.window c.args.arrival (sym c.is_refused.ensures ∙ c.if-is_refused.true) in
    record { verdict = r.0; state = r.1.0; arrivals = r.1.1.0; widest = r.1.1.1.0; zeros = r.1.1.1.1 }

pub returns : goal.returns
returns c =
    let r = accepted c.args.window c.args.arrival (sym c.is_refused.ensures ∙ c.if-is_refused.false) c.with_newest-next.result
    c.with_newest-next.ensures c.widest-found.result c.widest-found.ensures in
    record { verdict = r.0; state = r.1.0; arrivals = r.1.1.0; widest = r.1.1.1.0; zeros = r.1.1.1.1 }
