-- `validate`: before the first command, at a command that is refused, and where the stream ends without its end.
use mathlib.Core.Path.{◌≡◌}
use Prim.Native.Nat.{ℕ}
use Rattle.certificate_commands.specs.Kept.{no_progress}
use Rattle.certificate_reader.proofs.Kept.{held_start, held_end, turn_refused}
use Rattle.certificate_reader.proofs.validate.Goals as goal

-- three numbers that are 0 are the progress before the first command
none_begun : (r j i : ℕ) → r ≡ 0 → j ≡ 0 → i ≡ 0 → record { rows = r; basis = j; floor = i } ≡ no_progress
none_begun r j i a b d = rw (a, b, d)

pub loop-at-init : goal.loop-at-init
loop-at-init c =
    let e = c.default-progress.ensures in
    record { held = λ p l z. rw (none_begun _ _ _ e.0 e.1.0 e.1.1) (held_start p c.args.s.now c.args.starts.now c.requires.1) }

pub returns-in-Err : goal.returns-in-Err
returns-in-Err c = turn_refused c.loop-at.invariant c.loop-at-test.true c.in-Err.ensures

pub returns : goal.returns
returns c = λ p l z. held_end p c.args.s.now _ _ _ c.loop-at.at (c.loop-at.invariant.held p l z) c.loop-at-test.false
