-- `note_pairs`: one more index.
use Rattle.round_laws.proofs.Fits.{bits_start}
use Rattle.joining_pairs.proofs.Pairs.{beside_same, beside_then}
use Rattle.joining_pairs.proofs.note_pairs.Goals as goal

pub loop-i-init : goal.loop-i-init
loop-i-init c = record { index = c.requires.1; sums = bits_start _; beside = beside_same _ _ }

pub loop-i-preserved : goal.loop-i-preserved
loop-i-preserved c =
    let e = c.note_row-bits.ensures in
    record { index = e.0; sums = e.1; beside = beside_then _ _ _ _ c.loop-i.invariant.beside e.2 }
