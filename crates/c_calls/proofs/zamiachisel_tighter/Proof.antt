-- `zamiachisel_tighter`: what was chosen as the number of its stream, and what the call leaves.
use borrow.Author.Rules.{rules}
use mathlib.Core.Path.{ap, ◌∙◌}
use Rattle.calls.specs.Superseding.{stream_of}
use Rattle.c_calls.proofs.zamiachisel_tighter.Statement.{statement}
use Rattle.c_calls.proofs.zamiachisel_tighter.Tie as tie

choose-requires : tie.Need-choose-chosen-requires
choose-requires c κs = search rules

stream-of-requires : tie.Need-stream_of-requires
stream-of-requires c κs = search rules

same_length : tie.Need-shape_of-keys
same_length c = search rules

same-length-2 : tie.Need-shape_of-high
same-length-2 c = search rules

same-length-3 : tie.Need-shape_of-low
same-length-3 c = search rules

returns : tie.Need-returns
returns c =
    let k = c.choose-chosen.ensures in
    let back = c.stream_of.ensures in
    let z = k.1.1.1 in
    (back ∙ ap stream_of k.0, (k.1.0, (k.1.1.0, (z.refusal, λ h. back ∙ ap stream_of (z.none h)))))

pub zamiachisel_tighter_spec : {M : Type 1} → statement M
zamiachisel_tighter_spec =
    tie.close
    (tie.spec choose-requires stream-of-requires same_length same-length-2 same-length-3 returns)
