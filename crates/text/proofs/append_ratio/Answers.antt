-- `append_ratio`: the numerator, the slash and the denominator.
use borrow.Author.Rules.{rules}
use native.Mathlib.Omega.{arith}
use mathlib.Core.Path.{◌≡◌}
use mir.Syntax.{w64}
use mir.Val.{to_z, of_z}
use Rattle.lines.specs.Lines.{ratio}
use Rattle.text.proofs.Appending.{appended_text}
use Rattle.text.proofs.append_ratio.Goals as goal

pub returns : goal.returns
unfolding ratio
returns c =
    let kept : to_z w64 (of_z w64 c.args.f.num) ≡ c.args.f.num = search rules in
    let n = simp kept at c.append_signed-a.ensures.0 in (
      appended_text (appended_text n c.append-b.ensures) c.append_number.ensures.0,
      omega (arith, c.append_signed-a.ensures.1, c.append-b.ensures.ends, c.append_number.ensures.1),
    )
