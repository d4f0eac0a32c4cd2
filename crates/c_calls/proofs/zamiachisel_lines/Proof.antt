-- `zamiachisel_lines`: the lines of the verdict, with tables of 2,048 numbers.
use borrow.Author.Rules.{rules}
use mathlib.Core.Path.{ap, ◌∙◌}
use mathlib.Core.List.{List}
use Prim.Native.Nat.{ℕ}
use lib.ListN.{length}
use Rattle.lines.specs.Lines.{pair_lines}
use Rattle.verdict_numbers.specs.Texts.{text_left}
use Rattle.c_calls.proofs.zamiachisel_lines.Statement.{statement}
use Rattle.c_calls.proofs.zamiachisel_lines.Tie as tie

returns : tie.Need-returns
returns c =
    let p = c in
    let l = p in
    let k = l in
    let e = l.pair_lines.ensures ∙ ap pair_lines k.pair-v.ensures.0 in
    let a = k.args in
    (p.put_text.ensures.0 ∙ ap length e, p.put_text.ensures.1 ∙ ap (λ (x : List ℕ). text_left x a.out.now) e)

pub zamiachisel_lines_spec : {M : Type 1} → statement M
zamiachisel_lines_spec =
    tie.close
    (tie.spec
    (λ c. search rules)
    (λ c. search rules)
    (λ c. search rules)
    (λ c κs. search rules)
    (λ c κs. search rules)
    (λ c κs. search rules)
    (λ c. search rules)
    returns)
