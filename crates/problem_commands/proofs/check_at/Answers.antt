-- `check_at`: the laws of the first two checks, in their order.
use Rattle.std.proofs.Common.{◌≡◌, ◌∙◌, sym, ap, arith}
use Rattle.format.specs.ProblemLayout.{problem_size}
use Rattle.format.specs.ProblemRules.{problem_command_at}
use Rattle.problem_commands.proofs.Checks.{early_3, early_2, early_0}
use Rattle.problem_commands.proofs.check_at.Goals as goal

pub returns-then-not-is_placed : goal.returns-then-not-is_placed
returns-then-not-is_placed c = λ p h. sym (early_3 p _ _ (rw c.requires.1 at (sym (c.is_placed.ensures p h) ∙ c.if-not-is_placed.true)))

pub returns-then-s-at : goal.returns-then-s-at
returns-then-s-at c =
    λ p h.
    let k : c.args.len ≡ problem_size (problem_command_at c.args.s.now c.args.at) = c.requires.2 ∙ ap problem_size c.requires.1 in
    sym (early_2 p _ _ (rw c.requires.1 at (sym (c.is_placed.ensures p h) ∙ c.if-not-is_placed.false)) (omega arith))

pub returns : goal.returns
returns c =
    λ p h.
    let k : c.args.len ≡ problem_size (problem_command_at c.args.s.now c.args.at) = c.requires.2 ∙ ap problem_size c.requires.1 in
    sym (early_0 p _ _ (rw c.requires.1 at (sym (c.is_placed.ensures p h) ∙ c.if-not-is_placed.false)) (omega arith))
