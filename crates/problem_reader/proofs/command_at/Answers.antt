-- `command_at`: the first three checks, in their order, and what follows where they pass.
use Rattle.std.proofs.Common.{◌≡◌, ◌∙◌, sym, ap, ℕ, ◌+◌, []}
use Rattle.format.specs.ProblemRules.{Problem, no_condition, problem_instruction_at}
use Rattle.problem_commands.proofs.Checks.{passes, early_refusal, early_whole, operands_refusal}
use Rattle.std.proofs.lemmas.Result.{err_from_is_err_and}
use lib.ListN.{length-replicate, replicate}
use Rattle.problem_reader.proofs.Steps.{numbered}
use Rattle.problem_reader.proofs.command_at.Goals as goal

pub returns-in_err-check_at : goal.returns-in_err-check_at
returns-in_err-check_at c =
    λ p v n.
    let q = err_from_is_err_and c.from_residual.result c.from_residual.ensures.1 in
    let e = c.in_err-check_at.ensures p n in
    rw (q.1, q.2) (early_refusal p _ _ (rw e at (numbered c.in_err-check_at.field-0.0)) ∙ sym e)

-- a problem with n conditions
abbrev counted : ℕ → Problem
counted n = record { variables = 0; rule = 1; order = 0; objective = []; conditions = replicate n no_condition; bases = [] }

pub decode_at-told-requires : goal.decode_at-told-requires
decode_at-told-requires c =
    let n = c.args.draft.now.count in
    let w = early_whole (counted n) _ _ (sym (c.in_ok-check_at.ensures (counted n) (length-replicate n no_condition))) in
    rw c.command_of-command.ensures w

pub returns-then-not-is_allowed : goal.returns-then-not-is_allowed
returns-then-not-is_allowed c =
    λ p v n.
    let e : c.decode_at-told.result ≡ problem_instruction_at c.args.s.now c.args.at = rw (c.decode_at-told.ensures, c.command_of-command.ensures) in
    operands_refusal p _ _ (sym (c.in_ok-check_at.ensures p n)) (rw e at (sym (c.is_allowed.ensures p v n) ∙ c.if-not-is_allowed.true))

pub returns : goal.returns
returns c =
    λ p v n.
    let e : c.decode_at-told.result ≡ problem_instruction_at c.args.s.now c.args.at = rw (c.decode_at-told.ensures, c.command_of-command.ensures) in
    passes p _ _ (sym (c.in_ok-check_at.ensures p n)) _ _ (sym (c.is_allowed.ensures p v n) ∙ c.if-not-is_allowed.false) (sym e)
    (ap (λ (m : ℕ). c.args.at + m) c.length_of-len.ensures.layout)
