-- A problem as a stream: its commands in the order of document 01's list, each by the layout that the reader goes by.
use Rattle.std.specs.Prelude.{cond, ℕ, suc, eqb}
use mathlib.Core.List.{List, [], ◌∷◌, ◌++◌, map, flat_map}
use Rattle.polynomial.specs.Terms.{Term}
use Rattle.format.specs.declared.problem.Command.TheVariants as C
use Rattle.format.specs.declared.problem.Instruction.{Instruction}
use Rattle.format.specs.declared.problem.Instruction.TheVariants as I
use Rattle.format.specs.declared.problem.Kind.{Kind}
use Rattle.format.specs.declared.problem.Kind.TheVariants as K
use Rattle.format.specs.ProblemLayout.{problem_layout}
use Rattle.format.specs.ProblemRules.{Condition, Problem}
use Rattle.written.specs.Bytes.{u, i, command_bytes}

-- ---- a command with its operands
unfoldable pub problem_bytes : Instruction → List ℕ
problem_bytes (I.Variables n) = command_bytes (problem_layout C.Variables) (u n ∷ [])
problem_bytes (I.Objective k c) = command_bytes (problem_layout C.Objective) (u k ∷ i c ∷ [])
problem_bytes I.Inequality = command_bytes (problem_layout C.Inequality) []
problem_bytes (I.Term k c) = command_bytes (problem_layout C.Term) (u k ∷ i c ∷ [])
problem_bytes (I.Member j k) = command_bytes (problem_layout C.Member) (u j ∷ u k ∷ [])
problem_bytes I.End = command_bytes (problem_layout C.End) []
problem_bytes I.Equality = command_bytes (problem_layout C.Equality) []
problem_bytes (I.Rule r) = command_bytes (problem_layout C.Rule) (u r ∷ [])
problem_bytes (I.Order k) = command_bytes (problem_layout C.Order) (u k ∷ [])

unfoldable pub problem_stream : List Instruction → List ℕ
problem_stream is = flat_map problem_bytes is

-- ---- the commands of a problem
-- 08: "absent means 1"; 09: "Leaving it out keeps full closure", which is order 0
abbrev pub rule_commands : ℕ → List Instruction
rule_commands r = cond (eqb r 1) [] (I.Rule r ∷ [])

abbrev pub order_commands : ℕ → List Instruction
order_commands k = cond (eqb k 0) [] (I.Order k ∷ [])

-- 01 first, 08 "directly after 01", 09 "directly after 01 or 08"
abbrev pub head_commands : Problem → List Instruction
head_commands p = I.Variables p.variables ∷ (rule_commands p.rule ++ order_commands p.order)

unfoldable pub objective_commands : List Term → List Instruction
objective_commands ts = map (λ (t : Term). I.Objective t.key t.coefficient) ts

-- "03: begins the next constraint", "07 begins an equality"
abbrev pub begins : Kind → Instruction
begins K.Inequality = I.Inequality
begins K.Equality = I.Equality

unfoldable pub term_commands : List Term → List Instruction
term_commands ts = map (λ (t : Term). I.Term t.key t.coefficient) ts

unfoldable pub condition_commands : List Condition → List Instruction
condition_commands [] = []
condition_commands (g ∷ gs) = begins g.kind ∷ (term_commands g.terms ++ condition_commands gs)

-- the bases from number j on
unfoldable pub basis_commands : ℕ → List (List ℕ) → List Instruction
basis_commands j [] = []
basis_commands j (b ∷ bs) = map (I.Member j) b ++ basis_commands (suc j) bs

-- the bases behind the conditions: "j is 0 or a constraint already begun"
abbrev pub body_commands : Problem → List Instruction
body_commands p =
    objective_commands p.objective ++ (condition_commands p.conditions ++ basis_commands 0 p.bases)

-- ---- a stream: head, body, and "06: end"
unfoldable pub in_stream : List Instruction → List Instruction → List ℕ
in_stream head body = problem_stream (head ++ (body ++ (I.End ∷ [])))

unfoldable pub encode_problem : Problem → List ℕ
encode_problem p = in_stream (head_commands p) (body_commands p)

-- without its end: what one more command would stand behind
unfoldable pub open_problem : Problem → List ℕ
open_problem p = problem_stream (head_commands p ++ body_commands p)
