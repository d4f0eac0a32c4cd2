-- The rules of the problem stream: what is refused, with which number, and what is read.
use Rattle.std.specs.Prelude.{Bool, true, false, cond, ◌&&◌, List, [], ◌∷◌, ◌++◌, ℕ, ◌+◌, ◌-◌, eqb, leb, ltb, ℤ, pos, negsuc, length, get_or, set, replicate}
use Rattle.format.specs.Commands.{Outcome, first_refusal, Language, read_whole}
use Rattle.polynomial.specs.Monomial.{degree, within, among}
use Rattle.polynomial.specs.Terms.{Term, term, keys_of}
use Rattle.format.specs.declared.problem.Command.{Command}
use Rattle.format.specs.declared.problem.Command.TheVariants as C
use Rattle.format.specs.declared.problem.Instruction.{Instruction}
use Rattle.format.specs.declared.problem.Instruction.TheVariants as I
use Rattle.format.specs.declared.problem.Kind.{Kind}
use Rattle.format.specs.declared.problem.Kind.TheVariants as K
use Rattle.format.specs.ProblemLayout.{problem_command, problem_size, problem_decoded}
use Rattle.format.specs.ProblemLimits.{most_variables, latest_rule, most_order, most_objective_degree, most_objective_terms, most_conditions, most_condition_degree, most_condition_terms, most_basis_degree, most_monomials, most_bases}

-- a condition: an inequality (document 01's constraint) or an equality, with its terms
pub record Condition : Type 0 where
  pub kind : Kind
  pub terms : List Term

-- a problem: the number of variables, the joining rule, the sparse order, the objective, the conditions from number 1
-- on, and the bases 0 to 8
pub record Problem : Type 0 where
  pub variables : ℕ
  pub rule : ℕ
  pub order : ℕ
  pub objective : List Term
  pub conditions : List Condition
  pub bases : List (List ℕ)

-- before the first command. The joining rule is 1 until an 08 names another: "absent means 1". The sparse order is 0
-- until a 09 names one, and then it is not 0: "Leaving it out keeps full closure"
abbrev pub no_problem : Problem
no_problem =
    record { variables = 0; rule = 1; order = 0; objective = []; conditions = []; bases = replicate most_bases [] }

-- one more at the end of list j
unfoldable pub append_at {ℓ} : {A : Type ℓ} → List (List A) → ℕ → A → List (List A)
append_at ls j a = set ls j (get_or ls j [] ++ (a ∷ []))

-- ---- "the constraint begun last", by 03 or by 07
abbrev pub no_condition : Condition
no_condition = record { kind = K.Inequality; terms = [] }

abbrev pub last_condition : List Condition → Condition
last_condition gs = get_or gs (length gs - 1) no_condition

-- ---- refusal 3: 01 stands "first, and only first", and "a 04 before any 03 .. is misplaced"; 04 "from now on needs a
-- 03 or 07 before it"; 08 "stands directly after 01 and only there", which is at offset 2, as 01 has two bytes; 09
-- "stands directly after 01 or 08", which is at offset 2, or at 4 where the command at 2 is an 08, as 08 has two too
unfoldable pub order_place : List ℕ → ℕ
order_place s = cond (eqb (get_or s 2 0) 0x08) 4 2

abbrev pub problem_placed : Problem → List ℕ → ℕ → Command → Bool
problem_placed p s at C.Variables = eqb at 0
problem_placed p s at C.Objective = ltb 0 at
problem_placed p s at C.Inequality = ltb 0 at
problem_placed p s at C.Term = ltb 0 at && ltb 0 (length p.conditions)
problem_placed p s at C.Member = ltb 0 at
problem_placed p s at C.End = ltb 0 at
problem_placed p s at C.Equality = ltb 0 at
problem_placed p s at C.Rule = eqb at 2
problem_placed p s at C.Order = eqb at (order_place s)
problem_placed p s at C.Unknown = false

-- ---- refusal 4: "operand outside its rule"
-- "Coefficients and factors are never 0"
abbrev pub nonzero : ℤ → Bool
nonzero (pos n) = ltb 0 n
nonzero (negsuc n) = true

-- a monomial in n variables of total degree at most d
unfoldable pub fitting : ℕ → ℕ → ℕ → Bool
fitting n d k = leb (degree k) d && within n k

abbrev pub problem_operands_fit : Problem → Instruction → Bool
problem_operands_fit p (I.Variables n) = leb 1 n && leb n most_variables
problem_operands_fit p (I.Objective k c) = fitting p.variables most_objective_degree k && nonzero c
problem_operands_fit p I.Inequality = true
problem_operands_fit p (I.Term k c) = fitting p.variables most_condition_degree k && nonzero c
problem_operands_fit p (I.Member j k) =
    leb j (length p.conditions) && fitting p.variables most_basis_degree k
problem_operands_fit p I.End = true
problem_operands_fit p I.Equality = true
problem_operands_fit p (I.Rule r) = leb 1 r && leb r latest_rule
problem_operands_fit p (I.Order k) = leb 1 k && leb k most_order

-- ---- refusal 5: "A polynomial or a basis has no monomial twice"
abbrev pub problem_repeated : Problem → Instruction → Bool
problem_repeated p (I.Variables n) = false
problem_repeated p (I.Objective k c) = among k (keys_of p.objective)
problem_repeated p I.Inequality = false
problem_repeated p (I.Term k c) = among k (keys_of (last_condition p.conditions).terms)
problem_repeated p (I.Member j k) = among k (get_or p.bases j [])
problem_repeated p I.End = false
problem_repeated p I.Equality = false
problem_repeated p (I.Rule r) = false
problem_repeated p (I.Order k) = false

-- ---- refusal 6: "one more than a count allows"
-- of the conditions, of either kind
abbrev pub conditions_full : Problem → Bool
conditions_full p = leb most_conditions (length p.conditions)

abbrev pub problem_full : Problem → Instruction → Bool
problem_full p (I.Variables n) = false
problem_full p (I.Objective k c) = leb most_objective_terms (length p.objective)
problem_full p I.Inequality = conditions_full p
problem_full p (I.Term k c) = leb most_condition_terms (length (last_condition p.conditions).terms)
problem_full p (I.Member j k) = leb most_monomials (length (get_or p.bases j []))
problem_full p I.End = false
problem_full p I.Equality = conditions_full p
problem_full p (I.Rule r) = false
problem_full p (I.Order k) = false

-- ---- what a command that is not refused does
-- a condition begun, without terms; an equality is "numbered together with the constraints"
abbrev pub with_condition : Problem → Kind → Problem
with_condition p k = record {
  variables = p.variables;
  rule = p.rule;
  order = p.order;
  objective = p.objective;
  conditions = p.conditions ++ (record { kind = k; terms = [] } ∷ []);
  bases = p.bases;
}

-- the joining rule named
abbrev pub with_rule : Problem → ℕ → Problem
with_rule p r = record {
  variables = p.variables;
  rule = r;
  order = p.order;
  objective = p.objective;
  conditions = p.conditions;
  bases = p.bases;
}

-- the sparse order named
abbrev pub with_order : Problem → ℕ → Problem
with_order p k = record {
  variables = p.variables;
  rule = p.rule;
  order = k;
  objective = p.objective;
  conditions = p.conditions;
  bases = p.bases;
}

-- a condition with one more term
abbrev pub with_term : Condition → Term → Condition
with_term g t = record { kind = g.kind; terms = g.terms ++ (t ∷ []) }

unfoldable pub problem_applied : Problem → Instruction → Problem
problem_applied p (I.Variables n) = record {
  variables = n;
  rule = p.rule;
  order = p.order;
  objective = p.objective;
  conditions = p.conditions;
  bases = p.bases;
}
problem_applied p (I.Objective k c) = record {
  variables = p.variables;
  rule = p.rule;
  order = p.order;
  objective = p.objective ++ (term k c ∷ []);
  conditions = p.conditions;
  bases = p.bases;
}
problem_applied p I.Inequality = with_condition p K.Inequality
problem_applied p (I.Term k c) = record {
  variables = p.variables;
  rule = p.rule;
  order = p.order;
  objective = p.objective;
  conditions =
      set p.conditions (length p.conditions - 1) (with_term (last_condition p.conditions) (term k c));
  bases = p.bases;
}
problem_applied p (I.Member j k) = record {
  variables = p.variables;
  rule = p.rule;
  order = p.order;
  objective = p.objective;
  conditions = p.conditions;
  bases = append_at p.bases j k;
}
problem_applied p I.End = p
problem_applied p I.Equality = with_condition p K.Equality
problem_applied p (I.Rule r) = with_rule p r
problem_applied p (I.Order k) = with_order p k

-- ---- the command at an offset
abbrev pub problem_command_at : List ℕ → ℕ → Command
problem_command_at s at = problem_command (get_or s at 0)

abbrev pub problem_instruction_at : List ℕ → ℕ → Instruction
problem_instruction_at s at = problem_decoded (problem_command_at s at) s at

unfoldable pub problem_refusal_at : Problem → List ℕ → ℕ → ℕ
problem_refusal_at p s at =
    first_refusal (problem_placed p s at (problem_command_at s at))
    (leb (at + problem_size (problem_command_at s at)) (length s))
    (problem_operands_fit p (problem_instruction_at s at)) (problem_repeated p (problem_instruction_at s at))
    (problem_full p (problem_instruction_at s at))

unfoldable pub problem_next : Problem → List ℕ → ℕ → Problem
problem_next p s at = problem_applied p (problem_instruction_at s at)

-- ---- the problem stream
abbrev pub problem_language : Language Problem
problem_language = record {
  verdict = problem_refusal_at;
  next = problem_next;
  size = λ b. problem_size (problem_command b);
  ending = 6;
}

unfoldable pub read_problem : List ℕ → Outcome Problem
read_problem s = read_whole problem_language no_problem s
