-- How written commands are read: a list of commands in their places is taken whole, if what they give together is
-- within the limits.
use mathlib.Core.Path.{◌≡◌, refl, sym, ap, ◌∙◌}
use mathlib.Core.Bool.{true, false}
use mathlib.Core.List.{List, [], ◌∷◌, ◌++◌, append-nil, append_assoc, flat_map}
use Prim.Native.Nat.{ℕ, ◌-◌, ◌≤◌, ◌<◌}
use native.Mathlib.Omega.{arith}
use lib.ListN.{length, get_or, length-append, length-set}
use borrow.Author.Tests.{lt-leb, lt-ltb, leb-true}
use Rattle.counting.proofs.Cases.{clash}
use Rattle.polynomial.specs.Terms.{term}
use Rattle.format.specs.All.{All}
use Rattle.format.specs.Commands.{Outcome, first_refusal}
use Rattle.format.specs.declared.problem.Command.TheVariants as C
use Rattle.format.specs.declared.problem.Instruction.{Instruction}
use Rattle.format.specs.declared.problem.Instruction.TheVariants as I
use Rattle.format.specs.declared.problem.Kind.{Kind}
use Rattle.format.specs.ProblemRules.{Condition, Problem, no_condition, last_condition, append_at, with_condition, with_term, conditions_full, problem_placed, problem_operands_fit, problem_repeated, problem_full, problem_applied, problem_language}
use Rattle.format.proofs.WithinLimits.{Monomials}
use Rattle.format.proofs.Run.{Left}
use Rattle.written.specs.Legal.{Polynomial, Legal}
use Rattle.written.specs.ProblemWritten.{problem_bytes, problem_stream}
use Rattle.written.specs.CommandOrder.{may_stand, begun, InPlace}
use Rattle.written.proofs.OneLess.{all_less, all_unset, monomials_less, terms_less}
use Rattle.written.proofs.ProblemSteps.{command_of, Sized, refusal_of, written_next}

-- ---- the limits that hold at every command
pub record Within (p : Problem) : Type 0 where
  pub variables : p.variables ≤ 8
  pub objective : Polynomial p.variables 32 256 32 p.objective
  pub conditions : length p.conditions ≤ 8
  pub terms : All (λ (g : Condition). Polynomial p.variables 16 32 16 g.terms) p.conditions
  pub bases : length p.bases ≡ 9
  pub members : All (Monomials p.variables 8 64) p.bases

pub legal_within : (p : Problem) → Legal p → Within p
legal_within p l = record {
  variables = let v = l.variables.1 in omega arith;
  objective = l.objective;
  conditions = l.conditions;
  terms = l.terms;
  bases = l.bases;
  members = l.members;
}

-- ---- a command whose problem is within the limits
record Passed (p : Problem) (x : Instruction) : Type 0 where
  before : Within p
  sized : Sized x
  fits : problem_operands_fit p x ≡ true
  new : problem_repeated p x ≡ false
  room : problem_full p x ≡ false

-- a condition is begun, of either kind
record Begun (p : Problem) : Type 0 where
  before : Within p
  room : conditions_full p ≡ false

begun_before : (p : Problem) (k : Kind) → Within (with_condition p k) → Begun p
begun_before p k w =
    let gs = p.conditions in
    let n = length-append gs (record { kind = k; terms = [] } ∷ []) in
    let few = w.conditions in
    record {
      before = record {
        variables = w.variables;
        objective = w.objective;
        conditions = omega arith;
        terms = (all_less _ gs _ w.terms).0;
        bases = w.bases;
        members = w.members;
      };
      room = lt-leb 8 (length gs) (omega arith);
    }

passed_before : (p : Problem) (x : Instruction) → may_stand (length p.conditions) x ≡ true
    → Within (problem_applied p x) → Passed p x
unfolding problem_applied append_at
passed_before p (I.Variables n) h w = clash (cc)
passed_before p (I.Objective k c) h w =
    let t = terms_less p.variables 32 256 32 p.objective k c w.variables w.objective in
    record {
      before = record {
        variables = w.variables;
        objective = t.before;
        conditions = w.conditions;
        terms = w.terms;
        bases = w.bases;
        members = w.members;
      };
      sized = (omega (arith, t.low), t.bits);
      fits = t.fits;
      new = t.new;
      room = t.room;
    }
passed_before p I.Inequality h w =
    let b = begun_before p _ w in record { before = b.before; sized = tt; fits = refl; new = refl; room = b.room }
passed_before p (I.Term k c) h w =
    let gs = p.conditions in
    let last = last_condition gs in
    let some = leb-true 1 (length gs) h in
    let q = all_unset _ gs (length gs - 1) (with_term last (term k c)) no_condition (omega arith) w.terms in
    let t = terms_less p.variables 16 32 16 last.terms k c w.variables q.0 in
    record {
      before = record {
        variables = w.variables;
        objective = w.objective;
        conditions = rw (length-set gs (length gs - 1) (with_term last (term k c))) at w.conditions;
        terms = q.1 t.before;
        bases = w.bases;
        members = w.members;
      };
      sized = (omega (arith, t.low), t.bits);
      fits = t.fits;
      new = t.new;
      room = t.room;
    }
passed_before p (I.Member j k) h w =
    let bs = p.bases in
    let n = length-set bs j (get_or bs j [] ++ (k ∷ [])) in
    let low = leb-true j (length p.conditions) h in
    let few = w.conditions in
    let nine = w.bases in
    let q = all_unset _ bs j (get_or bs j [] ++ (k ∷ [])) [] (omega arith) w.members in
    let t = monomials_less p.variables 8 64 (get_or bs j []) k w.variables q.0 in
    record {
      before = record {
        variables = w.variables;
        objective = w.objective;
        conditions = w.conditions;
        terms = w.terms;
        bases = omega arith;
        members = q.1 t.before;
      };
      sized = (omega arith, omega (arith, t.low));
      fits = rw h t.fits;
      new = t.new;
      room = t.room;
    }
passed_before p I.End h w = clash (cc)
passed_before p I.Equality h w =
    let b = begun_before p _ w in record { before = b.before; sized = tt; fits = refl; new = refl; room = b.room }
passed_before p (I.Rule r) h w = clash (cc)
passed_before p (I.Order k) h w = clash (cc)

-- how many conditions are begun after it
pub conditions_begun : (p : Problem) (x : Instruction)
    → length (problem_applied p x).conditions ≡ begun (length p.conditions) x
unfolding problem_applied
conditions_begun p (I.Variables n) = refl
conditions_begun p (I.Objective k c) = refl
conditions_begun p I.Inequality = length-append p.conditions _ ∙ omega arith
conditions_begun p (I.Term k c) = length-set p.conditions _ _
conditions_begun p (I.Member j k) = refl
conditions_begun p I.End = refl
conditions_begun p I.Equality = length-append p.conditions _ ∙ omega arith
conditions_begun p (I.Rule r) = refl
conditions_begun p (I.Order k) = refl

-- it stands in its place behind the head
placed : (p : Problem) (s : List ℕ) (at : ℕ) (x : Instruction) → 0 < at → may_stand (length p.conditions) x ≡ true
    → problem_placed p s at (command_of x) ≡ true
placed p s at (I.Variables n) b h = clash (cc)
placed p s at (I.Objective k c) b h = lt-ltb 0 at b
placed p s at I.Inequality b h = lt-ltb 0 at b
placed p s at (I.Term k c) b h = rw (lt-ltb 0 at b) (lt-ltb 0 (length p.conditions) (leb-true 1 _ h))
placed p s at (I.Member j k) b h = lt-ltb 0 at b
placed p s at I.End b h = clash (cc)
placed p s at I.Equality b h = lt-ltb 0 at b
placed p s at (I.Rule r) b h = clash (cc)
placed p s at (I.Order k) b h = clash (cc)

goes_on : (n : ℕ) (x : Instruction) → may_stand n x ≡ true → command_of x ≡ C.End → ⊥
goes_on n (I.Variables m) h e = clash (cc)
goes_on n (I.Objective k c) h e = clash (cc)
goes_on n I.Inequality h e = clash (cc)
goes_on n (I.Term k c) h e = clash (cc)
goes_on n (I.Member j k) h e = clash (cc)
goes_on n I.End h e = clash (cc)
goes_on n I.Equality h e = clash (cc)
goes_on n (I.Rule r) h e = clash (cc)
goes_on n (I.Order k) h e = clash (cc)

-- ---- a list of commands
-- what they give, one after another
unfoldable pub after : Problem → List Instruction → Problem
after p [] = p
after p (x ∷ xs) = after (problem_applied p x) xs

pub after_append : (p : Problem) (xs ys : List Instruction) → after p (xs ++ ys) ≡ after (after p xs) ys
unfolding after
after_append p [] ys = refl
after_append p (x ∷ xs) ys = after_append (problem_applied p x) xs ys

pub further : (p : Problem) (x : Instruction) (xs : List Instruction) → InPlace (begun (length p.conditions) x) xs
    → InPlace (length (problem_applied p x).conditions) xs
further p x xs h = rw (conditions_begun p x) h

pub within_before : (p : Problem) (xs : List Instruction) → InPlace (length p.conditions) xs → Within (after p xs)
    → Within p
unfolding after InPlace
within_before p [] h w = w
within_before p (x ∷ xs) h w =
    (passed_before p x h.0 (within_before (problem_applied p x) xs (further p x xs h.1) w)).before

pub body_read : (s : List ℕ) (o : Outcome Problem) (p : Problem) (xs : List Instruction) (front back : List ℕ)
    → s ≡ front ++ (problem_stream xs ++ back) → 0 < length front → InPlace (length p.conditions) xs
    → Within (after p xs) → Left problem_language s o p (length front)
    → Left problem_language s o (after p xs) (length (front ++ problem_stream xs))
unfolding after InPlace problem_stream flat_map
body_read s o p [] front back e b h w l = rw (append-nil front) l
body_read s o p (x ∷ xs) front back e b h w l =
    let y = problem_bytes x in
    let ys = flat_map problem_bytes xs in
    let q = passed_before p x h.0 (within_before (problem_applied p x) xs (further p x xs h.1) w) in
    let here : s ≡ front ++ (y ++ (ys ++ back)) = e ∙ ap (λ (t : List ℕ). front ++ t) (append_assoc y ys back) in
    let v : refusal_of p s (length front) x ≡ 0 =
    unfold refusal_of first_refusal in rw (placed p s (length front) x b h.0, q.fits, q.new, q.room) in
    let goes = goes_on (length p.conditions) x h.0 in
    let next = written_next s front (ys ++ back) x here q.sized o p l goes v in
    let n = length-append front y in
    rw append_assoc at (body_read s o (problem_applied p x) xs (front ++ y) back
    (here ∙ sym (append_assoc front y (ys ++ back))) (omega arith) (further p x xs h.1) w next)
