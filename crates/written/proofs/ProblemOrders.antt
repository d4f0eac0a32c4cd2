-- Every order of a problem's commands in which each stands in its place is read, and gives the problem.
use mathlib.Core.Path.{◌≡◌, refl, sym, ap, ◌∙◌}
use mathlib.Core.Bool.{true}
use mathlib.Core.List.{List, [], ◌∷◌, ◌++◌, append-nil, append_assoc, flat_map}
use Prim.Native.Nat.{ℕ, ◌≤◌, ◌<◌}
use native.Mathlib.Omega.{arith}
use lib.ListN.{length, length-append}
use borrow.Author.Tests.{le-leb, eq-eqb}
use Rattle.counting.proofs.Cases.{clash}
use Rattle.format.specs.Commands.{Outcome, given, first_refusal}
use Rattle.format.specs.declared.problem.Instruction.{Instruction}
use Rattle.format.specs.declared.problem.Instruction.TheVariants as I
use Rattle.format.specs.ProblemRules.{Problem, no_problem, order_place, problem_applied, problem_language, read_problem}
use Rattle.format.proofs.Run.{Left, left_start}
use Rattle.written.specs.Bytes.{operand_bytes, command_bytes}
use Rattle.written.specs.Legal.{Legal}
use Rattle.written.specs.ProblemWritten.{problem_bytes, problem_stream, in_stream}
use Rattle.written.specs.CommandOrder.{Head, plain, ruled, ordered, both, may_stand, InPlace}
use Rattle.written.proofs.ProblemSteps.{bytes_length, bytes_some, refusal_of, written_next, written_end}
use Rattle.written.proofs.ProblemReading.{legal_within, after, further, body_read}

-- ---- the head
-- what it names is within the limits
pub record HeadFits (p : Problem) : Type 0 where
  pub variables : (1 ≤ p.variables) × (p.variables ≤ 8)
  pub rule : (1 ≤ p.rule) × (p.rule ≤ 2)
  pub order : p.order ≤ 255

-- where a 09 may stand
module _ (n : ℕ) (rest : List ℕ) where
  pub place_second : (k : ℕ) → order_place (problem_bytes (I.Variables n) ++ (problem_bytes (I.Order k) ++ rest)) ≡ 2
  unfolding order_place problem_bytes command_bytes operand_bytes
  place_second k = refl

  pub place_third : (r : ℕ) → order_place (problem_bytes (I.Variables n) ++ (problem_bytes (I.Rule r) ++ rest)) ≡ 4
  unfolding order_place problem_bytes command_bytes operand_bytes
  place_third r = refl

module _ (s : List ℕ) (o : Outcome Problem) where
  -- 01
  variables_read : (n : ℕ) (back : List ℕ) → s ≡ problem_bytes (I.Variables n) ++ back → (1 ≤ n) × (n ≤ 8)
      → Left problem_language s o no_problem 0
      → Left problem_language s o (problem_applied no_problem (I.Variables n)) (length (problem_bytes (I.Variables n)))
  variables_read n back e h l =
      let v : refusal_of no_problem s 0 (I.Variables n) ≡ 0 =
      unfold refusal_of first_refusal in rw (le-leb 1 n h.0, le-leb n 8 h.1) in
      written_next s [] back (I.Variables n) e (omega arith) o no_problem l (λ z. clash (cc)) v

  module _ (p : Problem) (front back : List ℕ) (l : Left problem_language s o p (length front)) where
    -- 08 and 09, in their places
    rule_read : (r : ℕ) → s ≡ front ++ (problem_bytes (I.Rule r) ++ back) → length front ≡ 2 → (1 ≤ r) × (r ≤ 2)
        → Left problem_language s o (problem_applied p (I.Rule r)) (length (front ++ problem_bytes (I.Rule r)))
    rule_read r e z h =
        let v : refusal_of p s (length front) (I.Rule r) ≡ 0 =
        unfold refusal_of first_refusal in rw (eq-eqb (length front) 2 z, le-leb 1 r h.0, le-leb r 2 h.1) in
        written_next s front back (I.Rule r) e (omega arith) o p l (λ z. clash (cc)) v

    order_read : (k : ℕ) → s ≡ front ++ (problem_bytes (I.Order k) ++ back) → length front ≡ order_place s → 1 ≤ k
        → k ≤ 255 → Left problem_language s o (problem_applied p (I.Order k)) (length (front ++ problem_bytes (I.Order k)))
    order_read k e z h m =
        let v : refusal_of p s (length front) (I.Order k) ≡ 0 =
        unfold refusal_of first_refusal in rw (eq-eqb (length front) (order_place s) z, le-leb 1 k h, le-leb k 255 m) in
        written_next s front back (I.Order k) e (omega arith) o p l (λ z. clash (cc)) v

pub head_read : (s : List ℕ) {head : List Instruction} → Head head → (back : List ℕ) → s ≡ problem_stream head ++ back
    → HeadFits (after no_problem head)
    → Left problem_language s (read_problem s) (after no_problem head) (length (problem_stream head))
unfolding problem_stream flat_map after problem_applied read_problem
head_read s (plain n) back e f =
    let a = problem_bytes (I.Variables n) in
    rw (append-nil a)
    (variables_read s _ n back (rw (append-nil a) at e) f.variables (left_start problem_language s no_problem))
head_read s (ruled n r) back e f =
    let a = problem_bytes (I.Variables n) in
    let b = problem_bytes (I.Rule r) in
    let d : s ≡ a ++ (b ++ back) = rw (append-nil b, append_assoc a b back) at e in
    rw (append-nil b)
    (rule_read s _ _ a back (variables_read s _ n (b ++ back) d f.variables (left_start problem_language s no_problem))
    r d (bytes_length (I.Variables n)) f.rule)
head_read s (ordered n k h) back e f =
    let a = problem_bytes (I.Variables n) in
    let b = problem_bytes (I.Order k) in
    let d : s ≡ a ++ (b ++ back) = rw (append-nil b, append_assoc a b back) at e in
    rw (append-nil b)
    (order_read s _ _ a back
    (variables_read s _ n (b ++ back) d f.variables (left_start problem_language s no_problem))
    k d (bytes_length (I.Variables n) ∙ sym (rw d (place_second n back k))) h f.order)
head_read s (both n r k h) back e f =
    let a = problem_bytes (I.Variables n) in
    let b = problem_bytes (I.Rule r) in
    let c = problem_bytes (I.Order k) in
    let d : s ≡ a ++ (b ++ (c ++ back)) = rw (append-nil c, append_assoc a (b ++ c) back, append_assoc b c back) at e in
    let g : s ≡ (a ++ b) ++ (c ++ back) = d ∙ sym (append_assoc a b (c ++ back)) in
    let l = variables_read s _ n (b ++ (c ++ back)) d f.variables (left_start problem_language s no_problem) in
    let m = rule_read s _ _ a (c ++ back) l r d (bytes_length (I.Variables n)) f.rule in
    let z = length-append a b in
    let four : length (a ++ b) ≡ 4 = omega (arith, bytes_length (I.Variables n), bytes_length (I.Rule r)) in
    rw (append-nil c, ← append_assoc a b c)
    (order_read s _ _ (a ++ b) back m k g (four ∙ sym (rw d (place_third n (c ++ back) r))) h f.order)

-- ---- the body names nothing of that
pub record SameHead (p q : Problem) : Type 0 where
  pub variables : p.variables ≡ q.variables
  pub rule : p.rule ≡ q.rule
  pub order : p.order ≡ q.order

applied_head : (n : ℕ) (p : Problem) (x : Instruction) → may_stand n x ≡ true → SameHead (problem_applied p x) p
unfolding problem_applied
applied_head n p (I.Variables m) h = clash (cc)
applied_head n p (I.Objective k c) h = record { variables = refl; rule = refl; order = refl }
applied_head n p I.Inequality h = record { variables = refl; rule = refl; order = refl }
applied_head n p (I.Term k c) h = record { variables = refl; rule = refl; order = refl }
applied_head n p (I.Member j k) h = record { variables = refl; rule = refl; order = refl }
applied_head n p I.End h = clash (cc)
applied_head n p I.Equality h = record { variables = refl; rule = refl; order = refl }
applied_head n p (I.Rule r) h = clash (cc)
applied_head n p (I.Order k) h = clash (cc)

pub after_head : (p : Problem) (xs : List Instruction) → InPlace (length p.conditions) xs → SameHead (after p xs) p
unfolding after InPlace
after_head p [] h = record { variables = refl; rule = refl; order = refl }
after_head p (x ∷ xs) h =
    let a = applied_head (length p.conditions) p x h.0 in
    let b = after_head (problem_applied p x) xs (further p x xs h.1) in
    record { variables = b.variables ∙ a.variables; rule = b.rule ∙ a.rule; order = b.order ∙ a.order }

pub none_begun : {head : List Instruction} → Head head → (after no_problem head).conditions ≡ []
unfolding after problem_applied
none_begun (plain n) = refl
none_begun (ruled n r) = refl
none_begun (ordered n k h) = refl
none_begun (both n r k h) = refl

stream_some : (x : Instruction) (xs : List Instruction) → 0 < length (problem_stream (x ∷ xs))
unfolding problem_stream flat_map
stream_some x xs = omega (arith, length-append (problem_bytes x) (flat_map problem_bytes xs), bytes_some x)

head_some : {head : List Instruction} → Head head → 0 < length (problem_stream head)
head_some (plain n) = stream_some (I.Variables n) []
head_some (ruled n r) = stream_some (I.Variables n) (I.Rule r ∷ [])
head_some (ordered n k h) = stream_some (I.Variables n) (I.Order k ∷ [])
head_some (both n r k h) = stream_some (I.Variables n) (I.Rule r ∷ I.Order k ∷ [])

pub stream_append : (xs ys : List Instruction) → problem_stream (xs ++ ys) ≡ problem_stream xs ++ problem_stream ys
unfolding problem_stream flat_map
stream_append [] ys = refl
stream_append (x ∷ xs) ys =
    ap (λ (l : List ℕ). problem_bytes x ++ l) (stream_append xs ys) ∙ sym (append_assoc (problem_bytes x) _ _)

-- ---- head, body, and what stands behind them
module _ (head body : List Instruction) (is : Head head) (places : InPlace 0 body)
    (legal : Legal (after (after no_problem head) body)) where
  abbrev start : Problem
  start = after no_problem head

  begun_here : InPlace (length start.conditions) body
  begun_here = rw (none_begun is) places

  fits : HeadFits start
  fits =
      let e = after_head start body begun_here in
      record {
        variables = rw e.variables at legal.variables;
        rule = rw e.rule at legal.rule;
        order = rw e.order at legal.order;
      }

  pub commands_read : (s back : List ℕ) → s ≡ problem_stream (head ++ body) ++ back
      → Left problem_language s (read_problem s) (after start body) (length (problem_stream (head ++ body)))
  commands_read s back e =
      let d : s ≡ problem_stream head ++ (problem_stream body ++ back) =
      e ∙ rw (stream_append head body, append_assoc (problem_stream head) (problem_stream body) back) in
      rw (stream_append head body)
      (body_read s (read_problem s) start body (problem_stream head) back d (head_some is) begun_here
      (legal_within _ legal) (head_read s is (problem_stream body ++ back) d fits))

  pub commands_some : 0 < length (problem_stream (head ++ body))
  commands_some =
      rw (stream_append head body)
      (omega (arith, length-append (problem_stream head) (problem_stream body), head_some is))

  pub reads_in_order : read_problem (in_stream head body) ≡ given (after start body)
  unfolding in_stream
  reads_in_order =
      let s = problem_stream (head ++ (body ++ (I.End ∷ []))) in
      let one : problem_stream (I.End ∷ []) ≡ problem_bytes I.End ++ [] = unfold problem_stream flat_map in refl in
      let e : s ≡ problem_stream (head ++ body) ++ (problem_bytes I.End ++ []) =
      rw (← append_assoc head body (I.End ∷ []), stream_append (head ++ body) (I.End ∷ []), one) in
      sym (written_end s (problem_stream (head ++ body)) e commands_some (read_problem s) (after start body)
      (commands_read s (problem_bytes I.End ++ []) e))
