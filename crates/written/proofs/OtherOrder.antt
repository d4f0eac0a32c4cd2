-- A problem stream with its commands in another order, each in its place and those that add to one list in their order,
-- gives the same problem.
use mathlib.Core.Path.{◌≡◌, refl, sym, ap, ◌∙◌}
use mathlib.Core.Bool.{Bool, true, false, cond}
use mathlib.Core.List.{List, [], ◌∷◌, ◌++◌}
use Prim.Native.Nat.{ℕ, suc, ◌-◌, ◌<◌}
use native.Mathlib.Omega.{arith}
use lib.Dec.{eqb}
use lib.ListN.{length, get_or, set, length-set}
use lib.Seq.{get_or-set_same, get_or-set_other, ext_get_or}
use borrow.Author.Tests.{eqb-true, eqb-false, ne_eqb}
use Rattle.counting.specs.Counting.{Bounded}
use Rattle.counting.proofs.Cases.{clash}
use Rattle.polynomial.specs.Terms.{Term, term}
use Rattle.format.specs.Commands.{given}
use Rattle.format.specs.declared.problem.Instruction.{Instruction}
use Rattle.format.specs.declared.problem.Instruction.TheVariants as I
use Rattle.format.specs.declared.problem.Kind.{Kind}
use Rattle.format.specs.ProblemRules.{Condition, Problem, no_problem, last_condition, append_at, with_term, problem_applied, read_problem}
use Rattle.written.specs.ProblemWritten.{in_stream}
use Rattle.written.specs.CommandOrder.{InPlace, of_part, OtherOrder, AnyOrder}
use Rattle.written.proofs.ProblemReading.{after}
use Rattle.written.proofs.ProblemOrders.{SameHead, after_head, none_begun, reads_in_order}
use Rattle.written.proofs.ProblemLegal.{read_problem_legal}
use Rattle.written.proofs.ProblemCommands.{ReadAs, read_as}

-- ---- what a list is, by the commands that add to it
objective_by : (n : ℕ) (p q : Problem) (xs : List Instruction) → InPlace n xs → p.objective ≡ q.objective
    → (after p xs).objective ≡ (after q (of_part 0 xs)).objective
unfolding InPlace of_part after problem_applied
objective_by n p q [] h e = e
objective_by n p q (I.Variables m ∷ xs) h e = clash (cc h.0)
objective_by n p q (I.Objective k c ∷ xs) h e =
    objective_by n _ _ xs h.1 (ap (λ (l : List Term). l ++ (term k c ∷ [])) e)
objective_by n p q (I.Inequality ∷ xs) h e = objective_by (suc n) _ q xs h.1 e
objective_by n p q (I.Term k c ∷ xs) h e = objective_by n _ q xs h.1 e
objective_by n p q (I.Member j k ∷ xs) h e =
    rw (ne_eqb (suc (suc j)) 0 (λ z. omega arith)) (objective_by n _ q xs h.1 e)
objective_by n p q (I.End ∷ xs) h e = clash (cc h.0)
objective_by n p q (I.Equality ∷ xs) h e = objective_by (suc n) _ q xs h.1 e
objective_by n p q (I.Rule r ∷ xs) h e = clash (cc h.0)
objective_by n p q (I.Order k ∷ xs) h e = clash (cc h.0)

abbrev with_condition : Kind → List Condition → List Condition
with_condition k gs = gs ++ (record { kind = k; terms = [] } ∷ [])

abbrev with_last : Term → List Condition → List Condition
with_last t gs = set gs (length gs - 1) (with_term (last_condition gs) t)

conditions_by : (n : ℕ) (p q : Problem) (xs : List Instruction) → InPlace n xs → p.conditions ≡ q.conditions
    → (after p xs).conditions ≡ (after q (of_part 1 xs)).conditions
unfolding InPlace of_part after problem_applied
conditions_by n p q [] h e = e
conditions_by n p q (I.Variables m ∷ xs) h e = clash (cc h.0)
conditions_by n p q (I.Objective k c ∷ xs) h e = conditions_by n _ q xs h.1 e
conditions_by n p q (I.Inequality ∷ xs) h e = conditions_by (suc n) _ _ xs h.1 (ap (with_condition _) e)
conditions_by n p q (I.Term k c ∷ xs) h e = conditions_by n _ _ xs h.1 (ap (with_last (term k c)) e)
conditions_by n p q (I.Member j k ∷ xs) h e =
    rw (ne_eqb (suc (suc j)) 1 (λ z. omega arith)) (conditions_by n _ q xs h.1 e)
conditions_by n p q (I.End ∷ xs) h e = clash (cc h.0)
conditions_by n p q (I.Equality ∷ xs) h e = conditions_by (suc n) _ _ xs h.1 (ap (with_condition _) e)
conditions_by n p q (I.Rule r ∷ xs) h e = clash (cc h.0)
conditions_by n p q (I.Order k ∷ xs) h e = clash (cc h.0)

module _ (j : ℕ) where
  -- among some bases and others basis j is there, and the same
  record Same (bs cs : List (List ℕ)) : Type 0 where
    same : get_or bs j [] ≡ get_or cs j []
    first : j < length bs
    second : j < length cs

  member_same : (bs cs : List (List ℕ)) (k : ℕ) → Same bs cs → Same (append_at bs j k) (append_at cs j k)
  unfolding append_at
  member_same bs cs k e =
      let a = e.first in
      let b = e.second in
      record {
        same =
            get_or-set_same bs j _ [] a ∙ ap (λ (l : List ℕ). l ++ (k ∷ [])) e.same ∙ sym (get_or-set_same cs j _ [] b);
        first = rw (length-set bs j (get_or bs j [] ++ (k ∷ []))) a;
        second = rw (length-set cs j (get_or cs j [] ++ (k ∷ []))) b;
      }

  member_here : (bs cs : List (List ℕ)) (m k : ℕ) → m ≡ j → Same bs cs → Same (append_at bs m k) (append_at cs m k)
  member_here bs cs m k i e = rw i (member_same bs cs k e)

  member_other : (bs cs : List (List ℕ)) (m k : ℕ) → (j ≡ m → ⊥) → Same bs cs → Same (append_at bs m k) cs
  unfolding append_at
  member_other bs cs m k d e =
      let a = e.first in
      record {
        same = get_or-set_other bs m j _ [] d ∙ e.same;
        first = rw (length-set bs m (get_or bs m [] ++ (k ∷ []))) a;
        second = e.second;
      }

  basis_by_lem : (n : ℕ) (p q : Problem) (xs : List Instruction) → InPlace n xs → Same p.bases q.bases
      → get_or (after p xs).bases j [] ≡ get_or (after q (of_part (suc (suc j)) xs)).bases j []
  unfolding InPlace of_part after problem_applied
  basis_by_lem n p q [] h e = e.same
  basis_by_lem n p q (I.Variables m ∷ xs) h e = clash (cc h.0)
  basis_by_lem n p q (I.Objective k c ∷ xs) h e =
      rw (ne_eqb 0 (suc (suc j)) (λ z. omega arith)) (basis_by_lem n _ q xs h.1 e)
  basis_by_lem n p q (I.Inequality ∷ xs) h e =
      rw (ne_eqb 1 (suc (suc j)) (λ z. omega arith)) (basis_by_lem (suc n) _ q xs h.1 e)
  basis_by_lem n p q (I.Term k c ∷ xs) h e =
      rw (ne_eqb 1 (suc (suc j)) (λ z. omega arith)) (basis_by_lem n _ q xs h.1 e)
  basis_by_lem n p q (I.Member m k ∷ xs) h e =
      go (eqb (suc (suc m)) (suc (suc j))) refl (λ r s. basis_by_lem n (problem_applied p (I.Member m k)) r xs h.1 s)
    where
      go : (b : Bool) → eqb (suc (suc m)) (suc (suc j)) ≡ b
          → ((r : Problem) → Same (append_at p.bases m k) r.bases
          → get_or (after (problem_applied p (I.Member m k)) xs).bases j []
          ≡ get_or (after r (of_part (suc (suc j)) xs)).bases j [])
          → get_or (after (problem_applied p (I.Member m k)) xs).bases j []
          ≡ get_or (after q (cond b (I.Member m k ∷ of_part (suc (suc j)) xs) (of_part (suc (suc j)) xs))).bases j []
      go true z next =
          let y = eqb-true (suc (suc m)) (suc (suc j)) z in
          next (problem_applied q (I.Member m k)) (member_here p.bases q.bases m k (omega arith) e)
      go false z next =
          next q (member_other p.bases q.bases m k (λ i. eqb-false (suc (suc m)) (suc (suc j)) z (omega arith)) e)
  basis_by_lem n p q (I.End ∷ xs) h e = clash (cc h.0)
  basis_by_lem n p q (I.Equality ∷ xs) h e =
      rw (ne_eqb 1 (suc (suc j)) (λ z. omega arith)) (basis_by_lem (suc n) _ q xs h.1 e)
  basis_by_lem n p q (I.Rule r ∷ xs) h e = clash (cc h.0)
  basis_by_lem n p q (I.Order k ∷ xs) h e = clash (cc h.0)

-- ---- all of it
after_length : (n : ℕ) (p : Problem) (xs : List Instruction) → InPlace n xs
    → length (after p xs).bases ≡ length p.bases
unfolding InPlace after problem_applied append_at
after_length n p [] h = refl
after_length n p (I.Variables m ∷ xs) h = clash (cc h.0)
after_length n p (I.Objective k c ∷ xs) h = after_length n _ xs h.1
after_length n p (I.Inequality ∷ xs) h = after_length (suc n) _ xs h.1
after_length n p (I.Term k c ∷ xs) h = after_length n _ xs h.1
after_length n p (I.Member m k ∷ xs) h = after_length n _ xs h.1 ∙ length-set p.bases m _
after_length n p (I.End ∷ xs) h = clash (cc h.0)
after_length n p (I.Equality ∷ xs) h = after_length (suc n) _ xs h.1
after_length n p (I.Rule r ∷ xs) h = clash (cc h.0)
after_length n p (I.Order k ∷ xs) h = clash (cc h.0)

-- a problem is its parts
same_problem : (p q : Problem) → SameHead p q → p.objective ≡ q.objective → p.conditions ≡ q.conditions
    → p.bases ≡ q.bases → p ≡ q
same_problem p q h o g b = λ x. record {
  variables = h.variables x;
  rule = h.rule x;
  order = h.order x;
  objective = o x;
  conditions = g x;
  bases = b x;
}

module _ (p : Problem) (none : p.conditions ≡ []) (xs ys : List Instruction) (places : InPlace 0 xs)
    (other : OtherOrder xs ys) where
  here : (zs : List Instruction) → InPlace 0 zs → InPlace (length p.conditions) zs
  here zs h = rw none h

  head_same : SameHead (after p xs) (after p ys)
  head_same =
      let a = after_head p xs (here xs places) in
      let b = after_head p ys (here ys other.places) in
      record {
        variables = a.variables ∙ sym b.variables;
        rule = a.rule ∙ sym b.rule;
        order = a.order ∙ sym b.order;
      }

  -- a list that is what the commands of its part say is the same
  by_part : {A : Type 0} (f : Problem → A) (n : ℕ) → f (after p xs) ≡ f (after p (of_part n xs))
      → f (after p ys) ≡ f (after p (of_part n ys)) → f (after p xs) ≡ f (after p ys)
  by_part f n a b = a ∙ ap (λ (l : List Instruction). f (after p l)) (sym (other.parts n)) ∙ sym b

  bases_same : (after p xs).bases ≡ (after p ys).bases
  bases_same =
      let m = after_length 0 p xs places in
      let n = after_length 0 p ys other.places in
      ext_get_or [] (after p xs).bases (after p ys).bases (m ∙ sym n)
      (λ j h.
      let l : j < length p.bases = omega arith in
      let e : Same j p.bases p.bases = record { same = refl; first = l; second = l } in
      by_part (λ q. get_or q.bases j []) (suc (suc j)) (basis_by_lem j 0 p p xs places e)
      (basis_by_lem j 0 p p ys other.places e))

  after_same : after p xs ≡ after p ys
  after_same =
      same_problem (after p xs) (after p ys) head_same
      (by_part (λ q. q.objective) 0 (objective_by 0 p p xs places refl) (objective_by 0 p p ys other.places refl))
      (by_part (λ q. q.conditions) 1 (conditions_by 0 p p xs places refl)
      (conditions_by 0 p p ys other.places refl))
      bases_same

-- ---- the law, of every stream of bytes that reads
module _ (s : List ℕ) (bounded : Bounded 255 s) (p : Problem) (read : read_problem s ≡ given p) where
  others_read : (r : ReadAs s p) (ys : List Instruction) → OtherOrder r.body ys
      → read_problem (in_stream r.head ys) ≡ given p
  others_read r ys o =
      let e : after (after no_problem r.head) ys ≡ p =
      sym (after_same (after no_problem r.head) (none_begun r.headed) r.body ys r.places o) ∙ r.gives in
      reads_in_order r.head ys r.headed o.places (rw e (read_problem_legal s bounded p read)) ∙ ap given e

  pub any_order : AnyOrder s p
  any_order =
      let r = read_as s bounded p read in
      record {
        head = r.head;
        body = r.body;
        headed = r.headed;
        places = r.places;
        is = r.is;
        others = others_read r;
      }
