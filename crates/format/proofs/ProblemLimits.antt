-- Every problem that a stream gives keeps the limits (WithinLimits.antt).
use mathlib.Core.Path.{◌≡◌, refl, ap, sym, ◌∙◌, subst}
use mathlib.Core.List.{List, [], ◌∷◌, ◌++◌}
use mathlib.Core.Bool.{Bool, true, false, cond, ◌&&◌}
use mathlib.Core.Logic.{◌≢◌}
use Prim.Native.Nat.{ℕ, zero, suc, ◌+◌, ◌-◌, ◌≤◌, ◌<◌}
use native.Mathlib.Omega.{arith}
use lib.ListN.{length, get_or, set, length-append, length-set, length-map, replicate}
use lib.Seq.{get_or-set_other}
use lib.Dec.{eqb, leb}
use lib.IntN.{ℤ, pos, negsuc}
use borrow.Author.Tests.{leb-true, leb-false, ltb-true, eqb-true, eqb-false, ne_eqb}
use Rattle.counting.proofs.Cases.{clash, and_left, and_right}
use Rattle.format.specs.Commands.{given}
use Rattle.format.specs.Operands.{number}
use Rattle.format.proofs.Run.{Passes, passes, read_induction}
use Rattle.polynomial.specs.Monomial.{degree, within, among}
use Rattle.polynomial.specs.Terms.{Term, term, keys_of}
use Rattle.format.specs.declared.problem.Command.{Command}
use Rattle.format.specs.declared.problem.Command.TheVariants as C
use Rattle.format.specs.declared.problem.Kind.{Kind}
use Rattle.format.specs.ProblemLayout.{problem_command, problem_size, problem_decoded}
use Rattle.format.specs.ProblemRules.{Problem, no_problem, no_condition, append_at, with_condition, with_rule, with_order, conditions_full, order_place, problem_placed, nonzero, fitting, problem_operands_fit, problem_repeated, problem_full, problem_applied, problem_command_at, problem_refusal_at, problem_next, problem_language, read_problem}
use Rattle.format.specs.ProblemBases.{basis_of}
use Rattle.format.specs.All.{All}
use Rattle.format.proofs.WithinLimits.{Distinct, Monomials, Terms, ConditionTerms, Limits}
use Rattle.format.proofs.ProblemChecks.{placed_size}

-- ---- lists: one more at the end, one replaced
module _ {A : Type 0} (P : A → Type 0) where
  pub all_more : (l : List A) (a : A) → All P l → P a → All P (l ++ (a ∷ []))
  unfolding All
  all_more [] a h p = (p, tt)
  all_more (x ∷ l) a h p = (h.0, all_more l a h.1 p)

  pub all_set : (l : List A) (i : ℕ) (a : A) → All P l → P a → All P (set l i a)
  unfolding All
  all_set [] i a h p = h
  all_set (x ∷ l) zero a h p = (p, h.1)
  all_set (x ∷ l) (suc i) a h p = (h.0, all_set l i a h.1 p)

  pub all_at : (l : List A) (i : ℕ) (d : A) → All P l → P d → P (get_or l i d)
  unfolding All
  all_at [] i d h p = p
  all_at (x ∷ l) zero d h p = h.0
  all_at (x ∷ l) (suc i) d h p = all_at l i d h.1 p

-- one more at the end of list j
all_append : {A : Type 0} (P : List A → Type 0) (ls : List (List A)) (j : ℕ) (a : A) → All P ls → P [] → (P (get_or ls j []) → P (get_or ls j [] ++ (a ∷ []))) → All P (append_at ls j a)
unfolding append_at
all_append P ls j a h e f = all_set P ls j _ h (f (all_at P ls j [] h e))

among_more : (k x : ℕ) (ks : List ℕ) → among k ks ≡ false → (x ≡ k → ⊥) → among k (ks ++ (x ∷ [])) ≡ false
unfolding among
among_more k x [] h d = rw (ne_eqb x k d)
among_more k x (y ∷ ks) h d = go (λ e. among_more k x ks e d) (eqb y k) h
  where
    go : (among k ks ≡ false → among k (ks ++ (x ∷ [])) ≡ false) → (b : Bool) → cond b true (among k ks) ≡ false → cond b true (among k (ks ++ (x ∷ []))) ≡ false
    go f true h = h
    go f false h = f h

distinct_more : (ks : List ℕ) (x : ℕ) → Distinct ks → among x ks ≡ false → Distinct (ks ++ (x ∷ []))
unfolding Distinct among
distinct_more [] x h e = (refl, tt)
distinct_more (y ∷ ks) x h e = go (distinct_more ks x h.1) (eqb y x) refl e
  where
    go : (among x ks ≡ false → Distinct (ks ++ (x ∷ []))) → (b : Bool) → eqb y x ≡ b → cond b true (among x ks) ≡ false → (among y (ks ++ (x ∷ [])) ≡ false) × Distinct (ks ++ (x ∷ []))
    go f true q e = clash (cc)
    go f false q e = (among_more y x ks h.0 (λ r. eqb-false y x q (sym r)), f e)

-- ---- monomials and terms: one more
pub monomials_none : (n d most : ℕ) → Monomials n d most []
unfolding All Distinct
monomials_none n d most = record { count = omega arith; degrees = tt; variables = tt; distinct = tt }

monomials_more : (n d most : ℕ) (ks : List ℕ) (k : ℕ) → Monomials n d most ks → fitting n d k ≡ true → among k ks ≡ false → leb most (length ks) ≡ false → Monomials n d most (ks ++ (k ∷ []))
unfolding fitting
monomials_more n d most ks k m f r h = record {
  count = rw (length-append ks (k ∷ [])) (omega (arith, leb-false most (length ks) h));
  degrees = all_more _ ks k m.degrees (leb-true (degree k) d (and_left (leb (degree k) d) (within n k) f));
  variables = all_more _ ks k m.variables (and_right (leb (degree k) d) (within n k) f);
  distinct = distinct_more ks k m.distinct r;
}

pub length_keys : (ts : List Term) → length (keys_of ts) ≡ length ts
unfolding keys_of
length_keys ts = length-map ts _

keys_more : (ts : List Term) (k : ℕ) (c : ℤ) → keys_of (ts ++ (term k c ∷ [])) ≡ keys_of ts ++ (k ∷ [])
unfolding keys_of
keys_more [] k c = refl
keys_more (t ∷ ts) k c = ap (λ (l : List ℕ). t.key ∷ l) (keys_more ts k c)

pub nonzero_not : (c : ℤ) → nonzero c ≡ true → c ≡ pos 0 → ⊥
nonzero_not (pos n) h e = let z : n ≡ 0 = cc in let k = ltb-true 0 n h in omega arith
nonzero_not (negsuc n) h e = clash (cc)

pub terms_none : (n d most : ℕ) → Terms n d most []
unfolding All keys_of
terms_none n d most = record { monomials = monomials_none n d most; nonzero = tt }

terms_more : (n d most : ℕ) (ts : List Term) (k : ℕ) (c : ℤ) → Terms n d most ts → (fitting n d k && nonzero c) ≡ true → among k (keys_of ts) ≡ false → leb most (length ts) ≡ false → Terms n d most (ts ++ (term k c ∷ []))
terms_more n d most ts k c t f r h = record {
  monomials = rw (keys_more ts k c) (monomials_more n d most (keys_of ts) k t.monomials (and_left (fitting n d k) (nonzero c) f) r (rw (length_keys ts) h));
  nonzero = all_more _ ts (term k c) t.nonzero (nonzero_not c (and_right (fitting n d k) (nonzero c) f));
}

-- ---- a command
-- what was read before the command at an offset: nothing where it is the first, else a problem within the limits
pub record Kept (p : Problem) (at : ℕ) : Type 0 where
  pub first : at ≡ 0 → p ≡ no_problem
  pub later : 0 < at → Limits p

pub kept_start : Kept no_problem 0
kept_start = record { first = λ _. refl; later = λ z. absurd (omega arith) }

nothing_members : (n : ℕ) → All (Monomials n 8 64) no_problem.bases
unfolding All
nothing_members n = let e = monomials_none n 8 64 in (e, (e, (e, (e, (e, (e, (e, (e, (e, tt)))))))))

pub nothing_basis : (j : ℕ) → get_or no_problem.bases j [] ≡ []
nothing_basis j = go 9 j
  where
    go : (n j : ℕ) → get_or (replicate {A = List ℕ} n []) j [] ≡ []
    go zero j = refl
    go (suc n) zero = refl
    go (suc n) (suc j) = go n j

-- the first command gives the number of variables
first_limits : (n : ℕ) → (leb 1 n && leb n 8) ≡ true
    → Limits (record { variables = n; rule = no_problem.rule; order = no_problem.order; objective = []; conditions = []; bases = no_problem.bases })
unfolding All
first_limits n h = record {
  variables = (leb-true 1 n (and_left _ _ h), leb-true n 8 (and_right (leb 1 n) _ h));
  rule = omega arith;
  order = omega arith;
  objective = terms_none n 32 256;
  conditions = omega arith;
  terms = tt;
  bases = refl;
  members = nothing_members n;
  begun = λ j _. nothing_basis j;
}

-- a condition is begun, of either kind
begun_limits : (p : Problem) (k : Kind) → Limits p → conditions_full p ≡ false → Limits (with_condition p k)
begun_limits p k q full =
    let e = length-append p.conditions (record { kind = k; terms = [] } ∷ []) in
    record {
      variables = q.variables;
      rule = q.rule;
      order = q.order;
      objective = q.objective;
      conditions = rw e (omega (arith, leb-false 8 (length p.conditions) full));
      terms = all_more _ p.conditions _ q.terms (terms_none p.variables 16 32);
      bases = q.bases;
      members = q.members;
      begun = λ j h. q.begun j (omega arith);
    }

-- the joining rule is named, and not first
ruled_later : (p : Problem) (s : List ℕ) (at : ℕ) → problem_placed p s at C.Rule ≡ true → 0 < at
ruled_later p s zero h = clash (cc)
ruled_later p s (suc at) h = omega arith

ruled_limits : (p : Problem) (r : ℕ) → Limits p → (leb 1 r && leb r 2) ≡ true → Limits (with_rule p r)
ruled_limits p r q h = record {
  variables = q.variables;
  rule = (leb-true 1 r (and_left _ _ h), leb-true r 2 (and_right (leb 1 r) _ h));
  order = q.order;
  objective = q.objective;
  conditions = q.conditions;
  terms = q.terms;
  bases = q.bases;
  members = q.members;
  begun = q.begun;
}

-- and so the sparse order
pub place_positive : (s : List ℕ) → 0 < order_place s
unfolding order_place
place_positive s = go (eqb (get_or s 2 0) 8) refl
  where
    go : (b : Bool) → eqb (get_or s 2 0) 8 ≡ b → 0 < order_place s
    go true e = rw e (omega arith)
    go false e = rw e (omega arith)

ordered_later : (p : Problem) (s : List ℕ) (at : ℕ) → problem_placed p s at C.Order ≡ true → 0 < at
ordered_later p s at h = omega (arith, eqb-true at (order_place s) h, place_positive s)

ordered_limits : (p : Problem) (k : ℕ) → Limits p → (leb 1 k && leb k 255) ≡ true → Limits (with_order p k)
ordered_limits p k q h = record {
  variables = q.variables;
  rule = q.rule;
  order = leb-true k 255 (and_right (leb 1 k) _ h);
  objective = q.objective;
  conditions = q.conditions;
  terms = q.terms;
  bases = q.bases;
  members = q.members;
  begun = q.begun;
}

appended_length : {A : Type 0} (ls : List (List A)) (j : ℕ) (a : A) → length (append_at ls j a) ≡ length ls
unfolding append_at
appended_length ls j a = length-set ls j _

appended_other : {A : Type 0} (ls : List (List A)) (j i : ℕ) (a : A) → i ≢ j → get_or (append_at ls j a) i [] ≡ get_or ls i []
unfolding append_at
appended_other ls j i a d = get_or-set_other ls j i _ [] d

module _ (p : Problem) (s : List ℕ) (at : ℕ) (kept : Kept p at) where
  abbrev Passed : Bool → Command → Type 0
  Passed w k = Passes (problem_placed p s at k) w (problem_operands_fit p (problem_decoded k s at)) (problem_repeated p (problem_decoded k s at)) (problem_full p (problem_decoded k s at))

  applied_limits : (w : Bool) (k : Command) → Passed w k → Limits (problem_applied p (problem_decoded k s at))
  unfolding problem_applied
  applied_limits w C.Variables c = rw (kept.first (eqb-true at 0 c.placed)) (first_limits _ c.allowed)
  applied_limits w C.Objective c =
      let q = kept.later (ltb-true 0 at c.placed) in
      record {
        variables = q.variables;
        rule = q.rule;
        order = q.order;
        objective = terms_more p.variables 32 256 p.objective _ _ q.objective c.allowed c.repeated c.full;
        conditions = q.conditions;
        terms = q.terms;
        bases = q.bases;
        members = q.members;
        begun = q.begun;
      }
  applied_limits w C.Inequality c = begun_limits p _ (kept.later (ltb-true 0 at c.placed)) c.full
  applied_limits w C.Term c =
      let q = kept.later (ltb-true 0 at (and_left _ _ c.placed)) in
      let gs = p.conditions in
      let last = all_at (ConditionTerms _) gs (length gs - 1) no_condition q.terms (terms_none _ 16 32) in
      record {
        variables = q.variables;
        rule = q.rule;
        order = q.order;
        objective = q.objective;
        conditions = rw (length-set gs) q.conditions;
        terms = all_set _ gs _ _ q.terms (terms_more _ 16 32 _ _ _ last c.allowed c.repeated c.full);
        bases = q.bases;
        members = q.members;
        begun = λ i h. q.begun i (rw (length-set gs) at h);
      }
  applied_limits w C.Member c =
      let q = kept.later (ltb-true 0 at c.placed) in
      let low = leb (number 1 s (at + 1)) (length p.conditions) in
      let j-low = leb-true _ (length p.conditions) (and_left low (fitting p.variables 8 _) c.allowed) in
      record {
        variables = q.variables;
        rule = q.rule;
        order = q.order;
        objective = q.objective;
        conditions = q.conditions;
        terms = q.terms;
        bases = appended_length p.bases _ _ ∙ q.bases;
        members =
            all_append _ p.bases _ _ q.members (monomials_none p.variables 8 64)
            (λ m. monomials_more p.variables 8 64 _ _ m (and_right low _ c.allowed) c.repeated c.full);
        begun = λ i h. appended_other p.bases _ i _ (λ e. omega (arith, j-low)) ∙ q.begun i h;
      }
  applied_limits w C.End c = kept.later (ltb-true 0 at c.placed)
  applied_limits w C.Unknown c = let z : ◌≡◌ {A = ℕ} 0 1 = let e = c.placed in cc in absurd (omega arith)
  applied_limits w C.Equality c = begun_limits p _ (kept.later (ltb-true 0 at c.placed)) c.full
  applied_limits w C.Rule c = ruled_limits p _ (kept.later (ruled_later p s at c.placed)) c.allowed
  applied_limits w C.Order c = ordered_limits p _ (kept.later (ordered_later p s at c.placed)) c.allowed

  next_limits : problem_refusal_at p s at ≡ 0 → Limits (problem_next p s at)
  unfolding problem_refusal_at problem_next
  next_limits h = applied_limits _ (problem_command_at s at) (passes _ _ _ _ _ h)

-- a command that stands somewhere has a byte
pub taken_size : (p : Problem) (s : List ℕ) (at : ℕ) → problem_refusal_at p s at ≡ 0 → 1 ≤ problem_size (problem_command_at s at)
unfolding problem_refusal_at
taken_size p s at h = placed_size p s at (problem_command_at s at) (passes _ _ _ _ _ h).placed

pub kept_next : (p : Problem) (s : List ℕ) (at : ℕ) → Kept p at → problem_refusal_at p s at ≡ 0 → Kept (problem_next p s at) (at + problem_size (problem_command_at s at))
kept_next p s at k v = record { first = λ z. let n = taken_size p s at v in absurd (omega arith); later = λ _. next_limits p s at k v }

-- the end command leaves the problem
pub end_leaves : (p : Problem) (s : List ℕ) (at : ℕ) → get_or s at 0 ≡ 6 → problem_next p s at ≡ p
unfolding problem_next problem_applied problem_command
end_leaves p s at e = rw e

-- every problem that a stream gives keeps the limits
pub read_limits : (s : List ℕ) (p : Problem) → read_problem s ≡ given p → Limits p
unfolding read_problem
read_limits s p h =
    read_induction problem_language s (λ a at cs b. Kept a at → Limits b)
    (λ a at t e k. subst Limits (end_leaves a s at e) (next_limits a s at k t.passed))
    (λ a b at cs t e f k. f (kept_next a s at k t.passed))
    no_problem p h kept_start

-- no basis of a problem within the limits has more than 64 monomials
pub basis_few : (p : Problem) → Limits p → (j : ℕ) → length (basis_of p j) ≤ 64
unfolding basis_of
basis_few p l j =
    (all_at (Monomials p.variables 8 64) p.bases j [] l.members (monomials_none p.variables 8 64)).count
