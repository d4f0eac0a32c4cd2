-- Laws of a problem's lists: what a command leaves of them, and what it adds.
use mathlib.Core.Path.{◌≡◌, refl, sym, ap, ◌∙◌}
use mathlib.Core.Bool.{true, false}
use mathlib.Core.List.{List, [], ◌∷◌, ◌++◌}
use mathlib.Core.Logic.{◌⊎◌, ⊎_elim, ◌≢◌}
use Prim.Native.Nat.{ℕ, zero, suc, ◌+◌, ◌-◌, ◌<◌}
use native.Mathlib.Numerals.{add-one}
use native.Mathlib.Omega.{arith}
use lib.IntN.{ℤ}
use lib.ListN.{length, get_or, length-set, get_or-eq_default}
use lib.Seq.{get_or-set_same, get_or-set_other, get_or_at}
use Rattle.counting.proofs.Cases.{clash}
use Rattle.polynomial.specs.Terms.{term}
use Rattle.format.specs.Commands.{first_refusal}
use Rattle.format.specs.declared.problem.Instruction.{Instruction}
use Rattle.format.specs.declared.problem.Instruction.TheVariants as I
use Rattle.format.specs.declared.problem.Kind.{Kind}
use Rattle.format.specs.declared.problem.Kind.TheVariants as K
use Rattle.format.specs.ProblemRules.{Condition, Problem, no_condition, last_condition, append_at, conditions_full, with_condition, with_term, problem_applied}
use Rattle.format.specs.ProblemBases.{basis_of, multiplier, kind_of}
use Rattle.flat.specs.Flat.{kind_number}
use Rattle.problem_commands.specs.Checks.{late}
use Rattle.problem_storing.specs.Stores.{beginning}
use Rattle.problem_reader.specs.Steps.{condition_of}

-- one more at the end of list j
module _ {A : Type 0} (ls : List (List A)) (j : ℕ) (a : A) where
  pub appended_length : length (append_at ls j a) ≡ length ls
  unfolding append_at
  appended_length = length-set ls j _

  appended_here : j < length ls → get_or (append_at ls j a) j [] ≡ get_or ls j [] ++ (a ∷ [])
  unfolding append_at
  appended_here h = get_or-set_same ls j _ [] h

  appended_other : (i : ℕ) → i ≢ j → get_or (append_at ls j a) i [] ≡ get_or ls i []
  unfolding append_at
  appended_other i d = get_or-set_other ls j i _ [] d

-- one more at the end of a list: it is at the list's length, and the others are as they were
more_other : {A : Type 0} (l : List A) (a d : A) (j : ℕ) → j ≢ length l → get_or (l ++ (a ∷ [])) j d ≡ get_or l j d
more_other [] a d zero h = absurd (h refl)
more_other [] a d (suc j) h = refl
more_other (x ∷ l) a d zero h = refl
more_other (x ∷ l) a d (suc j) h = more_other l a d j (λ e. h (ap suc e))

-- ---- g_j with its kind
pub multiplier_is : (p : Problem) (j : ℕ) → multiplier p j ≡ (condition_of p j).terms
unfolding multiplier condition_of
multiplier_is p zero = refl
multiplier_is p (suc j) = refl

pub kind_is : (p : Problem) (j : ℕ) → kind_of p j ≡ (condition_of p j).kind
unfolding kind_of condition_of
kind_is p zero = refl
kind_is p (suc j) = refl

pub condition_same : (p q : Problem) → p.conditions ≡ q.conditions → (j : ℕ) → condition_of p j ≡ condition_of q j
unfolding condition_of
condition_same p q e zero = refl
condition_same p q e (suc j) = ap (λ (l : List Condition). get_or l j no_condition) e

pub same_terms_lem : {g h : Condition} → g ≡ h → g.terms ≡ h.terms
same_terms_lem e = ap (λ (g : Condition). g.terms) e

pub same_kind : {g h : Condition} → g ≡ h → kind_number g.kind ≡ kind_number h.kind
same_kind e = ap (λ (g : Condition). kind_number g.kind) e

-- before the first command
pub nothing_kind : (p : Problem) → p.conditions ≡ [] → (j : ℕ) → (condition_of p j).kind ≡ K.Inequality
unfolding condition_of
nothing_kind p e zero = refl
nothing_kind p e (suc j) = rw e

-- the condition begun last
pub condition_last : (p : Problem) (n : ℕ) → length p.conditions ≡ n → 0 < n → condition_of p n ≡ last_condition p.conditions
unfolding condition_of
condition_last p zero e h = absurd (omega arith)
condition_last p (suc n) e h = let k : length p.conditions - 1 ≡ n = omega arith in rw k

-- there is none behind it
pub condition_none : (p : Problem) (j : ℕ) → length p.conditions < j → condition_of p j ≡ no_condition
unfolding condition_of
condition_none p zero h = absurd (omega arith)
condition_none p (suc j) h = get_or-eq_default p.conditions no_condition {n = j} (omega arith)

-- ---- the commands that begin a condition, and what they do
pub begins : (i : Instruction) → (i ≡ I.Inequality) ⊎ (i ≡ I.Equality) → (k : Kind) × (i ≡ beginning k)
begins i h = ⊎_elim (λ e. (K.Inequality, e)) (λ e. (K.Equality, e)) h

pub begins_on : (k : Kind) → I.End ≡ beginning k → ⊥
begins_on K.Inequality e = clash (cc)
begins_on K.Equality e = clash (cc)

module _ (p : Problem) where
  pub begins_applied : (k : Kind) → problem_applied p (beginning k) ≡ with_condition p k
  unfolding problem_applied
  begins_applied K.Inequality = refl
  begins_applied K.Equality = refl

  pub begins_late : (k : Kind) → late p (beginning k) ≡ first_refusal true true true false (conditions_full p)
  begins_late K.Inequality = refl
  begins_late K.Equality = refl

  -- ---- a monomial of a basis
  pub member_here : (j k : ℕ) → j < length p.bases → basis_of (problem_applied p (I.Member j k)) j ≡ basis_of p j ++ (k ∷ [])
  unfolding problem_applied basis_of
  member_here j k h = appended_here p.bases j k h

  pub member_other : (j k i : ℕ) → i ≢ j → basis_of (problem_applied p (I.Member j k)) i ≡ basis_of p i
  unfolding problem_applied basis_of
  member_other j k i d = appended_other p.bases j k i d

  -- ---- a condition begun
  pub begun_other : (k : Kind) (j : ℕ) → j ≢ length p.conditions + 1 → condition_of (with_condition p k) j ≡ condition_of p j
  unfolding condition_of
  begun_other k zero h = refl
  begun_other k (suc j) h = more_other p.conditions _ no_condition j (λ e. h (omega arith))

  pub begun_here : (k : Kind) → condition_of (with_condition p k) (length p.conditions + 1) ≡ record { kind = k; terms = [] }
  unfolding condition_of
  begun_here k = rw (add-one (length p.conditions)) (get_or_at p.conditions _ [] no_condition (length p.conditions) refl)

  -- ---- a term of the condition begun last, which is number n
  module _ (k : ℕ) (c : ℤ) (n : ℕ) (e : length p.conditions ≡ n) (h : 0 < n) where
    pub term_other : (j : ℕ) → j ≢ n → condition_of (problem_applied p (I.Term k c)) j ≡ condition_of p j
    unfolding problem_applied condition_of
    term_other zero d = refl
    term_other (suc j) d = get_or-set_other p.conditions (length p.conditions - 1) j _ no_condition (λ z. d (omega arith))

    pub term_here : condition_of (problem_applied p (I.Term k c)) n ≡ with_term (condition_of p n) (term k c)
    unfolding problem_applied
    term_here =
        let u = length-set p.conditions (length p.conditions - 1) (with_term (last_condition p.conditions) (term k c)) in
        condition_last _ n (u ∙ e) h
        ∙ rw u (get_or-set_same p.conditions (length p.conditions - 1) _ no_condition (omega arith))
        ∙ ap (λ (g : Condition). with_term g (term k c)) (sym (condition_last p n e h))
