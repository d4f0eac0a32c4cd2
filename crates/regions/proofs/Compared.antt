-- Laws of what is compared: lists of terms by their arrays, and lists of conditions by their numbers.
use mathlib.Core.Path.{◌≡◌, refl, sym, ap, ap₂, subst, ◌∙◌}
use mathlib.Core.Bool.{Bool, true, false}
use mathlib.Core.List.{List}
use mathlib.Core.Logic.{⊎_elim}
use Prim.Native.Nat.{ℕ, zero, suc, ◌+◌, ◌≤◌, ◌<◌}
use native.Mathlib.Nat.{eq-or-lt_of_le}
use native.Mathlib.Omega.{arith}
use lib.IntN.{ℤ, pos}
use lib.ListN.{length, get_or, take, drop}
use lib.Seq.{ext_get_or}
use Rattle.counting.proofs.Cases.{never}
use Rattle.counting.proofs.Listed.{listed_at, listed_same}
use Rattle.polynomial.specs.Terms.{Term, term}
use Rattle.format.specs.declared.problem.Kind.{Kind}
use Rattle.format.specs.declared.problem.Kind.TheVariants as K
use Rattle.format.specs.ProblemRules.{Problem, no_condition}
use Rattle.format.specs.ProblemBases.{multiplier, kind_of}
use Rattle.flat.specs.TermArrays.{terms_in}
use Rattle.flat.specs.Flat.{exponents_at, coefficients_at, count_at, kind_at, kind_number, FlatProblem}
use Rattle.flat.proofs.TermArrays.{terms_length}
use Rattle.flat.proofs.Flat.{terms_part}
use Rattle.regions.specs.Compared.{Tells, SameCondition}

-- ---- tests
pub tells_true : {P : Type 0} → P → Tells true P
tells_true h = record { only = λ _. h; always = λ _. refl }

pub tells_false : {P : Type 0} → (P → ⊥) → Tells false P
tells_false h = record { only = λ e. never e; always = λ p. absurd (h p) }

-- a test that is false, of what follows from P
pub told_false : {P Q : Type 0} (r : Bool) → r ≡ false → Tells r Q → (P → Q) → P → ⊥
told_false r e t h p = never (sym e ∙ t.always (h p))

-- two tests of one fact are equal
pub tells_same : {P : Type 0} (r b : Bool) → Tells r P → (b ≡ true → P) → (P → b ≡ true) → r ≡ b
tells_same true b t f g = sym (g (t.only refl))
tells_same false true t f g = t.always (f refl)
tells_same false false t f g = refl

-- ---- terms
-- of which the first i are the same
pub record SameTo (i : ℕ) (k : List ℕ) (c : List ℤ) (l : List ℕ) (d : List ℤ) : Type 0 where
  pub keys : (m : ℕ) → m < i → get_or k m 0 ≡ get_or l m 0
  pub coefficients : (m : ℕ) → m < i → get_or c m (pos 0) ≡ get_or d m (pos 0)

-- m and n are the lengths of two lists that are as long as each other
module _ (m n : ℕ) (long : m ≡ n) (k : List ℕ) (c : List ℤ) (l : List ℕ) (d : List ℤ) where
  pub same_terms_lem : SameTo m k c l d → terms_in m k c ≡ terms_in n l d
  unfolding terms_in
  same_terms_lem s = rw (← long) (listed_same m _ _ (λ i h. ap₂ term (s.keys i h) (s.coefficients i h)))

  at : terms_in m k c ≡ terms_in n l d → (i : ℕ) → i < m
      → term (get_or k i 0) (get_or c i (pos 0)) ≡ term (get_or l i 0) (get_or d i (pos 0))
  unfolding terms_in
  at e i h =
      let f : List ℕ → List ℤ → ℕ → Term = λ x y j. term (get_or x j 0) (get_or y j (pos 0)) in
      let z = term 0 (pos 0) in
      sym (listed_at m (f k c) i z h) ∙ ap (λ (t : List Term). get_or t i z) e ∙ listed_at n (f l d) i z (omega arith)

  pub terms_same : terms_in m k c ≡ terms_in n l d → SameTo m k c l d
  terms_same e = record {
    keys = λ i h. ap (λ (t : Term). t.key) (at e i h);
    coefficients = λ i h. ap (λ (t : Term). t.coefficient) (at e i h);
  }

-- lists of different lengths differ
pub terms_counted : (m n : ℕ) (k : List ℕ) (c : List ℤ) (l : List ℕ) (d : List ℤ)
    → terms_in m k c ≡ terms_in n l d → m ≡ n
terms_counted m n k c l d e = sym (terms_length m k c) ∙ ap length e ∙ terms_length n l d

-- of as many coefficients as keys: the lists are equal
module _ (k : List ℕ) (c : List ℤ) (l : List ℕ) (d : List ℤ) (u : length k ≡ length c) (v : length l ≡ length d) where
  same_lists : terms_in (length k) k c ≡ terms_in (length l) l d → (k ≡ l) × (c ≡ d)
  same_lists e =
      let m = terms_counted (length k) (length l) k c l d e in
      let s = terms_same (length k) (length l) m k c l d e in
      (ext_get_or 0 k l m s.keys, ext_get_or (pos 0) c d (omega arith) (λ i h. s.coefficients i (omega arith)))

  -- the keys differ, or are the same and the coefficients tell
  pub keys_differ : (k ≡ l → ⊥) → Tells false (terms_in (length k) k c ≡ terms_in (length l) l d)
  keys_differ n = tells_false (λ e. n (same_lists e).0)

  pub coefficients_tell : (r : Bool) → k ≡ l → (r ≡ true → c ≡ d) → (c ≡ d → r ≡ true) → Tells r (terms_in (length k) k c ≡ terms_in (length l) l d)
  coefficients_tell r e f g = record { only = λ z. rw (e, f z); always = λ t. g (same_lists t).1 }

-- ---- conditions
-- a kind by its number
pub kind_numbered : (k l : Kind) → kind_number k ≡ kind_number l → k ≡ l
kind_numbered K.Inequality K.Inequality e = refl
kind_numbered K.Inequality K.Equality e = absurd (omega arith)
kind_numbered K.Equality K.Inequality e = absurd (omega arith)
kind_numbered K.Equality K.Equality e = refl

-- condition j by the arrays that hold two problems: k, c and l, d are the slices of its terms
module _ {p q : Problem} {keys keys' sizes sizes' : List ℕ} {coefficients coefficients' : List ℤ}
    (f : FlatProblem p keys coefficients sizes) (g : FlatProblem q keys' coefficients' sizes') (j : ℕ) (h : j < 9) where
  -- its kinds are the same where their numbers are
  pub kind_same : get_or sizes (kind_at j) 0 ≡ get_or sizes' (kind_at j) 0 → kind_of p j ≡ kind_of q j
  kind_same e = kind_numbered _ _ (sym (f.kinds j h) ∙ e ∙ g.kinds j h)

  pub same_kind : kind_of p j ≡ kind_of q j → get_or sizes (kind_at j) 0 ≡ get_or sizes' (kind_at j) 0
  same_kind e = f.kinds j h ∙ ap kind_number e ∙ sym (g.kinds j h)

  pub condition_told : (r : Bool) {k l : List ℕ} {c d : List ℤ}
      → k ≡ take (get_or sizes (count_at j) 0) (drop (exponents_at j) keys)
      → c ≡ take (get_or sizes (count_at j) 0) (drop (coefficients_at j) coefficients)
      → l ≡ take (get_or sizes' (count_at j) 0) (drop (exponents_at j) keys')
      → d ≡ take (get_or sizes' (count_at j) 0) (drop (coefficients_at j) coefficients')
      → Tells r (terms_in (length k) k c ≡ terms_in (length l) l d) → kind_of p j ≡ kind_of q j
      → Tells r (SameCondition p q j)
  condition_told r {k} {l} {c} {d} a b x y t kind =
      let one : terms_in (length k) k c ≡ multiplier p j = rw (a, b) (terms_part f j h) in
      let other : terms_in (length l) l d ≡ multiplier q j = rw (x, y) (terms_part g j h) in
      record {
        only = λ e. record { kind = kind; terms = sym one ∙ t.only e ∙ other };
        always = λ s. t.always (one ∙ s.terms ∙ sym other);
      }

-- conditions that are the same in number, and number by number, are the same
module _ (p q : Problem) where
  condition_same : (i : ℕ) → SameCondition p q (suc i)
      → get_or p.conditions i no_condition ≡ get_or q.conditions i no_condition
  unfolding kind_of multiplier
  condition_same i s = ap₂ (λ (k : Kind) (t : List Term). record { kind = k; terms = t }) s.kind s.terms

  pub conditions_same : (n : ℕ) → n ≡ length p.conditions → n ≡ length q.conditions
      → ((i : ℕ) → i < n → SameCondition p q (suc i)) → p.conditions ≡ q.conditions
  conditions_same n e f s =
      ext_get_or no_condition p.conditions q.conditions (sym e ∙ f) (λ i h. condition_same i (s i (omega arith)))

  pub same_at : (j : ℕ) → 1 ≤ j → p.conditions ≡ q.conditions → SameCondition p q j
  unfolding kind_of multiplier
  same_at zero h e = absurd (omega arith)
  same_at (suc i) h e = record { kind = rw e; terms = rw e }

-- what holds of the numbers 1 to j − 1, and of j
pub up_to : (P : ℕ → Type 0) (j : ℕ) → ((i : ℕ) → i + 1 < j → P (suc i)) → P j → (i : ℕ) → i + 1 < j + 1 → P (suc i)
up_to P j before here i h =
    ⊎_elim (λ (e : suc i ≡ j). subst P (sym e) here) (λ b. before i (omega arith))
    (eq-or-lt_of_le {n = suc i} {m = j} (omega arith))
