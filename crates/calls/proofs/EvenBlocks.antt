-- Blocks respect the sign symmetries. Fix a symmetry r. Every exponent that S starts with is met evenly by r. If that
-- holds of S, then two monomials that are joined meet r alike, and a whole block does; and if that holds of the blocks,
-- then every sum that is added to S is met evenly, whichever bases add. So it holds under either rule, after every number of
-- rounds.
use mathlib.Core.Path.{◌≡◌, refl, sym, ◌∙◌}
use mathlib.Core.Logic.{⊎_elim}
use mathlib.Core.Bool.{true}
use mathlib.Core.List.{List, [], ◌∷◌}
use Prim.Native.Nat.{ℕ, zero, suc, ◌+◌, ◌*◌, ◌%◌, ◌≤◌, ◌<◌}
use native.Mathlib.Omega.{arith}
use lib.ListN.{length, get_or}
use Rattle.counting.proofs.Steps.{from_to_keeps}
use Rattle.polynomial.specs.Monomial.{degree_of, degree}
use Rattle.polynomial.specs.Terms.{keys_of}
use Rattle.polynomial.proofs.Products.{degree_add}
use Rattle.format.specs.All.{All}
use Rattle.format.specs.ProblemRules.{Condition, Problem, no_condition}
use Rattle.format.specs.ProblemBases.{basis_of, multiplier, multiplier_of}
use Rattle.format.proofs.WithinLimits.{Limits}
use Rattle.format.proofs.ProblemLimits.{all_at}
use Rattle.joining_rule.specs.Sets.{In, insert_all}
use Rattle.joining_rule.specs.Joining.{bases_of, multiples, start_from, start_set, closing}
use Rattle.joining_rule.proofs.Elements.{not_nil, in_cons, append_in, append_keeps}
use Rattle.joining_rule.proofs.Insertions.{insert_all_from}
use Rattle.joining_rule.proofs.Least.{Equivalence, JoinedIn, AddedIn, Within}
use Rattle.joining_rule.proofs.Meaning.{closing_within}
use Rattle.accepting.proofs.Bounds.{basis_degrees, multiplier_degrees}
use Rattle.calls.specs.Symmetries.{meets_evenly, condition_exponents, exponents_of}
use Rattle.calls.proofs.Evenness.{inner, meets_even, even_meets, inner_sum}

-- ---- lists

pub all_in : (P : ℕ → Type 0) (l : List ℕ) (x : ℕ) → All P l → In x l → P x
unfolding All
all_in P [] x h m = not_nil x m
all_in P (y ∷ l) x h m = ⊎_elim (λ e. rw (← e) h.0) (λ w. all_in P l x h.1 w) (in_cons x y l m)

-- the exponents of a condition are among those of all
condition_in : (gs : List Condition) (j e : ℕ) → In e (keys_of (get_or gs j no_condition).terms) → In e (condition_exponents gs)
unfolding keys_of
condition_in [] j e m = not_nil e m
condition_in (g ∷ gs) zero e m = append_keeps e (keys_of g.terms) (condition_exponents gs) m
condition_in (g ∷ gs) (suc j) e m = append_in e (keys_of g.terms) (condition_exponents gs) (condition_in gs j e m)

degree_zero : (d : ℕ) → degree 0 ≤ d
unfolding degree degree_of
degree_zero d = omega arith

module _ (p : Problem) (limits : Limits p) where
  basis_degree : (j i : ℕ) → degree (get_or (basis_of p j) i 0) ≤ 8
  basis_degree j i = all_at _ (basis_of p j) i 0 (basis_degrees p limits j) (degree_zero 8)

  multiplier_degree : (j t : ℕ) → In t (multiplier_of p j) → degree t ≤ 16
  multiplier_degree j t m = all_in _ _ t (multiplier_degrees p limits j) m

  module _ (r : ℕ) (small : r < 256) (meets : (e : ℕ) → In e (exponents_of p) → meets_evenly r e ≡ true) where
    -- met evenly
    abbrev Q : ℕ → Type 0
    Q e = inner r e % 2 ≡ 0

    -- met alike
    abbrev R : ℕ → ℕ → ℕ → Type 0
    R j i k = inner r (get_or (basis_of p j) i 0) % 2 ≡ inner r (get_or (basis_of p j) k 0) % 2

    inner_zero : inner r 0 ≡ 0
    inner_zero = omega (arith, inner_sum r 0 0 (omega (arith, degree_zero 0)))

    -- ---- the exponents that are given
    objective_even : (e : ℕ) → In e (keys_of p.objective) → Q e
    unfolding exponents_of
    objective_even e m = meets_even r e small (meets e (append_keeps e (keys_of p.objective) _ m))

    multiplier_even : (j t : ℕ) → In t (multiplier_of p j) → Q t
    unfolding multiplier_of multiplier exponents_of
    multiplier_even zero t m = ⊎_elim (λ e. rw (← e) (omega (arith, inner_zero))) (λ w. not_nil t w) (in_cons t 0 [] (unfold keys_of in m))
    multiplier_even (suc j) t m =
        meets_even r t small (meets t (append_in t (keys_of p.objective) (condition_exponents p.conditions) (condition_in p.conditions j t m)))

    double_even : (l : List ℕ) (x : ℕ) → All (λ k. degree k ≤ 8) l → In x (multiples 2 l) → Q x
    unfolding All
    double_even [] x h m = not_nil x m
    double_even (k ∷ l) x h m =
        ⊎_elim
        (λ e. let d : degree k + degree k ≤ 255 = omega (arith, h.0) in let q : x ≡ k + k = omega arith in rw (q, inner_sum r k k d) (omega arith))
        (λ w. double_even l x h.1 w) (in_cons x (2 * k) (multiples 2 l) m)

    start_even : Within Q (start_set p)
    unfolding start_set start_from
    start_even =
        inserted _ _ (λ x m. double_even (basis_of p 0) x (basis_degrees p limits 0) m)
        (from_to_keeps (Within Q) _ 9 1 (λ j S _ _ w. inserted _ S (λ x m. multiplier_even j x m) w) _
        (inserted _ [] objective_even (record { at = λ x m. not_nil x m })))
      where
        inserted : (ks S : List ℕ) → ((x : ℕ) → In x ks → Q x) → Within Q S → Within Q (insert_all ks S)
        inserted ks S f w = record { at = λ x m. insert_all_from x ks S (f x) (w.at x) m }

    -- ---- joining and adding
    inner_three : (j i k t : ℕ) → In t (multiplier_of p j)
        → inner r (t + (get_or (basis_of p j) i 0 + get_or (basis_of p j) k 0)) ≡ inner r t + (inner r (get_or (basis_of p j) i 0) + inner r (get_or (basis_of p j) k 0))
    inner_three j i k t m =
        let b = basis_degree j i in
        let c = basis_degree j k in
        let d = multiplier_degree j t m in
        let two : degree (get_or (basis_of p j) i 0) + degree (get_or (basis_of p j) k 0) ≤ 255 = omega arith in
        let s = degree_add (get_or (basis_of p j) i 0) (get_or (basis_of p j) k 0) two in
        rw (inner_sum r t (get_or (basis_of p j) i 0 + get_or (basis_of p j) k 0) (omega arith), inner_sum r (get_or (basis_of p j) i 0) (get_or (basis_of p j) k 0) two)

    alike : (j : ℕ) → Equivalence (R j)
    alike j = record { reflexive = λ x. refl; symmetric = λ x y e. sym e; transitive = λ x y z e f. e ∙ f }

    joined_alike : (j : ℕ) → JoinedIn Q (R j) (multiplier_of p j) (basis_of p j)
    joined_alike j = record { joins = λ i k t _ _ m q. let e = inner_three j i k t m in let v = multiplier_even j t m in omega arith }

    added_even : (j : ℕ) → AddedIn Q (R j) (multiplier_of p j) (basis_of p j)
    added_even j = record { adds = λ i k t _ _ q m. let e = inner_three j i k t m in let v = multiplier_even j t m in omega arith }

    -- "Two monomials of one block must give a sum that every listed mask meets evenly"
    pub block_even : (j i k : ℕ) → j < 9 → i < length (basis_of p j) → k < length (basis_of p j)
        → get_or (get_or (closing p).state.labels j []) i 0 ≡ get_or (get_or (closing p).state.labels j []) k 0
        → meets_evenly r (get_or (basis_of p j) i 0 + get_or (basis_of p j) k 0) ≡ true
    unfolding closing
    block_even j i k h hi hk e =
        let b = basis_degree j i in
        let c = basis_degree j k in
        let q : R j i k = ((closing_within _ _ (bases_of p) (start_set p) R Q alike (λ j _. joined_alike j) (λ j _. added_even j) start_even).blocks j h).at i k hi hk e in
        even_meets r _ small (rw (inner_sum r (get_or (basis_of p j) i 0) (get_or (basis_of p j) k 0) (omega arith)) (omega arith))
