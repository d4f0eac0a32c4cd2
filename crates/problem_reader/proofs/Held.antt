-- What the arrays and the condition begun last hold of a problem while it is read, and what each command's stores make of it.
use mathlib.Core.Path.{◌≡◌, refl, sym, ap, ◌∙◌}
use mathlib.Core.List.{List, [], ◌∷◌, ◌++◌}
use mathlib.Core.Logic.{inl, inr, ⊎_elim, ◌≢◌}
use Prim.Native.Nat.{ℕ, ◌+◌, ◌*◌, ◌^◌, ◌≤◌, ◌<◌, zero-le}
use native.Mathlib.Nat.{eq-or-lt_of_le}
use native.Mathlib.Numerals.{add-one}
use native.Mathlib.Omega.{arith}
use lib.IntN.{ℤ, pos, nat_abs}
use lib.ListN.{drop, set, get_or, replicate, length-set, length-append, length-drop, length-replicate}
use lib.Seq.{paste, length-paste, take-suc-set, drop-set-add, get_or-set_same, get_or-set_other}
use Rattle.counting.specs.Counting.{listed}
use Rattle.counting.proofs.Bounded.{bounded_zeros}
use Rattle.counting.proofs.Cases.{lt_or_le}
use Rattle.counting.proofs.Listed.{same_or_not}
use Rattle.polynomial.specs.Terms.{Term, term}
use Rattle.format.specs.declared.problem.Instruction.TheVariants as I
use Rattle.format.specs.declared.problem.Kind.{Kind}
use Rattle.format.specs.declared.problem.Kind.TheVariants as K
use Rattle.format.specs.ProblemRules.{Problem, with_rule, with_order, with_condition, problem_applied, no_problem}
use Rattle.format.proofs.ProblemLimits.{nothing_basis}
use Rattle.format.specs.ProblemBases.{basis_of}
use Rattle.flat.specs.TermArrays.{terms_in, FilledTerms}
use Rattle.flat.specs.Flat.{basis_in, polynomial_in, kind_number, most_at, degree_at, largest_at, FlatLimits, FlatProblem, FlatZero}
use Rattle.flat.proofs.TermArrays.{set_all, terms_same, terms_more, small_zeros, filled_none, filled_more}
use Rattle.flat.proofs.Flat.{basis_most, multiplier_most, basis_degree, multiplier_degree, objective_degree, multiplier_largest, objective_largest, kind_most}
use Rattle.problem_storing.specs.Stores.{no_terms, terms}
use Rattle.problem_storing.specs.declared.Polynomial.{Polynomial}
use Rattle.problem_reader.specs.Steps.{Held, condition_of}
use Rattle.problem_reader.proofs.Arrays.{basis_list, polynomial_place, Apart, apart_set, apart_paste, paste_all, paste_here, Others, coefficients_apart, others, limits_more, number_others, number_limits}
use Rattle.problem_reader.proofs.Problems.{multiplier_is, kind_is, same_terms_lem, same_kind, appended_length, condition_same, condition_none, nothing_kind, member_here, member_other, begun_other, begun_here, term_other, term_here}

module _ {p : Problem} {keys : List ℕ} {coefficients : List ℤ} {sizes : List ℕ} {v : ℕ} {last : Polynomial} {n : ℕ} (held : Held p keys coefficients sizes v last n) where
  abbrev limits : FlatLimits keys coefficients sizes
  limits = held.limits

  -- ---- the number of variables
  pub held_variables : (m : ℕ) → m ≤ 8 → Held (problem_applied p (I.Variables m)) keys coefficients sizes m last n
  unfolding problem_applied basis_of
  held_variables m h = record {
    limits = limits;
    variables = refl;
    variables_low = h;
    count = held.count;
    count_low = held.count_low;
    nine = held.nine;
    bases = held.bases;
    objective = held.objective;
    laid = λ j l. held.laid j l ∙ same_terms_lem (condition_same p _ refl j);
    latest = held.latest ∙ same_terms_lem (condition_same p _ refl n);
    filled = held.filled;
    empty = held.empty;
    kinds = λ j l. held.kinds j l ∙ same_kind (condition_same p _ refl j);
    rule = held.rule;
    order = held.order;
  }

  -- ---- the joining rule and the sparse order: a number behind the kinds
  held_number : (i m r k : ℕ) → 29 ≤ i → m ≤ most_at i → get_or (set sizes i m) 29 0 ≡ r → get_or (set sizes i m) 30 0 ≡ k
      → Held (with_order (with_rule p r) k) keys coefficients (set sizes i m) v last n
  unfolding basis_of
  held_number i m r k far few x y =
      let o = number_others limits i m in
      let w = held.count_low in
      record {
        limits = number_limits limits i m few;
        variables = held.variables;
        variables_low = held.variables_low;
        count = held.count;
        count_low = w;
        nine = held.nine;
        bases = λ j q. o.bases j q (λ e. omega arith) ∙ held.bases j q;
        objective = o.polynomials 9 (omega arith) (λ e. omega arith) ∙ held.objective;
        laid = λ j q. o.polynomials j (omega arith) (λ e. omega arith) ∙ held.laid j q ∙ same_terms_lem (condition_same p _ refl j);
        latest = held.latest ∙ same_terms_lem (condition_same p _ refl n);
        filled = held.filled;
        empty = λ j q l. o.lengths (9 + j) (λ e. omega arith) ∙ held.empty j q l;
        kinds = λ j q. o.lengths (20 + j) (λ e. omega arith) ∙ held.kinds j q ∙ same_kind (condition_same p _ refl j);
        rule = x;
        order = y;
      }

  pub held_rule : (m : ℕ) → m ≤ 2 → Held (problem_applied p (I.Rule m)) keys coefficients (set sizes 29 m) v last n
  unfolding problem_applied
  held_rule m h =
      held_number 29 m m p.order (omega arith) h
      (get_or-set_same sizes 29 m 0 (let s = limits.sizes_length in omega arith))
      (get_or-set_other sizes 29 30 m 0 (λ e. omega arith) ∙ held.order)

  pub held_order : (m : ℕ) → m ≤ 255 → Held (problem_applied p (I.Order m)) keys coefficients (set sizes 30 m) v last n
  unfolding problem_applied
  held_order m h =
      held_number 30 m p.rule m (omega arith) h
      (get_or-set_other sizes 30 29 m 0 (λ e. omega arith) ∙ held.rule)
      (get_or-set_same sizes 30 m 0 (let s = limits.sizes_length in omega arith))

  -- ---- a monomial of basis j
  module _ (j k : ℕ) (h : j < 9) (r : get_or sizes j 0 < 64) (low : k ≤ 8 * 2 ^ 56) where
    abbrev basis_keys : List ℕ
    basis_keys = set keys (64 * j + get_or sizes j 0) k

    abbrev basis_sizes : List ℕ
    basis_sizes = set sizes j (get_or sizes j 0 + 1)

    basis_others : Others j keys coefficients sizes basis_keys coefficients basis_sizes
    basis_others =
        let a = basis_list j h in
        let b = basis_most j h in
        others limits j _ basis_keys coefficients (omega arith)
        (apart_set keys _ _ _ k (omega arith) (omega arith))
        (λ i q d. refl)

    basis_more : basis_in basis_keys basis_sizes j ≡ basis_in keys sizes j ++ (k ∷ [])
    basis_more =
        let s = limits.sizes_length in
        let l = limits.keys_length in
        rw (
          get_or-set_same sizes j (get_or sizes j 0 + 1) 0 (omega arith),
          drop-set-add (64 * j) keys (get_or sizes j 0) k,
          add-one (get_or sizes j 0),
        ) (take-suc-set (drop (64 * j) keys) (get_or sizes j 0) k (rw (length-drop (64 * j) keys) (omega arith)))

    pub held_member : Held (problem_applied p (I.Member j k)) basis_keys coefficients basis_sizes v last n
    unfolding problem_applied
    held_member =
        let o = basis_others in
        let u = held.nine in
        let w = held.count_low in
        record {
          limits =
              limits_more limits j _ basis_keys coefficients (length-set keys _ k) refl
              (set_all (λ i x. x ≤ degree_at i * 2 ^ 56) keys _ k 0 limits.keys_low (rw (basis_degree (64 * j + get_or sizes j 0) (omega arith)) low))
              limits.coefficients_low
              (rw (basis_most j h) (omega arith));
          variables = held.variables;
          variables_low = held.variables_low;
          count = held.count;
          count_low = held.count_low;
          nine = appended_length p.bases j k ∙ held.nine;
          bases = λ i q.
              ⊎_elim
              (λ e. rw e (basis_more ∙ ap (λ (x : List ℕ). x ++ (k ∷ [])) (held.bases j h) ∙ sym (member_here p j k (omega arith))))
              (λ d. o.bases i q d ∙ held.bases i q ∙ sym (member_other p j k i d))
              (same_or_not i j);
          objective = o.polynomials 9 (omega arith) (λ e. omega arith) ∙ held.objective;
          laid = λ i q. o.polynomials i (omega arith) (λ e. omega arith) ∙ held.laid i q ∙ same_terms_lem (condition_same p _ refl i);
          latest = held.latest ∙ same_terms_lem (condition_same p _ refl n);
          filled = held.filled;
          empty = λ i q l. o.lengths (9 + i) (λ e. omega arith) ∙ held.empty i q l;
          kinds = λ i q. o.lengths (20 + i) (λ e. omega arith) ∙ held.kinds i q ∙ same_kind (condition_same p _ refl i);
          rule = o.lengths 29 (λ e. omega arith) ∙ held.rule;
          order = o.lengths 30 (λ e. omega arith) ∙ held.order;
        }

  -- ---- a term of the objective
  module _ (k : ℕ) (c : ℤ) (r : get_or sizes 18 0 < 256) (low : k ≤ 32 * 2 ^ 56) (small : nat_abs c ≤ 2 ^ 31) where
    abbrev objective_keys : List ℕ
    objective_keys = set keys (864 + get_or sizes 18 0) k

    abbrev objective_coefficients : List ℤ
    objective_coefficients = set coefficients (288 + get_or sizes 18 0) c

    abbrev objective_sizes : List ℕ
    objective_sizes = set sizes 18 (get_or sizes 18 0 + 1)

    objective_others : Others 18 keys coefficients sizes objective_keys objective_coefficients objective_sizes
    objective_others =
        let a = polynomial_place 9 in
        others limits 18 _ objective_keys objective_coefficients (omega arith)
        (apart_set keys _ _ _ k (omega arith) (omega arith))
        (coefficients_apart limits 9 objective_coefficients (omega arith) (apart_set coefficients _ _ _ c (omega arith) (omega arith)))

    objective_more : polynomial_in objective_keys objective_coefficients objective_sizes 9 ≡ polynomial_in keys coefficients sizes 9 ++ (term k c ∷ [])
    objective_more =
        let s = limits.sizes_length in
        let l = limits.keys_length in
        let m = limits.coefficients_length in
        rw (
          get_or-set_same sizes 18 (get_or sizes 18 0 + 1) 0 (omega arith),
          drop-set-add 864 keys (get_or sizes 18 0) k,
          drop-set-add 288 coefficients (get_or sizes 18 0) c,
        )
        (terms_more (get_or sizes 18 0) (drop 864 keys) (drop 288 coefficients) k c (rw (length-drop 864 keys) (omega arith)) (rw (length-drop 288 coefficients) (omega arith)))

    pub held_objective : Held (problem_applied p (I.Objective k c)) objective_keys objective_coefficients objective_sizes v last n
    unfolding problem_applied basis_of
    held_objective =
        let o = objective_others in
        let w = held.count_low in
        record {
          limits =
              limits_more limits 18 _ objective_keys objective_coefficients (length-set keys _ k) (length-set coefficients _ c)
              (set_all (λ i x. x ≤ degree_at i * 2 ^ 56) keys _ k 0 limits.keys_low (rw (objective_degree (864 + get_or sizes 18 0) (omega arith)) low))
              (set_all (λ i x. nat_abs x ≤ largest_at i) coefficients _ c (pos 0) limits.coefficients_low (rw (objective_largest (288 + get_or sizes 18 0) (omega arith)) small))
              (omega arith);
          variables = held.variables;
          variables_low = held.variables_low;
          count = held.count;
          count_low = held.count_low;
          nine = held.nine;
          bases = λ i q. o.bases i q (λ e. omega arith) ∙ held.bases i q;
          objective = objective_more ∙ ap (λ (x : List Term). x ++ (term k c ∷ [])) held.objective;
          laid = λ i q. o.polynomials i (omega arith) (λ e. omega arith) ∙ held.laid i q ∙ same_terms_lem (condition_same p _ refl i);
          latest = held.latest ∙ same_terms_lem (condition_same p _ refl n);
          filled = held.filled;
          empty = λ i q l. o.lengths (9 + i) (λ e. omega arith) ∙ held.empty i q l;
          kinds = λ i q. o.lengths (20 + i) (λ e. omega arith) ∙ held.kinds i q ∙ same_kind (condition_same p _ refl i);
          rule = o.lengths 29 (λ e. omega arith) ∙ held.rule;
          order = o.lengths 30 (λ e. omega arith) ∙ held.order;
        }

  -- ---- a term of the condition begun last
  pub held_term : (k : ℕ) (c : ℤ) → 0 < n → last.count < 32 → k ≤ 16 * 2 ^ 56 → nat_abs c ≤ 2 ^ 15
      → Held (problem_applied p (I.Term k c)) keys coefficients sizes v
      (record { keys = set last.keys last.count k; coefficients = set last.coefficients last.count c; count = last.count + 1 }) n
  unfolding problem_applied basis_of
  held_term k c h r low small =
      let f = held.filled in
      let e = held.count in
      let here = term_here p k c n e h in
      let other = term_other p k c n e h in
      record {
        limits = limits;
        variables = held.variables;
        variables_low = held.variables_low;
        count = length-set p.conditions _ _ ∙ e;
        count_low = held.count_low;
        nine = held.nine;
        bases = held.bases;
        objective = held.objective;
        laid = λ i q. held.laid i q ∙ same_terms_lem (sym (other i (λ z. omega arith)));
        latest =
            terms_more last.count last.keys last.coefficients k c (omega arith) (omega arith)
            ∙ ap (λ (x : List Term). x ++ (term k c ∷ [])) held.latest
            ∙ same_terms_lem (sym here);
        filled = filled_more 16 32 (2 ^ 15) last.keys last.coefficients last.count k c f r low small;
        empty = held.empty;
        kinds = λ i q. held.kinds i q ∙
            ⊎_elim
            (λ z. rw z (same_kind (sym here)))
            (λ d. same_kind (sym (other i d)))
            (same_or_not i n);
        rule = held.rule;
        order = held.order;
      }

  -- ---- the condition begun last is laid out
  abbrev laid_keys : List ℕ
  laid_keys = paste keys (576 + 32 * n) last.keys last.count

  abbrev laid_coefficients : List ℤ
  laid_coefficients = paste coefficients (32 * n) last.coefficients last.count

  abbrev laid_sizes : List ℕ
  laid_sizes = set sizes (9 + n) last.count

  laid_most : most_at (9 + n) ≡ 32
  laid_most = let w = held.count_low in multiplier_most (9 + n) (omega arith) (omega arith)

  wider : {A : Type 0} (a m most : ℕ) (l l' : List A) → m ≤ most → Apart a m l l' → Apart a most l l'
  wider a m most l l' h q = record { same = λ b x d. q.same b x (⊎_elim inl (λ z. inr (omega arith)) d) }

  laid_others : Others (9 + n) keys coefficients sizes laid_keys laid_coefficients laid_sizes
  laid_others =
      let f = held.filled in
      let w = held.count_low in
      let u = limits.keys_length in
      let x = limits.coefficients_length in
      others limits (9 + n) _ laid_keys laid_coefficients (omega arith)
      (rw (polynomial_place n, laid_most) (wider _ _ 32 keys laid_keys f.count_low (apart_paste keys (576 + 32 * n) last.keys 0 last.count (omega arith) (omega arith))))
      (coefficients_apart limits n laid_coefficients (omega arith)
      (rw laid_most (wider _ _ 32 coefficients laid_coefficients f.count_low (apart_paste coefficients (32 * n) last.coefficients (pos 0) last.count (omega arith) (omega arith)))))

  laid_here : polynomial_in laid_keys laid_coefficients laid_sizes n ≡ (condition_of p n).terms
  laid_here =
      let f = held.filled in
      let w = held.count_low in
      let s = limits.sizes_length in
      let u = limits.keys_length in
      let x = limits.coefficients_length in
      rw (get_or-set_same sizes (9 + n) last.count 0 (omega arith))
      (terms_same last.count _ _ _ _
      (paste_here keys (576 + 32 * n) last.keys 0 last.count (omega arith) (omega arith))
      (paste_here coefficients (32 * n) last.coefficients (pos 0) last.count (omega arith) (omega arith))
      ∙ held.latest)

  laid_limits : FlatLimits laid_keys laid_coefficients laid_sizes
  laid_limits =
      let f = held.filled in
      let w = held.count_low in
      let u = limits.keys_length in
      let x = limits.coefficients_length in
      limits_more limits (9 + n) _ laid_keys laid_coefficients
      (length-paste keys (576 + 32 * n) last.keys last.count (omega arith) (omega arith))
      (length-paste coefficients (32 * n) last.coefficients last.count (omega arith) (omega arith))
      (paste_all keys (576 + 32 * n) last.keys 0 (λ i y. y ≤ degree_at i * 2 ^ 56) limits.keys_low last.count (omega arith) (omega arith)
      (λ i q. rw (multiplier_degree (576 + 32 * n + i) (omega arith) (omega arith)) (f.keys_low i)))
      (paste_all coefficients (32 * n) last.coefficients (pos 0) (λ i y. nat_abs y ≤ largest_at i) limits.coefficients_low last.count (omega arith) (omega arith)
      (λ i q. rw (multiplier_largest (32 * n + i) (omega arith)) (f.coefficients_small i)))
      (rw laid_most f.count_low)

  -- then a number is stored that is the length of no list: all that was read stands in the arrays
  module _ (i m : ℕ) (far : 19 ≤ i) (few : m ≤ most_at i) where
    abbrev stored_sizes : List ℕ
    stored_sizes = set laid_sizes i m

    stored_limits : FlatLimits laid_keys laid_coefficients stored_sizes
    stored_limits = number_limits laid_limits i m few

    stored_others : Others i laid_keys laid_coefficients laid_sizes laid_keys laid_coefficients stored_sizes
    stored_others = number_others laid_limits i m

    stored_bases : (j : ℕ) → j < 9 → basis_in laid_keys stored_sizes j ≡ basis_of p j
    stored_bases j q = stored_others.bases j q (λ e. omega arith) ∙ laid_others.bases j q (λ e. omega arith) ∙ held.bases j q

    stored_objective : polynomial_in laid_keys laid_coefficients stored_sizes 9 ≡ p.objective
    stored_objective =
        let w = held.count_low in
        stored_others.polynomials 9 (omega arith) (λ e. omega arith) ∙ laid_others.polynomials 9 (omega arith) (λ e. omega arith) ∙ held.objective

    stored_laid : (j : ℕ) → j ≤ n → polynomial_in laid_keys laid_coefficients stored_sizes j ≡ (condition_of p j).terms
    stored_laid j h =
        let w = held.count_low in
        stored_others.polynomials j (omega arith) (λ e. omega arith)
        ∙ ⊎_elim
        (λ e. rw e laid_here)
        (λ d. laid_others.polynomials j (omega arith) (λ e. omega arith) ∙ held.laid j d)
        (eq-or-lt_of_le {n = j} {m = n} h)

    stored_other : (j : ℕ) → j ≢ i → j ≢ 9 + n → get_or stored_sizes j 0 ≡ get_or sizes j 0
    stored_other j d e = stored_others.lengths j d ∙ laid_others.lengths j e

    stored_here : i < 29 → get_or stored_sizes i 0 ≡ m
    stored_here h = get_or-set_same laid_sizes i m 0 (let s = laid_limits.sizes_length in omega arith)

  -- the next condition begins, of a kind
  kind_few : (k : Kind) → n < 8 → kind_number k ≤ most_at (20 + (n + 1))
  kind_few K.Inequality h = zero-le
  kind_few K.Equality h = rw (kind_most (20 + (n + 1)) (omega arith) (omega arith)) (omega arith)

  pub held_condition : (k : Kind) → n < 8 → Held (with_condition p k) laid_keys laid_coefficients (set laid_sizes (20 + (n + 1)) (kind_number k)) v no_terms (n + 1)
  unfolding basis_of terms_in listed
  held_condition k h =
      let i = 20 + (n + 1) in
      let far : 19 ≤ i = omega arith in
      let few = kind_few k h in
      let e = held.count in
      let here : condition_of (with_condition p k) (n + 1) ≡ record { kind = k; terms = [] } = rw e at (begun_here p k) in
      let other : (j : ℕ) → j ≢ n + 1 → condition_of (with_condition p k) j ≡ condition_of p j = rw e at (begun_other p k) in
      record {
        limits = stored_limits i _ far few;
        variables = held.variables;
        variables_low = held.variables_low;
        count = rw (length-append p.conditions (record { kind = k; terms = [] } ∷ [])) (omega arith);
        count_low = omega arith;
        nine = held.nine;
        bases = stored_bases i _ far few;
        objective = stored_objective i _ far few;
        laid = λ j q. stored_laid i _ far few j (omega arith) ∙ same_terms_lem (sym (other j (λ z. omega arith)));
        latest = same_terms_lem (sym here);
        filled = filled_none 16 32 (2 ^ 15);
        empty = λ j q l. stored_other i _ far few (9 + j) (λ z. omega arith) (λ z. omega arith) ∙ held.empty j (omega arith) l;
        kinds = λ j q.
            ⊎_elim
            (λ z. rw z (stored_here i _ far few (omega arith) ∙ same_kind (sym here)))
            (λ d. rw (other j d) (stored_other i _ far few (20 + j) (λ z. d (omega arith)) (λ z. omega arith) ∙ held.kinds j q))
            (same_or_not j (n + 1));
        rule = stored_other i _ far few 29 (λ z. omega arith) (λ z. omega arith) ∙ held.rule;
        order = stored_other i _ far few 30 (λ z. omega arith) (λ z. omega arith) ∙ held.order;
      }

  -- the end of the stream
  pub held_end : FlatProblem p laid_keys laid_coefficients (set laid_sizes 19 n)
  unfolding terms_in listed
  held_end =
      let w = held.count_low in
      record {
        limits = stored_limits 19 n (omega arith) w;
        bases = stored_bases 19 n (omega arith) w;
        multipliers = λ j q. rw (multiplier_is p j)
            (⊎_elim
            (λ d.
            let z : get_or (set laid_sizes 19 n) (9 + j) 0 ≡ 0 = stored_other 19 n (omega arith) w (9 + j) (λ z. omega arith) (λ z. omega arith) ∙ held.empty j (omega arith) q in
            let e = held.count in
            rw (z, condition_none p j (omega arith)))
            (λ d. stored_laid 19 n (omega arith) w j d)
            (lt_or_le n j));
        objective = stored_objective 19 n (omega arith) w;
        conditions = stored_here 19 n (omega arith) w (omega arith) ∙ sym held.count;
        kinds = λ j q. rw (kind_is p j) (stored_other 19 n (omega arith) w (20 + j) (λ z. omega arith) (λ z. omega arith) ∙ held.kinds j q);
        rule = stored_other 19 n (omega arith) w 29 (λ z. omega arith) (λ z. omega arith) ∙ held.rule;
        order = stored_other 19 n (omega arith) w 30 (λ z. omega arith) (λ z. omega arith) ∙ held.order;
      }

-- ---- before the first command: all numbers are 0 but the rule
pub held_start : (keys : List ℕ) (coefficients : List ℤ) (sizes : List ℕ) (one : Polynomial) → FlatZero keys coefficients sizes
    → FilledTerms 16 32 (2 ^ 15) one.keys one.coefficients one.count → terms one ≡ term 0 (pos 1) ∷ [] → Held no_problem keys coefficients (set sizes 29 1) 0 one 0
unfolding basis_of condition_of terms_in listed
held_start keys coefficients sizes one z f e =
    rw (z.keys_zero, z.coefficients_zero, z.sizes_zero)
    (record {
      limits = record {
        keys_length = length-replicate {A = ℕ} 1120 0;
        coefficients_length = length-replicate {A = ℤ} 544 (pos 0);
        sizes_length = refl;
        sizes_low = set_all (λ i m. m ≤ most_at i) (replicate 31 0) 29 1 0 (λ i. bounded_zeros (most_at i) 31 i) (omega arith);
        keys_low = λ i. bounded_zeros (degree_at i * 2 ^ 56) 1120 i;
        coefficients_low = λ i. small_zeros (largest_at i) 544 i;
      };
      variables = refl;
      variables_low = zero-le;
      count = refl;
      count_low = zero-le;
      nine = refl;
      bases = λ j h. rw (none j (λ e. omega arith), nothing_basis j);
      objective = refl;
      laid = λ j h. absurd (omega arith);
      latest = e;
      filled = f;
      empty = λ j _ h. none (9 + j) (λ e. omega arith);
      kinds = λ j h. rw (none (20 + j) (λ e. omega arith), nothing_kind no_problem refl j);
      rule = refl;
      order = refl;
    })
  where
    none : (i : ℕ) → i ≢ 29 → get_or (set (replicate {A = ℕ} 31 0) 29 1) i 0 ≡ 0
    none i d = let b = bounded_zeros 0 31 i in get_or-set_other (replicate 31 0) 29 i 1 0 d ∙ omega arith
