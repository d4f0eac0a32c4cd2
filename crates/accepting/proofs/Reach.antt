-- Which monomials the two sides of the identity have: rows that keep to blocks reach only in-block products, and the claim
-- only monomials of S and the zero exponent. So outside the compared keys both coefficients are 0, under either rule.
use mathlib.Core.Path.{◌≡◌, refl, sym, ◌∙◌}
use mathlib.Core.List.{List, [], ◌∷◌, ◌++◌}
use Prim.Native.Nat.{ℕ, ◌+◌, ◌<◌}
use native.Mathlib.Nat.{add_comm}
use native.Mathlib.Omega.{arith}
use lib.IntN.{pos, neg_ℤ}
use lib.ListN.{length, get_or}
use Rattle.polynomial.specs.Terms.{Term, term, keys_of}
use Rattle.polynomial.specs.Algebra.{coefficient, scale, ◌⊗◌}
use Rattle.polynomial.proofs.Keys.{Keys}
use Rattle.polynomial.proofs.Sums.{coefficient_none}
use Rattle.polynomial.proofs.Products.{keys_append, keys_scale, keys-⊗}
use Rattle.format.specs.ProblemRules.{Problem}
use Rattle.format.specs.ProblemBases.{basis_of, multiplier_of, multiplier}
use Rattle.format.specs.All.{All}
use Rattle.format.proofs.WithinLimits.{Limits}
use Rattle.joining_rule.specs.Sets.{In, insert, insert_all}
use Rattle.joining_rule.proofs.Rising.{Rising}
use Rattle.format.proofs.CertificateLimits.{SoundRow}
use Rattle.joining_rule.proofs.Elements.{in_here, in_there}
use Rattle.joining_rule.proofs.Insertions.{insert_all_in}
use Rattle.joining_rule.proofs.Extending.{from_to_extends}
use Rattle.joining_rule.proofs.Full.{full_any}
use Rattle.joining_rule.proofs.Closing.{closing_starts, closing_rising}
use Rattle.joining_rule.proofs.Counted.{counted_full, counted_extends, counted_zero, counted_rising, products_nothing}
use Rattle.joining_rule.proofs.Rounds.{adding_all}
use Rattle.joining_rule.proofs.Bound.{most_positive}
use Rattle.joining_rule.specs.Joining.{bases_of, multiples, start_from, start_set, closing, reached_support}
use Rattle.joining_rule.proofs.Start.{insert_all_extends, start_rising}
use Rattle.format.specs.CertificateRules.{Entry, Row}
use Rattle.format.specs.declared.certificate.Header.{Header}
use Rattle.accepting.specs.Identity.{combination, square, squares, turned, claim_of, claim, block_of, OneBlock, KeepsBlocks}
use Rattle.accepting.specs.Judgement.{compared_keys}

-- ---- the monomials of a polynomial, as a list
pub keys_in_lem : (A : ℕ → Type 0) (P : List Term) → ((k : ℕ) → In k (keys_of P) → A k) → Keys A P
unfolding keys_of
keys_in_lem A [] f = tt
keys_in_lem A (t ∷ P) f = (f t.key (in_here t.key t.key (keys_of P) refl), keys_in_lem A P (λ k m. f k (in_there k t.key (keys_of P) m)))

pub keys_all : (A : ℕ → Type 0) (P : List Term) → All A (keys_of P) → Keys A P
unfolding keys_of All
keys_all A [] h = tt
keys_all A (t ∷ P) h = (h.0, keys_all A P h.1)

pub keys_combination : (A : ℕ → Type 0) (B : List ℕ) (es : List Entry) → All (λ (e : Entry). A (get_or B e.index 0)) es → Keys A (combination B es)
unfolding All
keys_combination A B [] h = tt
keys_combination A B (e ∷ es) h = (h.0, keys_combination A B es h.1)

pub all_both : {X : Type 0} (A B C : X → Type 0) → ((x : X) → A x → B x → C x) → (l : List X) → All A l → All B l → All C l
unfolding All
all_both A B C f [] h k = tt
all_both A B C f (x ∷ l) h k = (f x h.0 k.0, all_both A B C f l h.1 k.1)

module _ (p : Problem) where
  -- the exponents of g_j are its monomials
  multiplier_keys : (A : ℕ → Type 0) (j : ℕ) → ((t : ℕ) → In t (multiplier_of p j) → A t) → Keys A (multiplier p j)
  unfolding multiplier_of
  multiplier_keys A j f = keys_in_lem A (multiplier p j) f

  -- ---- the rows
  -- b and b' of one block, and t of g_j: b + b' + t is compared
  sum_in_lem : (j : ℕ) → j < 9 → (i k t : ℕ) → i < length (basis_of p j) → k < length (basis_of p j) → block_of p j i ≡ block_of p j k → In t (multiplier_of p j)
      → In (get_or (basis_of p j) i 0 + get_or (basis_of p j) k 0 + t) (compared_keys p)
  unfolding compared_keys block_of
  sum_in_lem j h i k t hi hk e m =
      rw (add_comm (get_or (basis_of p j) i 0 + get_or (basis_of p j) k 0) t) (full_any _ _ _ _ ((counted_full (bases_of p) (closing p).state).at j h) i k t hi hk e m)

  row_reach : (r : Row) → r.basis < 9 → SoundRow p r → OneBlock p r → Keys (λ k. In k (compared_keys p)) (square p r)
  unfolding square
  row_reach r h f o =
      let B = basis_of p r.basis in
      let L = combination B r.entries in
      let G = multiplier p r.basis in
      let S = compared_keys p in
      keys_scale _ _ (L ⊗ L ⊗ G) (keys-⊗ _ (L ⊗ L) G (keys-⊗ (λ s. Keys (λ t. In (s + t) S) G) L L
      (keys_combination _ B r.entries (all_both _ _ _ (λ e ei eb. keys_combination (λ c. Keys (λ t. In (get_or B e.index 0 + c + t) S) G) B r.entries
      (all_both _ _ _ (λ d di db. multiplier_keys _ r.basis (λ t m. sum_in_lem r.basis h e.index d.index t ei di (eb ∙ sym db) m)) r.entries f.indices o.entries))
      r.entries f.indices o.entries))))

  module _ (limits : Limits p) where
    -- rows that keep to blocks have no monomial outside the compared keys
    pub squares_reach : (rs : List Row) → All (SoundRow p) rs → KeepsBlocks p rs → Keys (λ k. In k (compared_keys p)) (squares p rs)
    unfolding squares All
    squares_reach [] f o = tt
    squares_reach (r ∷ rs) f o =
        keys_append _ (square p r) (squares p rs)
        (row_reach r (omega (arith, limits.conditions, f.0.basis)) f.0 o.0) (squares_reach rs f.1 o.1)

  -- ---- the claim
  start_rises : Rising (start_set p)
  unfolding start_set
  start_rises = start_rising (keys_of p.objective) (bases_of p)

  -- "S starts as all exponents of the objective ..", and never loses one
  objective_in : (k : ℕ) → In k (keys_of p.objective) → In k (reached_support p)
  unfolding closing start_set start_from
  objective_in k m =
      closing_starts p.rule _ (bases_of p) (start_set p) k ((insert_all_extends (multiples 2 (basis_of p 0)) _).keeps k
      ((from_to_extends (λ j. insert_all (multiplier_of p j)) (λ j X. insert_all_extends (multiplier_of p j) X) 1 9 (insert_all (keys_of p.objective) [])).keeps k (insert_all_in k (keys_of p.objective) [] m)))

  -- the claim has no monomial but those of the S reached and the zero exponent
  pub claim_reach : (h : Header) → Keys (λ k. In k (compared_keys p)) (claim p h)
  unfolding claim_of compared_keys
  claim_reach h =
      let x = turned h.side (pos h.q) in
      let y = term 0 (turned h.side (neg_ℤ h.p)) ∷ [] in
      let s = (closing p).state in
      keys_scale _ (pos h.scale) (scale x p.objective ++ y) (keys_append _ (scale x p.objective) y
      (keys_scale _ x p.objective (keys_in_lem _ p.objective (λ k m. (counted_extends (bases_of p) s).keeps k (objective_in k m)))) (counted_zero (bases_of p) s, tt))

  -- ---- outside the compared keys
  pub compared_rising : Rising (compared_keys p)
  unfolding compared_keys closing
  compared_rising = counted_rising (bases_of p) (closing p).state (closing_rising p.rule _ (bases_of p) (start_set p) start_rises)

  pub claim_outside : (h : Header) (k : ℕ) → (In k (compared_keys p) → ⊥) → coefficient k (claim p h) ≡ pos 0
  claim_outside h k f = coefficient_none (λ k. In k (compared_keys p)) k (claim p h) (claim_reach h) f

  pub squares_outside : Limits p → (rs : List Row) → All (SoundRow p) rs → KeepsBlocks p rs → (k : ℕ) → (In k (compared_keys p) → ⊥) → coefficient k (squares p rs) ≡ pos 0
  squares_outside limits rs f o k g = coefficient_none (λ k. In k (compared_keys p)) k (squares p rs) (squares_reach limits rs f o) g

  -- under rule 1 the compared keys are the S reached with the zero exponent
  pub compared_one : p.rule ≡ 1 → compared_keys p ≡ insert 0 (reached_support p)
  unfolding compared_keys closing
  compared_one e =
      products_nothing p.rule _ (bases_of p) (start_set p) start_rises (most_positive p.order) (adding_all p.rule (λ q. omega arith))
