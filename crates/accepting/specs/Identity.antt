-- The identity that a certificate claims, and the blocks that its rows keep to.
use Rattle.std.specs.Prelude.{◌≡◌, List, [], ◌∷◌, ◌++◌, ℕ, zero, suc, ℤ, pos, neg_ℤ, get_or}
use Rattle.polynomial.specs.Terms.{Term, term}
use Rattle.polynomial.specs.Algebra.{coefficient, scale, ◌⊗◌}
use Rattle.format.specs.ProblemRules.{Problem}
use Rattle.format.specs.ProblemBases.{basis_of, multiplier}
use Rattle.format.specs.All.{All}
use Rattle.joining_rule.specs.Joining.{closing}
use Rattle.format.specs.CertificateRules.{Entry, Row, Certificate}
use Rattle.format.specs.declared.certificate.Header.{Header}

-- the "sum of l × b" over a row's entries, on the basis B
abbrev pub combination : List ℕ → List Entry → List Term
combination B [] = []
combination B (e ∷ es) = term (get_or B e.index 0) e.factor ∷ combination B es

-- "w × (sum of l × b)² × g_j"
unfoldable pub square : Problem → Row → List Term
square p r =
    let L = combination (basis_of p r.basis) r.entries in
    scale r.weight (L ⊗ L ⊗ multiplier p r.basis)

-- T, "the sum over rows"
unfoldable pub squares : Problem → List Row → List Term
squares p [] = []
squares p (r ∷ rs) = square p r ++ squares p rs

-- "with both signs turned" for side 1
abbrev pub turned : ℕ → ℤ → ℤ
turned zero x = x
turned (suc side) x = neg_ℤ x

-- "D × (q × objective − p)" for side 0, and "D × (p − q × objective)" for side 1
unfoldable pub claim_of : List Term → Header → List Term
claim_of objective h =
    scale (pos h.scale)
    (scale (turned h.side (pos h.q)) objective ++ (term 0 (turned h.side (neg_ℤ h.p)) ∷ []))

abbrev pub claim : Problem → Header → List Term
claim p h = claim_of p.objective h

-- "Equality is per monomial, on exact whole numbers": at every key, also those that no term has
unfoldable pub Identity : Problem → Certificate → Type 0
Identity p c = (k : ℕ) → coefficient k (claim p c.header) ≡ coefficient k (squares p c.rows)

-- the block number of index i of basis j, when the joining rule has ended, or the order has ended it: "the blocks
-- reported and used are those after the last round"
unfoldable pub block_of : Problem → ℕ → ℕ → ℕ
block_of p j i = get_or (get_or (closing p).state.labels j []) i 0

-- "All entries of a row are in one block"
pub record OneBlock (p : Problem) (r : Row) : Type 0 where
  pub block : ℕ
  pub entries : All (λ (e : Entry). block_of p r.basis e.index ≡ block) r.entries

abbrev pub KeepsBlocks : Problem → List Row → Type 0
KeepsBlocks p rs = All (OneBlock p) rs
