-- The rows on one basis, summed before they are multiplied by g_j: the products w × l × l' go into a table by the
-- indices i and i', at the place 64 × i + i', and the table's entries are then multiplied by b × b' and by the terms of
-- g_j.
use Rattle.std.specs.Prelude.{cond, List, [], ◌∷◌, ◌++◌, ℕ, zero, suc, ◌+◌, ◌*◌, ◌/◌, ◌%◌, eqb, leb, ℤ, pos, ◌*ℤ◌, get_or}
use Rattle.counting.specs.Counting.{listed}
use Rattle.polynomial.specs.Terms.{Term, term}
use Rattle.polynomial.specs.Algebra.{scale, ◌⊗◌}
use Rattle.format.specs.ProblemRules.{Problem}
use Rattle.format.specs.ProblemBases.{basis_of, multiplier}
use Rattle.format.specs.CertificateRules.{Entry, Row}
use Rattle.accepting.specs.Identity.{squares}

-- a row's factors, each at its index
abbrev pub factor_terms : List Entry → List Term
factor_terms [] = []
factor_terms (e ∷ es) = term e.index e.factor ∷ factor_terms es

-- each key replaced by f of it
abbrev pub rekeyed : (ℕ → ℕ) → List Term → List Term
rekeyed f [] = []
rekeyed f (t ∷ P) = term (f t.key) t.coefficient ∷ rekeyed f P

-- w × l × l' for each two entries of a row, at its place
abbrev pub outer : Row → List Term
outer r = scale r.weight (rekeyed (λ i. 64 * i) (factor_terms r.entries) ⊗ factor_terms r.entries)

-- the Gram matrix of some rows: the products of all of them
unfoldable pub gram : List Row → List Term
gram [] = []
gram (r ∷ rs) = outer r ++ gram rs

-- b × b' for the indices of a place
abbrev pub pair_key : List ℕ → ℕ → ℕ
pair_key B n = get_or B (n / 64) 0 + get_or B (n % 64) 0

-- the entries of a table, each at its place
abbrev pub table_terms : List ℤ → List Term
table_terms table = listed 4096 (λ n. term n (get_or table n (pos 0)))

-- how often the number at i and i' is taken where half of a symmetric matrix is kept: once on the diagonal, above it
-- for its mirror image too, and never below it, where i' < i
abbrev pub times : ℕ → ℕ → ℤ
times i i' = cond (leb i i') (cond (eqb i i') (pos 1) (pos 2)) (pos 0)

-- the same by the place
abbrev pub times_at : ℕ → ℤ
times_at n = times (n / 64) (n % 64)

-- the number v at a place, as often
abbrev pub doubled : ℕ → ℤ → ℤ
doubled n v = times_at n *ℤ v

-- each entry of a matrix times b × b' times g_j
abbrev pub expanded : Problem → ℕ → List Term → List Term
expanded p j M = rekeyed (pair_key (basis_of p j)) M ⊗ multiplier p j

-- the rows on basis j
unfoldable pub rows_on : ℕ → List Row → List Row
rows_on j [] = []
rows_on j (r ∷ rs) = cond (eqb r.basis j) (r ∷ rows_on j rs) (rows_on j rs)

-- the rows basis by basis, on the first n bases
unfoldable pub by_basis : Problem → List Row → ℕ → List Term
by_basis p rs zero = []
by_basis p rs (suc j) = by_basis p rs j ++ squares p (rows_on j rs)
