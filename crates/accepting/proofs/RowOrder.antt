-- The order of a certificate's rows has no effect on whether it is accepted: sums do not depend on it, and each row keeps to its block by
-- itself.
use mathlib.Core.Path.{◌≡◌, refl, sym, ap, ◌∙◌}
use mathlib.Core.List.{List, [], ◌∷◌, ◌++◌}
use Prim.Native.Nat.{ℕ, ◌+◌}
use lib.IntN.{ℤ, ◌+ℤ◌}
use lib.ListN.{length, get_or}
use Rattle.integers.proofs.Ring.{+ℤ_left_comm}
use Rattle.polynomial.specs.Terms.{Term, term}
use Rattle.polynomial.specs.Algebra.{coefficient}
use Rattle.polynomial.proofs.Sums.{coefficient_append}
use Rattle.format.specs.All.{All}
use Rattle.format.specs.ProblemRules.{Problem}
use Rattle.format.specs.ProblemBases.{basis_of}
use Rattle.format.specs.CertificateRules.{Entry, Row, Certificate}
use Rattle.format.specs.Permuted.{Permuted}
use Rattle.format.specs.Permuted as Runs
use Rattle.format.specs.RowOrder.{RowRun, OtherOrder, entries_at, row_at, rows_at, run_bytes}
use Rattle.format.proofs.RowOrder.{OrderRead, order_read}
use Rattle.accepting.specs.Identity.{combination, square, squares, claim, Identity, block_of, OneBlock, KeepsBlocks}
use Rattle.accepting.specs.Judgement.{Accepted}
use Rattle.accepting.specs.RowOrder.{unplaced, SameRow, Reordered, none, same, exchanged, then}

-- ---- the offsets of entries have no part in a row's square or in its block
combination_unplaced : (B : List ℕ) (es : List Entry) → combination B (unplaced es) ≡ combination B es
combination_unplaced B [] = refl
combination_unplaced B (e ∷ es) = ap (λ (P : List Term). term (get_or B e.index 0) e.factor ∷ P) (combination_unplaced B es)

module _ (f : ℕ → ℕ) (l : ℕ) where
  In : Entry → Type 0
  In e = f e.index ≡ l

  all_unplaced : (es : List Entry) → All In es → All In (unplaced es)
  unfolding All In
  all_unplaced [] h = tt
  all_unplaced (e ∷ es) h = (h.0, all_unplaced es h.1)

  unplaced_all : (es : List Entry) → All In (unplaced es) → All In es
  unfolding All In
  unplaced_all [] h = tt
  unplaced_all (e ∷ es) h = (h.0, unplaced_all es h.1)

module _ (p : Problem) where
  square_same : (r r' : Row) → SameRow r r' → square p r ≡ square p r'
  unfolding square
  square_same r r' q =
      let e : combination (basis_of p r.basis) r.entries ≡ combination (basis_of p r'.basis) r'.entries =
      sym (combination_unplaced _ r.entries) ∙ ap (combination (basis_of p r.basis)) q.entries ∙ combination_unplaced _ r'.entries ∙ ap (λ (j : ℕ). combination (basis_of p j) r'.entries) q.basis in
      rw (e, q.weight, q.basis)

  block_same : (r r' : Row) → SameRow r r' → OneBlock p r → OneBlock p r'
  unfolding In
  block_same r r' q b =
      record {
        block = b.block;
        entries =
            unplaced_all (block_of p r'.basis) b.block r'.entries
            (rw (q.entries, q.basis) at (all_unplaced (block_of p r.basis) b.block r.entries b.entries));
      }

  -- ---- the sum of the squares, and the blocks
  squares_reordered : {rs rs' : List Row} → Reordered rs rs' → (k : ℕ) → coefficient k (squares p rs)
      ≡ coefficient k (squares p rs')
  unfolding squares
  squares_reordered none k = refl
  squares_reordered (same {r} {r'} {rs} {rs'} q w) k =
      coefficient_append k (square p r) (squares p rs)
      ∙ ap (λ (z : ℤ). coefficient k (square p r) +ℤ z) (squares_reordered w k)
      ∙ ap (λ (P : List Term). coefficient k P +ℤ coefficient k (squares p rs')) (square_same r r' q)
      ∙ sym (coefficient_append k (square p r') (squares p rs'))
  squares_reordered (exchanged {r} {r'} {rs}) k = two r r' ∙ +ℤ_left_comm (coefficient k (square p r)) (coefficient k (square p r')) (coefficient k (squares p rs)) ∙ sym (two r' r)
    where
      two : (r r' : Row) → coefficient k (squares p (r ∷ r' ∷ rs))
          ≡ coefficient k (square p r) +ℤ (coefficient k (square p r') +ℤ coefficient k (squares p rs))
      two r r' = coefficient_append k (square p r) (square p r' ++ squares p rs) ∙ ap (λ (z : ℤ). coefficient k (square p r) +ℤ z) (coefficient_append k (square p r') (squares p rs))
  squares_reordered (then a b) k = squares_reordered a k ∙ squares_reordered b k

  blocks_reordered : {rs rs' : List Row} → Reordered rs rs' → KeepsBlocks p rs → KeepsBlocks p rs'
  unfolding All
  blocks_reordered none h = tt
  blocks_reordered (same {r} {r'} q w) h = (block_same r r' q h.0, blocks_reordered w h.1)
  blocks_reordered exchanged h = (h.1.0, (h.0, h.1.1))
  blocks_reordered (then a b) h = blocks_reordered b (blocks_reordered a h)

-- ---- the rows of the same runs in another order, wherever they stand
same_entries : (a b : ℕ) (es : List (List ℕ)) → unplaced (entries_at a es) ≡ unplaced (entries_at b es)
unfolding entries_at
same_entries a b [] = refl
same_entries a b (e ∷ es) = rw (same_entries (a + length e) (b + length e) es)

same_row : (a b : ℕ) (r : RowRun) → SameRow (row_at a r) (row_at b r)
unfolding row_at
same_row a b r = record {
  basis = refl;
  weight = refl;
  entries = same_entries (a + length r.begin) (b + length r.begin) r.entries;
}

same_rows : (a b : ℕ) (rows : List RowRun) → Reordered (rows_at a rows) (rows_at b rows)
unfolding rows_at
same_rows a b [] = none
same_rows a b (r ∷ rows) =
    same (same_row a b r) (same_rows (a + length (run_bytes r)) (b + length (run_bytes r)) rows)

pub rows_reordered : (a b : ℕ) {rows others : List RowRun} → Permuted rows others
    → Reordered (rows_at a rows) (rows_at b others)
unfolding rows_at
rows_reordered a b Runs.none = none
rows_reordered a b (Runs.same {a = r} q) =
    same (same_row a b r) (rows_reordered (a + length (run_bytes r)) (b + length (run_bytes r)) q)
rows_reordered a b (Runs.exchanged {a = r} {b = q} {l = rows}) =
    then exchanged (same (same_row _ _ q) (same (same_row _ _ r) (same_rows _ _ rows)))
rows_reordered a b (Runs.then q r) = then (rows_reordered a a q) (rows_reordered a b r)

-- ---- of two streams with the same runs of rows in another order, the second is accepted where the first is. It gives
-- the rows in its order, and the same header
pub record AcceptedOther (p : Problem) (t : List ℕ) (c : Certificate) : Type 0 where
  pub other : Certificate
  pub accepted : Accepted p t other
  pub header : other.header ≡ c.header
  pub rows : Reordered c.rows other.rows

pub order_accepted : {p : Problem} {s t : List ℕ} → OtherOrder s t → (c : Certificate) → Accepted p s c
    → AcceptedOther p t c
unfolding Identity
order_accepted {p} {s} {t} o c a = go (order_read p o c a.read)
  where
    go : OrderRead p o c → AcceptedOther p t c
    go r =
        let q : Reordered c.rows r.other.rows = rw (r.rows, r.others) (rows_reordered 10 10 o.order) in
        record {
          other = r.other;
          accepted = record {
            read = r.read;
            blocks = blocks_reordered p q a.blocks;
            identity = λ k. ap (λ h. coefficient k (claim p h)) r.header ∙ a.identity k ∙ squares_reordered p q k;
          };
          header = r.header;
          rows = q;
        }
