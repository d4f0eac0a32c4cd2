-- What becomes of one certificate: refusals 2 to 6 of its stream, 8, 9, or it is accepted.
use Rattle.std.specs.Prelude.{◌≡◌, Bool, false, cond, List, [], ◌∷◌, ◌++◌, ℕ, ◌<◌, eqb, ℤ, pos, negsuc}
use Rattle.std.proofs.Math.Option.{Option, none, some}
use Rattle.format.specs.Commands.{Outcome}
use Rattle.format.specs.Commands as Stream
use Rattle.polynomial.specs.Terms.{Term}
use Rattle.polynomial.specs.Algebra.{coefficient}
use Rattle.format.specs.ProblemRules.{Problem}
use Rattle.format.specs.All.{All}
use Rattle.joining_rule.specs.Joining.{bases_of, closing}
use Rattle.format.specs.CertificateRules.{Entry, Row, Certificate, read_certificate}
use Rattle.accepting.specs.Identity.{squares, claim, block_of, Identity, KeepsBlocks}
use Rattle.joining_rule.specs.Rounds.{counted_keys}

-- ---- refusal 8: "first entry outside the row's first block", and its place; b is the block number of an index
unfoldable pub first_outside : (ℕ → ℕ) → ℕ → List Entry → Option ℕ
first_outside b l [] = none
first_outside b l (e ∷ es) = cond (eqb (b e.index) l) (first_outside b l es) (some e.place)

-- the row's first block is that of its first entry
unfoldable pub row_split : (ℕ → ℕ) → List Entry → Option ℕ
row_split b [] = none
row_split b (e ∷ es) = first_outside b (b e.index) es

abbrev pub or_else : Option ℕ → Option ℕ → Option ℕ
or_else (some x) y = some x
or_else none y = y

-- "8 by rows", where b j is the block number of an index of basis j
unfoldable pub split_by : (ℕ → ℕ → ℕ) → List Row → Option ℕ
split_by b [] = none
split_by b (r ∷ rs) = or_else (row_split (b r.basis) r.entries) (split_by b rs)

abbrev pub split_place : Problem → List Row → Option ℕ
split_place p rs = split_by (block_of p) rs

-- what that finds, in plain terms: the rows before one keep to their blocks; in it the entries before one are in the
-- block of the row's first entry, and that one, whose place it is, is not
pub record SplitAt (p : Problem) (rs : List Row) (at : ℕ) : Type 0 where
  pub before : List Row
  pub row : Row
  pub after : List Row
  pub rows : rs ≡ before ++ (row ∷ after)
  pub kept : KeepsBlocks p before
  pub first : Entry
  pub inside : List Entry
  pub outside : Entry
  pub rest : List Entry
  pub entries : row.entries ≡ first ∷ (inside ++ (outside ∷ rest))
  pub same : All (λ (e : Entry). block_of p row.basis e.index ≡ block_of p row.basis first.index) inside
  pub differs : block_of p row.basis outside.index ≡ block_of p row.basis first.index → ⊥
  pub place : at ≡ outside.place

-- ---- refusal 9: "identity false", and the smallest key that differs
abbrev pub same_number : ℤ → ℤ → Bool
same_number (pos a) (pos b) = eqb a b
same_number (pos a) (negsuc b) = false
same_number (negsuc a) (pos b) = false
same_number (negsuc a) (negsuc b) = eqb a b

-- the first of some keys at which two polynomials differ
unfoldable pub first_difference : List Term → List Term → List ℕ → Option ℕ
first_difference P Q [] = none
first_difference P Q (k ∷ ks) = cond (same_number (coefficient k P) (coefficient k Q)) (first_difference P Q ks) (some k)

-- the keys that are counted for refusal 7, from the smallest on. Outside them neither side has a term
-- (proofs/Reach.antt)
unfoldable pub compared_keys : Problem → List ℕ
compared_keys p = counted_keys (bases_of p) (closing p).state

unfoldable pub difference_key : Problem → Certificate → Option ℕ
difference_key p c = first_difference (claim p c.header) (squares p c.rows) (compared_keys p)

-- "key is the smallest that differs"
pub record Smallest (P Q : List Term) (k : ℕ) : Type 0 where
  pub differs : coefficient k P ≡ coefficient k Q → ⊥
  pub below : (j : ℕ) → j < k → coefficient j P ≡ coefficient j Q

-- ---- what becomes of a certificate: a refusal with its number, place and key, or it is accepted
pub data Judgement : Type 0 where
  refused : ℕ → ℕ → ℕ → Judgement
  accepted : Certificate → Judgement

abbrev pub by_identity : Certificate → Option ℕ → Judgement
by_identity c (some k) = refused 9 0 k
by_identity c none = accepted c

abbrev pub by_blocks : Option ℕ → Judgement → Judgement
by_blocks (some place) j = refused 8 place 0
by_blocks none j = j

-- "8 by rows; 9"
unfoldable pub judge_read : Problem → Certificate → Judgement
judge_read p c = by_blocks (split_place p c.rows) (by_identity c (difference_key p c))

abbrev pub judge_outcome : Problem → Outcome Certificate → Judgement
judge_outcome p (Stream.refused number place) = refused number place 0
judge_outcome p (Stream.given c) = judge_read p c

unfoldable pub judge : Problem → List ℕ → Judgement
judge p s = judge_outcome p (read_certificate p s)

-- what accepting means: the stream gives the certificate, each row is in one block, and the identity holds
pub record Accepted (p : Problem) (s : List ℕ) (c : Certificate) : Type 0 where
  pub read : read_certificate p s ≡ Stream.given c
  pub blocks : KeepsBlocks p c.rows
  pub identity : Identity p c

-- refusal 8 at the place of the first entry outside its row's first block
pub record Splits (p : Problem) (s : List ℕ) (c : Certificate) : Type 0 where
  pub place : ℕ
  pub refusal : judge p s ≡ refused 8 place 0
  pub split : SplitAt p c.rows place

-- refusal 9 at a key, which is the smallest that differs
pub record Differs (p : Problem) (s : List ℕ) (c : Certificate) : Type 0 where
  pub key : ℕ
  pub refusal : judge p s ≡ refused 9 0 key
  pub smallest : Smallest (claim p c.header) (squares p c.rows) key
