-- The joining rule over all nine bases, round by round. It has two editions, rule 1 and rule 2, which differ in the
-- second half of a round.
use Rattle.std.specs.Prelude.{Bool, true, false, cond, ◌&&◌, List, [], ◌∷◌, ℕ, zero, suc, ◌+◌, eqb, length, get_or}
use Rattle.counting.specs.Counting.{listed, from_to, sum_to}
use Rattle.joining_rule.specs.Join.{join}
use Rattle.joining_rule.specs.Extend.{extend}
use Rattle.joining_rule.specs.Sets.{different, insert}

-- the bases 0 to 8, each with the exponents of its multiplier g_j
pub record Bases : Type 0 where
  pub basis : ℕ → List ℕ
  pub multiplier : ℕ → List ℕ

-- the blocks of the nine bases, as the block number of each index, and S
pub record State : Type 0 where
  pub labels : List (List ℕ)
  pub support : List ℕ

-- "Every basis starts as single blocks": an index is its own block's number
unfoldable pub singles : Bases → List (List ℕ)
singles g = listed 9 (λ j. listed (length (g.basis j)) (λ i. i))

unfoldable pub start : Bases → List ℕ → State
start g S = record { labels = singles g; support = S }

-- "for every j, put b and b' of basis j in one block when ..": every basis joins on the same S
unfoldable pub join_all : Bases → List ℕ → List (List ℕ) → List (List ℕ)
join_all g S L = listed 9 (λ j. join S (g.multiplier j) (g.basis j) (get_or L j []))

-- "then add to S every t + b + b' ..", basis by basis, for the bases before n
unfoldable pub extend_to : ℕ → Bases → List (List ℕ) → List ℕ → List ℕ
extend_to n g L S = from_to 0 n (λ j. extend (g.multiplier j) (g.basis j) (get_or L j [])) S

-- how many bases add: all nine under rule 1; rule 2 "adds to S only the products of basis 0"
unfoldable pub adding_bases : ℕ → ℕ
adding_bases rule = cond (eqb rule 2) 1 9

-- a round
unfoldable pub round : ℕ → Bases → State → State
round rule g s =
    let L = join_all g s.support s.labels in
    record { labels = L; support = extend_to (adding_bases rule) g L s.support }

-- the state after k rounds
unfoldable pub after : ℕ → Bases → State → ℕ → State
after rule g s zero = s
after rule g s (suc k) = round rule g (after rule g s k)

-- whether two lists, two lists of lists and two states are the same
unfoldable pub same : List ℕ → List ℕ → Bool
same [] [] = true
same [] (y ∷ ys) = false
same (x ∷ xs) [] = false
same (x ∷ xs) (y ∷ ys) = cond (eqb x y) (same xs ys) false

unfoldable pub same_all : List (List ℕ) → List (List ℕ) → Bool
same_all [] [] = true
same_all [] (m ∷ ms) = false
same_all (l ∷ ls) [] = false
same_all (l ∷ ls) (m ∷ ms) = cond (same l m) (same_all ls ms) false

unfoldable pub same_state : State → State → Bool
same_state s t = same_all s.labels t.labels && same s.support t.support

-- the state that the rounds end in, and their number
pub record Closing : Type 0 where
  pub state : State
  pub rounds : ℕ

-- "Rounds repeat until one changes neither a block nor S; that one counts too"; command 09 "ends the rounds after k, if
-- they haven't ended sooner": at most m rounds, after c
unfoldable pub close_from : ℕ → Bases → ℕ → State → ℕ → Closing
close_from rule g zero s c = record { state = s; rounds = c }
close_from rule g (suc m) s c =
    elim (same_state s (round rule g s)) [
      | true ↦ record { state = round rule g s; rounds = c + 1 }
      | false ↦ close_from rule g m (round rule g s) (c + 1)
    ]

-- nine bases of at most 64 monomials take at most 578 rounds: proofs/Bound.antt
abbrev pub enough_rounds : ℕ
enough_rounds = 578

-- the most rounds at the order k, which is 0 without 09: "Leaving it out keeps full closure"
unfoldable pub most_rounds : ℕ → ℕ
most_rounds k = cond (eqb k 0) enough_rounds k

-- the rounds from the start
unfoldable pub closing_of : ℕ → ℕ → Bases → List ℕ → Closing
closing_of rule most g S = close_from rule g most (start g S) 0

-- "the closed S with the zero exponent and all in-block products t + b + b', under either", and at the order k "the S
-- reached, with zero and its in-block products": what is counted for refusal 7, and the keys at which an identity is
-- compared. Under rule 1 the products are in S already: proofs/Counted.antt
unfoldable pub counted_keys : Bases → State → List ℕ
counted_keys g s = insert 0 (extend_to 9 g s.labels s.support)

-- the number of blocks of all bases: a basis has as many as its indices have different block numbers
unfoldable pub blocks_in : List (List ℕ) → ℕ
blocks_in L = sum_to 9 (λ j. different (get_or L j []))
