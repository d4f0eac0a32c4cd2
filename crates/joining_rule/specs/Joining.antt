-- The joining rule applied to a problem: its start, its result, and refusal 7.
use Rattle.std.specs.Prelude.{Bool, List, [], map, ℕ, ◌*◌, ltb, length}
use Rattle.counting.specs.Counting.{from_to}
use Rattle.polynomial.specs.Terms.{keys_of}
use Rattle.format.specs.ProblemRules.{Problem}
use Rattle.format.specs.ProblemBases.{basis_of, multiplier_of}
use Rattle.joining_rule.specs.Sets.{insert_all}
use Rattle.joining_rule.specs.Rounds.{Bases, Closing, most_rounds, blocks_in, counted_keys}
use Rattle.joining_rule.specs.Rounds as Rounds

-- the bases of a problem, each with its multiplier
abbrev pub bases_of : Problem → Bases
bases_of p = record { basis = basis_of p; multiplier = multiplier_of p }

-- each key times c. The key of 2b is twice the key of b
abbrev pub multiples : ℕ → List ℕ → List ℕ
multiples c ks = map (λ (k : ℕ). c * k) ks

-- "S starts as all exponents of the objective and constraints, and 2b for each b in basis 0": the objective's exponents
-- are given, and the constraints, equalities among them, are the multipliers 1 to 8
unfoldable pub start_from : List ℕ → Bases → List ℕ
start_from objective g =
    insert_all (multiples 2 (g.basis 0)) (from_to 1 9 (λ j. insert_all (g.multiplier j)) (insert_all objective []))

unfoldable pub start_set : Problem → List ℕ
start_set p = start_from (keys_of p.objective) (bases_of p)

-- the blocks, S and the number of rounds when the joining rule that the problem names has ended, or its order has ended
-- it: "the blocks reported and used are those after the last round"
unfoldable pub closing : Problem → Closing
closing p = Rounds.closing_of p.rule (most_rounds p.order) (bases_of p) (start_set p)

-- "the S reached"
abbrev pub reached_support : Problem → List ℕ
reached_support p = (closing p).state.support

-- "The closed S with the zero exponent added may have at most 2,048 members"; "The limit of 2,048 counts the closed S
-- with the zero exponent and all in-block products"; "The limit counts the S reached, with zero and its in-block
-- products"
abbrev pub most_keys : ℕ
most_keys = 2048

-- refusal 7: "closed S with zero above 2,048"
unfoldable pub too_large : Problem → Bool
too_large p = ltb most_keys (length (counted_keys (bases_of p) (closing p).state))

-- the number of blocks, over all bases
unfoldable pub block_total : Problem → ℕ
block_total p = blocks_in (closing p).state.labels
