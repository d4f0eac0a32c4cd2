-- The starred samples, from their byte streams, as one table: each row's outcome is what the definitions compute. The
-- tables below it have pairs, equalities, gaps of 0 and below, wide factors, joining rules and sparse orders.
use mathlib.Core.Path.{◌≡◌, refl}
use mathlib.Core.List.{List, [], ◌∷◌, ◌++◌, map}
use mathlib.Core.Bool.{true, false}
use Prim.Native.Nat.{ℕ, ◌-◌}
use lib.IntN.{pos, negsuc}
use lib.ListN.{length, take, drop, replicate}
use Rattle.format.specs.Commands.{Outcome, refused, given}
use Rattle.format.specs.ProblemRules.{Problem, read_problem}
use Rattle.joining_rule.specs.Rounds.{State, start, after}
use Rattle.joining_rule.specs.Joining.{bases_of, start_set}
use Rattle.calls.specs.Blocks.{blocks_verdict, bytes_left}
use Rattle.calls.specs.Check.{check_verdict}
use Rattle.calls.specs.Pair.{pair_verdict}
use Rattle.calls.specs.declared.BlocksVerdict.{BlocksVerdict}
use Rattle.calls.specs.declared.CheckVerdict.{CheckVerdict}
use Rattle.calls.specs.declared.PairVerdict.{PairVerdict}
use Rattle.lines.specs.Answers.{answer_to}
use Rattle.lines.specs.Lines.{ascii}
use Rattle.samples.proofs.Computing.{joining, blocking, checking, pairing, printing}
use Rattle.samples.specs.Verdicts.{over, blocks_found, blocks_refused, check_accepted, check_refused, pair_accepted, pair_refused}
use Rattle.samples.specs.Streams.{problem_a, problem_c, problem_d, problem_e, problem_f, certificate_a, certificate_b, certificate_d, low_f, high_f, certificate_i, small, minus, row, equality_row, entry, entry_minus, wide_entry, equality, inequality, problem_equal, nine_conditions, low_equal, high_equal, problem_wide, certificate_wide, certificate_wide_d, with_entries, with_row, problem_crossed, low_crossed, high_crossed, rule, order, variables, end, objective_term, exponents, problem_e_with, problem_zero, certificate_e, certificate_beside, certificate_across, certificate_zero}

-- ---- the starred samples
-- what a case is: a problem with a lower and an upper certificate. One that a letter does not name is the empty stream,
-- as gapcheck has it for a file that is missing
record Case : Type 0 where
  problem : List ℕ
  low : List ℕ
  high : List ℕ

abbrev case : List ℕ → List ℕ → List ℕ → Case
case problem low high = record { problem = problem; low = low; high = high }

-- what becomes of it: the blocks, with the bytes that are left of 577 lent ones; the check of the lower certificate;
-- the pair; and what gapcheck writes
record Row : Type 0 where
  blocks : BlocksVerdict
  bytes : List ℕ
  check : CheckVerdict
  pair : PairVerdict
  lines : List ℕ

abbrev lent : List ℕ
lent = replicate 577 7

abbrev outcome : Case → Row
outcome c = record {
  blocks = blocks_verdict false c.problem;
  bytes = bytes_left false c.problem lent;
  check = check_verdict false c.problem c.low;
  pair = pair_verdict false c.problem c.low c.high;
  lines = answer_to c.problem c.low c.high;
}

-- the block numbers of the bases 0 and 1, 255 in all others of the 576, and the byte past them as it was
abbrev numbers : List ℕ → List ℕ → List ℕ
numbers zero one = (zero ++ replicate (64 - length zero) 255) ++ (one ++ replicate (512 - length one) 255) ++ (7 ∷ [])

-- A to G and I, in the order of the letters
pub starred :
    map outcome
    (case problem_a certificate_a []
    ∷ case problem_a certificate_b []
    ∷ case problem_c [] []
    ∷ case problem_d certificate_d []
    ∷ case problem_e [] []
    ∷ case problem_f low_f high_f
    ∷ case [] [] []
    ∷ case problem_a certificate_i []
    ∷ [])
    -- A: "lower 2/1 ..: accepted, 2 rounds"
    ≡ record {
      blocks = blocks_found 1 2 1;
      bytes = numbers (0 ∷ 0 ∷ []) [];
      check = check_accepted 0 (over (pos 2) 1) 2 1;
      pair = pair_refused 2 2 0 0;
      lines = ascii "refused 2 2 0 0\n";
    }
    -- B: "refusal 9, key 0"; "case B as low.bin gives `refused 9 1 0 0`"
    ∷ record {
      blocks = blocks_found 1 2 1;
      bytes = numbers (0 ∷ 0 ∷ []) [];
      check = check_refused 9 1 0 0;
      pair = pair_refused 9 1 0 0;
      lines = ascii "refused 9 1 0 0\n";
    }
    -- C: "2 rounds, one block"
    ∷ record {
      blocks = blocks_found 1 2 1;
      bytes = numbers (0 ∷ 0 ∷ 0 ∷ []) [];
      check = check_refused 2 1 0 0;
      pair = pair_refused 2 1 0 0;
      lines = ascii "refused 2 1 0 0\n";
    }
    -- D: "three blocks, 1 round; a row on x1 and x2: 8", at its second entry
    ∷ record {
      blocks = blocks_found 3 1 1;
      bytes = numbers (0 ∷ 1 ∷ 2 ∷ []) [];
      check = check_refused 8 1 18 0;
      pair = pair_refused 8 1 18 0;
      lines = ascii "refused 8 1 18 0\n";
    }
    -- E: "3 rounds, and 1 with x³ is one block"
    ∷ record {
      blocks = blocks_found 2 3 1;
      bytes = numbers (0 ∷ 0 ∷ []) (0 ∷ []);
      check = check_refused 2 1 0 0;
      pair = pair_refused 2 1 0 0;
      lines = ascii "refused 2 1 0 0\n";
    }
    -- F: "bounds −1 and 1", and the four lines
    ∷ record {
      blocks = blocks_found 2 2 1;
      bytes = numbers (0 ∷ 0 ∷ []) (0 ∷ []);
      check = check_accepted 0 (over (negsuc 0) 1) 2 1;
      pair = pair_accepted (over (negsuc 0) 1) (over (pos 1) 1) (over (pos 2) 1) 2 1;
      lines = ascii "lower -1/1\nupper 1/1\ngap 2/1\nrounds 2\n";
    }
    -- G: "empty stream: 2 at 0"
    ∷ record {
      blocks = blocks_refused 2 0;
      bytes = lent;
      check = check_refused 2 0 0 0;
      pair = pair_refused 2 0 0 0;
      lines = ascii "refused 2 0 0 0\n";
    }
    -- I: "q = 0: 4"
    ∷ record {
      blocks = blocks_found 1 2 1;
      bytes = numbers (0 ∷ 0 ∷ []) [];
      check = check_refused 4 1 0 0;
      pair = pair_refused 4 1 0 0;
      lines = ascii "refused 4 1 0 0\n";
    }
    ∷ []
unfolding blocking checking pairing printing
starred = refl

-- the bytes of F's lines: "each line ends in byte 0A"
pub bytes_F :
    answer_to problem_f low_f high_f
    ≡ (108 ∷ 111 ∷ 119 ∷ 101 ∷ 114 ∷ 32 ∷ 45 ∷ 49 ∷ 47 ∷ 49 ∷ 10 ∷ [])
    ++ (117 ∷ 112 ∷ 112 ∷ 101 ∷ 114 ∷ 32 ∷ 49 ∷ 47 ∷ 49 ∷ 10 ∷ [])
    ++ (103 ∷ 97 ∷ 112 ∷ 32 ∷ 50 ∷ 47 ∷ 49 ∷ 10 ∷ [])
    ++ (114 ∷ 111 ∷ 117 ∷ 110 ∷ 100 ∷ 115 ∷ 32 ∷ 50 ∷ 10 ∷ [])
unfolding pairing printing
bytes_F = refl

-- ---- the rounds of E

-- the blocks and S after k rounds
abbrev state_after : ℕ → Outcome Problem → State
state_after k (refused number place) = record { labels = []; support = [] }
state_after k (given p) = after p.rule (bases_of p) (start (bases_of p) (start_set p)) k

-- the block numbers of the bases 0 and 1, and S
abbrev two_bases : List ℕ → List ℕ → List ℕ → State
two_bases zero one S = record { labels = zero ∷ one ∷ [] ∷ [] ∷ [] ∷ [] ∷ [] ∷ [] ∷ [] ∷ []; support = S }

-- "Nothing joins in round 1, but S gains 3; 3 rounds, and 1 with x³ is one block": the start; after round 1
-- every block is single as before, and S is the start with 3 added; then the other two rounds
pub rounds_E :
    map (λ k. state_after k (read_problem problem_e)) (0 ∷ 1 ∷ 2 ∷ 3 ∷ [])
    ≡ two_bases (0 ∷ 1 ∷ []) (0 ∷ []) (0 ∷ 1 ∷ 6 ∷ [])
    ∷ two_bases (0 ∷ 1 ∷ []) (0 ∷ []) (0 ∷ 1 ∷ 3 ∷ 6 ∷ [])
    ∷ two_bases (0 ∷ 0 ∷ []) (0 ∷ []) (0 ∷ 1 ∷ 3 ∷ 6 ∷ [])
    ∷ two_bases (0 ∷ 0 ∷ []) (0 ∷ []) (0 ∷ 1 ∷ 3 ∷ 6 ∷ [])
    ∷ []
unfolding joining
rounds_E = refl

-- ---- pairs
-- F: bounds −1 and 1, gap 2, 2 rounds; two lower ones: 10 in the second stream; the certificates turned: 10 in the
-- first
pub pairs :
    pair_verdict false problem_f low_f high_f
    ∷ pair_verdict false problem_f low_f low_f
    ∷ pair_verdict false problem_f high_f low_f
    ∷ pair_verdict false problem_f low_f []
    ∷ pair_verdict true problem_f low_f high_f
    ∷ []
    ≡ pair_accepted (over (negsuc 0) 1) (over (pos 1) 1) (over (pos 2) 1) 2 1
    ∷ pair_refused 10 2 0 0
    ∷ pair_refused 10 1 0 0
    ∷ pair_refused 2 2 0 0
    ∷ pair_refused 1 0 0 0
    ∷ []
unfolding pairing
pairs = refl

-- ---- equalities
-- 1 is a lower and an upper bound of x where x − 1 is 0, and the row of the second has weight −1; 11 on the equality;
-- 14 with w = 0, on basis 0, on a number that was not begun, on an inequality; 07 as the first byte; the ninth
-- condition, of either kind
pub equalities :
    check_verdict false problem_equal low_equal
    ∷ check_verdict false problem_equal high_equal
    ∷ check_verdict false problem_equal (with_row (row 1 1))
    ∷ check_verdict false problem_equal (with_row (equality_row 1 0))
    ∷ check_verdict false problem_equal (with_row (equality_row 0 1))
    ∷ check_verdict false problem_equal (with_row (equality_row 2 1))
    ∷ check_verdict false problem_f (with_row (equality_row 1 1))
    ∷ check_verdict false equality []
    ∷ check_verdict false (nine_conditions inequality) []
    ∷ check_verdict false (nine_conditions equality) []
    ∷ []
    ≡ check_accepted 0 (over (pos 1) 1) 1 1
    ∷ check_accepted 1 (over (pos 1) 1) 1 1
    ∷ check_refused 4 1 10 0
    ∷ check_refused 4 1 10 0
    ∷ check_refused 4 1 10 0
    ∷ check_refused 4 1 10 0
    ∷ check_refused 4 1 10 0
    ∷ check_refused 3 0 0 0
    ∷ check_refused 6 0 10 0
    ∷ check_refused 6 0 10 0
    ∷ []
unfolding checking
equalities = refl

-- ---- gaps that are no distance
-- contradictory limits give the bounds 1 and −1: marked as empty, with 0 in both fields; the bounds 1 and 1: a gap of 0
-- is a gap
pub gaps :
    pair_verdict false problem_crossed low_crossed high_crossed
    ∷ pair_verdict false problem_equal low_equal high_equal
    ∷ []
    ≡ record {
      refusal = record { number = 0; stream = 0; place = 0; key = 0 };
      lower = over (pos 1) 1;
      upper = over (negsuc 0) 1;
      gap = record { num = pos 0; den = 0 };
      empty = true;
      rounds = 1;
      rule = 1;
    }
    ∷ pair_accepted (over (pos 1) 1) (over (pos 1) 1) (over (pos 0) 1) 1 1
    ∷ []
unfolding pairing
gaps = refl

-- ---- wide factors
-- 2^15, which 16 bits do not hold; A with either factor wide, and with both; refusal 8 at the second entry, two bytes
-- further on; a 15 before any row; a factor 0; an index that the basis does not have; an index that does not rise, a 15
-- after a 12 and a 12 after a 15; a 15 that is cut
pub wide_factors :
    check_verdict false problem_wide certificate_wide
    ∷ check_verdict false problem_a (with_entries (wide_entry 0 (minus 255) ++ entry 1 1))
    ∷ check_verdict false problem_a (with_entries (entry_minus 0 255 ++ wide_entry 1 (small 1)))
    ∷ check_verdict false problem_a (with_entries (wide_entry 0 (minus 255) ++ wide_entry 1 (small 1)))
    ∷ check_verdict false problem_d certificate_wide_d
    ∷ check_verdict false problem_a (with_row (wide_entry 0 (small 1)))
    ∷ check_verdict false problem_a (with_entries (wide_entry 0 (small 0)))
    ∷ check_verdict false problem_a (with_entries (wide_entry 2 (small 1)))
    ∷ check_verdict false problem_a (with_entries (entry 1 1 ++ wide_entry 1 (small 1)))
    ∷ check_verdict false problem_a (with_entries (wide_entry 1 (small 1) ++ entry 1 1))
    ∷ check_verdict false problem_a (with_entries (wide_entry 0 (1 ∷ 0 ∷ [])))
    ∷ []
    ≡ check_accepted 0 (over (pos 0) 1) 2 1
    ∷ check_accepted 0 (over (pos 2) 1) 2 1
    ∷ check_accepted 0 (over (pos 2) 1) 2 1
    ∷ check_accepted 0 (over (pos 2) 1) 2 1
    ∷ check_refused 8 1 20 0
    ∷ check_refused 3 1 10 0
    ∷ check_refused 4 1 14 0
    ∷ check_refused 4 1 14 0
    ∷ check_refused 5 1 18 0
    ∷ check_refused 5 1 20 0
    ∷ check_refused 2 1 14 0
    ∷ []
unfolding checking
wide_factors = refl

-- ---- joining rules
-- the blocks call: its verdict, the first three bytes of basis 0 and the first of basis 1
record Blocks : Type 0 where
  verdict : BlocksVerdict
  zero : List ℕ
  one : List ℕ

abbrev blocks_on : List ℕ → Blocks
blocks_on s =
    let bytes = bytes_left false s lent in
    record { verdict = blocks_verdict false s; zero = take 3 bytes; one = take 1 (drop 64 bytes) }

abbrev found : ℕ → ℕ → ℕ → List ℕ → List ℕ → Blocks
found blocks rounds rule zero one = record { verdict = blocks_found blocks rounds rule; zero = zero; one = one }

-- the bytes as they were lent
abbrev refusing : ℕ → ℕ → Blocks
refusing number place = record { verdict = blocks_refused number place; zero = 7 ∷ 7 ∷ 7 ∷ []; one = 7 ∷ [] }

-- E with rule 1 named, as without it; with rule 2: "only the products of basis 0" are added, so 3 does not enter S,
-- and 1 with x³ is not one block; rules 0 and 3; 08 as the first command, after another and a second time; 08 cut; a
-- problem of nothing but its rule
pub rules :
    map blocks_on
    (problem_e_with (rule 1)
    ∷ problem_e_with (rule 2)
    ∷ problem_e_with (rule 0)
    ∷ problem_e_with (rule 3)
    ∷ (rule 2 ++ problem_e)
    ∷ (variables 1 ++ objective_term (exponents 6 0) 1 ++ rule 2 ++ end)
    ∷ problem_e_with (rule 2 ++ rule 2)
    ∷ (variables 1 ++ (8 ∷ []))
    ∷ (variables 1 ++ rule 2 ++ end)
    ∷ [])
    ≡ found 2 3 1 (0 ∷ 0 ∷ 255 ∷ []) (0 ∷ [])
    ∷ found 3 1 2 (0 ∷ 1 ∷ 255 ∷ []) (0 ∷ [])
    ∷ refusing 4 2
    ∷ refusing 4 2
    ∷ refusing 3 0
    ∷ refusing 3 15
    ∷ refusing 3 4
    ∷ refusing 2 2
    ∷ found 0 1 2 (255 ∷ 255 ∷ 255 ∷ []) (255 ∷ [])
    ∷ []
unfolding blocking
rules = refl

-- under rule 2 the first round of E changes nothing
pub rounds_E_two :
    map (λ k. state_after k (read_problem (problem_e_with (rule 2)))) (0 ∷ 1 ∷ [])
    ≡ two_bases (0 ∷ 1 ∷ []) (0 ∷ []) (0 ∷ 1 ∷ 6 ∷ [])
    ∷ two_bases (0 ∷ 1 ∷ []) (0 ∷ []) (0 ∷ 1 ∷ 6 ∷ [])
    ∷ []
unfolding joining
rounds_E_two = refl

-- the bound 0 of E is accepted under either rule, in 1 round and in 3; x³ is not in S under rule 2, and yet counted and
-- compared, as x × x × x of basis 1; and a row on 1 and x³ is in two blocks under rule 2, and in one under rule 1
pub checks_E :
    check_verdict false (problem_e_with (rule 2)) certificate_e
    ∷ check_verdict false (problem_e_with (rule 1)) certificate_e
    ∷ check_verdict false problem_e certificate_e
    ∷ check_verdict false (problem_e_with (rule 2)) certificate_beside
    ∷ check_verdict false (problem_e_with (rule 1)) certificate_beside
    ∷ check_verdict false (problem_e_with (rule 2)) certificate_across
    ∷ check_verdict false (problem_e_with (rule 1)) certificate_across
    ∷ []
    ≡ check_accepted 0 (over (pos 0) 1) 1 2
    ∷ check_accepted 0 (over (pos 0) 1) 3 1
    ∷ check_accepted 0 (over (pos 0) 1) 3 1
    ∷ check_refused 9 1 0 3
    ∷ check_refused 9 1 0 3
    ∷ check_refused 8 1 18 0
    ∷ check_refused 9 1 0 0
    ∷ []
unfolding checking
checks_E = refl

-- ---- sparse orders
-- E at the orders 1 to 4: after one round 1 and x³ are two blocks still; at 2, one below the number of all rounds,
-- the blocks are those of the closure already, and 2 rounds are reported; at 4 the rounds end sooner. Directly after
-- an 08 of either rule. k = 0, after 01 and after 08; 09 as the first command, after an 02, after two conditions, a
-- second time after 01 and after 08; 08 after 09; 09 cut, after 01 and after 08; a problem of nothing but its order
pub orders :
    map blocks_on
    (problem_e_with (order 1)
    ∷ problem_e_with (order 2)
    ∷ problem_e_with (order 3)
    ∷ problem_e_with (order 4)
    ∷ problem_e_with (rule 1 ++ order 1)
    ∷ problem_e_with (rule 2 ++ order 1)
    ∷ problem_e_with (rule 2 ++ order 255)
    ∷ problem_e_with (order 0)
    ∷ problem_e_with (rule 2 ++ order 0)
    ∷ (order 1 ++ problem_e)
    ∷ (variables 1 ++ objective_term (exponents 6 0) 1 ++ order 1 ++ end)
    ∷ (variables 1 ++ inequality ++ equality ++ order 1 ++ end)
    ∷ problem_e_with (order 1 ++ order 1)
    ∷ problem_e_with (rule 2 ++ order 1 ++ order 1)
    ∷ problem_e_with (order 1 ++ rule 2)
    ∷ (variables 1 ++ (9 ∷ []))
    ∷ (variables 1 ++ rule 1 ++ (9 ∷ []))
    ∷ (variables 1 ++ order 1 ++ end)
    ∷ [])
    ≡ found 3 1 1 (0 ∷ 1 ∷ 255 ∷ []) (0 ∷ [])
    ∷ found 2 2 1 (0 ∷ 0 ∷ 255 ∷ []) (0 ∷ [])
    ∷ found 2 3 1 (0 ∷ 0 ∷ 255 ∷ []) (0 ∷ [])
    ∷ found 2 3 1 (0 ∷ 0 ∷ 255 ∷ []) (0 ∷ [])
    ∷ found 3 1 1 (0 ∷ 1 ∷ 255 ∷ []) (0 ∷ [])
    ∷ found 3 1 2 (0 ∷ 1 ∷ 255 ∷ []) (0 ∷ [])
    ∷ found 3 1 2 (0 ∷ 1 ∷ 255 ∷ []) (0 ∷ [])
    ∷ refusing 4 2
    ∷ refusing 4 4
    ∷ refusing 3 0
    ∷ refusing 3 15
    ∷ refusing 3 4
    ∷ refusing 3 4
    ∷ refusing 3 6
    ∷ refusing 3 4
    ∷ refusing 2 2
    ∷ refusing 2 4
    ∷ found 0 1 1 (255 ∷ 255 ∷ 255 ∷ []) (255 ∷ [])
    ∷ []
unfolding blocking
orders = refl

-- a row on 1 and x³ is in two blocks at the order 1, and in one at every larger k and at full closure; the rounds are
-- those done. Under rule 2 the two are never joined
pub checks_order :
    check_verdict false (problem_zero (order 1)) certificate_zero
    ∷ check_verdict false (problem_zero (order 2)) certificate_zero
    ∷ check_verdict false (problem_zero (order 3)) certificate_zero
    ∷ check_verdict false (problem_zero (rule 1 ++ order 255)) certificate_zero
    ∷ check_verdict false (problem_zero []) certificate_zero
    ∷ check_verdict false (problem_zero (rule 2 ++ order 255)) certificate_zero
    ∷ []
    ≡ check_refused 8 1 18 0
    ∷ check_accepted 0 (over (negsuc 0) 1) 2 1
    ∷ check_accepted 0 (over (negsuc 0) 1) 3 1
    ∷ check_accepted 0 (over (negsuc 0) 1) 3 1
    ∷ check_accepted 0 (over (negsuc 0) 1) 3 1
    ∷ check_refused 8 1 18 0
    ∷ []
unfolding checking
checks_order = refl
