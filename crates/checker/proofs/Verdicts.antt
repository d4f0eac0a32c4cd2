-- Laws of the verdicts: what became of the problem and its certificates is what the calls tell.
use mathlib.Core.Path.{◌≡◌, refl, ◌∙◌}
use mathlib.Core.Bool.{Bool, false}
use mathlib.Core.List.{List, ◌++◌}
use Prim.Native.Nat.{ℕ}
use lib.ListN.{length, take, drop}
use lib.Seq.{take-length}
use Rattle.format.specs.ProblemRules.{Problem}
use Rattle.joining_rule.specs.Bytes.{block_bytes}
use Rattle.joining_rule.specs.Joining.{closing, block_total}
use Rattle.joining_rule.proofs.Bytes.{bytes_long}
use Rattle.accepting.specs.Judgement.{Judgement, judge}
use Rattle.accepting.specs.Judgement as J
use Rattle.calls.specs.Outcome.{Outcome, refused, given, ◌then◌, of_judgement, told}
use Rattle.calls.specs.Checks.{problem_of}
use Rattle.calls.specs.Refusals.{no_refusal}
use Rattle.calls.specs.Blocks.{refused_blocks, blocks_verdict, bytes_left}
use Rattle.calls.specs.declared.Refusal.{Refusal}
use Rattle.calls.specs.Check.{refused_check, check_for, check_verdict}
use Rattle.calls.specs.Pair.{refused_pair, pair_sides, pair_for, pair_verdict}
use Rattle.calls.specs.declared.PairVerdict.{PairVerdict}
use Rattle.calls.proofs.Endings.{check_by}
use Rattle.certificate_judge.specs.Steps.{judged_of}
use Rattle.problem_judge.specs.Chain.{ends_with, both_judged, two_of, two_in, two_judged}
use Rattle.checker.specs.Verdicts.{check_from, pair_from}

-- ---- the check: of each certificate by itself
check_one : (p : Problem) (j : Judgement) → check_from (judged_of 1 j) (closing p).rounds p.rule ≡ check_by p j
check_one p (J.refused n place key) = refl
check_one p (J.accepted c) = refl

module _ (short : Bool) (s first second : List ℕ) where
  pub first_checked : let two = two_judged 1 short s first second in check_from two.first two.rounds two.rule ≡ check_verdict short s first
  unfolding check_verdict two_of
  first_checked = go (problem_of short s)
    where
      go : (o : Outcome Problem) → let two = two_in 1 o first second in check_from two.first two.rounds two.rule ≡ told refused_check (o then λ p. check_for p first)
      go (refused r) = refl
      go (given p) = check_one p (judge p first)

  pub second_checked : let two = two_judged 1 short s first second in check_from two.second two.rounds two.rule ≡ check_verdict short s second
  unfolding check_verdict two_of
  second_checked = go (problem_of short s)
    where
      by_first : (p : Problem) (i : Judgement) → let two = both_judged (closing p).rounds p.rule (ends_with 1 (judged_of 1 i)) (judged_of 1 i) (judged_of 1 (judge p second)) in
          check_from two.second two.rounds two.rule ≡ check_by p (judge p second)
      by_first p (J.refused n place key) = check_one p (judge p second)
      by_first p (J.accepted c) = check_one p (judge p second)

      go : (o : Outcome Problem) → let two = two_in 1 o first second in check_from two.second two.rounds two.rule ≡ told refused_check (o then λ p. check_for p second)
      go (refused r) = refl
      go (given p) = by_first p (judge p first)

-- ---- the pair
pub pair_judged : (short : Bool) (s low high : List ℕ) → pair_from (two_judged 2 short s low high) ≡ pair_verdict short s low high
unfolding pair_verdict two_of
pair_judged short s low high = go (problem_of short s)
  where
    pair_by : Problem → Judgement → Judgement → Outcome PairVerdict
    pair_by p i j =
        of_judgement 1 i then λ c. of_judgement 2 j then λ d. pair_sides c.header d.header (closing p).rounds p.rule

    by_both : (p : Problem) (i j : Judgement)
        → pair_from (both_judged (closing p).rounds p.rule (ends_with 2 (judged_of 1 i)) (judged_of 1 i) (judged_of 2 j)) ≡ told refused_pair (pair_by p i j)
    by_both p (J.refused n place key) j = refl
    by_both p (J.accepted c) (J.refused n place key) = refl
    by_both p (J.accepted c) (J.accepted d) = refl

    go : (o : Outcome Problem) → pair_from (two_in 2 o low high) ≡ told refused_pair (o then λ p. pair_for p low high)
    go (refused r) = refl
    go (given p) = by_both p (judge p low) (judge p high)

-- ---- the blocks
module _ (s : List ℕ) {r : Refusal} (e : problem_of false s ≡ refused r) where
  pub blocks_refused_lem : refused_blocks r ≡ blocks_verdict false s
  unfolding blocks_verdict
  blocks_refused_lem = rw e

  pub bytes_refused : (out : List ℕ) → out ≡ bytes_left false s out
  unfolding bytes_left
  bytes_refused out = rw e

module _ (s : List ℕ) {p : Problem} (e : problem_of false s ≡ given p) where
  pub blocks_found_lem : (f : Refusal) (blocks rounds rule : ℕ) → f ≡ no_refusal → blocks ≡ block_total p → rounds ≡ (closing p).rounds → rule ≡ p.rule
      → record { refusal = f; blocks = blocks; rounds = rounds; rule = rule } ≡ blocks_verdict false s
  unfolding blocks_verdict
  blocks_found_lem f blocks rounds rule g h i j = rw (e, g, h, i, j) refl

  -- the block numbers, copied to the front
  pub bytes_found : (out out' l : List ℕ) → l ≡ block_bytes (closing p).state.labels → out' ≡ take (length l) l ++ drop (length l) out
      → out' ≡ bytes_left false s out
  unfolding bytes_left
  bytes_found out out' l f h = rw e (h ∙ rw (take-length l, f, bytes_long (closing p).state.labels) refl)
