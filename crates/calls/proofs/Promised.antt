-- What the definitions of the blocks call promise, in the buyer's terms: each clause of the contract, from the equations.
use mathlib.Core.Path.{◌≡◌, refl, sym, ap, subst, ◌∙◌}
use mathlib.Core.Bool.{Bool, true, false, cond}
use mathlib.Core.Logic.{inl, inr}
use mathlib.Core.List.{List, [], ◌++◌}
use Prim.Native.Nat.{ℕ, suc, ◌+◌, ◌-◌, ◌*◌, ◌≤◌, ◌<◌}
use native.Mathlib.Omega.{arith}
use lib.ListN.{length, get_or, drop, get_or-append}
use Rattle.counting.specs.Counting.{listed, sum_to}
use Rattle.counting.proofs.Listed.{listed_same, listed_all}
use Rattle.counting.proofs.Sums.{sum_to_same}
use Rattle.format.specs.Commands as Stream
use Rattle.format.specs.ProblemRules.{Problem, read_problem}
use Rattle.format.specs.ProblemOrder.{order_named}
use Rattle.format.specs.ProblemBases.{basis_of}
use Rattle.format.proofs.WithinLimits.{Limits}
use Rattle.format.specs.ProblemCounts.{member_commands, bases_named}
use Rattle.format.proofs.ProblemLimits.{read_limits, basis_few}
use Rattle.format.proofs.ProblemCounts.{count_members, count_named}
use Rattle.format.proofs.ProblemRule.{read_rule, read_order}
use Rattle.joining_rule.proofs.Rising.{Rising}
use Rattle.joining_rule.specs.Sets.{different}
use Rattle.joining_rule.specs.Rounds.{Bases, State, start, after, most_rounds, blocks_in}
use Rattle.joining_rule.proofs.Rounds.{monomials, nonempty}
use Rattle.joining_rule.specs.Bytes.{block_byte_count, block_bytes, block_at}
use Rattle.joining_rule.specs.Meaning.{Pair, Closed, Least, Lowest, FullClosure, RoundsDone}
use Rattle.joining_rule.proofs.Bytes.{bytes_long, byte_at}
use Rattle.joining_rule.proofs.Closing.{closing_shaped, closing_state}
use Rattle.joining_rule.proofs.Bound.{few_rounds, order_done}
use Rattle.joining_rule.proofs.Meaning.{label_of, full_closed, closing_least, least_tests, closing_lowest}
use Rattle.joining_rule.specs.Joining.{bases_of, start_set, closing, reached_support, too_large, block_total}
use Rattle.joining_rule.proofs.Start.{start_rising}
use Rattle.joining_rule.proofs.Rules.{large_other}
use Rattle.calls.specs.declared.Refusal.{Refusal}
use Rattle.calls.specs.declared.BlocksVerdict.{BlocksVerdict}
use Rattle.calls.specs.Refusals.{no_refusal, problem_refusal}
use Rattle.calls.specs.Outcome.{given, ◌then◌, told}
use Rattle.calls.specs.Blocks.{refused_blocks, found_blocks, blocks_verdict, written_bytes, bytes_left}
use Rattle.calls.specs.Promises.{NumberedTo, BlocksClosed, BlocksLeast, BlocksLowest, BlocksAfter, BlocksCounted, RoundsTaken, FewRounds, SevenExactly, RuleUsed, Reads, Within}
use Rattle.calls.specs.Zeros.{BlocksZeros}
use Rattle.calls.specs.Rules.{UnderOne, AtLarger, UnlessSeven, BlocksInside, BlocksKept, BlocksUnderOne, BlocksAtLarger}
use Rattle.calls.proofs.Refusing.{ProblemRefused, Seven, seven_of, reads_at, problem_by, problem_within, problem_large, seven_exactly}
use Rattle.calls.proofs.Zeros.{refused_zeros, blocks_refused_lem, blocks_accepted}
use Rattle.calls.proofs.Rules.{AllLead, under_leads, larger_leads, BothWithin, Under, large, both, under, bytes_inside}

-- ---- block numbers that agree at every index of a basis mean the same
pub record Agree (g : Bases) (label label' : ℕ → ℕ → ℕ) : Type 0 where
  pub at : (j i : ℕ) → j < 9 → i < length (g.basis j) → label j i ≡ label' j i

module _ (rule : ℕ) (g : Bases) (S₀ : List ℕ) (label label' : ℕ → ℕ → ℕ) (a : Agree g label label') where
  first_same : (j i k t : ℕ) → Pair g j i k t → label j i ≡ label' j i
  first_same j i k t p = a.at j i p.basis p.first

  second_same : (j i k t : ℕ) → Pair g j i k t → label j k ≡ label' j k
  second_same j i k t p = a.at j k p.basis p.second

  pub closed_same : (S : List ℕ) → Closed rule g S₀ label S → Closed rule g S₀ label' S
  closed_same S c = record {
    starts = c.starts;
    joins = λ j i k t p m. sym (first_same j i k t p) ∙ c.joins j i k t p m ∙ second_same j i k t p;
    adds = λ j i k t n p e. c.adds j i k t n p (first_same j i k t p ∙ e ∙ sym (second_same j i k t p));
  }

  pub least_same : (S : List ℕ) → Least rule g S₀ label S → Least rule g S₀ label' S
  least_same S l = record {
    within = λ R Q o. record {
      blocks = λ j i k h x y e. (l.within R Q o).blocks j i k h x y (a.at j i h x ∙ e ∙ sym (a.at j k h y));
      set = (l.within R Q o).set;
    };
  }

  pub lowest_same : Lowest g label → Lowest g label'
  lowest_same l = record {
    within = λ j i h x. rw (← a.at j i h x) (l.within j i h x);
    own = λ j i h x. rw (← a.at j i h x) (sym (a.at j (label j i) h (l.within j i h x)) ∙ l.own j i h x);
    lowest = λ j i h x. rw (← a.at j i h x) (l.lowest j i h x);
  }

-- ---- a byte is a block number
pub byte_found : (L : List (List ℕ)) (rest : List ℕ) (j i : ℕ) → j < 9 → i < 64 → i < length (get_or L j []) → get_or (get_or L j []) i 0 ≡ block_at (block_bytes L ++ rest) j i
byte_found L rest j i h b x = sym (get_or-append (block_bytes L) rest 0 (64 * j + i) (omega (arith, bytes_long L)) ∙ byte_at L j i h b x)

module _ (s : List ℕ) (p : Problem) (read : read_problem s ≡ Stream.given p) where
  limits : Limits p
  limits = read_limits s p read

  small : (j : ℕ) → length (basis_of p j) ≤ 64
  small = basis_few p limits

  rising : Rising (start_set p)
  unfolding start_set
  rising = start_rising _ (bases_of p)

  -- the order that the stream names
  named : p.order ≡ order_named s
  named = read_order s p read

  pub bytes_agree : (rest : List ℕ) → Agree (bases_of p) (label_of p.rule (most_rounds p.order) (bases_of p) (start_set p)) (block_at (block_bytes (closing p).state.labels ++ rest))
  unfolding closing
  bytes_agree rest = record {
    at = λ j i h b.
        let z = small j in
        let n = (closing_shaped p.rule (most_rounds p.order) (bases_of p) (start_set p)).long j h in
        byte_found _ rest j i h (omega arith) (omega arith);
  }

  pub promise_closed : (rest : List ℕ) → FullClosure p.rule (order_named s) (bases_of p) (start_set p)
      → Closed p.rule (bases_of p) (start_set p) (block_at (block_bytes (closing p).state.labels ++ rest)) (reached_support p)
  unfolding closing
  promise_closed rest f =
      let full = subst (λ (k : ℕ). FullClosure p.rule k (bases_of p) (start_set p)) (sym named) f in
      closed_same _ _ _ _ _ (bytes_agree rest) _ (full_closed p.rule p.order (bases_of p) (start_set p) rising small full)

  -- that every other closed blocks and set contain them holds at every order
  pub promise_least : (rest : List ℕ) → Least p.rule (bases_of p) (start_set p) (block_at (block_bytes (closing p).state.labels ++ rest)) (reached_support p)
  unfolding closing
  promise_least rest = least_same _ _ _ _ _ (bytes_agree rest) _ (least_tests _ _ _ _ _ (closing_least p.rule _ (bases_of p) (start_set p)))

  pub promise_after : (rest : List ℕ) (j i : ℕ) → j < 9 → i < length (basis_of p j)
      → block_at (block_bytes (closing p).state.labels ++ rest) j i
      ≡ get_or (get_or (after p.rule (bases_of p) (start (bases_of p) (start_set p)) (closing p).rounds).labels j []) i 0
  unfolding closing
  promise_after rest j i h b =
      sym ((bytes_agree rest).at j i h b)
      ∙ ap (λ (x : State). get_or (get_or x.labels j []) i 0) (closing_state p.rule (most_rounds p.order) (bases_of p) (start_set p))

  pub promise_lowest : (rest : List ℕ) → Lowest (bases_of p) (block_at (block_bytes (closing p).state.labels ++ rest))
  unfolding closing
  promise_lowest rest = lowest_same p.rule _ (start_set p) _ _ (bytes_agree rest) (closing_lowest p.rule _ (bases_of p) (start_set p))

  -- the bytes of a basis tell its block numbers
  labels_told : (rest : List ℕ) (j : ℕ) → j < 9 → get_or (closing p).state.labels j [] ≡ listed (length (basis_of p j)) (block_at (block_bytes (closing p).state.labels ++ rest) j)
  unfolding closing
  labels_told rest j h =
      let l = (closing_shaped p.rule (most_rounds p.order) (bases_of p) (start_set p)).long j h in
      sym (listed_all (get_or (closing p).state.labels j []) 0) ∙ rw l (listed_same (length (basis_of p j)) _ _ (λ i b. (bytes_agree rest).at j i h b))

  pub promise_counted : (rest : List ℕ) → block_total p ≡ sum_to 9 (λ j. different (listed (length (basis_of p j)) (block_at (block_bytes (closing p).state.labels ++ rest) j)))
  unfolding block_total blocks_in
  promise_counted rest = sum_to_same 9 _ _ (λ j h. ap different (labels_told rest j h))

  pub promise_rounds : RoundsDone p.rule (order_named s) (bases_of p) (start_set p) (closing p).rounds
  unfolding closing
  promise_rounds = rw (← named) (order_done p.rule (bases_of p) (start_set p) rising small p.order)

  pub promise_few : (closing p).rounds + bases_named s ≤ member_commands s + 2
  unfolding closing monomials nonempty basis_of
  promise_few = rw (count_members s p read, count_named s p read) (few_rounds p.rule (bases_of p) (start_set p) rising _)

-- ---- from the verdict and the bytes to the clauses
-- a property of what the call returns and leaves, by how it ends
pub blocks_by : (short : Bool) (s out : List ℕ) (P : BlocksVerdict → List ℕ → Type 0)
    → ((r : Refusal) → ProblemRefused short s r → P (refused_blocks r) out)
    → ((p : Problem) → Within short s p → P (found_blocks p) (written_bytes out p))
    → P (blocks_verdict short s) (bytes_left short s out)
unfolding blocks_verdict bytes_left
blocks_by short s out P =
    problem_by short s
    (λ o. P (told refused_blocks (o then λ p. given (found_blocks p))) (told (λ _. out) (o then λ p. given (written_bytes out p))))

-- "A refusal leaves the 576 bytes untouched"
pub refusal_leaves : (short : Bool) (s out : List ℕ) → 0 < (blocks_verdict short s).refusal.number → bytes_left short s out ≡ out
refusal_leaves short s out =
    blocks_by short s out (λ v bytes. 0 < v.refusal.number → bytes ≡ out) (λ r b h. refl) (λ p w h. absurd (omega arith))

-- where nothing is refused the problem is within its limits
pub blocks_opens : (short : Bool) (s : List ℕ) → (blocks_verdict short s).refusal.number ≡ 0 → Reads s (Within short s)
blocks_opens short s =
    blocks_by short s [] (λ v bytes. v.refusal.number ≡ 0 → Reads s (Within short s)) (λ r b h. absurd (omega (arith, b.least)))
    (λ p w h. record { problem = p; read = w.read; holds = w })

-- what is found where nothing is refused
record Found (out : List ℕ) (v : BlocksVerdict) (bytes : List ℕ) (p : Problem) : Type 0 where
  blocks : v.blocks ≡ block_total p
  rounds : v.rounds ≡ (closing p).rounds
  bytes_are : bytes ≡ written_bytes out p

module _ (short : Bool) (s out : List ℕ) (p : Problem) (read : read_problem s ≡ Stream.given p) where
  found : (blocks_verdict short s).refusal.number ≡ 0 → Found out (blocks_verdict short s) (bytes_left short s out) p
  found h = reads_at s (Found out (blocks_verdict short s) (bytes_left short s out)) (reads h) p read
    where
      reads : (blocks_verdict short s).refusal.number ≡ 0 → Reads s (Found out (blocks_verdict short s) (bytes_left short s out))
      reads =
          blocks_by short s out (λ v bytes. v.refusal.number ≡ 0 → Reads s (Found out v bytes))
          (λ r b h. absurd (omega (arith, b.least)))
          (λ q w h. record { problem = q; read = w.read; holds = record { blocks = refl; rounds = refl; bytes_are = refl } })

-- ---- the same stream under rule 1, or at a larger order
module _ (short : Bool) (s out t : List ℕ) (leads : AllLead s t) where
  large_under : (p : Problem) → short ≡ false → read_problem t ≡ Stream.given p → too_large p ≡ true → (blocks_verdict short t).refusal ≡ problem_refusal 7 0
  unfolding blocks_verdict
  large_under p f e l = rw (problem_large short t p f e l)

  within_under : BothWithin short s t → ((blocks_verdict short t).refusal ≡ no_refusal) × BlocksInside (bytes_left short s out) (bytes_left short t out)
  unfolding blocks_verdict bytes_left
  within_under b =
      let p = b.problem in
      let q = b.other in
      rw (problem_within short s p b.first, problem_within short t q b.second) (refl, bytes_inside p q b.more (drop block_byte_count out))

  under_inside : (blocks_verdict short s).refusal.number ≡ 0 → UnlessSeven (blocks_verdict short t).refusal (BlocksInside (bytes_left short s out) (bytes_left short t out))
  under_inside h = go (under short s t leads (blocks_opens short s h))
    where
      go : Under short s t → UnlessSeven (blocks_verdict short t).refusal (BlocksInside (bytes_left short s out) (bytes_left short t out))
      go (large q f e l) = inl (large_under q f e l)
      go (both b) = inr (within_under b)

  under_seven : (blocks_verdict short s).refusal.number ≡ 7 → (blocks_verdict short t).refusal ≡ problem_refusal 7 0
  under_seven =
      blocks_by short s out (λ v bytes. v.refusal.number ≡ 7 → (blocks_verdict short t).refusal ≡ problem_refusal 7 0)
      (λ r b h.
      let k = (b.seven h).1 in
      let l = leads k.problem k.read in
      large_under l.problem k.holds.long l.read (large_other k.problem l.problem l.more k.holds.large))
      (λ p w h. absurd (omega arith))

module _ (short : Bool) (s out : List ℕ) where
  abbrev number : ℕ
  number = (blocks_verdict short s).refusal.number

  -- R s t, where t joins no less
  kept : (R : List ℕ → List ℕ → Type 0) → ((t : List ℕ) → R s t → AllLead s t) → BlocksKept R short s out number (bytes_left short s out)
  kept R leads = record { inside = λ t u. under_inside short s out t (leads t u); seven = λ t u. under_seven short s out t (leads t u) }

  clause_under : BlocksUnderOne short s out number (bytes_left short s out)
  clause_under = kept UnderOne (under_leads s)

  clause_larger : BlocksAtLarger short s out number (bytes_left short s out)
  clause_larger = kept AtLarger (larger_leads s)

  clause_closed : BlocksClosed s number (bytes_left short s out)
  clause_closed p read h f = rw (found short s out p read h).bytes_are (promise_closed s p read (drop block_byte_count out) f)

  clause_least : BlocksLeast s number (bytes_left short s out)
  clause_least p read h f = rw (found short s out p read h).bytes_are (promise_least s p read (drop block_byte_count out))

  clause_after : BlocksAfter s number (bytes_left short s out) (blocks_verdict short s).rounds
  clause_after p read h = let f = found short s out p read h in rw (f.bytes_are, f.rounds) (promise_after s p read (drop block_byte_count out))

  clause_lowest : BlocksLowest s number (bytes_left short s out)
  clause_lowest p read h = rw (found short s out p read h).bytes_are (promise_lowest s p read (drop block_byte_count out))

  clause_counted : BlocksCounted s number (bytes_left short s out) (blocks_verdict short s).blocks
  clause_counted p read h = let f = found short s out p read h in f.blocks ∙ rw f.bytes_are (promise_counted s p read (drop block_byte_count out))

  clause_rounds : RoundsTaken s number (blocks_verdict short s).rounds
  clause_rounds p read h = rw (found short s out p read h).rounds (promise_rounds s p read)

  clause_few : FewRounds s number (blocks_verdict short s).rounds
  clause_few p read h = rw (found short s out p read h).rounds (promise_few s p read)

  pub clause_seven : SevenExactly short s (blocks_verdict short s).refusal
  unfolding blocks_verdict
  clause_seven =
      seven_exactly short s refused_blocks (λ p. given (found_blocks p)) (λ v. v.refusal) (λ r. refl)
      (blocks_by short s out (λ v bytes. Seven s v.refusal) (λ r b. seven_of short s r b) (λ p w h. absurd (omega arith)))

  clause_numbered : NumberedTo 7 number
  clause_numbered = blocks_by short s out (λ v bytes. v.refusal.number ≤ 7) (λ r b. b.most) (λ p w. omega arith)

  clause_rule : RuleUsed s number (blocks_verdict short s).rule
  clause_rule =
      blocks_by short s out (λ v bytes. RuleUsed s v.refusal.number v.rule)
      (λ r b. record { named = λ h. absurd (omega (arith, b.least)); refused = λ _. refl })
      (λ p w. record { named = λ _. read_rule s p w.read; refused = λ h. absurd (omega arith) })

  clause_zeros : BlocksZeros (blocks_verdict short s)
  clause_zeros =
      blocks_by short s out (λ v bytes. BlocksZeros v) (λ r b. blocks_refused_lem r (refused_zeros r b.least (λ _. b.key)))
      (λ p w. blocks_accepted (block_total p) (closing p).rounds p.rule)

  -- all of them, of a verdict and bytes that are the definitions'
  pub clauses : (v : BlocksVerdict) (bytes : List ℕ) → v ≡ blocks_verdict short s → bytes ≡ bytes_left short s out
      → NumberedTo 7 v.refusal.number × (BlocksClosed s v.refusal.number bytes × (BlocksLeast s v.refusal.number bytes × (BlocksLowest s v.refusal.number bytes × (BlocksCounted s v.refusal.number bytes v.blocks × (RoundsTaken s v.refusal.number v.rounds × (FewRounds s v.refusal.number v.rounds × (SevenExactly short s v.refusal × (RuleUsed s v.refusal.number v.rule × (BlocksUnderOne short s out v.refusal.number bytes × (BlocksAfter s v.refusal.number bytes v.rounds × (BlocksAtLarger short s out v.refusal.number bytes × BlocksZeros v)))))))))))
  clauses v bytes e f = rw (e, f) (clause_numbered, (clause_closed, (clause_least, (clause_lowest, (clause_counted, (clause_rounds, (clause_few, (clause_seven, (clause_rule, (clause_under, (clause_after, (clause_larger, clause_zeros))))))))))))
