-- What the joining rule's result means: where a further round would change nothing it is closed, it is contained in all
-- that is closed, and a block's number is its lowest index.
use mathlib.Core.Path.{◌≡◌}
use mathlib.Core.List.{List, []}
use Prim.Native.Nat.{ℕ, ◌≤◌, ◌<◌}
use native.Mathlib.Omega.{arith}
use lib.ListN.{length, get_or}
use Rattle.joining_rule.proofs.Rising.{Rising}
use Rattle.joining_rule.proofs.Members.{linked_by}
use Rattle.joining_rule.proofs.Least.{Equivalence, JoinedIn, AddedIn, Within, singles_inside}
use Rattle.joining_rule.proofs.Products.{AllFull}
use Rattle.joining_rule.proofs.Monotone.{AllWithin, round_within}
use Rattle.joining_rule.proofs.Joined.{Joined}
use Rattle.joining_rule.proofs.Full.{full_any}
use Rattle.joining_rule.specs.Rounds.{Bases, start, adding_bases, round, most_rounds, closing_of}
use Rattle.joining_rule.specs.Meaning.{Closed, Other, Contained, Least, Lowest, FullClosure}
use Rattle.joining_rule.proofs.Rounds.{adding_most, after_keeps, round_joined, round_full, start_labels}
use Rattle.joining_rule.proofs.Closing.{closing_has, closing_shaped, closing_numbered, closing_starts}
use Rattle.joining_rule.proofs.Bound.{full_settled}

-- the block number of index i of basis j, in the closing from S₀ by at most `most` rounds
abbrev pub label_of : ℕ → ℕ → Bases → List ℕ → ℕ → ℕ → ℕ
label_of rule most g S₀ j i = get_or (get_or (closing_of rule most g S₀).state.labels j []) i 0

-- "Least", among any other blocks and set: R and Q are predicates, with no test for them
pub record LeastOfAny (rule : ℕ) (g : Bases) (S₀ : List ℕ) (label : ℕ → ℕ → ℕ) (S : List ℕ) : Type 1 where
  pub within : (R : ℕ → ℕ → ℕ → Type 0) (Q : ℕ → Type 0) → Other rule g S₀ R Q → Contained g label S R Q

-- so among those that tests give
pub least_tests : (rule : ℕ) (g : Bases) (S₀ : List ℕ) (label : ℕ → ℕ → ℕ) (S : List ℕ) → LeastOfAny rule g S₀ label S → Least rule g S₀ label S
least_tests rule g S₀ label S l = record { within = λ R Q o. l.within _ _ o }

module _ (rule most : ℕ) (g : Bases) (S₀ : List ℕ) where
  -- ---- closed

  -- The closing contains the start. Where some exponent t of g_j has t + b + b' in its S, b and b' are in one block; and where
  -- b and b' are in one block, its S has every t + b + b'.
  pub closing_closed : round rule g (closing_of rule most g S₀).state ≡ (closing_of rule most g S₀).state → Closed rule g S₀ (label_of rule most g S₀) (closing_of rule most g S₀).state.support
  closing_closed settled = record {
    starts = closing_starts rule most g S₀;
    joins = λ j i k t p q. (joined j p.basis).at i k p.first p.second (linked_by (closing_of rule most g S₀).state.support (g.multiplier j) _ t p.exponent q);
    adds = λ j i k t n p e. full_any _ _ _ _ (full.at j n) i k t p.first p.second e p.exponent;
  }
    where
      joined : (j : ℕ) → j < 9 → Joined (closing_of rule most g S₀).state.support (g.multiplier j) (g.basis j) (get_or (closing_of rule most g S₀).state.labels j [])
      joined j h = rw settled at (round_joined rule g (closing_of rule most g S₀).state (closing_shaped rule most g S₀) j h)

      full : AllFull (adding_bases rule) g (closing_of rule most g S₀).state
      full = rw settled at (round_full rule g (closing_of rule most g S₀).state)

  -- ---- least

  module _ (R : ℕ → ℕ → ℕ → Type 0) (Q : ℕ → Type 0) (eq : (j : ℕ) → Equivalence (R j)) (joins : (j : ℕ) → j < 9 → JoinedIn Q (R j) (g.multiplier j) (g.basis j))
      (adds : (j : ℕ) → j < adding_bases rule → AddedIn Q (R j) (g.multiplier j) (g.basis j)) where
    start_within : Within Q S₀ → AllWithin g R Q (start g S₀)
    unfolding start
    start_within w = record { blocks = λ j h. rw (start_labels g S₀ j h) (singles_inside (R j) (eq j) (length (g.basis j))); set = w }

    -- The closing is within any blocks R and any set Q that contain the start and are closed under the steps.
    pub closing_within : Within Q S₀ → AllWithin g R Q (closing_of rule most g S₀).state
    closing_within w =
        closing_has rule most g S₀ (AllWithin g R Q) (after_keeps rule g (AllWithin g R Q) (round_within g rule R Q Q eq joins adds (λ x q. q)) (start g S₀) (start_within w))

  -- "any other blocks and set that contain the start and are closed under these steps have unions of these blocks and contain this S"
  pub closing_least : LeastOfAny rule g S₀ (label_of rule most g S₀) (closing_of rule most g S₀).state.support
  closing_least = record {
    within = λ R Q o.
        let w = closing_within R Q
        (λ j. record { reflexive = o.reflexive j; symmetric = o.symmetric j; transitive = o.transitive j })
        (λ j h. record { joins = λ i k t a b m q. o.joins j i k t (record { basis = h; first = a; second = b; exponent = m }) q })
        (λ j h. record { adds = λ i k t a b r m. o.adds j i k t h (record { basis = omega (arith, adding_most rule); first = a; second = b; exponent = m }) r })
        (record { at = o.starts }) in
        record { blocks = λ j i k h a b. (w.blocks j h).at i k a b; set = w.set.at };
  }

  -- ---- the numbers

  -- "A block's number is its lowest index"
  pub closing_lowest : Lowest g (label_of rule most g S₀)
  closing_lowest = record {
    within = λ j i h b. omega (arith, low j i h b);
    own = λ j i h b. ((closing_numbered rule most g S₀).at j h).own i (long j i h b);
    lowest = low;
  }
    where
      long : (j i : ℕ) → j < 9 → i < length (g.basis j) → i < length (get_or (closing_of rule most g S₀).state.labels j [])
      long j i h b = rw ((closing_shaped rule most g S₀).long j h) b

      low : (j i : ℕ) → j < 9 → i < length (g.basis j) → label_of rule most g S₀ j i ≤ i
      low j i h b = ((closing_numbered rule most g S₀).at j h).lowest i (long j i h b)

-- at an order k: closed where the closure is full
pub full_closed : (rule k : ℕ) (g : Bases) (S₀ : List ℕ) → Rising S₀ → ((j : ℕ) → length (g.basis j) ≤ 64) → FullClosure rule k g S₀
    → Closed rule g S₀ (label_of rule (most_rounds k) g S₀) (closing_of rule (most_rounds k) g S₀).state.support
full_closed rule k g S₀ rising sizes f = closing_closed rule (most_rounds k) g S₀ (full_settled rule g S₀ rising sizes k f)
