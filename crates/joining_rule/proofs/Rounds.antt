-- A round over the nine bases, and the state after k rounds: what a round keeps, and what it brings about, under either
-- rule.
use mathlib.Core.Path.{◌≡◌, refl, sym, ap, ap₂, ◌∙◌}
use mathlib.Core.Logic.{⊎_elim}
use mathlib.Core.Bool.{Bool, true, false, cond}
use mathlib.Core.List.{List, []}
use Prim.Native.Nat.{ℕ, zero, suc, ◌≤◌, ◌<◌, zero-le}
use native.Mathlib.Nat.{eq-or-lt_of_le, le_of_suc-le-suc}
use native.Mathlib.Omega.{arith}
use lib.ListN.{length, get_or}
use lib.Dec.{eqb, ltb}
use borrow.Author.Tests.{ltb-true, ne_eqb}
use Rattle.joining_rule.specs.Sets.{In, different}
use Rattle.joining_rule.proofs.Rising.{Rising}
use Rattle.counting.specs.Counting.{listed, sum_to}
use Rattle.counting.proofs.Listed.{listed_length, listed_at, listed_same, listed_all}
use Rattle.counting.proofs.Sums.{sum_to_le, sum_to_same, sum_to_equal}
use Rattle.joining_rule.specs.Join.{join}
use Rattle.joining_rule.proofs.Extending.{Extends, extends_refl, extends_trans}
use Rattle.joining_rule.proofs.Labels.{join_long}
use Rattle.joining_rule.proofs.Numbered.{Numbered}
use Rattle.joining_rule.proofs.Lowest.{Falls, join_falls, some_block, singles_numbered, singles_count}
use Rattle.joining_rule.proofs.Joined.{Joined, join_joined}
use Rattle.joining_rule.proofs.Products.{AllFull, products_extend, products_full, products_done}
use Rattle.joining_rule.specs.Rounds.{Bases, State, singles, start, join_all, adding_bases, round, after, blocks_in}

-- N, the number of monomials of all bases, and B, the number of bases that have one
unfoldable pub monomials : Bases → ℕ
monomials g = sum_to 9 (λ j. length (g.basis j))

unfoldable pub nonempty : Bases → ℕ
nonempty g = sum_to 9 (λ j. cond (ltb 0 (length (g.basis j))) 1 0)

-- nine lists of block numbers, one for each index of a basis
pub record Shaped (g : Bases) (L : List (List ℕ)) : Type 0 where
  pub nine : length L ≡ 9
  pub long : (j : ℕ) → j < 9 → length (get_or L j []) ≡ length (g.basis j)

-- in which a block's number is its lowest index
pub record AllNumbered (g : Bases) (L : List (List ℕ)) : Type 0 where
  pub shape : Shaped g L
  pub at : (j : ℕ) → j < 9 → Numbered (get_or L j [])

-- which bases add: all nine, unless the rule is 2; then "only .. basis 0"
pub adding_all : (rule : ℕ) → (rule ≡ 2 → ⊥) → adding_bases rule ≡ 9
unfolding adding_bases
adding_all rule d = rw (ne_eqb rule 2 d)

pub two_adds : (j : ℕ) → j < adding_bases 2 → j ≡ 0
unfolding adding_bases
two_adds j h = omega arith

pub adding_most : (rule : ℕ) → adding_bases rule ≤ 9
unfolding adding_bases
adding_most rule = go (eqb rule 2)
  where
    go : (b : Bool) → cond b 1 9 ≤ 9
    go true = omega arith
    go false = omega arith

module _ (rule : ℕ) (g : Bases) where
  -- what a round keeps, the state after k rounds has
  pub after_keeps : (P : State → Type 0) → ((s : State) → P s → P (round rule g s)) → (s : State) → P s → (k : ℕ) → P (after rule g s k)
  unfolding after
  after_keeps P h s p zero = p
  after_keeps P h s p (suc k) = h (after rule g s k) (after_keeps P h s p k)

  -- what holds of a state and itself, and goes on to the state after a round, holds of every state and each later one
  pub after_later : (P : State → State → Type 0) → ((s : State) → P s s) → ((s t : State) → P s t → P s (round rule g t)) → (s : State) (k m : ℕ) → k ≤ m → P (after rule g s k) (after rule g s m)
  unfolding after
  after_later P self on s k zero h = let e : k ≡ 0 = omega arith in rw e (self s)
  after_later P self on s k (suc m) h =
      ⊎_elim (λ e. rw e (self (round rule g (after rule g s m)))) (λ l. on _ _ (after_later P self on s k m (le_of_suc-le-suc l))) (eq-or-lt_of_le h)

  -- ---- the blocks of a round

  -- the blocks of basis j are those of basis j joined: every basis joins on the same S
  pub round_labels : (s : State) (j : ℕ) → j < 9 → get_or (round rule g s).labels j [] ≡ join s.support (g.multiplier j) (g.basis j) (get_or s.labels j [])
  unfolding round join_all
  round_labels s j h = listed_at 9 _ j [] h

  round_nine : (s : State) → length (round rule g s).labels ≡ 9
  unfolding round join_all
  round_nine s = listed_length 9 _

  pub round_shaped : (s : State) → Shaped g s.labels → Shaped g (round rule g s).labels
  round_shaped s f = record {
    nine = round_nine s;
    long = λ j h. rw (round_labels s j h) (join_long s.support (g.multiplier j) (g.basis j) (get_or s.labels j []) ∙ f.long j h);
  }

  round_falls : (s : State) → AllNumbered g s.labels → (j : ℕ) → j < 9 → Falls (get_or s.labels j []) (get_or (round rule g s).labels j [])
  round_falls s n j h = rw (round_labels s j h) (join_falls s.support (g.multiplier j) (g.basis j) (get_or s.labels j []) (n.shape.long j h) (n.at j h))

  pub round_numbered : (s : State) → AllNumbered g s.labels → AllNumbered g (round rule g s).labels
  round_numbered s n = record { shape = round_shaped s n.shape; at = λ j h. (round_falls s n j h).numbered }

  -- a round never has more blocks, and with as many blocks it has the same
  pub round_fewer : (s : State) → AllNumbered g s.labels → blocks_in (round rule g s).labels ≤ blocks_in s.labels
  unfolding blocks_in
  round_fewer s n = sum_to_le 9 _ _ (λ j h. (round_falls s n j h).less)

  all_listed : (L : List (List ℕ)) → length L ≡ 9 → listed 9 (λ j. get_or L j []) ≡ L
  all_listed L e = ap (λ (m : ℕ). listed m (λ j. get_or L j [])) (sym e) ∙ listed_all L []

  pub round_blocks : (s : State) → AllNumbered g s.labels → blocks_in (round rule g s).labels ≡ blocks_in s.labels → (round rule g s).labels ≡ s.labels
  unfolding blocks_in
  round_blocks s n e =
      sym (all_listed (round rule g s).labels (round_nine s))
      ∙ listed_same 9 _ _ (λ j h. (round_falls s n j h).same (sum_to_equal 9 _ _ (λ i b. (round_falls s n i b).less) e j h))
      ∙ all_listed s.labels n.shape.nine

  -- after a round, b and b' are in one block when some exponent t of g_j has t + b + b' in the S before it
  pub round_joined : (s : State) → Shaped g s.labels → (j : ℕ) → j < 9 → Joined s.support (g.multiplier j) (g.basis j) (get_or (round rule g s).labels j [])
  round_joined s f j h = rw (round_labels s j h) (join_joined s.support (g.multiplier j) (g.basis j) (get_or s.labels j []) (f.long j h))

  -- ---- the support of a round

  -- S stays in order and never has fewer members; with as many members it is the same
  pub round_extends : (s : State) → Extends s.support (round rule g s).support
  unfolding round
  round_extends s = products_extend (adding_bases rule) g (join_all g s.support s.labels) s.support

  -- the same from the S after k rounds to the S after more rounds
  pub after_extends : (s : State) (k m : ℕ) → k ≤ m → Extends (after rule g s k).support (after rule g s m).support
  after_extends = after_later (λ s t. Extends s.support t.support) (λ s. extends_refl s.support) (λ s t e. extends_trans s.support t.support (round rule g t).support e (round_extends t))

  -- so every state's S is contained in each later one's
  pub after_in : (x : ℕ) (s : State) (k m : ℕ) → k ≤ m → In x (after rule g s k).support → In x (after rule g s m).support
  after_in x s k m h = (after_extends s k m h).keeps x

  -- after a round, S has every t + b + b' with b, b' in one block of the same j, for the bases that add
  pub round_full : (s : State) → AllFull (adding_bases rule) g (round rule g s)
  unfolding round
  round_full s = products_full (adding_bases rule) g (join_all g s.support s.labels) s.support

  -- where the blocks stay and S has every such sum, S stays
  pub round_still : (s : State) → Rising s.support → AllFull (adding_bases rule) g s → (round rule g s).labels ≡ s.labels → round rule g s ≡ s
  unfolding round
  round_still s r f e =
      ap₂ (λ (L : List (List ℕ)) (S : List ℕ). record { labels = L; support = S }) e
      (rw e (products_done (adding_bases rule) g s.labels s.support r f))

-- ---- the number of blocks

module _ (g : Bases) where
  -- every basis with a monomial has a block
  pub nonempty_few : (L : List (List ℕ)) → AllNumbered g L → nonempty g ≤ blocks_in L
  unfolding nonempty blocks_in
  nonempty_few L n = sum_to_le 9 _ _ (λ j h. go j h (ltb 0 (length (g.basis j))) refl)
    where
      go : (j : ℕ) → j < 9 → (b : Bool) → ltb 0 (length (g.basis j)) ≡ b → cond b 1 0 ≤ different (get_or L j [])
      go j h true e = some_block (get_or L j []) (n.at j h) (rw (n.shape.long j h) (ltb-true 0 (length (g.basis j)) e))
      go j h false e = zero-le

  module _ (S : List ℕ) where
    pub start_labels : (j : ℕ) → j < 9 → get_or (start g S).labels j [] ≡ listed (length (g.basis j)) (λ i. i)
    unfolding start singles
    start_labels j h = listed_at 9 _ j [] h

    start_nine : length (start g S).labels ≡ 9
    unfolding start singles
    start_nine = listed_length 9 _

    pub start_shaped : Shaped g (start g S).labels
    start_shaped = record { nine = start_nine; long = λ j h. rw (start_labels j h) (listed_length (length (g.basis j)) _) }

    pub start_numbered : AllNumbered g (start g S).labels
    start_numbered = record { shape = start_shaped; at = λ j h. rw (start_labels j h) (singles_numbered (length (g.basis j))) }

    -- at the start there are as many blocks as monomials
    pub start_blocks : blocks_in (start g S).labels ≡ monomials g
    unfolding blocks_in monomials
    start_blocks = sum_to_same 9 _ _ (λ j h. rw (start_labels j h) (singles_count (length (g.basis j))))

module _ (rule : ℕ) (g : Bases) (S : List ℕ) where
  pub after_shaped : (k : ℕ) → Shaped g (after rule g (start g S) k).labels
  after_shaped k = after_keeps rule g (λ s. Shaped g s.labels) (round_shaped rule g) (start g S) (start_shaped g S) k

  pub after_numbered : (k : ℕ) → AllNumbered g (after rule g (start g S) k).labels
  after_numbered k = after_keeps rule g (λ s. AllNumbered g s.labels) (round_numbered rule g) (start g S) (start_numbered g S) k
