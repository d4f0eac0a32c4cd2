-- A round is monotone: of blocks and a set that lie inside others it makes such as lie inside those that the others become,
-- where no fewer bases add. So neither more rounds nor more bases that add ever take blocks apart, or take anything from S.
use mathlib.Core.Path.{◌≡◌, refl, sym, ◌∙◌}
use mathlib.Core.Logic.{⊎_elim}
use mathlib.Core.List.{List, []}
use Prim.Native.Nat.{ℕ, zero, suc, ◌≤◌, ◌<◌}
use native.Mathlib.Nat.{eq-or-lt_of_le, le_of_suc-le-suc}
use native.Mathlib.Omega.{arith}
use lib.ListN.{length, get_or}
use Rattle.joining_rule.specs.Sets.{In}
use Rattle.joining_rule.specs.Rounds.{Bases, State, start, join_all, adding_bases, round, after, closing_of}
use Rattle.joining_rule.specs.Meaning.{Contained}
use Rattle.joining_rule.proofs.Members.{linked_by}
use Rattle.joining_rule.proofs.Joined.{join_equal}
use Rattle.joining_rule.proofs.Full.{full_any}
use Rattle.joining_rule.proofs.Least.{Equivalence, JoinedIn, AddedIn, Inside, Within, join_inside}
use Rattle.joining_rule.proofs.Products.{products_within}
use Rattle.joining_rule.proofs.Rounds.{Shaped, adding_most, round_labels, round_joined, round_extends, round_full, after_shaped}
use Rattle.joining_rule.proofs.Closing.{closing_after}

-- the block number of index i of basis j
abbrev pub label_in : State → ℕ → ℕ → ℕ
label_in s j i = get_or (get_or s.labels j []) i 0

module _ (g : Bases) where
  -- a state within the blocks R and the set Q: what it has in one block is in one block of R, and its S is in Q
  pub record AllWithin (R : ℕ → ℕ → ℕ → Type 0) (Q : ℕ → Type 0) (s : State) : Type 0 where
    pub blocks : (j : ℕ) → j < 9 → Inside (R j) (length (g.basis j)) (get_or s.labels j [])
    pub set : Within Q s.support

  -- a round stays within blocks that have what Q links, and leads to a set Q' that has what these blocks add
  module _ (rule : ℕ) (R : ℕ → ℕ → ℕ → Type 0) (Q Q' : ℕ → Type 0) (eq : (j : ℕ) → Equivalence (R j)) (joins : (j : ℕ) → j < 9 → JoinedIn Q (R j) (g.multiplier j) (g.basis j))
      (adds : (j : ℕ) → j < adding_bases rule → AddedIn Q' (R j) (g.multiplier j) (g.basis j)) (more : (x : ℕ) → Q x → Q' x) where
    round_inside : (s : State) → AllWithin R Q s → (j : ℕ) → j < 9 → Inside (R j) (length (g.basis j)) (get_or (round rule g s).labels j [])
    round_inside s w j h = rw (round_labels rule g s j h) (join_inside Q (R j) (eq j) (g.multiplier j) (g.basis j) (joins j h) s.support w.set (get_or s.labels j []) (w.blocks j h))

    round_set : (s : State) → AllWithin R Q s → Within Q' (round rule g s).support
    unfolding round
    round_set s w =
        products_within (adding_bases rule) g (join_all g s.support s.labels) R Q' adds
        (λ j h. round_inside s w j (omega (arith, adding_most rule))) s.support (record { at = λ x m. more x (w.set.at x m) })

    pub round_within : (s : State) → AllWithin R Q s → AllWithin R Q' (round rule g s)
    round_within s w = record { blocks = round_inside s w; set = round_set s w }

  -- ---- one state inside another: what it has in one block the other has in one, and its S is in the other's
  abbrev pub Below : State → State → Type 0
  Below s s' = Contained g (label_in s) s.support (λ j i k. label_in s' j i ≡ label_in s' j k) (λ x. In x s'.support)

  below_refl : (s : State) → Below s s
  below_refl s = record { blocks = λ j i k h a b e. e; set = λ x m. m }

  below_trans : (s t u : State) → Below s t → Below t u → Below s u
  below_trans s t u p q = record { blocks = λ j i k h a b e. q.blocks j i k h a b (p.blocks j i k h a b e); set = λ x m. q.set x (p.set x m) }

  -- a round takes nothing away
  round_keeps : (rule : ℕ) (s : State) → Shaped g s.labels → Below s (round rule g s)
  round_keeps rule s f = record {
    blocks = λ j i k h a b e. rw (round_labels rule g s j h) (join_equal s.support (g.multiplier j) (g.basis j) (get_or s.labels j []) (f.long j h) i k a b e);
    set = (round_extends rule g s).keeps;
  }

  -- and is monotone
  module _ (r r' : ℕ) (fewer : adding_bases r ≤ adding_bases r') where
    round_below : (s s' : State) → Shaped g s.labels → Shaped g s'.labels → Below s s' → Below (round r g s) (round r' g s')
    round_below s s' f f' p = record { blocks = λ j i k h a b e. (w.blocks j h).at i k a b e; set = w.set.at }
      where
        t : State
        t = round r' g s'

        w : AllWithin (λ j i k. label_in t j i ≡ label_in t j k) (λ x. In x t.support) (round r g s)
        w =
            round_within r (λ j i k. label_in t j i ≡ label_in t j k) (λ x. In x s'.support) (λ x. In x t.support)
            (λ j. record { reflexive = λ i. refl; symmetric = λ i k e. sym e; transitive = λ i k l e q. e ∙ q })
            (λ j h. record { joins = λ i k x a b m q. (round_joined r' g s' f' j h).at i k a b (linked_by s'.support (g.multiplier j) _ x m q) })
            (λ j h. record { adds = λ i k x a b e m. full_any _ _ _ _ ((round_full r' g s').at j (omega arith)) i k x a b e m })
            (round_extends r' g s').keeps
            s
            (record {
              blocks = λ j h. record { long = f.long j h; at = λ i k a b e. (round_keeps r' s' f').blocks j i k h a b (p.blocks j i k h a b e) };
              set = record { at = p.set };
            })

    module _ (S₀ : List ℕ) where
      after_below : (m : ℕ) → Below (after r g (start g S₀) m) (after r' g (start g S₀) m)
      unfolding after
      after_below zero = below_refl (start g S₀)
      after_below (suc m) = round_below _ _ (after_shaped r g S₀ m) (after_shaped r' g S₀ m) (after_below m)

      -- more rounds
      after_more : (m m' : ℕ) → m ≤ m' → Below (after r g (start g S₀) m) (after r' g (start g S₀) m')
      unfolding after
      after_more m zero h = let z : m ≡ 0 = omega arith in rw z (below_refl (start g S₀))
      after_more m (suc m') h =
          ⊎_elim
          (λ z. rw z (after_below (suc m')))
          (λ l.
          let t = after r' g (start g S₀) m' in
          below_trans (after r g (start g S₀) m) t (round r' g t) (after_more m m' (le_of_suc-le-suc l)) (round_keeps r' t (after_shaped r' g S₀ m')))
          (eq-or-lt_of_le {n = m} {m = suc m'} h)

      -- so what is left after no more rounds, in which no more bases add, lies inside
      pub closing_below : (m m' : ℕ) → m ≤ m' → Below (closing_of r m g S₀).state (closing_of r' m' g S₀).state
      closing_below m m' h = rw (closing_after r m g S₀, closing_after r' m' g S₀) (after_more m m' h)
