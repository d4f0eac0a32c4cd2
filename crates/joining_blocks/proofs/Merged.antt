-- Two blocks made one: what a basis that adds and one that does not leave in the support, and that this is a joining.
use mathlib.Core.Path.{◌≡◌, refl, sym, ◌∙◌}
use mathlib.Core.Bool.{true, false}
use mathlib.Core.List.{List}
use Prim.Native.Nat.{ℕ, ◌+◌, ◌-◌, ◌≤◌, ◌<◌}
use native.Mathlib.Omega.{arith}
use lib.ListN.{length, get_or}
use Rattle.joining_rule.specs.Sets.{different}
use Rattle.joining_rule.specs.Join.{merged}
use Rattle.joining_rule.proofs.Only.{rising_shorter}
use Rattle.joining_rule.proofs.Lowest.{some_block}
use Rattle.key_set.specs.Table.{keys_in, Stored}
use Rattle.key_set.proofs.Keys.{keys_rising, stored_none, grown_holds}
use Rattle.round_laws.specs.Joins.{Together, Has, Joins, Two}
use Rattle.round_laws.specs.Added.{Between, add_lists}
use Rattle.round_laws.specs.Lists.{Lists, list_from, TwoBlocks}
use Rattle.round_laws.proofs.Joins.{joins_two}
use Rattle.round_laws.proofs.Ending.{merge_fewer}
use Rattle.round_laws.proofs.Merging.{blocks_crossed}
use Rattle.round_laws.proofs.Between.{has_then, between_none, between_within, merge_between}
use Rattle.round_laws.proofs.Sums.{full_between}
use Rattle.joining_pairs.specs.Pairs.{pair_at, told_at}
use Rattle.joining_products.specs.Adding.{plain, DoneTold, WithIndex, AddedAll}
use Rattle.joining_blocks.specs.Standing.{Standing, standing, support, Ready, Grew}
use Rattle.joining_products.proofs.Growing.{grown_length}
use Rattle.joining_blocks.proofs.Grew.{grew_to}

-- ---- the support, when the blocks of s have become L': it grew to `set`
pub record Grows (T B : List ℕ) (s : Standing) (L' : List ℕ) (n : ℕ) (t idx pairs : List ℕ) : Type 0 where
  pub set : List ℕ
  pub stored : Stored s.reach.len set s.table n t idx
  pub between : Between s.reach.adds T B s.labels L' (support s) set
  pub index : WithIndex T B pairs
  pub done : s.reach.adds ≡ true → plain < length B → DoneTold T B set pairs
  pub met : (p : ℕ) → pair_at B p ≡ true → 2 ≤ get_or pairs (told_at p) 0 → 2 ≤ get_or s.pairs (told_at p) 0

module _ (T B : List ℕ) (s : Standing) (r : Ready T B s) where
  abbrev L : List ℕ
  L = s.labels

  abbrev follow : List ℕ
  follow = s.follow

  size : length L ≡ length B
  size = r.blocks.size

  -- there is a block
  pub some_left : 0 < length B → 1 ≤ s.reach.blocks
  some_left h = omega (arith, r.count, some_block L r.blocks.numbered (omega (arith, size)))

  module _ (a b : ℕ) (t : TwoBlocks a b L follow) where
    apart : a ≡ b → ⊥
    apart e = omega (arith, t.below)

    first_in : a < length L
    first_in = omega (arith, t.below, t.inside)

    -- a basis that adds
    pub merge_adds : s.reach.adds ≡ true → (n : ℕ) (t' idx' pairs' : List ℕ)
        → AddedAll T B (add_lists T B (list_from follow a) (list_from follow b) (support s)) s.reach.len s.table s.pairs n t' idx' pairs'
        → Grows T B s (merged a b L) n t' idx' pairs'
    merge_adds e n t' idx' pairs' g =
        let c = blocks_crossed T B follow L a b (support s) size (t.lists.at a first_in t.own) (t.lists.at b t.inside t.other) in
        record {
          set = add_lists T B (list_from follow a) (list_from follow b) (support s);
          stored = g.stored;
          between = rw e (merge_between T B L a b size (support s) _ c apart);
          index = g.index;
          done = λ _. g.done;
          met = g.met;
        }

    -- one that does not
    pub merge_only : s.reach.adds ≡ false → Grows T B s (merged a b L) s.reach.len s.table s.index s.pairs
    merge_only e = record {
      set = support s;
      stored = stored_none r.basis.support r.basis.index;
      between = rw e (between_none T B L (merged a b L) (support s));
      index = r.index;
      done = r.done;
      met = λ p _ m. m;
    }

    -- ---- with the lists of the blocks made one
    joins : Joins (Two a b) (length B) L (merged a b L)
    joins = rw size at (rw (t.own, t.other) at (joins_two L r.blocks.numbered a b first_in t.inside))

    fewer : different (merged a b L) + 1 ≡ different L
    fewer = merge_fewer L a b r.blocks.numbered first_in t.inside t.own t.other apart

    -- where there is no room, the blocks stay two
    pub merge_full : (t' idx' pairs' : List ℕ) → Grows T B s (merged a b L) 2049 t' idx' pairs' → Grew T B (Two a b) s (standing L follow pairs' t' idx' (record s.reach { len = 2049 }))
    merge_full t' idx' pairs' g = record {
      set = g.set;
      stored = g.stored;
      within = between_within T B s.reach.adds (Two a b) L (merged a b L) (support s) g.set joins g.between;
      same = record { since = refl; until = refl; bits = refl; adds = refl };
      fits = λ c. absurd (omega arith);
    }

    module _ (L' follow' : List ℕ) (n : ℕ) (t' idx' pairs' : List ℕ) (g : Grows T B s (merged a b L) n t' idx' pairs') (same : length L' ≡ length L) (long : length follow' ≡ 64)
        (labels : L' ≡ merged a b L) (lists : Lists follow' L') where
      abbrev after : Standing
      after = standing L' follow' pairs' t' idx' (record { since = s.reach.since; until = s.reach.until; len = n; blocks = s.reach.blocks - 1; bits = s.reach.bits; adds = s.reach.adds })

      more : n ≤ 2048 → s.reach.len ≤ n
      more c =
          omega (
            arith,
            rising_shorter (support s) g.set (keys_rising s.reach.len s.table) (g.between.rising (keys_rising s.reach.len s.table)) g.between.keeps,
            r.basis.support.apart,
            grown_length g.set s.table n t' g.stored.grown c,
          )

      ready : n ≤ 2048 → Ready T B after
      ready c =
          let v : keys_in n t' ≡ g.set = g.stored.grown.keys c in
          record {
            basis = record { support = grown_holds g.stored.grown r.basis.support.room c; index = g.stored.index c; basis = r.basis.basis };
            blocks = record { size = same ∙ size; long = long; few = r.blocks.few; numbered = rw labels joins.numbered; lists = lists };
            count = rw labels (omega (arith, fewer, r.count));
            since = r.since;
            until = omega (arith, r.until, more c);
            full = λ e. rw (labels, v) (full_between T B L (merged a b L) (support s) g.set (r.full e) (rw e at g.between));
            index = g.index;
            done = λ e h. rw v (g.done e h);
            met = λ h. record { at = λ p e m. rw labels (has_then _ (length B) L (merged a b L) ((r.met h).at p e (g.met p e m)) joins.keeps) };
            bits = r.bits;
          }

      pub merge_grew : Grew T B (Two a b) s after
      merge_grew = record {
        set = g.set;
        stored = g.stored;
        within = between_within T B s.reach.adds (Two a b) L (merged a b L) (support s) g.set joins g.between;
        same = record { since = refl; until = refl; bits = refl; adds = refl };
        fits = λ c. record { joins = rw labels joins; ready = ready c };
      }

-- ---- the blocks of two indices, by their numbers
module _ (T B : List ℕ) (s : Standing) (r : Ready T B s) (i k : ℕ) (hi : i < length B) (hk : k < length B) where
  abbrev number_of : ℕ → ℕ
  number_of x = get_or s.labels x 0

  block_low : (x : ℕ) → x < length B → number_of x < length s.labels
  block_low x h = omega (arith, r.blocks.size, r.blocks.numbered.lowest x (omega (arith, r.blocks.size)))

  block_own : (x : ℕ) → x < length B → number_of (number_of x) ≡ number_of x
  block_own x h = r.blocks.numbered.own x (omega (arith, r.blocks.size))

  -- in one block
  pub two_same : number_of i ≡ number_of k → Has (Two i k) (length B) s.labels
  two_same e = record { at = λ x y _ _ w. rw (w.first, w.second) (record { same = e }) }

  low : (x : ℕ) → x < length B → number_of x < length B
  low x h = omega (arith, r.blocks.size, block_low x h)

  -- an index and the number of its block are in one block
  number : (x : ℕ) → (h : x < length B) → (M : List ℕ) → Has (Together s.labels) (length B) M → Together M x (number_of x)
  number x h M l = l.at x _ h (low x h) (record { same = sym (block_own x h) })

  pub two_grew : (s' : Standing) → Grew T B (Two (number_of i) (number_of k)) s s' → Grew T B (Two i k) s s'
  two_grew s' g =
      grew_to T B _ (Two i k) s s' g
      (λ M l p. record { at = λ x y _ _ w. rw (w.first, w.second) (record { same = sym (number i hi M l).same ∙ (p.at i k hi hk (record { first = refl; second = refl })).same ∙ (number k hk M l).same }) })
      (λ c p.
      let l = (g.fits c).joins.keeps in
      record {
        at = λ x y _ _ w.
            rw (w.first, w.second)
            (record {
              same = (number i hi _ l).same ∙ (p.at _ _ (low i hi) (low k hk) (record { first = refl; second = refl })).same ∙ sym (number k hk _ l).same;
            });
      })

-- in the other order
pub two_turned : (T B : List ℕ) (s s' : Standing) (i k : ℕ) → i < length B → k < length B → Grew T B (Two i k) s s' → Grew T B (Two k i) s s'
two_turned T B s s' i k hi hk g =
    grew_to T B _ (Two k i) s s' g
    (λ M l p. record { at = λ x y _ _ w. rw (w.first, w.second) (record { same = sym (p.at k i hk hi (record { first = refl; second = refl })).same }) })
    (λ c p.
    record { at = λ x y _ _ w. rw (w.first, w.second) (record { same = sym (p.at i k hi hk (record { first = refl; second = refl })).same }) })
