-- The loop that joins the pairs with one sum, from the last to the first: its turns.
use Rattle.std.proofs.Common.{◌≡◌, ℕ, ◌+◌, ◌-◌, ◌*◌, ◌/◌, ◌%◌, ◌<◌, ◌≤◌, true, None, List, length, get_or, ◌∙◌, inr, arith}
use Rattle.hash_chain.proofs.Chain.{Search, search_less, search_only, search_step}
use Rattle.round_laws.specs.Joins.{Two, WithSum, SumFrom}
use Rattle.round_laws.proofs.Walk.{sums_has, walk_start, walk_more, walk_hit, walk_miss, walk_end}
use Rattle.joining_pairs.specs.Pairs.{pair_at, sum_at, sum_divisor, meets, AllPairs, LastPair, FindsSum}
use Rattle.joining_products.specs.Adding.{plain}
use Rattle.joining_blocks.specs.Standing.{Standing, Ready, Grew}
use Rattle.joining_blocks.proofs.Grew.{grew_same, grew_more, grew_last}
use Rattle.joining_pairs.proofs.Places.{pair_order, meets_pair, pair_meets, place_pair, place_sum}
use Rattle.joining_basis.proofs.Going.{Going, going_start, going_ready, going_on, going_then}

module _ (T B : List ℕ) (s : ℕ) where
  abbrev Has_rest : ℕ → Type 0
  Has_rest p = meets B (s % sum_divisor) p ≡ true

  -- the loop is at place v - 1, which a pair with the remainder of s has
  pub record Walking (a a' : Standing) (v : ℕ) : Type 0 where
    pub going : Going T B (SumFrom B s v) a a'
    pub here : Search (meets B (s % sum_divisor)) (λ _. ⊥) (64 * length B) v

  -- no pair has the sum
  pub sum_none : (a : Standing) → Ready T B a → FindsSum B s None → Grew T B (WithSum B s) a a
  sum_none a r f =
      grew_same T B (WithSum B s) a r
      (sums_has B s a.labels
      (λ x y o h e.
      let few = r.blocks.few in
      absurd (f (64 * x + y) (place_pair B few x y o h) (place_sum B few x y o h ∙ e))))

  module _ (a : Standing) (r : Ready T B a) (large : plain < length B) where
    few : length B ≤ 64
    few = r.blocks.few

    pub walking_start : (p : ℕ) → LastPair B s p → Walking a a (p + 1)
    walking_start p f = record {
      going = going_start T B (SumFrom B s (p + 1)) a r
          (walk_start B s (p + 1) a.labels
          (λ x y o h e. omega (arith, f.last (64 * x + y) (place_pair B few x y o h) (place_sum B few x y o h ∙ e))));
      here = record {
        upto = let o = pair_order B p f.pair in omega (arith, o.0, o.1);
        hit = λ q e. let w : p ≡ q = omega arith in rw (← w) (pair_meets B s p f.pair f.sum);
        past = λ q _ _ w. w;
      };
    }

    module _ (a' : Standing) (v : ℕ) (w : Walking a a' v) (b : 0 < v) where
      pub walking_pair : pair_at B (v - 1) ≡ true
      walking_pair = meets_pair B (s % sum_divisor) (v - 1) (w.here.hit (v - 1) (omega arith))

      pub walking_order : ((v - 1) / 64 < (v - 1) % 64) × ((v - 1) % 64 < length B)
      walking_order = pair_order B (v - 1) walking_pair

      -- the index of pairs, as it is after the turn
      module _ (pairs : List ℕ) (index : AllPairs B pairs) where
        abbrev next : ℕ
        next = get_or pairs (2048 + (v - 1)) 0

        pub walking_less : next < v
        walking_less = search_less index.chain (s % sum_divisor) (λ _. ⊥) (λ q e. absurd e) v w.here b

        step : Search (meets B (s % sum_divisor)) (λ _. ⊥) (64 * length B) next
        step = search_step index.chain (s % sum_divisor) (λ _. ⊥) (λ q e. absurd e) v w.here b (λ e. e)

        only : (x y : ℕ) → x < y → y < length B → get_or B x 0 + get_or B y 0 ≡ s → next ≤ 64 * x + y → 64 * x + y < v → 64 * x + y ≡ v - 1
        only x y o h e l u =
            search_only index.chain (s % sum_divisor) (λ q. (q < v) × Has_rest q) (λ q z. z.1) v
            (record { upto = w.here.upto; hit = w.here.hit; past = λ q k _ z. omega (arith, z.0) })
            b (64 * x + y) l u (u, pair_meets B s (64 * x + y) (place_pair B few x y o h) (place_sum B few x y o h ∙ e))

      index : AllPairs B a'.pairs
      index = (going_ready T B _ a a' w.going).index.all large

      pub walking_miss : (sum_at B (v - 1) ≡ s → ⊥) → Walking a a' (get_or a'.pairs (2048 + (v - 1)) 0)
      walking_miss d = record {
        going = going_on T B _ a a' w.going _
            (walk_more B s few v _ (walking_less a'.pairs index) (only a'.pairs index))
            (λ j. record { at = λ x y hx hy e. j.at x y hx hy (walk_miss B s few v _ (walking_less a'.pairs index) (only a'.pairs index) d x y hx hy e) });
        here = step a'.pairs index;
      }

      module _ (e : sum_at B (v - 1) ≡ s) (a'' : Standing) (g : Grew T B (Two ((v - 1) / 64) ((v - 1) % 64)) a' a'') where
        pub walking_hit : a''.reach.len ≤ 2048 → Walking a a'' (get_or a''.pairs (2048 + (v - 1)) 0)
        walking_hit c =
            let i = (g.fits c).ready.index.all large in
            record {
              going = going_then T B _ a a' w.going _ _ a'' r g c
                  (walk_hit B s few v _ (walking_less a''.pairs i) (only a''.pairs i) walking_order.0 e);
              here = step a''.pairs i;
            }

        -- given up
        pub walking_over : 2048 < a''.reach.len → Grew T B (WithSum B s) a a''
        walking_over c =
            grew_last T B _ _ (WithSum B s) a a' a'' r w.going.fits w.going.grew g
            (λ x y _ _ p. record { sum = p.sum }) (λ x y _ _ p. rw (p.first, p.second) (record { sum = e })) (inr c)

    pub walking_end : (a' : Standing) (v : ℕ) → v ≤ 0 → Walking a a' v → Grew T B (WithSum B s) a a'
    walking_end a' v b w =
        grew_more T B _ (WithSum B s) a a' w.going.grew (λ x y _ _ p. record { sum = p.sum }) (λ _ j. walk_end B s v a'.labels b j)

-- the sum, told in another way
pub sum_as : (T B : List ℕ) (s u : ℕ) (a a' : Standing) → s ≡ u → Grew T B (WithSum B s) a a' → Grew T B (WithSum B u) a a'
sum_as T B s u a a' e g = rw e at g

pub last_as : (B : List ℕ) (s u p : ℕ) → s ≡ u → LastPair B s p → LastPair B u p
last_as B s u p e f = rw e at f
