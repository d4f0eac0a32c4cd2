-- Laws of products that are put in where the index of pairs tells of some sums that theirs are in: one pair of indices,
-- and the loops through the lists of two blocks.
use mathlib.Core.Path.{◌≡◌, refl, sym, ◌∙◌}
use mathlib.Core.Logic.{⊎_elim}
use mathlib.Core.Bool.{true}
use mathlib.Core.List.{List}
use Prim.Native.Nat.{ℕ, ◌+◌, ◌≤◌, ◌<◌}
use native.Mathlib.Omega.{arith}
use lib.ListN.{length, get_or}
use Rattle.std.proofs.Common.{Result, IsErr, IfOk}
use Rattle.joining_rule.specs.Sets.{In}
use Rattle.joining_rule.specs.Extend.{add_terms}
use Rattle.joining_rule.proofs.Elements.{in_here, in_there}
use Rattle.joining_rule.proofs.Extending.{Extends, add_extends}
use Rattle.key_set.specs.declared.Full.{Full}
use Rattle.key_set.specs.Table.{keys_in, count_in, Indexed, Stored}
use Rattle.key_set.proofs.Keys.{keys_rising, stored_none}
use Rattle.round_laws.specs.Added.{add_list, add_lists}
use Rattle.round_laws.specs.Lists.{list_from}
use Rattle.round_laws.proofs.Sums.{done_added, done_grows, done_nothing}
use Rattle.round_laws.proofs.Walks.{list_next, next_ends, list_less}
use Rattle.round_laws.proofs.Merging.{list_turn, lists_turn}
use Rattle.joining_pairs.specs.Pairs.{pair_at, sum_at, told_at, Slots, ToldSum, Marked}
use Rattle.joining_products.specs.Adding.{plain, DoneTold, WithIndex, AddingAsks, AddedAll, IndexList}
use Rattle.joining_products.proofs.Growing.{Growing, growing_start, growing_step, growing_full, growing_anew, growing_end}

module _ (T B : List ℕ) where
  told_grows : (S S' pairs : List ℕ) → ((x : ℕ) → In x S → In x S') → DoneTold T B S pairs → DoneTold T B S' pairs
  told_grows S S' pairs h d = record { at = λ p q w. done_grows T S S' (sum_at B p) h (d.at p q w) }

  -- ---- one sum s
  module _ (s n : ℕ) (t idx pairs : List ℕ) (a : AddingAsks T B pairs t idx n) where
    abbrev after : List ℕ
    after = add_terms T s (keys_in n t)

    -- products of which it is told are there
    pub added_told : plain < length B → (pairs' : List ℕ) → ToldSum B s 1 pairs → pairs' ≡ pairs → AddedAll T B after n t pairs n t idx pairs'
    added_told b pairs' w same =
        let d = (a.done b).at w.p w.pair w.told in
        let e : after ≡ keys_in n t = done_nothing T (keys_in n t) s (keys_rising n t) (rw w.sum at d) in
        rw (e, same)
        (record { stored = stored_none a.basis.support a.basis.index; index = a.index; done = a.done; met = λ p q v. v })

    module _ (b : plain < length B) (pairs' : List ℕ) (m : Marked B s pairs pairs') where
      pub marked_slots : Slots T pairs'
      marked_slots =
          let z = a.index.slots b in
          record { long = m.long ∙ z.long; at = λ i h. m.rest (6144 + i) (omega arith) ∙ z.at i h }

      -- from now on it is told of the sum
      pub added_marked : (r : ℕ) (t' idx' : List ℕ) → Stored n after t r t' idx' → AddedAll T B after n t pairs r t' idx' pairs'
      added_marked r t' idx' g = record {
        stored = g;
        index = record { all = λ h. m.index (a.index.all h); slots = λ _. marked_slots };
        done = λ h.
            record {
              at = λ p q w.
                  ⊎_elim
                  (λ v. done_grows T (keys_in n t) after (sum_at B p) (add_extends T s (keys_in n t)).keeps ((a.done h).at p q v))
                  (λ e. rw e (done_added T (keys_in n t) s))
                  (m.done p q w);
            };
        met = m.met;
      }

  -- ---- a loop, as Growing, that keeps what is told
  pub record Adding (t₀ pairs₀ : List ℕ) (n₀ : ℕ) (goal : List ℕ) (f : List ℕ → List ℕ) (n : ℕ) (t idx pairs : List ℕ) : Type 0 where
    pub growing : Growing t₀ n₀ goal f n t idx
    pub long : length pairs ≡ length pairs₀
    pub index : WithIndex T B pairs
    pub done : plain < length B → DoneTold T B (keys_in n t) pairs
    pub met : (p : ℕ) → pair_at B p ≡ true → 2 ≤ get_or pairs (told_at p) 0 → 2 ≤ get_or pairs₀ (told_at p) 0

  module _ (t₀ pairs₀ : List ℕ) where
    pub adding_start : (f : List ℕ → List ℕ) (n : ℕ) (idx : List ℕ) → AddingAsks T B pairs₀ t₀ idx n → Adding t₀ pairs₀ n (f (keys_in n t₀)) f n t₀ idx pairs₀
    adding_start f n idx a = record {
      growing = growing_start t₀ f n idx a.basis.support a.basis.index;
      long = refl;
      index = a.index;
      done = a.done;
      met = λ p q w. w;
    }

    module _ (n₀ : ℕ) (goal : List ℕ) (f : List ℕ → List ℕ) (n : ℕ) (t idx pairs : List ℕ) (h : Adding t₀ pairs₀ n₀ goal f n t idx pairs) where
      -- what the next turn asks
      pub adding_asks : (idx₀ : List ℕ) → AddingAsks T B pairs₀ t₀ idx₀ n₀ → AddingAsks T B pairs t idx n
      adding_asks idx₀ a = record {
        basis = record { support = h.growing.holds; index = h.growing.index; basis = a.basis.basis };
        index = h.index;
        done = h.done;
      }

      -- the index of the support made anew
      pub adding_anew : (idx' : List ℕ) → Indexed idx' t n → Adding t₀ pairs₀ n₀ goal f n t idx' pairs
      adding_anew idx' x = record { growing = growing_anew t₀ n₀ goal f n t idx h.growing idx' x; long = h.long; index = h.index; done = h.done; met = h.met }

      pub adding_end : f (keys_in n t) ≡ keys_in n t → AddedAll T B goal n₀ t₀ pairs₀ n t idx pairs
      adding_end e =
          let g : goal ≡ keys_in n t = sym h.growing.todo ∙ e in
          record { stored = growing_end t₀ n₀ goal f n t idx h.growing e; index = h.index; done = rw g h.done; met = h.met }

      module _ (S' : List ℕ) (n' : ℕ) (t' idx' pairs' : List ℕ) (g : AddedAll T B S' n t pairs n' t' idx' pairs') (f' : List ℕ → List ℕ) (e : f (keys_in n t) ≡ f' S') where
        pub adding_step : n' ≤ 2048 → length pairs' ≡ length pairs → Extends (keys_in n t) S' → Adding t₀ pairs₀ n₀ goal f' n' t' idx' pairs'
        adding_step b l x =
            let v : keys_in n' t' ≡ S' = g.stored.grown.keys b in
            record {
              growing = growing_step t₀ n₀ goal f n t idx h.growing S' n' t' idx' g.stored f' e b x;
              long = l ∙ h.long;
              index = g.index;
              done = rw v g.done;
              met = λ p q w. h.met p q (g.met p q w);
            }

      -- a turn for which there is no room, and the answer that hands it on
      pub adding_full : (S' t' idx' pairs' : List ℕ) → AddedAll T B S' n t pairs 2049 t' idx' pairs' → (f' : List ℕ → List ℕ) → f (keys_in n t) ≡ f' S' → Extends S' (f' S')
          → (r : Result ℕ Full) → IsErr r → AddedAll T B goal n₀ t₀ pairs₀ (count_in r) t' idx' pairs' × IfOk r (λ k. k ≤ 2048)
      adding_full S' t' idx' pairs' g f' e x r w =
          let v : goal ≡ f' S' = sym h.growing.todo ∙ e in
          let z = growing_full t₀ n₀ goal f n t idx h.growing S' t' idx' g.stored f' e x r w in (
            record {
              stored = z.0;
              index = g.index;
              done = λ b. rw v (told_grows S' (f' S') pairs' x.keeps (g.done b));
              met = λ p q b. h.met p q (g.met p q b);
            },
            z.1,
          )

-- ---- the list of a block, from the index i on
module _ (n : ℕ) (follow : List ℕ) (i : ℕ) (r : IndexList n follow i) (h : i < 64) where
  pub rest_low : i < n
  rest_low = r.low i (rw (list_next follow i r.ends h) (in_here i i _ refl))

  pub rest_next : IndexList n follow (get_or follow i 0)
  rest_next = record { ends = next_ends follow i r.ends h; low = λ x w. r.low x (rw (list_next follow i r.ends h) (in_there x i _ w)) }

  pub rest_less : length (list_from follow (get_or follow i 0)) < length (list_from follow i)
  rest_less = list_less follow i r.ends h

  module _ (T B S : List ℕ) where
    pub row_turn : (k : ℕ) → add_list T B k (list_from follow i) S ≡ add_list T B k (list_from follow (get_or follow i 0)) (add_terms T (get_or B i 0 + get_or B k 0) S)
    row_turn k = list_turn T B follow k i S r.ends h

    pub cross_turn : (is : List ℕ) → add_lists T B is (list_from follow i) S ≡ add_lists T B is (list_from follow (get_or follow i 0)) (add_list T B i is S)
    cross_turn is = lists_turn T B follow is i S r.ends h
