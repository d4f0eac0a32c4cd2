-- Laws of the loops that make two blocks one: they go through the lists of both, give the indices of one the number of
-- the other, and add the products of both.
use mathlib.Core.Path.{◌≡◌, refl, sym, ◌∙◌}
use mathlib.Core.Logic.{inl, inr, ⊎_elim}
use mathlib.Core.List.{List, [], ◌∷◌}
use Prim.Native.Nat.{ℕ, ◌+◌, ◌≤◌, ◌<◌}
use native.Mathlib.Omega.{arith}
use lib.ListN.{length, get_or, set, length-set}
use lib.Seq.{get_or-set_same, get_or-set_other, ext_get_or}
use Rattle.counting.proofs.Listed.{same_or_not}
use Rattle.counting.proofs.Cases.{lt_or_le}
use Rattle.joining_rule.specs.Sets.{In}
use Rattle.joining_rule.specs.Join.{merged}
use Rattle.joining_rule.specs.Extend.{add_terms}
use Rattle.joining_rule.proofs.Elements.{not_nil, in_cons, in_here, in_there}
use Rattle.joining_rule.proofs.Labels.{merged_long, merged_at, two_low, other_same}
use Rattle.round_laws.specs.Added.{Crossed, add_list, add_lists}
use Rattle.round_laws.specs.Lists.{list_from, Ends, BlockList, Lists, last_of, relabel, spliced, TwoBlocks}
use Rattle.round_laws.proofs.Crossing.{lists_crossed}
use Rattle.round_laws.proofs.Walks.{list_none, list_next, next_ends, list_less}
use Rattle.round_laws.proofs.Lists.{lists_splice}

-- ---- a block number given to the indices of a list
module _ (a : ℕ) where
  relabel_turn : (is js : List ℕ) (k : ℕ) (L : List ℕ) → is ≡ k ∷ js → relabel a js (set L k a) ≡ relabel a is L
  unfolding relabel
  relabel_turn is js k L e = rw e

  relabel_none : (is L : List ℕ) → is ≡ [] → L ≡ relabel a is L
  unfolding relabel
  relabel_none is L e = rw e

  relabel_long : (ks L : List ℕ) → length (relabel a ks L) ≡ length L
  unfolding relabel
  relabel_long [] L = refl
  relabel_long (k ∷ ks) L = relabel_long ks (set L k a) ∙ length-set L k a

  relabel_kept : (ks L : List ℕ) (x : ℕ) → x < length L → get_or L x 0 ≡ a → get_or (relabel a ks L) x 0 ≡ a
  unfolding relabel
  relabel_kept [] L x h e = e
  relabel_kept (k ∷ ks) L x h e =
      relabel_kept ks (set L k a) x (omega (arith, length-set L k a))
      (⊎_elim (λ q. rw q (get_or-set_same L k a 0 (omega arith))) (λ d. get_or-set_other L k x a 0 d ∙ e) (same_or_not x k))

  relabel_in : (ks L : List ℕ) (x : ℕ) → x < length L → In x ks → get_or (relabel a ks L) x 0 ≡ a
  unfolding relabel
  relabel_in [] L x h m = not_nil x m
  relabel_in (k ∷ ks) L x h m =
      ⊎_elim
      (λ q. relabel_kept ks (set L k a) x (omega (arith, length-set L k a)) (rw q (get_or-set_same L x a 0 h)))
      (λ w. relabel_in ks (set L k a) x (omega (arith, length-set L k a)) w)
      (in_cons x k ks m)

  relabel_out : (ks L : List ℕ) (x : ℕ) → (In x ks → ⊥) → get_or (relabel a ks L) x 0 ≡ get_or L x 0
  unfolding relabel
  relabel_out [] L x d = refl
  relabel_out (k ∷ ks) L x d =
      relabel_out ks (set L k a) x (λ m. d (in_there x k ks m)) ∙ get_or-set_other L k x a 0 (λ q. d (in_here x k ks (sym q)))

-- given to all indices of the block b it makes the blocks a and b one
relabel_merged : (follow L : List ℕ) (a b : ℕ) → a < b → BlockList follow L b → relabel a (list_from follow b) L ≡ merged a b L
relabel_merged follow L a b below s =
    let e = relabel_long a (list_from follow b) L in
    let f = merged_long a b L in
    ext_get_or 0 (relabel a (list_from follow b) L) (merged a b L) (e ∙ sym f)
    (λ x h.
    let k : x < length L = omega arith in
    rw (merged_at a b L x k)
    (⊎_elim
    (λ q. relabel_in a (list_from follow b) L x k (s.whole x k q) ∙ sym (two_low a b (get_or L x 0) (inr q) ∙ omega arith))
    (λ d.
    relabel_out a (list_from follow b) L x (λ m. d (s.inside x m).1)
    ∙ ⊎_elim (λ q. sym (two_low a b (get_or L x 0) (inl q) ∙ omega arith)) (λ c. sym (other_same a b (get_or L x 0) c d)) (same_or_not (get_or L x 0) a))
    (same_or_not (get_or L x 0) b)))

-- ---- the loop through the block b: it stands at k, after the index `last`
pub record Merging (a b : ℕ) (L₀ follow L : List ℕ) (last k : ℕ) : Type 0 where
  pub long : length L ≡ length L₀
  pub ends : Ends follow k
  pub low : (x : ℕ) → In x (list_from follow k) → x < length L₀
  pub kept : last < length L₀
  pub last_is : last_of last (list_from follow k) ≡ last_of b (list_from follow b)
  pub labels : relabel a (list_from follow k) L ≡ merged a b L₀

module _ (a b : ℕ) (L₀ follow : List ℕ) (t : TwoBlocks a b L₀ follow) where
  pub merging_start : Merging a b L₀ follow L₀ b b
  merging_start =
      let block-b = t.lists.at b t.inside t.other in
      record {
        long = refl;
        ends = block-b.ends;
        low = λ x m. (block-b.inside x m).0;
        kept = t.inside;
        last_is = refl;
        labels = relabel_merged follow L₀ a b t.below block-b;
      }

  module _ (L : List ℕ) (last k : ℕ) (m : Merging a b L₀ follow L last k) where
    pub merging_step : k < 64 → Merging a b L₀ follow (set L k a) k (get_or follow k 0)
    merging_step h =
        let l = list_next follow k m.ends h in
        record {
          long = length-set L k a ∙ m.long;
          ends = next_ends follow k m.ends h;
          low = λ x w. m.low x (rw l (in_there x k _ w));
          kept = m.low k (rw l (in_here k k _ refl));
          last_is = rw l at m.last_is;
          labels = relabel_turn a _ _ k L l ∙ m.labels;
        }

    pub merging_less : k < 64 → length (list_from follow (get_or follow k 0)) < length (list_from follow k)
    merging_less h = list_less follow k m.ends h

    -- the end of the list is the end of the loop
    merging_end : length L₀ ≤ k → 64 ≤ k
    merging_end h =
        ⊎_elim
        (λ l. absurd (omega (arith, m.low k (rw (list_next follow k m.ends l) (in_here k k _ refl)))))
        (λ l. l)
        (lt_or_le k 64)

    pub merging_labels : length L₀ ≤ k → L ≡ merged a b L₀
    merging_labels h = relabel_none a _ L (list_none follow k (merging_end h)) ∙ m.labels

    pub merging_lists : length L₀ ≤ k → Lists (spliced a b last follow) L
    merging_lists h =
        let z : last_of b (list_from follow b) ≡ last = sym (rw (list_none follow k (merging_end h)) at m.last_is) in
        rw (merging_labels h) (lists_splice follow L₀ t.lists a b t.below t.inside t.own t.other last z)

-- ---- the products
module _ (T B follow : List ℕ) where
  pub list_turn : (k i : ℕ) (S : List ℕ) → Ends follow i → i < 64
      → add_list T B k (list_from follow i) S ≡ add_list T B k (list_from follow (get_or follow i 0)) (add_terms T (get_or B i 0 + get_or B k 0) S)
  unfolding add_list
  list_turn k i S e h = rw (list_next follow i e h)

  pub list_done : (k i : ℕ) (S : List ℕ) → 64 ≤ i → add_list T B k (list_from follow i) S ≡ S
  unfolding add_list
  list_done k i S h = rw (list_none follow i h)

  pub lists_turn : (is : List ℕ) (k : ℕ) (S : List ℕ) → Ends follow k → k < 64
      → add_lists T B is (list_from follow k) S ≡ add_lists T B is (list_from follow (get_or follow k 0)) (add_list T B k is S)
  unfolding add_lists
  lists_turn is k S e h = rw (list_next follow k e h)

  pub lists_done : (is : List ℕ) (k : ℕ) (S : List ℕ) → 64 ≤ k → add_lists T B is (list_from follow k) S ≡ S
  unfolding add_lists
  lists_done is k S h = rw (list_none follow k h)

  -- what both loops add
  pub blocks_crossed : (L : List ℕ) (a b : ℕ) (S : List ℕ) → length L ≡ length B → BlockList follow L a → BlockList follow L b
      → Crossed T B L a b S (add_lists T B (list_from follow a) (list_from follow b) S)
  blocks_crossed L a b S e p q =
      lists_crossed T B L a b (list_from follow a) (list_from follow b) S
      (λ x m. (omega (arith, (p.inside x m).0), (p.inside x m).1)) (λ x h. p.whole x (omega arith))
      (λ x m. (omega (arith, (q.inside x m).0), (q.inside x m).1)) (λ x h. q.whole x (omega arith))
