-- How many blocks a merge leaves, where nothing is left to join, and which round is the last.
use mathlib.Core.Path.{◌≡◌, sym, ap, ap₂, ◌∙◌}
use mathlib.Core.Logic.{inl, inr, ⊎_elim}
use mathlib.Core.Bool.{cond}
use mathlib.Core.List.{List, [], ◌∷◌, map}
use Prim.Native.Nat.{ℕ, suc, ◌+◌, ◌≤◌, ◌<◌, min, max}
use native.Mathlib.Omega.{arith}
use lib.Dec.{eqb}
use lib.ListN.{length, get_or}
use borrow.Author.Tests.{eq-eqb, ne_eqb}
use Rattle.counting.proofs.Listed.{same_or_not}
use Rattle.joining_rule.specs.Sets.{different}
use Rattle.joining_rule.specs.Join.{renamed, merged, join}
use Rattle.joining_rule.specs.Rounds.{Bases, State, round, blocks_in}
use Rattle.joining_rule.proofs.Labels.{merged_long, merged_at, two_low, join_long}
use Rattle.joining_rule.proofs.Numbered.{Numbered, lowest_from, different_lowest}
use Rattle.joining_rule.proofs.Lowest.{Falls, merged_falls, join_falls, some_block}
use Rattle.round_laws.specs.Joins.{Has}
use Rattle.joining_rule.proofs.Rounds.{AllNumbered, round_extends, round_blocks}

-- ---- block b renamed to a: index b, where it was its block's number, is not any more, and no other is lost
module _ (a b : ℕ) where
  kept_one : (x i : ℕ) → (i ≡ b → ⊥) → cond (eqb x i) 1 0 ≤ cond (eqb (renamed b a x) i) 1 0
  kept_one x i d =
      ⊎_elim (λ e. rw (ne_eqb x i (λ q. d (sym q ∙ e))) (omega arith)) (λ n. rw (ne_eqb x b n) (omega arith)) (same_or_not x b)

  kept_all : (i : ℕ) (l : List ℕ) → b < i → lowest_from i l ≤ lowest_from i (map (renamed b a) l)
  unfolding lowest_from
  kept_all i [] h = omega arith
  kept_all i (x ∷ xs) h = omega (arith, kept_one x i (λ e. omega arith), kept_all (suc i) xs (omega arith))

  at_most : (x i : ℕ) → cond (eqb x i) 1 0 ≤ 1
  at_most x i = ⊎_elim (λ e. rw (eq-eqb x i e) (omega arith)) (λ d. rw (ne_eqb x i d) (omega arith)) (same_or_not x i)

  one_lost : (i : ℕ) (l : List ℕ) → lowest_from i l ≤ lowest_from i (map (renamed b a) l) + 1
  unfolding lowest_from
  one_lost i [] = omega arith
  one_lost i (x ∷ xs) =
      ⊎_elim
      (λ e. omega (arith, at_most x i, kept_all (suc i) xs (omega arith)))
      (λ d. omega (arith, kept_one x i d, one_lost (suc i) xs))
      (same_or_not i b)

-- two blocks made one are one block fewer
pub merge_fewer : (L : List ℕ) (a b : ℕ) → Numbered L → a < length L → b < length L → get_or L a 0 ≡ a → get_or L b 0 ≡ b → (a ≡ b → ⊥) → different (merged a b L) + 1 ≡ different L
unfolding merged
merge_fewer L a b n ha hb oa ob d =
    let f : Falls L (merged a b L) = rw (oa, ob) at (merged_falls L n a b ha hb) in
    let lost = one_lost (min a b) (max a b) 0 L in
    ⊎_elim
    (λ (e : different (merged a b L) ≡ different L).
    let q = f.same e in
    let p : a ≡ min a b = sym oa ∙ ap (λ (l : List ℕ). get_or l a 0) (sym q) ∙ merged_at a b L a ha ∙ two_low a b (get_or L a 0) (inl oa) in
    let r : b ≡ min a b = sym ob ∙ ap (λ (l : List ℕ). get_or l b 0) (sym q) ∙ merged_at a b L b hb ∙ two_low a b (get_or L b 0) (inr ob) in
    absurd (d (p ∙ sym r)))
    (λ e. omega (arith, f.less, different_lowest L n, different_lowest (merged a b L) f.numbered, lost))
    (same_or_not (different (merged a b L)) (different L))

-- one block joins nothing
pub one_block : (S T B L : List ℕ) → length L ≡ length B → Numbered L → 0 < length B → different L ≡ 1 → join S T B L ≡ L
one_block S T B L e n h o =
    let f = join_falls S T B L e n in
    let some : 1 ≤ different (join S T B L) = some_block (join S T B L) f.numbered (omega (arith, join_long S T B L)) in
    f.same (omega (arith, f.less))

-- as all its indices are in one block
pub one_has : (P : ℕ → ℕ → Type 0) (L : List ℕ) → Numbered L → different L ≡ 1 → Has P (length L) L
one_has P L n o = record {
  at = λ x y hx hy _.
      ⊎_elim
      (λ e. record { same = e })
      (λ d.
      let u = n.lowest x hx in
      let v = n.lowest y hy in
      let f = merged_falls L n x y hx hy in
      let some = some_block (merged (get_or L x 0) (get_or L y 0) L) f.numbered (omega (arith, merged_long (get_or L x 0) (get_or L y 0) L)) in
      absurd (omega (arith, merge_fewer L (get_or L x 0) (get_or L y 0) n (omega arith) (omega arith) (n.own x hx) (n.own y hy) d)))
      (same_or_not (get_or L x 0) (get_or L y 0));
}

-- a round that leaves as many members and as many blocks leaves all as it was: it is the last
pub last_round : (rule : ℕ) (g : Bases) (s : State) → AllNumbered g s.labels → length (round rule g s).support ≡ length s.support → blocks_in (round rule g s).labels ≡ blocks_in s.labels → round rule g s ≡ s
last_round rule g s n e b =
    ap₂ (λ (L : List (List ℕ)) (S : List ℕ). record { labels = L; support = S }) (round_blocks rule g s n b) ((round_extends rule g s).same e)
