-- Laws of the index of pairs: how it grows, the search through it for a sum, and a sum that is marked.
use mathlib.Core.Path.{◌≡◌, refl, sym, ap, ◌∙◌}
use mathlib.Core.Logic.{inl, inr, ⊎_elim}
use mathlib.Core.Bool.{Bool, true, false}
use mathlib.Core.List.{List}
use Prim.Native.Nat.{ℕ, zero, suc, ◌+◌, ◌-◌, ◌*◌, ◌/◌, ◌%◌, ◌≤◌, ◌<◌}
use native.Mathlib.Omega.{arith}
use lib.ListN.{length, get_or, set, length-set}
use lib.Seq.{get_or-set_same, get_or-set_other}
use borrow.Author.Tests.{ne_eqb}
use Rattle.counting.proofs.Cases.{lt_or_le}
use Rattle.counting.proofs.Listed.{same_or_not}
use Rattle.hash_chain.proofs.Chain.{Search, chain_start, chain_skip, chain_next, search_start, search_less, search_step}
use Rattle.joining_pairs.specs.Pairs.{pair_at, sum_at, sum_divisor, meets, told_at, Remainders, PairIndex, AllPairs, Beside, LastPair, Marked}
use Rattle.joining_pairs.proofs.Places.{pair_order, meets_pair, pair_meets, place_pair, place_sum}
use Rattle.joining_pairs.proofs.Told.{told_low, told_rest, told_other, told_index}

module _ (B : List ℕ) where
  -- ---- a place that no pair has
  pair_not : (p : ℕ) → (p / 64 < p % 64 → p % 64 < length B → ⊥) → pair_at B p ≡ false
  pair_not p f = go (pair_at B p) refl
    where
      go : (b : Bool) → pair_at B p ≡ b → b ≡ false
      go true e = let o = pair_order B p e in absurd (f o.0 o.1)
      go false e = refl

  meets_none : (h p : ℕ) → pair_at B p ≡ false → meets B h p ≡ false
  unfolding meets
  meets_none h p e = rw e

  -- the places from n on have none
  skips : (n d : ℕ) (pairs : List ℕ) → ((p : ℕ) → n ≤ p → p < n + d → p / 64 < p % 64 → p % 64 < length B → ⊥) → PairIndex B n pairs → PairIndex B (n + d) pairs
  skips n zero pairs f x = let e : n + 0 ≡ n = omega arith in rw e x
  skips n (suc d) pairs f x =
      let e : n + suc d ≡ n + d + 1 = omega arith in
      let i = skips n d pairs (λ p l u. f p l (omega arith)) x in
      rw e
      (record {
        remainders = x.remainders;
        chain = chain_skip 2048 sum_divisor (meets B) (omega arith) (n + d) pairs i.chain (λ h. meets_none h (n + d) (pair_not (n + d) (f (n + d) (omega arith) (omega arith))));
      })

  pub index_to : (n m : ℕ) → n ≤ m → (pairs : List ℕ) → ((p : ℕ) → n ≤ p → p < m → p / 64 < p % 64 → p % 64 < length B → ⊥) → PairIndex B n pairs → PairIndex B m pairs
  index_to n m h pairs f x =
      let e : n + (m - n) ≡ m = omega arith in
      rw e at (skips n (m - n) pairs (λ p l u. f p l (omega arith)) x)

  pub index_start : (pairs : List ℕ) → Remainders B pairs → ((q : ℕ) → q < sum_divisor → get_or pairs q 0 ≡ 0) → PairIndex B 0 pairs
  index_start pairs r z = record { remainders = r; chain = chain_start 2048 sum_divisor (meets B) (omega arith) pairs z }

  -- ---- one pair more
  module _ (few : length B ≤ 64) (i k : ℕ) (o : i < k) (h : k < length B) (pairs : List ℕ) (x : PairIndex B (64 * i + k) pairs) (r : ℕ) (e : r ≡ (get_or pairs (6176 + i) 0 + get_or pairs (6176 + k) 0) % sum_divisor) where
    abbrev p : ℕ
    p = 64 * i + k

    abbrev linked : List ℕ
    linked = set pairs (2048 + p) (get_or pairs r 0)

    here : pair_at B p ≡ true
    here = place_pair B few i k o h

    rest : sum_at B p % sum_divisor ≡ r
    rest = rw (place_sum B few i k o h) (omega (arith, x.remainders.at i (omega arith), x.remainders.at k h))

    others : (s : ℕ) → (s ≡ r → ⊥) → meets B s p ≡ false
    unfolding meets
    others s d = rw (here, rest) (ne_eqb r s (λ w. d (sym w)))

    same : (q : ℕ) → (q ≡ r → ⊥) → (q ≡ 2048 + p → ⊥) → get_or (set linked r (p + 1)) q 0 ≡ get_or pairs q 0
    same q f g = get_or-set_other linked r q (p + 1) 0 f ∙ get_or-set_other pairs (2048 + p) q (get_or pairs r 0) 0 g

    pub beside_next : Beside B pairs (set linked r (p + 1))
    beside_next = record {
      slots = λ q l. same q (λ w. omega arith) (λ w. omega arith);
      told = λ q f. let w = pair_order B q f in same (told_at q) (λ z. omega arith) (λ z. omega (arith, w.0, w.1));
    }

    pub index_next : PairIndex B (p + 1) (set linked r (p + 1))
    index_next = record {
      remainders = record {
        long = length-set linked r (p + 1) ∙ length-set pairs (2048 + p) (get_or pairs r 0) ∙ x.remainders.long;
        at = λ j l. beside_next.slots (6176 + j) (omega arith) ∙ x.remainders.at j l;
      };
      chain = chain_next 2048 sum_divisor (meets B) (omega arith) p pairs x.chain (omega (arith, x.remainders.long)) r (omega arith)
          (rw (← rest) (pair_meets B (sum_at B p) p here refl)) others;
    }

  -- ---- what stands beside the pairs
  pub beside_same : (pairs : List ℕ) → Beside B pairs pairs
  beside_same pairs = record { slots = λ q _. refl; told = λ p _. refl }

  pub beside_then : (pairs pairs' pairs'' : List ℕ) → Beside B pairs pairs' → Beside B pairs' pairs'' → Beside B pairs pairs''
  beside_then pairs pairs' pairs'' a b = record { slots = λ q l. b.slots q l ∙ a.slots q l; told = λ p e. b.told p e ∙ a.told p e }

  -- ---- a search for a sum: from place v - 1 down may be a pair with it, and after it is none
  pub record SumHere (s q : ℕ) : Type 0 where
    pub pair : pair_at B q ≡ true
    pub sum : sum_at B q ≡ s

  abbrev pub Seeks : ℕ → ℕ → Type 0
  Seeks s v = Search (meets B (s % sum_divisor)) (SumHere s) (64 * length B) v

  module _ (s : ℕ) where
    all : (q : ℕ) → SumHere s q → meets B (s % sum_divisor) q ≡ true
    all q e = pair_meets B s q e.pair e.sum

    module _ (pairs : List ℕ) (x : AllPairs B pairs) where
      pub seeks_start : Seeks s (get_or pairs (s % sum_divisor) 0)
      seeks_start = search_start x.chain (s % sum_divisor) (SumHere s) all (omega arith)

      pub seeks_less : (v : ℕ) → Seeks s v → 0 < v → get_or pairs (2048 + (v - 1)) 0 < v
      seeks_less v c b = search_less x.chain (s % sum_divisor) (SumHere s) all v c b

      pub seeks_step : (v : ℕ) → Seeks s v → 0 < v → (sum_at B (v - 1) ≡ s → ⊥) → Seeks s (get_or pairs (2048 + (v - 1)) 0)
      seeks_step v c b f = search_step x.chain (s % sum_divisor) (SumHere s) all v c b (λ e. f e.sum)

    -- a pair from v on has another sum
    past : (v q : ℕ) → Seeks s v → pair_at B q ≡ true → sum_at B q ≡ s → q < v
    past v q c f e =
        let o = pair_order B q f in
        ⊎_elim (λ l. l) (λ l. absurd (c.past q l (omega (arith, o.0, o.1)) (record { pair = f; sum = e }))) (lt_or_le q v)

    pub seeks_pair : (v : ℕ) → Seeks s v → 0 < v → pair_at B (v - 1) ≡ true
    seeks_pair v c b = meets_pair B (s % sum_divisor) (v - 1) (c.hit (v - 1) (omega arith))

    pub seeks_found : (v : ℕ) → Seeks s v → 0 < v → sum_at B (v - 1) ≡ s → LastPair B s (v - 1)
    seeks_found v c b e = record {
      pair = seeks_pair v c b;
      sum = e;
      last = λ q f g. omega (arith, past v q c f g);
    }

    pub seeks_none : (v : ℕ) → Seeks s v → v ≤ 0 → (q : ℕ) → pair_at B q ≡ true → sum_at B q ≡ s → ⊥
    seeks_none v c b q f g = omega (arith, past v q c f g)

  -- ---- a sum that is looked at for its products
  pub marked_one : length B ≤ 64 → (s p : ℕ) → pair_at B p ≡ true → sum_at B p ≡ s → (pairs : List ℕ) → length pairs ≡ 6240 → Marked B s pairs (set pairs (told_at p) 1)
  marked_one few s p f e pairs long = record {
    long = length-set pairs (told_at p) 1;
    rest = told_rest B few p f pairs 1;
    index = told_index B few p f pairs 1;
    done = λ q g d.
        ⊎_elim
        (λ w. inr (ap (sum_at B) w ∙ e))
        (λ w. inl (rw (told_other B few p f pairs 1 q g w) at d))
        (same_or_not q p);
    met = λ q g m.
        ⊎_elim
        (λ (w : q ≡ p). absurd (omega (arith, ap (λ (z : ℕ). get_or (set pairs (told_at p) 1) (told_at z) 0) w, get_or-set_same pairs (told_at p) 1 0 (omega (arith, told_low B few p f, long)))))
        (λ w. rw (told_other B few p f pairs 1 q g w) at m)
        (same_or_not q p);
  }

-- ---- a loop that writes f 0, f 1, ... from a place on: i of them are written, and what stands before stays
pub record Written (from : ℕ) (f : ℕ → ℕ) (pairs₀ : List ℕ) (i : ℕ) (pairs : List ℕ) : Type 0 where
  pub long : length pairs ≡ length pairs₀
  pub at : (j : ℕ) → j < i → get_or pairs (from + j) 0 ≡ f j
  pub before : (q : ℕ) → q < from → get_or pairs q 0 ≡ get_or pairs₀ q 0

module _ (from : ℕ) (f : ℕ → ℕ) (pairs₀ : List ℕ) where
  pub written_start : Written from f pairs₀ 0 pairs₀
  written_start = record { long = refl; at = λ j h. absurd (omega arith); before = λ q _. refl }

  pub written_next : (i : ℕ) (pairs : List ℕ) → Written from f pairs₀ i pairs → from + i < length pairs₀ → (v : ℕ) → v ≡ f i → Written from f pairs₀ (i + 1) (set pairs (from + i) v)
  written_next i pairs w h v e = record {
    long = length-set pairs (from + i) v ∙ w.long;
    at = λ j l.
        ⊎_elim
        (λ (k : j ≡ i). rw k (get_or-set_same pairs (from + i) v 0 (omega (arith, w.long)) ∙ e))
        (λ d. get_or-set_other pairs (from + i) (from + j) v 0 (λ k. d (omega arith)) ∙ w.at j (omega (arith, d)))
        (same_or_not j i);
    before = λ q l. get_or-set_other pairs (from + i) q v 0 (λ k. omega arith) ∙ w.before q l;
  }
