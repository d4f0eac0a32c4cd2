-- Laws of the index: what it tells of a key, and how it grows by one more.
use mathlib.Core.Path.{◌≡◌, refl, sym, ap, ◌∙◌}
use mathlib.Core.Bool.{true, false}
use mathlib.Core.List.{List, [], ◌∷◌, ◌++◌}
use Prim.Native.Nat.{ℕ, zero, suc, ◌+◌, ◌-◌, ◌%◌, ◌≤◌, ◌<◌}
use native.Mathlib.Nat.{add_comm, mod-lt, mod-add-mod}
use native.Mathlib.Omega.{arith}
use borrow.Author.Tests.{eq-eqb, ne_eqb}
use lib.Dec.{eqb}
use lib.ListN.{length, get_or, take, drop, set, replicate, length-set, length-append, length-drop, length-replicate, get_or-append, get_or-replicate}
use lib.Seq.{get_or-set_same, get_or-set_other, get_or-take, length-take-le}
use Rattle.hash_chain.specs.Chain.{Chain}
use Rattle.hash_chain.proofs.Chain.{last_le, Search, chain_start, chain_as, chain_next, search_start, search_less, search_step}
use Rattle.joining_rule.specs.Sets.{member, insert}
use Rattle.key_set.specs.Table.{first, divisor_in, keys_in, Holds, has_rest, Indexed, Linked, noted, BesideMark, Stored}
use Rattle.key_set.proofs.Keys.{inside, stored_new}

-- ---- a search: from place v - 1 down may be the key, and after it it is not
abbrev pub Seeks : ℕ → List ℕ → ℕ → ℕ → ℕ → Type 0
Seeks d t n key v = Search (has_rest d t (key % d)) (λ q. get_or t q 0 ≡ key) n v

module _ {idx t : List ℕ} {n : ℕ} (x : Indexed idx t n) (key : ℕ) where
  abbrev d : ℕ
  d = divisor_in idx

  rest : (q : ℕ) → get_or t q 0 ≡ key → has_rest d t (key % d) q ≡ true
  unfolding has_rest
  rest q e = eq-eqb (get_or t q 0 % d) (key % d) (ap (λ (k : ℕ). k % d) e)

  -- a key's place in the index
  pub slot_low : key % d < d
  slot_low = mod-lt key (omega (arith, x.some))

  pub seeks_start : Seeks d t n key (get_or idx (key % d) 0)
  seeks_start = search_start x.chain (key % d) _ rest slot_low

  pub seeks_step : (v : ℕ) → Seeks d t n key v → 0 < v → (get_or t (v - 1) 0 ≡ key → ⊥) → Seeks d t n key (get_or idx (4096 + (v - 1)) 0)
  seeks_step v c b f = search_step x.chain (key % d) _ rest v c b f

  pub seeks_less : (v : ℕ) → Seeks d t n key v → 0 < v → get_or idx (4096 + (v - 1)) 0 < v
  seeks_less v c b = search_less x.chain (key % d) _ rest v c b

absent : (key : ℕ) (l : List ℕ) → ((q : ℕ) → q < length l → get_or l q 0 ≡ key → ⊥) → member key l ≡ false
unfolding member
absent key [] f = refl
absent key (x ∷ l) f = rw (ne_eqb x key (f zero (omega arith))) (absent key l (λ q b. f (suc q) (omega arith)))

-- where the search ends, the key is not there
pub seeks_none : {t : List ℕ} {n : ℕ} → Holds t n → (d key v : ℕ) → Seeks d t n key v → v ≤ 0 → member key (take n t) ≡ false
seeks_none {t} {n} h d key v c b =
    let l = length-take-le n t (inside h) in
    absent key (take n t) (λ q u e. c.past q (omega arith) (omega arith) (sym (get_or-take n t q 0 (omega arith)) ∙ e))

-- ---- the remainder of a sum
pub rest_sum : (d a b : ℕ) → (a % d + b % d) % d ≡ (a + b) % d
rest_sum d a b =
    mod-add-mod a d (b % d) ∙ ap (λ (k : ℕ). k % d) (add_comm a (b % d)) ∙ mod-add-mod b d a
    ∙ ap (λ (k : ℕ). k % d) (add_comm b a)

-- ---- one more key
module _ {idx t : List ℕ} {n : ℕ} (x : Indexed idx t n) (few : n < 2048) (t' : List ℕ) (same : (q : ℕ) → q < n → get_or t q 0 ≡ get_or t' q 0) where
  abbrev e : ℕ
  e = divisor_in idx

  abbrev h : ℕ
  h = get_or t' n 0 % e

  low : h < e
  low = slot_low x (get_or t' n 0)

  -- the divisor stands beside the places that change
  noted_below : get_or (noted idx n h) 4095 0 ≡ get_or idx 4095 0
  unfolding noted
  noted_below =
      get_or-set_other (set idx (4096 + n) (get_or idx h 0)) h 4095 (n + 1) 0 (λ w. omega (arith, low))
      ∙ get_or-set_other idx (4096 + n) 4095 (get_or idx h 0) 0 (λ w. omega arith)

  noted_chain : Chain 4096 e (has_rest e t') (n + 1) (noted idx n h)
  unfolding has_rest noted
  noted_chain =
      chain_next 4096 e (has_rest e t') (omega arith) n idx
      (chain_as 4096 e (has_rest e t) (omega arith) n idx x.chain (has_rest e t') (λ r p b. ap (λ (k : ℕ). eqb (k % e) r) (same p b)))
      (omega (arith, x.long)) h low (eq-eqb h h refl) (λ r f. ne_eqb h r (λ w. f (sym w)))

  pub indexed_next : Indexed (noted idx n h) t' (n + 1)
  unfolding noted
  indexed_next = record {
    long = length-set (set idx (4096 + n) (get_or idx h 0)) h (n + 1) ∙ length-set idx (4096 + n) (get_or idx h 0) ∙ x.long;
    some = omega (arith, noted_below, x.some);
    chain = rw noted_below noted_chain;
  }

-- an index of no keys, whatever its divisor
pub indexed_none : (idx t : List ℕ) → length idx ≡ 6144 → get_or idx 4095 0 < first → ((q : ℕ) → q < first → get_or idx q 0 ≡ 0) → Indexed idx t 0
indexed_none idx t l b z = record {
  long = l;
  some = b;
  chain = chain_start 4096 (divisor_in idx) (has_rest (divisor_in idx) t) (omega arith) idx (λ h u. z h (omega arith));
}

-- an index whose first n places are cleared, and a divisor
pub indexed_cleared : (n : ℕ) (idx z t : List ℕ) (below : ℕ) → z ≡ replicate (length (take n idx)) 0 → length idx ≡ 6144 → first ≤ n → n ≤ 6144 → below < first → Indexed (set (z ++ drop n idx) 4095 below) t 0
indexed_cleared n idx z t below e l f m b =
    let k : z ≡ replicate n 0 = e ∙ ap (λ (j : ℕ). replicate j 0) (length-take-le n idx (omega arith)) in
    let some : length z ≡ n = ap length k ∙ length-replicate {A = ℕ} n 0 in
    let whole = z ++ drop n idx in
    let long : length whole ≡ 6144 = omega (arith, length-append z (drop n idx), length-drop n idx) in
    indexed_none (set whole 4095 below) t (length-set whole 4095 below ∙ long) (rw (get_or-set_same whole 4095 below 0 (omega arith)) b)
    (λ q u.
    get_or-set_other whole 4095 q below 0 (λ w. omega arith)
    ∙ get_or-append z (drop n idx) 0 q (omega arith)
    ∙ ap (λ (y : List ℕ). get_or y q 0) k
    ∙ get_or-replicate {A = ℕ} n q 0 0 (omega arith))

pub indexed_start : (t : List ℕ) → Indexed (replicate 6144 0) t 0
indexed_start t =
    indexed_none (replicate 6144 0) t (length-replicate {A = ℕ} 6144 0) (omega (arith, get_or-replicate {A = ℕ} 6144 4095 0 0 (omega arith)))
    (λ q b. get_or-replicate {A = ℕ} 6144 q 0 0 (omega arith))

-- ---- every link leads back
pub linked : {idx t : List ℕ} {n : ℕ} → Holds t n → Indexed idx t n → Linked idx n
unfolding has_rest
linked {idx} {t} {n} h x = record {
  few = h.few;
  long = x.long;
  back = λ p b.
      let r = get_or t p 0 % divisor_in idx in
      omega (arith, x.chain.before r p b (eq-eqb r r refl), last_le (has_rest (divisor_in idx) t r) p);
}

pub linked_upto : {idx : List ℕ} {n : ℕ} → Linked idx n → (p : ℕ) → p < n → Linked idx (p + 1)
linked_upto l p b = record {
  few = omega (arith, l.few);
  long = l.long;
  back = λ q u. l.back q (omega arith);
}

-- ---- the mark stands beside the keys and the divisor
module _ {idx idx' : List ℕ} (m : BesideMark idx idx') where
  pub mark_below : get_or idx' 4095 0 ≡ get_or idx 4095 0
  mark_below = m.same 4095 (λ e. omega arith)

  pub indexed_marked : {t : List ℕ} {n : ℕ} → Indexed idx t n → Indexed idx' t n
  indexed_marked x = record {
    long = m.long ∙ x.long;
    some = omega (arith, mark_below, x.some);
    chain = rw mark_below (record {
      last = λ h b. m.same h (λ e. omega arith) ∙ x.chain.last h b;
      before = λ h p b e. m.same (4096 + p) (λ w. omega arith) ∙ x.chain.before h p b e;
    });
  }

-- a key put at the end of the table and noted
module _ {idx t : List ℕ} {n : ℕ} (h : Holds t n) (x : Indexed idx t n) (k : ℕ) (b : n ≤ 2047) (idx' idx'' : List ℕ) (e : idx' ≡ noted idx n (k % divisor_in idx)) (m : BesideMark idx' idx'') where
  at_end : get_or (set t n k) n 0 ≡ k
  at_end = get_or-set_same t n k 0 (omega (arith, h.room))

  there : (q : ℕ) → q < n → get_or t q 0 ≡ get_or (set t n k) q 0
  there q l = sym (get_or-set_other t n q k 0 (λ w. omega arith))

  pub stored_added : member k (keys_in n t) ≡ false → Stored n (insert k (keys_in n t)) t (n + 1) (set t n k) idx''
  stored_added f = stored_new h x k f b idx'' (indexed_marked m (rw e (rw at_end at (indexed_next x (omega arith) (set t n k) there))))

  pub divisor_added : divisor_in idx'' ≡ divisor_in idx
  divisor_added = ap (λ (c : ℕ). first - c) (mark_below m ∙ rw e (rw at_end at (noted_below x (omega arith) (set t n k) there)))
