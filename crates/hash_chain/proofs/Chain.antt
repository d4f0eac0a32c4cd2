-- Laws of an index by remainders: the last place that passes a test, how the index grows, and the search through it.
use mathlib.Core.Path.{◌≡◌, refl, sym, ap, ◌∙◌}
use mathlib.Core.Logic.{⊎_elim}
use mathlib.Core.Bool.{Bool, true, false, cond}
use mathlib.Core.List.{List}
use Prim.Native.Nat.{ℕ, zero, suc, ◌+◌, ◌-◌, ◌≤◌, ◌<◌}
use native.Mathlib.Nat.{eq-or-lt_of_le}
use native.Mathlib.Numerals.{add-one}
use native.Mathlib.Omega.{arith}
use lib.ListN.{length, get_or, set, length-set}
use lib.Seq.{get_or-set_same, get_or-set_other}
use Rattle.counting.proofs.Cases.{never, lt_or_le}
use Rattle.counting.proofs.Listed.{same_or_not}
use Rattle.hash_chain.specs.Chain.{last_below, Chain}

-- ---- the last number that passes a test
module _ (f : ℕ → Bool) where
  pub last_le : (n : ℕ) → last_below f n ≤ n
  unfolding last_below
  last_le zero = omega arith
  last_le (suc n) = go (f n) (last_le n)
    where
      go : (b : Bool) → last_below f n ≤ n → cond b (suc n) (last_below f n) ≤ suc n
      go true l = omega arith
      go false l = omega arith

  -- it passes
  pub last_hit : (n p : ℕ) → last_below f n ≡ suc p → f p ≡ true
  unfolding last_below
  last_hit zero p e = absurd (omega arith)
  last_hit (suc n) p e = go (f n) refl (last_hit n p) e
    where
      go : (b : Bool) → f n ≡ b → (last_below f n ≡ suc p → f p ≡ true) → cond b (suc n) (last_below f n) ≡ suc p → f p ≡ true
      go true q i e = let w : n ≡ p = omega arith in ap f (sym w) ∙ q
      go false q i e = i e

  -- and none after it does
  pub last_past : (n q : ℕ) → last_below f n ≤ q → q < n → f q ≡ true → ⊥
  unfolding last_below
  last_past zero q l u e = omega arith
  last_past (suc n) q l u e = go (f n) refl (last_past n q) l
    where
      go : (b : Bool) → f n ≡ b → (last_below f n ≤ q → q < n → f q ≡ true → ⊥) → cond b (suc n) (last_below f n) ≤ q → ⊥
      go true p i l = omega arith
      go false p i l = ⊎_elim (λ (w : q ≡ n). never (sym p ∙ ap f (sym w) ∙ e)) (λ w. i l w e) (eq-or-lt_of_le {n = q} {m = n} (omega arith))

  last_here : (n : ℕ) → f n ≡ true → last_below f (n + 1) ≡ n + 1
  unfolding last_below
  last_here n e = rw (add-one n, e)

  last_not : (n : ℕ) → f n ≡ false → last_below f (n + 1) ≡ last_below f n
  unfolding last_below
  last_not n e = rw (add-one n, e)

last_same : (f g : ℕ → Bool) (n : ℕ) → ((p : ℕ) → p < n → f p ≡ g p) → last_below f n ≡ last_below g n
unfolding last_below
last_same f g zero e = refl
last_same f g (suc n) e = rw (e n (omega arith), last_same f g n (λ p b. e p (omega arith)))

-- ---- how the index grows
module _ (links divisor : ℕ) (meets : ℕ → ℕ → Bool) (room : divisor ≤ links) where
  pub chain_start : (idx : List ℕ) → ((h : ℕ) → h < divisor → get_or idx h 0 ≡ 0) → Chain links divisor meets 0 idx
  unfolding last_below
  chain_start idx z = record { last = z; before = λ h p b. absurd (omega arith) }

  module _ (n : ℕ) (idx : List ℕ) (c : Chain links divisor meets n idx) where
    -- a place that is not in use
    pub chain_skip : ((h : ℕ) → meets h n ≡ false) → Chain links divisor meets (n + 1) idx
    chain_skip a = record {
      last = λ h b. c.last h b ∙ sym (last_not (meets h) n (a h));
      before = λ h p b e. ⊎_elim (λ (w : p ≡ n). never (sym (a h) ∙ ap (meets h) (sym w) ∙ e)) (λ w. c.before h p w e) (eq-or-lt_of_le {n = p} {m = n} (omega arith));
    }

    -- a place with the remainder r, and no other
    module _ (long : links + n < length idx) (r : ℕ) (low : r < divisor) (here : meets r n ≡ true) (only : (h : ℕ) → (h ≡ r → ⊥) → meets h n ≡ false) where
      abbrev grown : List ℕ
      grown = set (set idx (links + n) (get_or idx r 0)) r (n + 1)

      at_head : get_or grown r 0 ≡ n + 1
      at_head = get_or-set_same (set idx (links + n) (get_or idx r 0)) r (n + 1) 0 (omega (arith, length-set idx (links + n) (get_or idx r 0)))

      at_link : get_or grown (links + n) 0 ≡ get_or idx r 0
      at_link = get_or-set_other (set idx (links + n) (get_or idx r 0)) r (links + n) (n + 1) 0 (λ e. omega arith) ∙ get_or-set_same idx (links + n) (get_or idx r 0) 0 long

      at_other : (p : ℕ) → (p ≡ r → ⊥) → (p ≡ links + n → ⊥) → get_or grown p 0 ≡ get_or idx p 0
      at_other p f g = get_or-set_other (set idx (links + n) (get_or idx r 0)) r p (n + 1) 0 f ∙ get_or-set_other idx (links + n) p (get_or idx r 0) 0 g

      pub chain_next : Chain links divisor meets (n + 1) grown
      chain_next = record {
        last = λ h b.
            ⊎_elim
            (λ (e : h ≡ r). rw e (at_head ∙ sym (last_here (meets r) n here)))
            (λ f. at_other h f (λ e. omega arith) ∙ c.last h b ∙ sym (last_not (meets h) n (only h f)))
            (same_or_not h r);
        before = λ h p b e.
            ⊎_elim
            (λ (w : p ≡ n).
            ⊎_elim
            (λ (q : h ≡ r). rw (w, q) (at_link ∙ c.last r low))
            (λ f. never (sym (only h f) ∙ ap (meets h) (sym w) ∙ e))
            (same_or_not h r))
            (λ (l : p < n). at_other (links + p) (λ q. omega arith) (λ q. omega arith) ∙ c.before h p l e)
            (eq-or-lt_of_le {n = p} {m = n} (omega arith));
      }

    -- the same places, told in another way
    pub chain_as : (meets' : ℕ → ℕ → Bool) → ((h p : ℕ) → p < n → meets h p ≡ meets' h p) → Chain links divisor meets' n idx
    chain_as meets' e = record {
      last = λ h b. c.last h b ∙ last_same (meets h) (meets' h) n (e h);
      before = λ h p b f. c.before h p b (e h p b ∙ f) ∙ last_same (meets h) (meets' h) p (λ q u. e h q (omega arith));
    }

    -- a place beside the chains may change
    pub chain_set : (q v : ℕ) → divisor ≤ q → ((h p : ℕ) → p < n → meets h p ≡ true → links + p ≡ q → ⊥) → Chain links divisor meets n (set idx q v)
    chain_set q v b f = record {
      last = λ h u. get_or-set_other idx q h v 0 (λ e. omega arith) ∙ c.last h u;
      before = λ h p u e. get_or-set_other idx q (links + p) v 0 (f h p u e) ∙ c.before h p u e;
    }

-- ---- a search for a place in Q, all with the remainder h: it is at place v - 1, and those from v on are not in Q
pub record Search (meets : ℕ → Bool) (Q : ℕ → Type 0) (n v : ℕ) : Type 0 where
  pub upto : v ≤ n
  pub hit : (p : ℕ) → v ≡ suc p → meets p ≡ true
  pub past : (q : ℕ) → v ≤ q → q < n → Q q → ⊥

module _ {links divisor : ℕ} {meets : ℕ → ℕ → Bool} {n : ℕ} {idx : List ℕ} (c : Chain links divisor meets n idx) (h : ℕ) (Q : ℕ → Type 0) (all : (q : ℕ) → Q q → meets h q ≡ true) where
  pub search_start : h < divisor → Search (meets h) Q n (get_or idx h 0)
  search_start b =
      rw (c.last h b)
      (record { upto = last_le (meets h) n; hit = last_hit (meets h) n; past = λ q l u e. last_past (meets h) n q l u (all q e) })

  module _ (v : ℕ) (s : Search (meets h) Q n v) (b : 0 < v) where
    pub search_here : meets h (v - 1) ≡ true
    search_here = s.hit (v - 1) (omega arith)

    behind : get_or idx (links + (v - 1)) 0 ≡ last_below (meets h) (v - 1)
    behind = c.before h (v - 1) (omega (arith, s.upto)) search_here

    pub search_less : get_or idx (links + (v - 1)) 0 < v
    search_less = omega (arith, behind, last_le (meets h) (v - 1))

    -- of the places in Q only v - 1 is between the next one and v
    pub search_only : (q : ℕ) → get_or idx (links + (v - 1)) 0 ≤ q → q < v → Q q → q ≡ v - 1
    search_only q l u e =
        ⊎_elim
        (λ (w : q ≡ v - 1). w)
        (λ w. absurd (last_past (meets h) (v - 1) q (omega (arith, behind)) w (all q e)))
        (eq-or-lt_of_le {n = q} {m = v - 1} (omega arith))

    pub search_step : (Q (v - 1) → ⊥) → Search (meets h) Q n (get_or idx (links + (v - 1)) 0)
    search_step d = record {
      upto = omega (arith, search_less, s.upto);
      hit = λ p e. last_hit (meets h) (v - 1) p (sym behind ∙ e);
      past = λ q l u e.
          ⊎_elim
          (λ w. d (let z = search_only q l w e in rw z at e))
          (λ w. s.past q w u e)
          (lt_or_le q v);
    }
