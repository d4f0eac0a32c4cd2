-- Laws of a joining that adds: nothing to join, more pairs, and one joining after another. A joining that is given up
-- because of too many keys, or that ends because one block is left, is one by more pairs.
use mathlib.Core.Path.{◌≡◌, refl, sym, ◌∙◌}
use mathlib.Core.Logic.{◌⊎◌, inl, inr, ⊎_elim}
use mathlib.Core.List.{List}
use Prim.Native.Nat.{ℕ, ◌≤◌, ◌<◌}
use native.Mathlib.Omega.{arith}
use lib.ListN.{length}
use Rattle.std.proofs.Common.{Result, Ok, Err, IsErr, IfOk}
use Rattle.std.proofs.lemmas.Result.{IfOk-from_err}
use Rattle.joining_rule.proofs.Only.{rising_shorter}
use Rattle.joining_rule.proofs.Lowest.{some_block}
use Rattle.key_set.specs.declared.Full.{Full}
use Rattle.key_set.proofs.Keys.{keys_rising, stored_none}
use Rattle.round_laws.specs.Joins.{Together, Has, Among, Parts}
use Rattle.round_laws.proofs.Joins.{joins_same, joins_then}
use Rattle.round_laws.proofs.Ending.{one_has}
use Rattle.joining_blocks.specs.declared.Reach.{Reach}
use Rattle.joining_blocks.specs.Standing.{Standing, standing, reached, support, Ready, Grew}
use Rattle.joining_products.proofs.Growing.{grown_length, stored_then}

reached_full : (r : Reach) (a : Result Reach Full) → IsErr a → reached r a ≡ record r { len = 2049 }
reached_full r (Ok q) e = cc
reached_full r (Err f) e = refl

module _ (T B : List ℕ) where
  abbrev n : ℕ
  n = length B

  -- where one block is left, or none, all pairs are in one
  pub has_few : (P : ℕ → ℕ → Type 0) (s : Standing) → Ready T B s → s.reach.blocks < 2 → Has P n s.labels
  has_few P s r h = record {
    at = λ x y hx hy p.
        let e = r.blocks.size in
        let z = some_block s.labels r.blocks.numbered (omega arith) in
        (one_has P s.labels r.blocks.numbered (omega (arith, r.count))).at x y (omega arith) (omega arith) p;
  }

  pub grew_same : (P : ℕ → ℕ → Type 0) (s : Standing) → Ready T B s → Has P n s.labels → Grew T B P s s
  grew_same P s r h = record {
    set = support s;
    stored = stored_none r.basis.support r.basis.index;
    within = record { rising = λ w. w; keeps = λ x m. m; only = λ M p l x m. inl m };
    same = record { since = refl; until = refl; bits = refl; adds = refl };
    fits = λ _. record { joins = joins_same n P s.labels r.blocks.numbered h; ready = r };
  }

  -- a joining that had no room for a key, and the answer that hands it on: the blocks say nothing then
  pub grew_full : (P : ℕ → ℕ → Type 0) (s : Standing) (L follow pairs t idx : List ℕ) (x : Reach) → Grew T B P s (standing L follow pairs t idx x) → x.len ≡ 2049
      → (a : Result Reach Full) → IsErr a → Grew T B P s (standing L follow pairs t idx (reached s.reach a)) × IfOk a (λ q. q.len ≤ 2048)
  grew_full P s L follow pairs t idx x g e a w = (
    rw (reached_full s.reach a w)
        (record {
          set = g.set;
          stored = rw e at g.stored;
          within = g.within;
          same = record { since = refl; until = refl; bits = refl; adds = refl };
          fits = λ b. absurd (omega arith);
        }),
    IfOk-from_err a _ w,
  )

  module _ (P R : ℕ → ℕ → Type 0) (s s' : Standing) (g : Grew T B P s s') where
    -- blocks that have L and R have P, and those that are left have R
    pub grew_to : ((M : List ℕ) → Has (Together s.labels) n M → Has R n M → Has P n M) → (s'.reach.len ≤ 2048 → Has P n s'.labels → Has R n s'.labels) → Grew T B R s s'
    grew_to f h = record {
      set = g.set;
      stored = g.stored;
      within = record { rising = g.within.rising; keeps = g.within.keeps; only = λ M r l. g.within.only M (f M l r) l };
      same = g.same;
      fits = λ b.
          let j = (g.fits b).joins in
          record { joins = record { long = j.long; numbered = j.numbered; keeps = j.keeps; joins = h b j.joins; only = λ M r l. j.only M (f M l r) l }; ready = (g.fits b).ready };
    }

    -- more pairs that are in one block afterwards
    pub grew_more : Among P R n → (s'.reach.len ≤ 2048 → Has P n s'.labels → Has R n s'.labels) → Grew T B R s s'
    grew_more p h = grew_to (λ M l r. record { at = λ x y hx hy q. r.at x y hx hy (p x y hx hy q) }) h

    -- the same pairs, told in another way
    pub grew_as : Among P R n → Among R P n → Grew T B R s s'
    grew_as p q = grew_more p (λ _ j. record { at = λ x y hx hy r. j.at x y hx hy (q x y hx hy r) })

    -- ended because one block is left, or because of too many keys
    pub grew_over : Among P R n → (s'.reach.blocks ≡ 1) ⊎ (2048 < s'.reach.len) → Grew T B R s s'
    grew_over p o =
        grew_more p
        (λ b _.
        ⊎_elim
        (λ e. has_few R s' (g.fits b).ready (omega arith))
        (λ k. absurd (omega arith))
        o)

  -- ---- two joinings one after the other; the second may be given up
  module _ (P Q R : ℕ → ℕ → Type 0) (s s' s'' : Standing) (r : Ready T B s) (b : s'.reach.len ≤ 2048) (g : Grew T B P s s') (h : Grew T B Q s' s'') where
    kept : support s' ≡ g.set
    kept = g.stored.grown.keys b

    grown : s.reach.len ≤ s'.reach.len
    grown =
        omega (
          arith,
          rising_shorter (support s) g.set (keys_rising s.reach.len s.table) (g.within.rising (keys_rising s.reach.len s.table)) g.within.keeps,
          r.basis.support.apart,
          grown_length g.set s.table s'.reach.len s'.table g.stored.grown b,
        )

    pub grew_then : Parts P Q R n → Grew T B R s s''
    grew_then c = record {
      set = h.set;
      stored = stored_then s.reach.len g.set s.table s'.reach.len s'.table s'.index grown b g.stored h.set s''.reach.len s''.table s''.index h.stored;
      within = record {
        rising = λ w. h.within.rising (keys_rising s'.reach.len s'.table);
        keeps = λ x m. h.within.keeps x (rw kept (g.within.keeps x m));
        only = λ M o l x m.
            let hp : Has P n M = record { at = λ y z hy hz e. o.at y z hy hz (c.left y z hy hz e) } in
            let hq : Has Q n M = record { at = λ y z hy hz e. o.at y z hy hz (c.right y z hy hz e) } in
            ⊎_elim
            (λ w. g.within.only M hp l x (rw kept at w))
            (λ w. inr (sym g.same.adds ∙ w.0, w.1))
            (h.within.only M hq ((g.fits b).joins.only M hp l) x m);
      };
      same = record {
        since = h.same.since ∙ g.same.since;
        until = h.same.until ∙ g.same.until;
        bits = h.same.bits ∙ g.same.bits;
        adds = h.same.adds ∙ g.same.adds;
      };
      fits = λ d.
          record {
            joins = joins_then n P Q R s.labels s'.labels s''.labels (g.fits b).joins (h.fits d).joins c.split c.left c.right;
            ready = (h.fits d).ready;
          };
    }

-- the loop ends with the second: it is one by all pairs that the loop is to join
pub grew_last : (T B : List ℕ) (P Q R : ℕ → ℕ → Type 0) (s s' s'' : Standing) → Ready T B s → s'.reach.len ≤ 2048 → Grew T B P s s' → Grew T B Q s' s''
    → Among P R (length B) → Among Q R (length B) → (s''.reach.blocks ≡ 1) ⊎ (2048 < s''.reach.len) → Grew T B R s s''
grew_last T B P Q R s s' s'' r b g h p q o =
    grew_over T B (λ x y. P x y ⊎ Q x y) R s s''
    (grew_then T B P Q (λ x y. P x y ⊎ Q x y) s s' s'' r b g h (record { split = λ x y _ _ w. w; left = λ x y _ _ w. inl w; right = λ x y _ _ w. inr w }))
    (λ x y hx hy w. ⊎_elim (p x y hx hy) (q x y hx hy) w)
    o
