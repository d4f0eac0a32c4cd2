-- How the support grows with the blocks of one basis: nothing, a merge, and one after the other. Where a joining is
-- given up because of too many keys, all that came in belongs to the blocks that it would have ended in.
use mathlib.Core.Path.{◌≡◌, refl, sym, ◌∙◌}
use mathlib.Core.Logic.{◌⊎◌, inl, inr, ⊎_elim}
use mathlib.Core.Bool.{Bool, true, false}
use mathlib.Core.List.{List}
use Prim.Native.Nat.{ℕ, ◌<◌}
use native.Mathlib.Omega.{arith}
use lib.ListN.{length, get_or}
use Rattle.counting.proofs.Cases.{never}
use Rattle.counting.proofs.Listed.{same_or_not}
use Rattle.joining_rule.specs.Join.{merged}
use Rattle.joining_rule.proofs.Labels.{InOne, merged_at, two_low, in_one_lem}
use Rattle.joining_rule.proofs.Labels.InOne.{two, other}
use Rattle.round_laws.specs.Added.{PairProduct, NewProduct, Between, Within, CrossProduct, Crossed}
use Rattle.round_laws.specs.Joins.{Together, Has, Joins, Two}

-- blocks that have other blocks have all pairs that these have
pub has_then : (P : ℕ → ℕ → Type 0) (n : ℕ) (L L' : List ℕ) → Has P n L → Has (Together L) n L' → Has P n L'
has_then P n L L' p h = record { at = λ x y hx hy q. h.at x y hx hy (p.at x y hx hy q) }

module _ (T B : List ℕ) where
  -- a product of a pair in one block is one in blocks that have these
  product_in : (L M : List ℕ) (x : ℕ) → Has (Together L) (length B) M → PairProduct T B L x → PairProduct T B M x
  product_in L M x h p = record {
    i = p.i;
    k = p.k;
    t = p.t;
    first = p.first;
    second = p.second;
    exponent = p.exponent;
    together = (h.at p.i p.k p.first p.second (record { same = p.together })).same;
    value = p.value;
  }

  module _ (adding : Bool) where
    -- ---- nothing is joined
    pub between_same : (L S : List ℕ) → Between adding T B L L S S
    between_same L S = record { rising = λ r. r; keeps = λ x m. m; adds = λ a x p. absurd (p.apart p.product.together); only = λ x m. inl m }

    -- ---- one joining after another
    module _ (L L' L'' S S' S'' : List ℕ) (h : Has (Together L) (length B) L') (b : Between adding T B L L' S S') where
      sooner : (x : ℕ) → Has (Together L') (length B) L'' → NewProduct T B L L' x → NewProduct T B L L'' x
      unfolding product_in
      sooner x k p = record { product = product_in L' L'' x k p.product; apart = p.apart }

      later : (x : ℕ) → NewProduct T B L' L'' x → NewProduct T B L L'' x
      later x p = record {
        product = p.product;
        apart = λ e. p.apart (h.at p.product.i p.product.k p.product.first p.product.second (record { same = e })).same;
      }

      pub between_then : Has (Together L') (length B) L'' → Between adding T B L' L'' S' S'' → Between adding T B L L'' S S''
      between_then k c = record {
        rising = λ r. c.rising (b.rising r);
        keeps = λ x m. c.keeps x (b.keeps x m);
        adds = λ a x p.
            let q = p.product in
            ⊎_elim
            (λ e.
            c.keeps x
            (b.adds a x
            (record {
              product = record { i = q.i; k = q.k; t = q.t; first = q.first; second = q.second; exponent = q.exponent; together = e; value = q.value };
              apart = p.apart;
            })))
            (λ d. c.adds a x (record { product = q; apart = d }))
            (same_or_not (get_or L' q.i 0) (get_or L' q.k 0));
        only = λ x m.
            ⊎_elim
            (λ w. ⊎_elim (λ n. inl n) (λ p. inr (p.0, sooner x k p.1)) (b.only x w))
            (λ p. inr (p.0, later x p.1))
            (c.only x m);
      }

      -- the second may be given up
      pub within_then : (P Q R : ℕ → ℕ → Type 0) → Joins P (length B) L L' → Within adding Q T B L' S' S''
          → ((x y : ℕ) → x < length B → y < length B → P x y → R x y) → ((x y : ℕ) → x < length B → y < length B → Q x y → R x y)
          → Within adding R T B L S S''
      within_then P Q R j c p q = record {
        rising = λ r. c.rising (b.rising r);
        keeps = λ x m. c.keeps x (b.keeps x m);
        only = λ M r l x m.
            let k = j.only M (record { at = λ y z hy hz e. r.at y z hy hz (p y z hy hz e) }) l in
            ⊎_elim
            (λ w. ⊎_elim (λ n. inl n) (λ v. inr (v.0, product_in L' M x k v.1.product)) (b.only x w))
            (λ w. inr w)
            (c.only M (record { at = λ y z hy hz e. r.at y z hy hz (q y z hy hz e) }) k x m);
      }

    -- a joining that is not given up
    pub between_within : (P : ℕ → ℕ → Type 0) (L L' S S' : List ℕ) → Joins P (length B) L L' → Between adding T B L L' S S' → Within adding P T B L S S'
    between_within P L L' S S' j b = record {
      rising = b.rising;
      keeps = b.keeps;
      only = λ M p l x m. ⊎_elim (λ n. inl n) (λ w. inr (w.0, product_in L' M x (j.only M p l) w.1.product)) (b.only x m);
    }

    -- more pairs
    pub within_as : (P R : ℕ → ℕ → Type 0) (L S S' : List ℕ) → Within adding P T B L S S' → ((x y : ℕ) → x < length B → y < length B → P x y → R x y) → Within adding R T B L S S'
    within_as P R L S S' w p = record {
      rising = w.rising;
      keeps = w.keeps;
      only = λ M r l. w.only M (record { at = λ x y hx hy e. r.at x y hx hy (p x y hx hy e) }) l;
    }

  -- ---- a basis that does not add
  pub between_none : (L L' S : List ℕ) → Between false T B L L' S S
  between_none L L' S = record { rising = λ r. r; keeps = λ x m. m; adds = λ a. never a; only = λ x m. inl m }

  -- ---- two blocks made one
  module _ (L : List ℕ) (a b : ℕ) (long : length L ≡ length B) (S S' : List ℕ) (c : Crossed T B L a b S S') where
    -- two that became one were one, or one of each
    became : {u v w z : ℕ} → InOne a b u w → InOne a b v z → w ≡ z → (u ≡ v) ⊎ (((u ≡ a) × (v ≡ b)) ⊎ ((u ≡ b) × (v ≡ a)))
    became (two (inl h)) (two (inl k)) e = inl (h ∙ sym k)
    became (two (inl h)) (two (inr k)) e = inr (inl (h, k))
    became (two (inr h)) (two (inl k)) e = inr (inr (h, k))
    became (two (inr h)) (two (inr k)) e = inl (h ∙ sym k)
    became (two h) (other k l) e = absurd (omega arith)
    became (other h i) (two k) e = absurd (omega arith)
    became (other h i) (other k l) e = inl e

    pub merge_between : (a ≡ b → ⊥) → Between true T B L (merged a b L) S S'
    merge_between d = record {
      rising = c.rising;
      keeps = c.keeps;
      adds = λ _ x p.
          let q = p.product in
          let u : q.i < length L = omega (arith, q.first) in
          let v : q.k < length L = omega (arith, q.second) in
          c.adds x
          (⊎_elim (λ e. absurd (p.apart e))
          (⊎_elim
          (λ e. record { i = q.i; k = q.k; t = q.t; first = q.first; second = q.second; exponent = q.exponent; low = e.0; high = e.1; value = q.value })
          (λ e. record { i = q.k; k = q.i; t = q.t; first = q.second; second = q.first; exponent = q.exponent; low = e.1; high = e.0; value = omega (arith, q.value) }))
          (became (in_one_lem a b (get_or L q.i 0)) (in_one_lem a b (get_or L q.k 0)) (sym (merged_at a b L q.i u) ∙ q.together ∙ merged_at a b L q.k v)));
      only = λ x m. ⊎_elim (λ n. inl n) (λ w. inr (refl, new x w)) (c.only x m);
    }
      where
        new : (x : ℕ) → CrossProduct T B L a b x → NewProduct T B L (merged a b L) x
        new x w = record {
          product = record {
            i = w.i;
            k = w.k;
            t = w.t;
            first = w.first;
            second = w.second;
            exponent = w.exponent;
            together =
                merged_at a b L w.i (omega (arith, w.first)) ∙ two_low a b (get_or L w.i 0) (inl w.low)
                ∙ sym (merged_at a b L w.k (omega (arith, w.second)) ∙ two_low a b (get_or L w.k 0) (inr w.high));
            value = w.value;
          };
          apart = λ e. d (sym w.low ∙ e ∙ w.high);
        }

    -- and given up, where a and b are the blocks of the indices i and k
    pub cross_within : (i k : ℕ) → i < length B → k < length B → get_or L i 0 ≡ a → get_or L k 0 ≡ b → Within true (Two i k) T B L S S'
    cross_within i k hi hk ei ek = record {
      rising = c.rising;
      keeps = c.keeps;
      only = λ M p l x m.
          ⊎_elim (λ n. inl n)
          (λ w.
          inr (
            refl,
            record {
              i = w.i;
              k = w.k;
              t = w.t;
              first = w.first;
              second = w.second;
              exponent = w.exponent;
              together =
                  (l.at w.i i w.first hi (record { same = w.low ∙ sym ei })).same
                  ∙ (p.at i k hi hk (record { first = refl; second = refl })).same
                  ∙ (l.at k w.k hk w.second (record { same = ek ∙ sym w.high })).same;
              value = w.value;
            },
          ))
          (c.only x m);
    }
