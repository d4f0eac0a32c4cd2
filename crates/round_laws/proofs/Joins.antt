-- Laws of a joining by pairs of indices: one after another, there is one result only, and the rule's joining is it.
use mathlib.Core.Path.{◌≡◌, refl, sym, ap, ◌∙◌}
use mathlib.Core.Logic.{◌⊎◌, inl, inr, ⊎_elim}
use mathlib.Core.List.{List}
use Prim.Native.Nat.{ℕ, ◌+◌, ◌≤◌, ◌<◌}
use native.Mathlib.Omega.{arith}
use lib.ListN.{length, get_or}
use lib.Seq.{ext_get_or}
use Rattle.counting.proofs.Cases.{lt_or_le}
use Rattle.joining_rule.specs.Join.{merged, join_pair, join}
use Rattle.joining_rule.proofs.Numbered.{Numbered}
use Rattle.round_laws.specs.Joins.{Together, Has, Joins, Two, Through, Blocks, Recent}
use Rattle.joining_rule.proofs.Pairs.{pairs_keep}
use Rattle.joining_rule.proofs.Labels.{merged_long, pair_long, join_long}
use Rattle.joining_rule.proofs.Lowest.{merged_falls, join_falls}
use Rattle.joining_rule.proofs.Joined.{merged_equal, merged_one, pair_equal, join_joined}
use Rattle.joining_rule.proofs.Least.{Equivalence, Inside, merged_inside, links_inside}
use Rattle.joining_rule.proofs.Members.{linked_from, linked_by}

-- blocks are an equivalence
together : (M : List ℕ) → Equivalence (Together M)
together M = record {
  reflexive = λ x. record { same = refl };
  symmetric = λ x y p. record { same = sym p.same };
  transitive = λ x y z p q. record { same = p.same ∙ q.same };
}

inside : (n : ℕ) (L M : List ℕ) → length L ≡ n → Has (Together L) n M → Inside (Together M) n L
inside n L M e h = record { long = e; at = λ x y hx hy q. h.at x y hx hy (record { same = q }) }

-- two indices in any order
pub has_ordered : (P : ℕ → ℕ → Type 0) (n : ℕ) (L : List ℕ) → ((x y : ℕ) → P x y → P y x) → ((x y : ℕ) → x < y → y < n → P x y → Together L x y) → Has P n L
has_ordered P n L turned h = record {
  at = λ x y hx hy p.
      ⊎_elim
      (λ o. h x y o hy p)
      (λ o. ⊎_elim (λ w. record { same = sym (h y x w hx (turned x y p)).same }) (λ w. let q : x ≡ y = omega arith in record { same = ap (λ (z : ℕ). get_or L z 0) q }) (lt_or_le y x))
      (lt_or_le x y);
}

module _ (n : ℕ) where
  -- nothing to be joined
  pub joins_same : (P : ℕ → ℕ → Type 0) (L : List ℕ) → Numbered L → Has P n L → Joins P n L L
  joins_same P L k h = record { long = refl; numbered = k; keeps = record { at = λ x y _ _ p. p }; joins = h; only = λ M _ q. q }

  -- two joinings one after the other
  pub joins_then : (P Q R : ℕ → ℕ → Type 0) (L L' L'' : List ℕ) → Joins P n L L' → Joins Q n L' L''
      → ((x y : ℕ) → x < n → y < n → R x y → P x y ⊎ Q x y) → ((x y : ℕ) → x < n → y < n → P x y → R x y) → ((x y : ℕ) → x < n → y < n → Q x y → R x y) → Joins R n L L''
  joins_then P Q R L L' L'' a b split p q = record {
    long = b.long ∙ a.long;
    numbered = b.numbered;
    keeps = record { at = λ x y hx hy e. b.keeps.at x y hx hy (a.keeps.at x y hx hy e) };
    joins = record { at = λ x y hx hy r. ⊎_elim (λ e. b.keeps.at x y hx hy (a.joins.at x y hx hy e)) (b.joins.at x y hx hy) (split x y hx hy r) };
    only = λ M r l. b.only M (record { at = λ x y hx hy e. r.at x y hx hy (q x y hx hy e) }) (a.only M (record { at = λ x y hx hy e. r.at x y hx hy (p x y hx hy e) }) l);
  }

  -- more pairs that are in one block afterwards
  pub joins_more : (P R : ℕ → ℕ → Type 0) (L L' : List ℕ) → Joins P n L L' → ((x y : ℕ) → x < n → y < n → P x y → R x y) → Has R n L' → Joins R n L L'
  joins_more P R L L' a p h = record {
    long = a.long;
    numbered = a.numbered;
    keeps = a.keeps;
    joins = h;
    only = λ M r l. a.only M (record { at = λ x y hx hy e. r.at x y hx hy (p x y hx hy e) }) l;
  }

  -- the same pairs, told in another way
  pub joins_as : (P R : ℕ → ℕ → Type 0) (L L' : List ℕ) → Joins P n L L' → ((x y : ℕ) → x < n → y < n → R x y → Together L x y ⊎ P x y) → ((x y : ℕ) → x < n → y < n → P x y → R x y) → Joins R n L L'
  joins_as P R L L' a split p =
      joins_more P R L L' a p (record { at = λ x y hx hy r. ⊎_elim (a.keeps.at x y hx hy) (a.joins.at x y hx hy) (split x y hx hy r) })

  -- a block's number in M is at most its number in L, where M has the blocks of L
  lower : (L M : List ℕ) → length L ≡ n → length M ≡ n → Numbered L → Numbered M → Has (Together L) n M → (x : ℕ) → x < n → get_or M x 0 ≤ get_or L x 0
  lower L M e f k m h x hx =
      let u = k.lowest x (omega arith) in
      omega (arith, (h.at (get_or L x 0) x (omega arith) hx (record { same = k.own x (omega arith) })).same, m.lowest (get_or L x 0) (omega arith))

  -- there is one result only
  pub joins_once : (P : ℕ → ℕ → Type 0) (L L' L'' : List ℕ) → length L ≡ n → Joins P n L L' → Joins P n L L'' → L' ≡ L''
  joins_once P L L' L'' e a b =
      let f : length L' ≡ n = a.long ∙ e in
      let g : length L'' ≡ n = b.long ∙ e in
      ext_get_or 0 L' L'' (f ∙ sym g)
      (λ x h.
      omega (arith, lower L' L'' f g a.numbered b.numbered (a.only L'' b.joins b.keeps) x (omega arith), lower L'' L' g f b.numbered a.numbered (b.only L' a.joins a.keeps) x (omega arith)))

-- the blocks of i and k made one
pub joins_two : (L : List ℕ) → Numbered L → (i k : ℕ) → i < length L → k < length L → Joins (Two i k) (length L) L (merged (get_or L i 0) (get_or L k 0) L)
joins_two L m i k hi hk = record {
  long = merged_long _ _ L;
  numbered = (merged_falls L m i k hi hk).numbered;
  keeps = record { at = λ x y hx hy e. record { same = merged_equal _ _ L x y hx hy e.same } };
  joins = record { at = λ x y hx hy e. record { same = rw (e.first, e.second) (merged_one L i k hi hk) } };
  only = λ M p l.
      record {
        at = λ x y hx hy e.
            (merged_inside (Together M) (together M) (length L) L i k hi hk (p.at i k hi hk (record { first = refl; second = refl })) (inside (length L) L M refl l)).at x y hx hy e.same;
      };
}

module _ (S T B L : List ℕ) (b : Blocks B L) where
  join_keeps : (x y : ℕ) → x < length B → y < length B → get_or L x 0 ≡ get_or L y 0 → get_or (join S T B L) x 0 ≡ get_or (join S T B L) y 0
  unfolding join
  join_keeps x y hx hy e =
      (pairs_keep (length B) (λ i. i + 1) (join_pair S T B) (λ M. (length M ≡ length B) × (get_or M x 0 ≡ get_or M y 0))
      (λ i k M _ _ _ f. (pair_long S T B i k M ∙ f.0, pair_equal S T B x y i k M (omega (arith, f.0)) (omega (arith, f.0)) f.1))
      L (b.long, e)).1

  -- the rule's joining is the joining by the pairs that S links
  pub join_is : Joins (Through T B S) (length B) L (join S T B L)
  join_is = record {
    long = join_long S T B L;
    numbered = (join_falls S T B L b.long b.numbered).numbered;
    keeps = record { at = λ x y hx hy e. record { same = join_keeps x y hx hy e.same } };
    joins = record { at = λ x y hx hy e. record { same = (join_joined S T B L b.long).at x y hx hy (linked_by S T _ e.t e.exponent e.hits) } };
    only = λ M p l.
        record {
          at = λ x y hx hy e.
              (links_inside (Together M) (together M) S T B (λ i k hi hk q. linked_from S T (get_or B i 0 + get_or B k 0) (λ t h m. p.at i k hi hk (record { t = t; exponent = h; hits = m })) q) L (inside (length B) L M b.long l)).at x y hx hy e.same;
        };
  }

  -- so is the joining by those that the members that came last link
  pub fresh_is : (F L' : List ℕ) → Recent S T B L F → Joins (Through T B F) (length B) L L' → L' ≡ join S T B L
  fresh_is F L' r a =
      joins_once (length B) (Through T B S) L L' (join S T B L) b.long
      (joins_as (length B) (Through T B F) (Through T B S) L L' a
      (λ x y hx hy e. ⊎_elim (λ w. inl w) (λ w. inr (record { t = e.t; exponent = e.exponent; hits = w })) (r.at x y e.t hx hy e.exponent e.hits))
      (λ x y hx hy e. record { t = e.t; exponent = e.exponent; hits = r.members _ e.hits }))
      join_is
