-- The support in the rounds is the start and the products of every pair in one block: a basis whose pairs that come
-- into one block add their products keeps it so, there is one such set only, and the set after a round is it.
use mathlib.Core.Path.{◌≡◌, refl, sym, subst}
use mathlib.Core.Logic.{◌⊎◌, inl, inr, ⊎_elim}
use mathlib.Core.List.{List, []}
use Prim.Native.Nat.{ℕ, ◌≤◌, ◌<◌}
use native.Mathlib.Omega.{arith}
use lib.Dec.{ltb}
use lib.ListN.{length, get_or, set}
use lib.Seq.{get_or-set_same, get_or-set_other}
use borrow.Author.Tests.{ltb-true, lt-ltb}
use Rattle.counting.proofs.Listed.{same_or_not}
use Rattle.joining_rule.specs.Sets.{In}
use Rattle.joining_rule.specs.Rounds.{Bases, State, join_all, extend_to, adding_bases, round}
use Rattle.joining_rule.specs.Meaning.{sum_of}
use Rattle.joining_rule.proofs.Rising.{Rising}
use Rattle.joining_rule.proofs.Joined.{join_equal}
use Rattle.joining_rule.proofs.Full.{full_any}
use Rattle.joining_rule.proofs.Products.{products_extend, products_full, products_within}
use Rattle.joining_rule.proofs.Rounds.{Shaped, round_labels, round_shaped, adding_most}
use Rattle.joining_rule.proofs.Only.{rising_same, rising_shorter}
use Rattle.round_laws.specs.Added.{Product, Products, PairProduct, Between, Within}
use Rattle.round_laws.specs.Joins.{Together, Has}

module _ (n : ℕ) (g : Bases) (S₀ : List ℕ) where
  -- there is one such set only
  pub products_once : (L : List (List ℕ)) (S S' : List ℕ) → Products n g L S₀ S → Products n g L S₀ S' → S ≡ S'
  products_once L S S' p q =
      rising_same S S' p.rising q.rising (λ x m. ⊎_elim (q.starts x) (q.full x) (p.only x m)) (λ x m. ⊎_elim (p.starts x) (p.full x) (q.only x m))

  -- blocks that are kept together keep their products
  pub product_grows : (L L' : List (List ℕ)) (x : ℕ)
      → ((j i k : ℕ) → j < n → i < length (g.basis j) → k < length (g.basis j) → get_or (get_or L j []) i 0 ≡ get_or (get_or L j []) k 0 → get_or (get_or L' j []) i 0 ≡ get_or (get_or L' j []) k 0)
      → Product n g L x → Product n g L' x
  product_grows L L' x h c = record {
    j = c.j;
    i = c.i;
    k = c.k;
    t = c.t;
    adding = c.adding;
    pair = c.pair;
    together = h c.j c.i c.k c.adding c.pair.first c.pair.second c.together;
    value = c.value;
  }

  -- a product of one basis is one of all
  pair_product : (L : List (List ℕ)) (j : ℕ) (M : List ℕ) (x : ℕ) → j < n → j < 9 → get_or L j [] ≡ M → PairProduct (g.multiplier j) (g.basis j) M x → Product n g L x
  pair_product L j M x adding nine e w = record {
    j = j;
    i = w.i;
    k = w.k;
    t = w.t;
    adding = adding;
    pair = record { basis = nine; first = w.first; second = w.second; exponent = w.exponent };
    together = rw e w.together;
    value = w.value;
  }

  -- an extension by the blocks L makes it so, of any set between the start and it
  pub extend_products : n ≤ 9 → (L : List (List ℕ)) (S : List ℕ) → Shaped g L → Rising S → ((x : ℕ) → In x S₀ → In x S) → ((x : ℕ) → In x S → In x S₀ ⊎ Product n g L x)
      → Products n g L S₀ (extend_to n g L S)
  extend_products nine L S f r starts only = record {
    rising = (products_extend n g L S).rising r;
    starts = λ x m. (products_extend n g L S).keeps x (starts x m);
    full = λ x c.
        rw (← c.value)
        (full_any (g.multiplier c.j) (g.basis c.j) (get_or L c.j []) (extend_to n g L S) ((products_full n g L S).at c.j c.adding) c.i c.k c.t c.pair.first c.pair.second c.together c.pair.exponent);
    only = (products_within n g L (λ j i k. get_or (get_or L j []) i 0 ≡ get_or (get_or L j []) k 0) (λ x. In x S₀ ⊎ Product n g L x)
        (λ j h.
        record {
          adds = λ i k t a b e m.
              inr (record { j = j; i = i; k = k; t = t; adding = h; pair = record { basis = omega arith; first = a; second = b; exponent = m }; together = e; value = refl });
        })
        (λ j h. record { long = f.long j (omega arith); at = λ x y _ _ e. e })
        S (record { at = only })).at;
  }

  -- ---- basis j with blocks M instead of L
  module _ (L : List (List ℕ)) (S S' : List ℕ) (p : Products n g L S₀ S) (j : ℕ) (nine : j < 9) (inside : j < length L) (M : List ℕ) (coarser : Has (Together (get_or L j [])) (length (g.basis j)) M) where
    abbrev L' : List (List ℕ)
    L' = set L j M

    here : get_or L' j [] ≡ M
    here = get_or-set_same L j M [] inside

    elsewhere : (y : ℕ) → (j ≡ y → ⊥) → get_or L' y [] ≡ get_or L y []
    elsewhere y d = get_or-set_other L j y M [] (λ q. d (sym q))

    kept : (y i k : ℕ) → y < n → i < length (g.basis y) → k < length (g.basis y) → get_or (get_or L y []) i 0 ≡ get_or (get_or L y []) k 0 → get_or (get_or L' y []) i 0 ≡ get_or (get_or L' y []) k 0
    kept y i k h u v e =
        ⊎_elim
        (λ q. subst (λ (z : ℕ). i < length (g.basis z) → k < length (g.basis z) → get_or (get_or L z []) i 0 ≡ get_or (get_or L z []) k 0 → get_or (get_or L' z []) i 0 ≡ get_or (get_or L' z []) k 0) q
        (λ u v e. rw here (coarser.at i k u v (record { same = e })).same) u v e)
        (λ d. let f = elsewhere y d in rw f e)
        (same_or_not j y)

    -- where S grew as the blocks of this basis did, its products are those of the new blocks
    pub between_products : Between (ltb j n) (g.multiplier j) (g.basis j) (get_or L j []) M S S' → Products n g L' S₀ S'
    between_products c = record {
      rising = c.rising p.rising;
      starts = λ x m. c.keeps x (p.starts x m);
      full = λ x q.
          ⊎_elim
          (λ e.
          subst (λ (z : ℕ). z < n → q.i < length (g.basis z) → q.k < length (g.basis z) → In q.t (g.multiplier z) → get_or (get_or L' z []) q.i 0 ≡ get_or (get_or L' z []) q.k 0 → sum_of g z q.i q.k q.t ≡ x → In x S')
          e (at_here x q.i q.k q.t) q.adding q.pair.first q.pair.second q.pair.exponent q.together q.value)
          (λ d. c.keeps x (p.full x (before x q (let f = elsewhere q.j d in rw f at q.together))))
          (same_or_not j q.j);
      only = λ x m.
          ⊎_elim (λ w. ⊎_elim (λ s. inl s) (λ q. inr (product_grows L L' x kept q)) (p.only x w)) (λ w. inr (pair_product L' j M x (ltb-true j n w.0) nine here w.1.product)) (c.only x m);
    }
      where
        before : (x : ℕ) (q : Product n g L' x) → get_or (get_or L q.j []) q.i 0 ≡ get_or (get_or L q.j []) q.k 0 → Product n g L x
        before x q e = record { j = q.j; i = q.i; k = q.k; t = q.t; adding = q.adding; pair = q.pair; together = e; value = q.value }

        at_here : (x i k t : ℕ) → j < n → i < length (g.basis j) → k < length (g.basis j) → In t (g.multiplier j) → get_or (get_or L' j []) i 0 ≡ get_or (get_or L' j []) k 0 → sum_of g j i k t ≡ x → In x S'
        at_here x i k t adding hi hk m w v =
            ⊎_elim
            (λ s. c.keeps x (p.full x (record { j = j; i = i; k = k; t = t; adding = adding; pair = record { basis = nine; first = hi; second = hk; exponent = m }; together = s; value = v })))
            (λ d. c.adds (lt-ltb j n adding) x (record { product = record { i = i; k = k; t = t; first = hi; second = hk; exponent = m; together = rw here at w; value = v }; apart = d }))
            (same_or_not (get_or (get_or L j []) i 0) (get_or (get_or L j []) k 0))

  -- where the joining of basis j is given up: all that came in is in the set of any blocks that have the blocks L and
  -- what was to be joined, so that set has as many keys
  pub within_products : (L L'' : List (List ℕ)) (S S' S'' : List ℕ) → Products n g L S₀ S → Products n g L'' S₀ S''
      → ((j i k : ℕ) → j < 9 → i < length (g.basis j) → k < length (g.basis j) → get_or (get_or L j []) i 0 ≡ get_or (get_or L j []) k 0 → get_or (get_or L'' j []) i 0 ≡ get_or (get_or L'' j []) k 0)
      → n ≤ 9 → (j : ℕ) → j < 9 → (P : ℕ → ℕ → Type 0) → Has P (length (g.basis j)) (get_or L'' j [])
      → Within (ltb j n) P (g.multiplier j) (g.basis j) (get_or L j []) S S' → length S' ≤ length S''
  within_products L L'' S S' S'' p q coarser most j nine P has w =
      rising_shorter S' S'' (w.rising p.rising) q.rising
      (λ x m.
      ⊎_elim
      (λ s. ⊎_elim (q.starts x) (λ c. q.full x (product_grows L L'' x (λ y i k h. coarser y i k (omega arith)) c)) (p.only x s))
      (λ c. q.full x (pair_product L'' j (get_or L'' j []) x (ltb-true j n c.0) nine refl c.1))
      (w.only (get_or L'' j []) has (record { at = λ i k hi hk e. record { same = coarser j i k nine hi hk e.same } }) x m))

-- A round of the definition joins every basis on the set S before it and then adds all products. Where the joining
-- looked at S alone and left the blocks of the definition, and the set that grew meanwhile is the start and the
-- products of these blocks, it is the set of the definition. In the first round S is the start itself; later it is the
-- start and the products of the blocks before.
pub round_agrees : (rule : ℕ) (g : Bases) (S₀ : List ℕ) (s : State) (S' : List ℕ) → Shaped g s.labels → Rising s.support → ((x : ℕ) → In x S₀ → In x s.support)
    → ((x : ℕ) → In x s.support → In x S₀ ⊎ Product (adding_bases rule) g s.labels x) → Products (adding_bases rule) g (round rule g s).labels S₀ S' → S' ≡ (round rule g s).support
unfolding round
round_agrees rule g S₀ s S' f r starts only p =
    products_once (adding_bases rule) g S₀ (join_all g s.support s.labels) S' _ p
    (extend_products (adding_bases rule) g S₀ (adding_most rule) (join_all g s.support s.labels) s.support (round_shaped rule g s f) r starts
    (λ x m.
    ⊎_elim (λ q. inl q)
    (λ c. inr (product_grows (adding_bases rule) g S₀ s.labels (join_all g s.support s.labels) x (stays rule g s f) c))
    (only x m)))
  where
    stays : (rule : ℕ) (g : Bases) (s : State) → Shaped g s.labels → (j i k : ℕ) → j < adding_bases rule → i < length (g.basis j) → k < length (g.basis j)
        → get_or (get_or s.labels j []) i 0 ≡ get_or (get_or s.labels j []) k 0 → get_or (get_or (join_all g s.support s.labels) j []) i 0 ≡ get_or (get_or (join_all g s.support s.labels) j []) k 0
    stays rule g s f j i k h a b e =
        let nine : j < 9 = omega (arith, adding_most rule) in
        rw (round_labels rule g s j nine) (join_equal s.support (g.multiplier j) (g.basis j) (get_or s.labels j []) (f.long j nine) i k a b e)
