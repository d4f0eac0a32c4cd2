-- The keys that are counted for refusal 7 and compared in the identity: the S reached, the zero exponent and all in-block
-- products t + b + b'. These and no others, and under rule 1 the products are in S already.
use mathlib.Core.Path.{◌≡◌, refl, sym, ap}
use mathlib.Core.Logic.{◌⊎◌, inl, inr, ⊎_elim}
use mathlib.Core.Bool.{Bool, true, false}
use mathlib.Core.List.{List}
use Prim.Native.Nat.{ℕ, ◌≤◌, ◌<◌}
use native.Mathlib.Nat.{eq-or-lt_of_le}
use native.Mathlib.Omega.{arith}
use lib.ListN.{length}
use Rattle.counting.proofs.Cases.{clash}
use Rattle.joining_rule.specs.Sets.{In, member, insert}
use Rattle.joining_rule.specs.Rounds.{Bases, State, start, adding_bases, after, closing_of, counted_keys}
use Rattle.joining_rule.specs.Meaning.{sum_of, Pair}
use Rattle.joining_rule.proofs.Rising.{Rising}
use Rattle.joining_rule.proofs.Elements.{in_insert, insert_in, insert_member, length_insert_new, insert_grows}
use Rattle.joining_rule.proofs.Extending.{Extends, extends_trans, insert_extends, full_keeps}
use Rattle.joining_rule.proofs.Full.{full_any}
use Rattle.joining_rule.proofs.Products.{AllFull, products_extend, products_full, products_within, products_done, products_same}
use Rattle.joining_rule.proofs.Rounds.{Shaped, adding_all, after_extends}
use Rattle.joining_rule.proofs.Monotone.{label_in, Below}
use Rattle.joining_rule.proofs.Closing.{closing_state, closing_full, closing_rising, after_rising}

-- x is a t + b + b' with b and b' in one block of the same j
pub record Product (g : Bases) (label : ℕ → ℕ → ℕ) (x : ℕ) : Type 0 where
  pub basis : ℕ
  pub first : ℕ
  pub second : ℕ
  pub exponent : ℕ
  pub pair : Pair g basis first second exponent
  pub block : label basis first ≡ label basis second
  pub sum : sum_of g basis first second exponent ≡ x

-- ---- what they are
module _ (g : Bases) (s : State) where
  pub counted_zero : In 0 (counted_keys g s)
  unfolding counted_keys
  counted_zero = insert_in 0 _

  -- they have the products of all nine bases
  pub counted_full : AllFull 9 g (record { labels = s.labels; support = counted_keys g s })
  unfolding counted_keys
  counted_full = record {
    at = λ j h. full_keeps _ _ _ _ _ (insert_extends 0 _) ((products_full 9 g s.labels s.support).at j h);
  }

  -- and are S grown
  pub counted_extends : Extends s.support (counted_keys g s)
  unfolding counted_keys
  counted_extends = extends_trans _ _ _ (products_extend 9 g s.labels s.support) (insert_extends 0 _)

  -- every t + b + b' with b and b' in one block is one of them
  pub counted_product : (x : ℕ) → Product g (label_in s) x → In x (counted_keys g s)
  counted_product x p =
      rw (← p.sum) (full_any _ _ _ _ (counted_full.at p.basis p.pair.basis) p.first p.second p.exponent p.pair.first p.pair.second p.block p.pair.exponent)

  -- and each of them is the zero exponent, of S, or such a sum
  pub counted_from : Shaped g s.labels → (x : ℕ) → In x (counted_keys g s) → (x ≡ 0) ⊎ (In x s.support ⊎ Product g (label_in s) x)
  unfolding counted_keys
  counted_from shaped x m =
      ⊎_elim (λ e. inl (sym e))
      (λ n.
      inr ((products_within 9 g s.labels (λ j i k. label_in s j i ≡ label_in s j k) (λ y. In y s.support ⊎ Product g (label_in s) y)
      (λ j h. record {
        adds = λ i k t a b e q.
            inr (record { basis = j; first = i; second = k; exponent = t; pair = record { basis = h; first = a; second = b; exponent = q }; block = e; sum = refl });
      })
      (λ j h. record { long = shaped.long j h; at = λ i k a b e. e })
      s.support (record { at = λ y q. inl q })).at x n))
      (in_insert x 0 _ m)

  pub counted_rising : Rising s.support → Rising (counted_keys g s)
  counted_rising r = counted_extends.rising r

-- ---- a state within another one has all its counted keys among the other's
pub counted_inside : (g : Bases) (s s' : State) → Shaped g s.labels → Below g s s' → (x : ℕ) → In x (counted_keys g s) → In x (counted_keys g s')
counted_inside g s s' shaped below x m =
    ⊎_elim
    (λ e. rw e (counted_zero g s'))
    (λ n. ⊎_elim (λ q. (counted_extends g s').keeps x (below.set x q)) (λ p. counted_product g s' x (moved p)) n)
    (counted_from g s shaped x m)
  where
    moved : Product g (label_in s) x → Product g (label_in s') x
    moved p = record {
      basis = p.basis;
      first = p.first;
      second = p.second;
      exponent = p.exponent;
      pair = p.pair;
      block = below.blocks p.basis p.first p.second p.pair.basis p.pair.first p.pair.second p.block;
      sum = p.sum;
    }

-- bases that agree have the same counted keys
pub counted_same : (g h : Bases) → ((j : ℕ) → j < 9 → g.basis j ≡ h.basis j) → ((j : ℕ) → j < 9 → g.multiplier j ≡ h.multiplier j)
    → (s : State) → counted_keys g s ≡ counted_keys h s
unfolding counted_keys
counted_same g h b m s = ap (insert 0) (products_same 9 g h b m s.labels s.support)

module _ (rule most : ℕ) (g : Bases) (S₀ : List ℕ) (rising : Rising S₀) where
  -- where all bases add, as under rule 1, S has the products already after a round, and they add nothing
  pub products_nothing : 0 < most → adding_bases rule ≡ 9 → counted_keys g (closing_of rule most g S₀).state ≡ insert 0 (closing_of rule most g S₀).state.support
  unfolding counted_keys
  products_nothing b e =
      ap (insert 0) (products_done 9 g (closing_of rule most g S₀).state.labels (closing_of rule most g S₀).state.support
      (closing_rising rule most g S₀ rising) (rw e at (closing_full rule most g S₀ b)))

  -- ---- what is counted grows with the rounds
  -- a set that grows has no fewer members with k added
  insert_more : (k : ℕ) (S S' : List ℕ) → Rising S → Extends S S' → length (insert k S) ≤ length (insert k S')
  insert_more k S S' r x = go (member k S) refl (member k S') refl
    where
      go : (b : Bool) → member k S ≡ b → (d : Bool) → member k S' ≡ d → length (insert k S) ≤ length (insert k S')
      go true e d f = rw (insert_member k S r e) (omega (arith, x.more, insert_grows k S'))
      go false e true f =
          ⊎_elim (λ q. let w : S' ≡ S = x.same (sym q) in clash (cc)) (λ l. omega (arith, length_insert_new k S e, insert_grows k S')) (eq-or-lt_of_le x.more)
      go false e false f = omega (arith, length_insert_new k S e, length_insert_new k S' f, x.more)

  -- with the zero exponent added, S has no more members after any of the rounds than are counted in the end
  pub counted_more : (k : ℕ) → k ≤ (closing_of rule most g S₀).rounds
      → length (insert 0 (after rule g (start g S₀) k).support) ≤ length (counted_keys g (closing_of rule most g S₀).state)
  unfolding counted_keys
  counted_more k h =
      let x = after_extends rule g (start g S₀) k (closing_of rule most g S₀).rounds h in
      insert_more 0 _ _ (after_rising rule g S₀ rising k) (extends_trans _ _ _ (rw (← closing_state rule most g S₀) at x) (products_extend 9 g (closing_of rule most g S₀).state.labels (closing_of rule most g S₀).state.support))

  -- so once it has more than 2,048, they are more than 2,048
  pub counted_grows : (k : ℕ) → k ≤ (closing_of rule most g S₀).rounds → 2048 < length (insert 0 (after rule g (start g S₀) k).support)
      → 2048 < length (counted_keys g (closing_of rule most g S₀).state)
  counted_grows k h b = omega (arith, counted_more k h)

-- under rule 1 what is counted is the S reached with the zero exponent
pub one_nothing : (most : ℕ) (g : Bases) (S₀ : List ℕ) → Rising S₀ → 0 < most
    → counted_keys g (closing_of 1 most g S₀).state ≡ insert 0 (closing_of 1 most g S₀).state.support
one_nothing most g S₀ rising b = products_nothing 1 most g S₀ rising b (adding_all 1 (λ e. omega arith))
