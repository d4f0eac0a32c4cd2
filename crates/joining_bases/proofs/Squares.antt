-- The products of each index with itself: where every index is a block of its own, they are all products of pairs in
-- one block.
use mathlib.Core.Path.{◌≡◌, refl, sym, ap, ◌∙◌}
use mathlib.Core.Logic.{◌⊎◌, inl, inr}
use mathlib.Core.List.{List, []}
use Prim.Native.Nat.{ℕ, ◌+◌, ◌*◌, ◌≤◌, ◌<◌, zero-le}
use native.Mathlib.Omega.{arith}
use lib.ListN.{length, get_or}
use Rattle.counting.specs.Counting.{listed, from_to}
use Rattle.counting.proofs.Listed.{listed_at}
use Rattle.counting.proofs.Steps.{from_to_more, from_to_done, from_to_keeps, from_to_reaches}
use Rattle.joining_rule.specs.Sets.{In}
use Rattle.joining_rule.specs.Extend.{add_terms}
use Rattle.joining_rule.specs.Rounds.{Bases, singles}
use Rattle.joining_rule.proofs.Rising.{Rising}
use Rattle.joining_rule.proofs.Members.{add_from, add_keeps, add_in}
use Rattle.joining_rule.proofs.Extending.{Extends, from_to_extends, add_extends}
use Rattle.round_laws.specs.Added.{Product, Products}
use Rattle.joining_products.specs.Adding.{add_squares}
use Rattle.joining_bases.specs.Parts.{squares_to}

-- ---- one basis
module _ (T B : List ℕ) where
  pub squares_extend : (S : List ℕ) → Extends S (add_squares T B S)
  unfolding add_squares
  squares_extend S = from_to_extends _ (λ i S'. add_extends T (2 * get_or B i 0) S') 0 (length B) S

  squares_in : (S : List ℕ) (i t : ℕ) → i < length B → In t T → In (t + 2 * get_or B i 0) (add_squares T B S)
  unfolding add_squares
  squares_in S i t h m =
      from_to_reaches (λ _. Unit {0}) (λ k S'. In (t + 2 * get_or B k 0) S') (λ k. add_terms T (2 * get_or B k 0)) (length B) 0 (λ _ _ _ _ _. tt)
      (λ k S' _ _ _. add_in T (2 * get_or B k 0) S' t m)
      (λ k y S' _ _ _ p. add_keeps _ T (2 * get_or B y 0) S' p)
      i zero-le h S tt

  squares_from_lem : (x : ℕ) {P : Type 0} (S : List ℕ) → ((i t : ℕ) → i < length B → In t T → t + 2 * get_or B i 0 ≡ x → P) → (In x S → P) → In x (add_squares T B S) → P
  unfolding add_squares
  squares_from_lem x {P} S f h =
      from_to_keeps (λ (S' : List ℕ). In x S' → P) (λ k. add_terms T (2 * get_or B k 0)) (length B) 0
      (λ k S' _ b g m. add_from x T (2 * get_or B k 0) S' (λ t q e. f k t b q e) g m) S h

-- ---- the bases before n
module _ (n : ℕ) (g : Bases) where
  abbrev step : ℕ → List ℕ → List ℕ
  step j = add_squares (g.multiplier j) (g.basis j)

  -- those from basis a on
  unfoldable pub squares_from : ℕ → List ℕ → List ℕ
  squares_from a S = from_to a n step S

  pub squares_start : (S : List ℕ) → squares_from 0 S ≡ squares_to n g S
  unfolding squares_from squares_to
  squares_start S = refl

  pub squares_more : (j : ℕ) (S : List ℕ) → j < n → squares_from j S ≡ squares_from (j + 1) (step j S)
  unfolding squares_from
  squares_more j S h = from_to_more j n step S h

  pub squares_done : (j : ℕ) (S : List ℕ) → n ≤ j → squares_from j S ≡ S
  unfolding squares_from
  squares_done j S h = from_to_done j n step S h

  pub squares_rest : (a : ℕ) (S : List ℕ) → Extends S (squares_from a S)
  unfolding squares_from
  squares_rest a S = from_to_extends step (λ j S'. squares_extend (g.multiplier j) (g.basis j) S') a n S

  single_at : (j i : ℕ) → j < 9 → i < length (g.basis j) → get_or (get_or (singles g) j []) i 0 ≡ i
  unfolding singles
  single_at j i h b = ap (λ (l : List ℕ). get_or l i 0) (listed_at 9 (λ j. listed (length (g.basis j)) (λ i. i)) j [] h) ∙ listed_at (length (g.basis j)) (λ i. i) i 0 b

  pub squares_products : n ≤ 9 → (S : List ℕ) → Rising S → Products n g (singles g) S (squares_to n g S)
  unfolding squares_to squares_from
  squares_products nine S r = record {
    rising = (squares_rest 0 S).rising r;
    starts = (squares_rest 0 S).keeps;
    full = λ x c.
        let e : c.i ≡ c.k = sym (single_at c.j c.i c.pair.basis c.pair.first) ∙ c.together ∙ single_at c.j c.k c.pair.basis c.pair.second in
        let q : c.t + 2 * get_or (g.basis c.j) c.i 0 ≡ x = omega (arith, c.value, ap (λ (i : ℕ). get_or (g.basis c.j) i 0) e) in
        rw (← q) (there c.j c.i c.t c.adding c.pair.first c.pair.exponent);
    only = λ x.
        from_to_keeps (λ (S' : List ℕ). In x S' → In x S ⊎ Product n g (singles g) x) step n 0
        (λ j S' _ b h m.
        squares_from_lem (g.multiplier j) (g.basis j) x S'
        (λ i t a q e. inr (record { j = j; i = i; k = i; t = t; adding = b; pair = record { basis = omega arith; first = a; second = a; exponent = q }; together = refl; value = omega (arith, e) }))
        h m)
        S (λ m. inl m);
  }
    where
      there : (j i t : ℕ) → j < n → i < length (g.basis j) → In t (g.multiplier j) → In (t + 2 * get_or (g.basis j) i 0) (from_to 0 n step S)
      there j i t b h m =
          from_to_reaches (λ _. Unit {0}) (λ y S'. (i t : ℕ) → i < length (g.basis y) → In t (g.multiplier y) → In (t + 2 * get_or (g.basis y) i 0) S') step n 0 (λ _ _ _ _ _. tt)
          (λ y S' _ _ _ i t h m. squares_in (g.multiplier y) (g.basis y) S' i t h m)
          (λ y z S' _ _ _ p i t h m. (squares_extend (g.multiplier z) (g.basis z) S').keeps _ (p i t h m))
          j zero-le b S tt i t h m
