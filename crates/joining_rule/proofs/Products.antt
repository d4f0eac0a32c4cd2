-- The products t + b + b' of the bases before n, with b and b' in one block, added to a set: laws over all bases.
use mathlib.Core.Path.{◌≡◌}
use mathlib.Core.List.{List, []}
use Prim.Native.Nat.{ℕ, ◌<◌, zero-le}
use lib.ListN.{length, get_or}
use Rattle.counting.proofs.Steps.{from_to_keeps, from_to_fixed, from_to_reaches, from_to_same}
use Rattle.joining_rule.specs.Rounds.{Bases, State, extend_to}
use Rattle.joining_rule.proofs.Rising.{Rising}
use Rattle.joining_rule.proofs.Extending.{Extends, from_to_extends, extend_extends, full_keeps}
use Rattle.joining_rule.proofs.FullSets.{Full}
use Rattle.joining_rule.proofs.Full.{extend_full, extend_done}
use Rattle.joining_rule.proofs.Least.{AddedIn, Inside, Within, extend_within}

-- S has every t + b + b' with b, b' in one block of the same j, for the bases before n
pub record AllFull (n : ℕ) (g : Bases) (s : State) : Type 0 where
  pub at : (j : ℕ) → j < n → Full (g.multiplier j) (g.basis j) (get_or s.labels j []) s.support

module _ (n : ℕ) (g : Bases) (L : List (List ℕ)) where
  -- the set only grows, and stays in order
  pub products_extend : (S : List ℕ) → Extends S (extend_to n g L S)
  unfolding extend_to
  products_extend S = from_to_extends _ (λ j S'. extend_extends (g.multiplier j) (g.basis j) (get_or L j []) S') 0 n S

  -- it has all of these products then
  pub products_full : (S : List ℕ) → AllFull n g (record { labels = L; support = extend_to n g L S })
  unfolding extend_to
  products_full S = record {
    at = λ j h.
        from_to_reaches (λ _. Unit {0}) (λ j S'. Full (g.multiplier j) (g.basis j) (get_or L j []) S') _ n 0 (λ _ _ _ _ _. tt)
        (λ j S' _ _ _. extend_full (g.multiplier j) (g.basis j) (get_or L j []) S')
        (λ j y S' _ _ _ f. full_keeps _ _ _ S' _ (extend_extends (g.multiplier y) (g.basis y) (get_or L y []) S') f)
        j zero-le h S tt;
  }

  -- and nothing beyond any set Q that has those of blocks R, which the blocks L are within
  pub products_within : (R : ℕ → ℕ → ℕ → Type 0) (Q : ℕ → Type 0) → ((j : ℕ) → j < n → AddedIn Q (R j) (g.multiplier j) (g.basis j))
      → ((j : ℕ) → j < n → Inside (R j) (length (g.basis j)) (get_or L j [])) → (S : List ℕ) → Within Q S → Within Q (extend_to n g L S)
  unfolding extend_to
  products_within R Q c i S w =
      from_to_keeps (Within Q) _ n 0
      (λ j S' _ h v. extend_within Q (R j) (g.multiplier j) (g.basis j) (c j h) (get_or L j []) (i j h) S' v) S w

  -- where it had them all it is the same
  pub products_done : (S : List ℕ) → Rising S → AllFull n g (record { labels = L; support = S }) → extend_to n g L S ≡ S
  unfolding extend_to
  products_done S r f =
      from_to_fixed _ n 0 S (λ j _ h. extend_done (g.multiplier j) (g.basis j) (get_or L j []) S r (f.at j h))

-- bases and multipliers that agree give the same products
pub products_same : (n : ℕ) (g h : Bases) → ((j : ℕ) → j < n → g.basis j ≡ h.basis j) → ((j : ℕ) → j < n → g.multiplier j ≡ h.multiplier j)
    → (L : List (List ℕ)) (S : List ℕ) → extend_to n g L S ≡ extend_to n h L S
unfolding extend_to
products_same n g h b m L S = from_to_same _ _ n 0 (λ j S' _ k. rw (b j k, m j k)) S
