-- The steps of a round stay within any blocks and any set that are closed under them. For one basis.
use mathlib.Core.Path.{◌≡◌, refl, sym, ◌∙◌}
use mathlib.Core.Logic.{◌⊎◌, inl, inr, ⊎_elim}
use mathlib.Core.Bool.{Bool, true, false, cond}
use mathlib.Core.List.{List}
use Prim.Native.Nat.{ℕ, ◌+◌, ◌<◌}
use native.Mathlib.Omega.{arith}
use lib.ListN.{length, get_or}
use lib.Dec.{eqb}
use borrow.Author.Tests.{eqb-true}
use Rattle.joining_rule.specs.Sets.{In}
use Rattle.counting.specs.Counting.{listed}
use Rattle.counting.proofs.Listed.{listed_length, listed_at}
use Rattle.joining_rule.specs.Join.{linked, merged, join_pair, join}
use Rattle.joining_rule.specs.Extend.{add_terms, add_pair, extend}
use Rattle.joining_rule.proofs.Pairs.{pairs_keep}
use Rattle.joining_rule.proofs.Labels.{InOne, merged_long, merged_at, in_one_lem}
use Rattle.joining_rule.proofs.Labels.InOne.{two, other}
use Rattle.joining_rule.proofs.Members.{linked_from, add_from}

-- blocks as a relation: R i k where i and k are in one block
pub record Equivalence (R : ℕ → ℕ → Type 0) : Type 0 where
  pub reflexive : (x : ℕ) → R x x
  pub symmetric : (x y : ℕ) → R x y → R y x
  pub transitive : (x y z : ℕ) → R x y → R y z → R x z

-- blocks R and a set Q are closed under the first half of a round, for the basis B with the multiplier's exponents T
pub record JoinedIn (Q : ℕ → Type 0) (R : ℕ → ℕ → Type 0) (T B : List ℕ) : Type 0 where
  pub joins : (i k t : ℕ) → i < length B → k < length B → In t T → Q (t + (get_or B i 0 + get_or B k 0)) → R i k

-- and under the second
pub record AddedIn (Q : ℕ → Type 0) (R : ℕ → ℕ → Type 0) (T B : List ℕ) : Type 0 where
  pub adds : (i k t : ℕ) → i < length B → k < length B → R i k → In t T → Q (t + (get_or B i 0 + get_or B k 0))

-- n indices, and those with one block number are in one block of R
pub record Inside (R : ℕ → ℕ → Type 0) (n : ℕ) (L : List ℕ) : Type 0 where
  pub long : length L ≡ n
  pub at : (x y : ℕ) → x < n → y < n → get_or L x 0 ≡ get_or L y 0 → R x y

-- each element of S is in Q
pub record Within (Q : ℕ → Type 0) (S : List ℕ) : Type 0 where
  pub at : (x : ℕ) → In x S → Q x

-- two block numbers that become the same were the same, or were those of the two blocks
became_one : {a b u v p q : ℕ} → InOne a b u p → InOne a b v q → p ≡ q → (u ≡ v) ⊎ (((u ≡ a) ⊎ (u ≡ b)) × ((v ≡ a) ⊎ (v ≡ b)))
became_one (two h) (two k) e = inr (h, k)
became_one (two h) (other k l) e = absurd (omega arith)
became_one (other h i) (two k) e = absurd (omega arith)
became_one (other h i) (other k l) e = inl e

module _ (R : ℕ → ℕ → Type 0) (eq : Equivalence R) (n : ℕ) where
  -- every index its own block
  pub singles_inside : Inside R n (listed n (λ i. i))
  singles_inside = record {
    long = listed_length n (λ i. i);
    at = λ x y hx hy e. let q : x ≡ y = sym (listed_at n (λ i. i) x 0 hx) ∙ e ∙ listed_at n (λ i. i) y 0 hy in rw q (eq.reflexive y);
  }

  -- the blocks of i and k made one, where R has i and k in one
  pub merged_inside : (L : List ℕ) (i k : ℕ) → i < n → k < n → R i k → Inside R n L → Inside R n (merged (get_or L i 0) (get_or L k 0) L)
  merged_inside L i k hi hk r s = record {
    long = merged_long (get_or L i 0) (get_or L k 0) L ∙ s.long;
    at = λ x y hx hy e.
        ⊎_elim (s.at x y hx hy) (λ q. eq.transitive x i y (to_i x hx q.0) (eq.symmetric y i (to_i y hy q.1)))
        (became_one (in_one_lem _ _ (get_or L x 0)) (in_one_lem _ _ (get_or L y 0)) (sym (merged_at _ _ L x (omega (arith, s.long))) ∙ e ∙ merged_at _ _ L y (omega (arith, s.long))));
  }
    where
      to_i : (x : ℕ) → x < n → (get_or L x 0 ≡ get_or L i 0) ⊎ (get_or L x 0 ≡ get_or L k 0) → R x i
      to_i x hx = ⊎_elim (s.at x i hx hi) (λ e. eq.transitive x k i (s.at x k hx hk e) (eq.symmetric i k r))

module _ (R : ℕ → ℕ → Type 0) (eq : Equivalence R) (S T B : List ℕ) (links : (i k : ℕ) → i < length B → k < length B → linked S T (get_or B i 0 + get_or B k 0) ≡ true → R i k) where
  pair_inside : (i k : ℕ) (L : List ℕ) → i < length B → k < length B → Inside R (length B) L → Inside R (length B) (join_pair S T B i k L)
  unfolding join_pair
  pair_inside i k L hi hk s = go (linked S T (get_or B i 0 + get_or B k 0)) refl
    where
      go : (b : Bool) → linked S T (get_or B i 0 + get_or B k 0) ≡ b → Inside R (length B) (cond b (merged (get_or L i 0) (get_or L k 0) L) L)
      go true e = merged_inside R eq (length B) L i k hi hk (links i k hi hk e) s
      go false e = s

  -- a joining whose links are all in R stays within R
  pub links_inside : (L : List ℕ) → Inside R (length B) L → Inside R (length B) (join S T B L)
  unfolding join
  links_inside L s = pairs_keep (length B) (λ i. i + 1) (join_pair S T B) (Inside R (length B)) (λ i k M hi _ hk m. pair_inside i k M hi hk m) L s

-- a joining on a set within Q stays within R
pub join_inside : (Q : ℕ → Type 0) (R : ℕ → ℕ → Type 0) → Equivalence R → (T B : List ℕ) → JoinedIn Q R T B
    → (S : List ℕ) → Within Q S → (L : List ℕ) → Inside R (length B) L → Inside R (length B) (join S T B L)
join_inside Q R eq T B c S w =
    links_inside R eq S T B
    (λ i k hi hk e. linked_from S T (get_or B i 0 + get_or B k 0) (λ t h m. c.joins i k t hi hk h (w.at _ m)) e)

module _ (Q : ℕ → Type 0) (R : ℕ → ℕ → Type 0) (T B : List ℕ) (c : AddedIn Q R T B) (L : List ℕ) (s : Inside R (length B) L) where
  pair_within : (i k : ℕ) (S : List ℕ) → i < length B → k < length B → Within Q S → Within Q (add_pair T B L i k S)
  unfolding add_pair
  pair_within i k S hi hk w = go (eqb (get_or L i 0) (get_or L k 0)) refl
    where
      go : (b : Bool) → eqb (get_or L i 0) (get_or L k 0) ≡ b → Within Q (cond b (add_terms T (get_or B i 0 + get_or B k 0) S) S)
      go true e = record {
        at = λ x m. add_from x T (get_or B i 0 + get_or B k 0) S (λ t h q. rw (← q) (c.adds i k t hi hk (s.at i k hi hk (eqb-true _ _ e)) h)) (w.at x) m;
      }
      go false e = w

  -- an extension by blocks within R stays within Q
  pub extend_within : (S : List ℕ) → Within Q S → Within Q (extend T B L S)
  unfolding extend
  extend_within S w = pairs_keep (length B) (λ i. i) (add_pair T B L) (Within Q) (λ i k S' hi _ hk v. pair_within i k S' hi hk v) S w
