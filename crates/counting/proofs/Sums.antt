-- Laws of a sum over the numbers below n: order, and equality summand by summand.
use mathlib.Core.Path.{◌≡◌, refl}
use mathlib.Core.Logic.{⊎_elim}
use Prim.Native.Nat.{ℕ, zero, suc, ◌+◌, ◌*◌, ◌≤◌, ◌<◌, zero-le}
use native.Mathlib.Nat.{not-suc-le-zero, le_of_suc-le-suc, eq-or-lt_of_le}
use native.Mathlib.Omega.{arith}
use mathlib.Core.Bool.{Bool, true, false, cond}
use lib.Dec.{eqb}
use borrow.Author.Tests.{eqb-true, eqb-false}
use Rattle.counting.specs.Counting.{sum_to}

pub sum_to_le : (n : ℕ) (f g : ℕ → ℕ) → ((i : ℕ) → i < n → f i ≤ g i) → sum_to n f ≤ sum_to n g
unfolding sum_to
sum_to_le zero f g h = zero-le
sum_to_le (suc n) f g h = omega (arith, sum_to_le n f g (λ i b. h i (omega arith)), h n (omega arith))

pub sum_to_same : (n : ℕ) (f g : ℕ → ℕ) → ((i : ℕ) → i < n → f i ≡ g i) → sum_to n f ≡ sum_to n g
unfolding sum_to
sum_to_same zero f g h = refl
sum_to_same (suc n) f g h = rw (sum_to_same n f g (λ i b. h i (omega arith)), h n (omega arith))

-- where no summand is above its match and the sums are equal, the summands are
pub sum_to_equal : (n : ℕ) (f g : ℕ → ℕ) → ((i : ℕ) → i < n → f i ≤ g i) → sum_to n f ≡ sum_to n g → (i : ℕ) → i < n → f i ≡ g i
unfolding sum_to
sum_to_equal zero f g h e i b = absurd (not-suc-le-zero b)
sum_to_equal (suc n) f g h e i b =
    let l : sum_to n f ≤ sum_to n g = sum_to_le n f g (λ i b. h i (omega arith)) in
    ⊎_elim (λ q. rw q (omega (arith, h n (omega arith)))) (λ d. sum_to_equal n f g (λ i b. h i (omega arith)) (omega (arith, h n (omega arith))) i d) (eq-or-lt_of_le (le_of_suc-le-suc b))

pub sum_to_add : (n : ℕ) (f g : ℕ → ℕ) → sum_to n (λ i. f i + g i) ≡ sum_to n f + sum_to n g
unfolding sum_to
sum_to_add zero f g = refl
sum_to_add (suc n) f g = omega (arith, sum_to_add n f g)

pub sum_to_none : (n : ℕ) (f : ℕ → ℕ) → ((i : ℕ) → i < n → f i ≡ 0) → sum_to n f ≡ 0
unfolding sum_to
sum_to_none zero f h = refl
sum_to_none (suc n) f h = omega (arith, sum_to_none n f (λ i b. h i (omega arith)), h n (omega arith))

-- one summand is 1, the others 0
pub sum_to_one : (n x : ℕ) → x < n → sum_to n (λ i. cond (eqb x i) 1 0) ≡ 1
unfolding sum_to
sum_to_one zero x h = absurd (not-suc-le-zero h)
sum_to_one (suc n) x h = go (eqb x n) refl (λ b. sum_to_one n x b)
  where
    go : (b : Bool) → eqb x n ≡ b → (x < n → sum_to n (λ i. cond (eqb x i) 1 0) ≡ 1) → sum_to n (λ i. cond (eqb x i) 1 0) + cond b 1 0 ≡ 1
    go true e f = let q = eqb-true x n e in omega (arith, sum_to_none n (λ i. cond (eqb x i) 1 0) (λ i b. other i b (eqb x i) refl q))
      where
        other : (i : ℕ) → i < n → (b : Bool) → eqb x i ≡ b → x ≡ n → ◌≡◌ {A = ℕ} (cond b 1 0) 0
        other i l true e q = absurd (omega (arith, eqb-true x i e))
        other i l false e q = refl
    go false e f = let d = eqb-false x n e in let b : x < n = ⊎_elim (λ q. absurd (d q)) (λ l. l) (eq-or-lt_of_le {n = x} {m = n} (omega arith)) in omega (arith, f b)

pub sum_to_first : (n : ℕ) (f : ℕ → ℕ) → sum_to (suc n) f ≡ f 0 + sum_to n (λ i. f (suc i))
unfolding sum_to
sum_to_first zero f = omega arith
sum_to_first (suc n) f = omega (arith, sum_to_first n f)

pub sum_to_times : (n c : ℕ) (f : ℕ → ℕ) → sum_to n (λ i. c * f i) ≡ c * sum_to n f
unfolding sum_to
sum_to_times zero c f = omega arith
sum_to_times (suc n) c f = omega (arith, sum_to_times n c f)
