-- Laws of a state that a counting loop changes: one step, no step, what every step keeps, what one step brings about.
use mathlib.Core.Path.{◌≡◌, refl, ap, ◌∙◌}
use mathlib.Core.Logic.{⊎_elim}
use Prim.Native.Nat.{ℕ, zero, suc, ◌+◌, ◌-◌, ◌≤◌, ◌<◌}
use native.Mathlib.Nat.{eq-or-lt_of_le, le_refl}
use native.Mathlib.Omega.{arith}
use native.Mathlib.Numerals.{add-one}
use Rattle.counting.specs.Counting.{steps, from_to}

module _ {A : Type 0} where
  pub from_to_done : (a n : ℕ) (f : ℕ → A → A) (s : A) → n ≤ a → from_to a n f s ≡ s
  unfolding from_to
  from_to_done a n f s h = let e : n - a ≡ 0 = omega arith in rw e

  pub from_to_more : (a n : ℕ) (f : ℕ → A → A) (s : A) → a < n → from_to a n f s ≡ from_to (a + 1) n f (f a s)
  unfolding from_to
  from_to_more a n f s h = let e : n - a ≡ suc (n - (a + 1)) = omega arith in rw (e, add-one a)

  -- what each step keeps, all keep
  pub from_to_keeps : (P : A → Type 0) (f : ℕ → A → A) (n a : ℕ) → ((k : ℕ) (s : A) → a ≤ k → k < n → P s → P (f k s)) → (s : A) → P s → P (from_to a n f s)
  unfolding from_to
  from_to_keeps P f n a h s p = go (n - a) a s (omega arith) (omega arith) p
    where
      go : (m b : ℕ) (s : A) → a ≤ b → m + b ≤ n + (b - n) → P s → P (steps f m b s)
      go zero b s l u p = p
      go (suc m) b s l u p = go m (suc b) (f b s) (omega arith) (omega arith) (h b s l (omega arith) p)

  -- steps that all leave a state leave it
  pub from_to_fixed : (f : ℕ → A → A) (n a : ℕ) (s : A) → ((k : ℕ) → a ≤ k → k < n → f k s ≡ s) → from_to a n f s ≡ s
  from_to_fixed f n a s h = from_to_keeps (λ (r : A). r ≡ s) f n a (λ k r l u e. ap (f k) e ∙ h k l u) s refl

  -- what a step brings about and every step keeps, holds at the end, under a property I that all states have
  pub from_to_reaches : (I : A → Type 0) (P : ℕ → A → Type 0) (f : ℕ → A → A) (n a : ℕ) → ((k : ℕ) (s : A) → a ≤ k → k < n → I s → I (f k s))
      → ((k : ℕ) (s : A) → a ≤ k → k < n → I s → P k (f k s)) → ((k x : ℕ) (s : A) → a ≤ x → x < n → I s → P k s → P k (f x s))
      → (k : ℕ) → a ≤ k → k < n → (s : A) → I s → P k (from_to a n f s)
  unfolding from_to
  from_to_reaches I P f n a all h keep k l u s i = go (n - a) a s l (omega arith) (le_refl a) (omega arith) i
    where
      on : (m b : ℕ) (s : A) → a ≤ b → m + b ≤ n → I s → P k s → P k (steps f m b s)
      on zero b s v w i p = p
      on (suc m) b s v w i p = on m (suc b) (f b s) (omega arith) (omega arith) (all b s v (omega arith) i) (keep k b s v (omega arith) i p)

      go : (m b : ℕ) (s : A) → b ≤ k → k < m + b → a ≤ b → m + b ≤ n → I s → P k (steps f m b s)
      go zero b s q r v w i = absurd (omega arith)
      go (suc m) b s q r v w i =
          ⊎_elim (λ e. on m (suc b) (f b s) (omega arith) (omega arith) (all b s v (omega arith) i) (rw e (h k s l u i))) (λ d. go m (suc b) (f b s) d (omega arith) (omega arith) (omega arith) (all b s v (omega arith) i)) (eq-or-lt_of_le q)

  -- the same step function, number by number
  pub from_to_same : (f g : ℕ → A → A) (n a : ℕ) → ((k : ℕ) (s : A) → a ≤ k → k < n → f k s ≡ g k s) → (s : A) → from_to a n f s ≡ from_to a n g s
  unfolding from_to
  from_to_same f g n a h s = go (n - a) a s (omega arith) (omega arith)
    where
      go : (m b : ℕ) (s : A) → a ≤ b → m + b ≤ n + (b - n) → steps f m b s ≡ steps g m b s
      go zero b s l u = refl
      go (suc m) b s l u = rw (h b s l (omega arith)) (go m (suc b) (g b s) (omega arith) (omega arith))
