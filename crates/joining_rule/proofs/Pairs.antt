-- A loop over the pairs of indices below n, i and k with k from a i on: what every step keeps, and what the step at a pair brings about.
use Prim.Native.Nat.{ℕ, ◌≤◌, ◌<◌, zero-le}
use Rattle.counting.specs.Counting.{from_to}
use Rattle.counting.proofs.Steps.{from_to_keeps, from_to_reaches}

module _ {A : Type 0} (n : ℕ) (a : ℕ → ℕ) (f : ℕ → ℕ → A → A) where
  pub pairs_keep : (P : A → Type 0) → ((i k : ℕ) (s : A) → i < n → a i ≤ k → k < n → P s → P (f i k s)) → (s : A) → P s → P (from_to 0 n (λ i. from_to (a i) n (f i)) s)
  pairs_keep P h s p = from_to_keeps P _ n 0 (λ i r _ b q. from_to_keeps P (f i) n (a i) (λ k t l u w. h i k t b l u w) r q) s p

  -- P i k holds after the step at i and k, and later steps keep it, under a property I that all states have
  module _ (I : A → Type 0) (P : ℕ → ℕ → A → Type 0) (all : (i k : ℕ) (s : A) → i < n → a i ≤ k → k < n → I s → I (f i k s))
      (here : (i k : ℕ) (s : A) → i < n → a i ≤ k → k < n → I s → P i k (f i k s))
      (keep : (i k x y : ℕ) (s : A) → i < n → k < n → x < n → y < n → I s → P i k s → P i k (f x y s)) where
    row_all : (i : ℕ) (s : A) → i < n → I s → I (from_to (a i) n (f i) s)
    row_all i s b p = from_to_keeps I (f i) n (a i) (λ k t l u q. all i k t b l u q) s p

    row_here : (i k : ℕ) (s : A) → i < n → a i ≤ k → k < n → I s → P i k (from_to (a i) n (f i) s)
    row_here i k s b l u p =
        from_to_reaches I (λ x t. x < n → P i x t) (f i) n (a i) (λ x t v w q. all i x t b v w q) (λ x t v w q _. here i x t b v w q)
        (λ x y t v w q r z. keep i x i y t b z b w q (r z)) k l u s p u

    row_keep : (i k x : ℕ) (s : A) → i < n → k < n → x < n → I s → P i k s → P i k (from_to (a x) n (f x) s)
    row_keep i k x s b u h p q = (from_to_keeps (λ t. I t × P i k t) (f x) n (a x) (λ y t v w r. (all x y t h v w r.0, keep i k x y t b u h w r.0 r.1)) s (p, q)).1

    pub pairs_reach : (i k : ℕ) → i < n → a i ≤ k → k < n → (s : A) → I s → P i k (from_to 0 n (λ i. from_to (a i) n (f i)) s)
    pairs_reach i k b l u s p =
        from_to_reaches I (λ x t. x < n → (y : ℕ) → a x ≤ y → y < n → P x y t) _ n 0 (λ x t _ w q. row_all x t w q) (λ x t _ w q _ y v z. row_here x y t w v z q)
        (λ x y t _ w q r h z v e. row_keep x z y t h e w q (r h z v e)) i zero-le b s p b k l u
