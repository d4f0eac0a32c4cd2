-- Laws of a list made by counting: its length, its elements, one more at the end, one element replaced.
use mathlib.Core.Path.{◌≡◌, refl, ap, sym, ◌∙◌}
use mathlib.Core.List.{List, [], ◌∷◌, ◌++◌}
use mathlib.Core.Logic.{◌⊎◌, inl, inr, ⊎_elim, ◌≢◌}
use Prim.Native.Nat.{ℕ, zero, suc, ◌+◌, ◌-◌, ◌≤◌, ◌<◌}
use native.Mathlib.Decide.{ℕ_discrete}
use native.Mathlib.Numerals.{add-one}
use native.Mathlib.Nat.{eq-or-lt_of_le}
use native.Mathlib.Omega.{arith}
use lib.ListN.{length, take, set, get_or, length-append, length-set, get_or-append}
use lib.Seq.{take-suc, get_or_at, ext_get_or, get_or-set_same, get_or-set_other, take-suc-set, take_all}
use Rattle.counting.specs.Counting.{listed}

pub same_or_not : (m n : ℕ) → (m ≡ n) ⊎ (m ≢ n)
same_or_not m n = go (ℕ_discrete m n)
  where
    go : Dec (m ≡ n) → (m ≡ n) ⊎ (m ≢ n)
    go (yes p) = inl p
    go (no q) = inr q

module _ {A : Type 0} where
  pub listed_length : (n : ℕ) (f : ℕ → A) → length (listed n f) ≡ n
  unfolding listed
  listed_length zero f = refl
  listed_length (suc n) f = let h = listed_length n f in rw (length-append (listed n f) (f n ∷ [])) (omega arith)

  pub listed_same : (n : ℕ) (f g : ℕ → A) → ((i : ℕ) → i < n → f i ≡ g i) → listed n f ≡ listed n g
  unfolding listed
  listed_same zero f g h = refl
  listed_same (suc n) f g h = rw (listed_same n f g (λ i p. h i (omega arith)), h n (omega arith))

  -- the first element and the others
  pub listed_first : (n : ℕ) (f : ℕ → A) → listed (suc n) f ≡ f 0 ∷ listed n (λ i. f (suc i))
  unfolding listed
  listed_first zero f = refl
  listed_first (suc n) f = rw (listed_first n f)

  pub listed_at : (n : ℕ) (f : ℕ → A) (i : ℕ) (d : A) → i < n → get_or (listed n f) i d ≡ f i
  unfolding listed
  listed_at zero f i d p = absurd (omega arith)
  listed_at (suc n) f i d p =
      let e = listed_length n f in
      ⊎_elim
      (λ h. rw h (get_or_at (listed n f) (f n) [] d n e))
      (λ q. get_or-append (listed n f) (f n ∷ []) d i (omega arith) ∙ listed_at n f i d q)
      (eq-or-lt_of_le {n = i} {m = n} (omega arith))

  pub listed_take : (n : ℕ) (l : List A) (d : A) → n ≤ length l → listed n (λ i. get_or l i d) ≡ take n l
  unfolding listed
  listed_take zero l d p = refl
  listed_take (suc n) l d p = rw (listed_take n l d (omega arith), take-suc l n d p)

  -- a list is what its elements list
  pub listed_all : (l : List A) (d : A) → listed (length l) (λ i. get_or l i d) ≡ l
  listed_all l d = listed_take (length l) l d (omega arith) ∙ take_all (length l) l (omega arith)

  -- one more element that is stored past the last
  pub listed_more : (n : ℕ) (f g : ℕ → A) (a : A) → ((i : ℕ) → i < n → g i ≡ f i) → g n ≡ a → listed (n + 1) g ≡ listed n f ++ (a ∷ [])
  unfolding listed
  listed_more n f g a h e = rw (add-one n, listed, listed_same n g f h, e)

  -- one element replaced
  pub listed_set : (n : ℕ) (f g : ℕ → A) (i : ℕ) (a : A) → ((k : ℕ) → k < n → k ≢ i → g k ≡ f k) → (i < n → g i ≡ a) → listed n g ≡ set (listed n f) i a
  listed_set n f g i a other here =
      let k = listed_length n g in
      let m = listed_length n f in
      ext_get_or a _ _ (k ∙ sym (length-set (listed n f) i a ∙ m)) λ j q.
      listed_at n g j a (omega arith) ∙
      ⊎_elim
      (λ e. rw e (here (omega arith) ∙ sym (get_or-set_same (listed n f) i a a (omega arith))))
      (λ d. other j (omega arith) d ∙ sym (get_or-set_other (listed n f) i j a a d ∙ listed_at n f j a (omega arith)))
      (same_or_not j i)

  -- an array that is filled from the front
  pub fill_more : (f : ℕ → A) (l : List A) (x : ℕ) (v : A) → x < length l → v ≡ f x → take x l ≡ listed x f → take (x + 1) (set l x v) ≡ listed (x + 1) f
  unfolding listed
  fill_more f l x v h e k = rw (add-one x, take-suc-set l x v h, e, k)

  pub fill_done : (f : ℕ → A) (l : List A) (n x : ℕ) → length l ≡ n → x ≡ n → take x l ≡ listed x f → l ≡ listed n f
  fill_done f l n x h e k = sym (take_all x l (omega arith)) ∙ k ∙ ap (λ (m : ℕ). listed m f) e
