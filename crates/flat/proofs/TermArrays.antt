-- Laws of the terms that arrays hold: their number, their keys, one more term.
use mathlib.Core.Path.{◌≡◌, refl, sym, ap, ap₂, ◌∙◌}
use mathlib.Core.List.{List, [], ◌∷◌, ◌++◌, map-append}
use Prim.Native.Nat.{ℕ, zero, suc, ◌+◌, ◌*◌, ◌^◌, ◌≤◌, ◌<◌, zero-le}
use native.Mathlib.Omega.{arith}
use lib.IntN.{ℤ, pos, nat_abs}
use lib.ListN.{length, take, set, get_or, replicate, length-set, length-replicate}
use lib.Seq.{get_or-take, get_or-set_same, get_or-set_other}
use Rattle.counting.proofs.Bounded.{bounded_zeros}
use Rattle.counting.specs.Counting.{listed}
use Rattle.counting.proofs.Listed.{listed_length, listed_same, listed_take, listed_more}
use Rattle.polynomial.specs.Terms.{Term, term, keys_of}
use Rattle.flat.specs.TermArrays.{terms_in, Low, Small, FilledTerms}

pub terms_length : (n : ℕ) (keys : List ℕ) (coefficients : List ℤ) → length (terms_in n keys coefficients) ≡ n
unfolding terms_in
terms_length n keys coefficients = listed_length n _

-- the keys of the terms are the first keys
keys_listed : (n : ℕ) (k : ℕ → ℕ) (c : ℕ → ℤ) → keys_of (listed n (λ i. term (k i) (c i))) ≡ listed n k
unfolding listed keys_of
keys_listed zero k c = refl
keys_listed (suc n) k c = rw (map-append (λ (t : Term). t.key) (listed n (λ i. term (k i) (c i))) (term (k n) (c n) ∷ []), ← keys_listed n k c)

pub terms_keys : (n : ℕ) (keys : List ℕ) (coefficients : List ℤ) → n ≤ length keys → keys_of (terms_in n keys coefficients) ≡ take n keys
unfolding terms_in
terms_keys n keys coefficients h = keys_listed n _ _ ∙ listed_take n keys 0 h

-- terms are the same where the first places of the arrays are
pub terms_same : (n : ℕ) (k l : List ℕ) (c d : List ℤ) → take n k ≡ take n l → take n c ≡ take n d → terms_in n k c ≡ terms_in n l d
unfolding terms_in
terms_same n k l c d e f =
    listed_same n _ _ (λ i h. ap₂ term (sym (get_or-take n k i 0 h) ∙ ap (λ (x : List ℕ). get_or x i 0) e ∙ get_or-take n l i 0 h) (sym (get_or-take n c i (pos 0) h) ∙ ap (λ (x : List ℤ). get_or x i (pos 0)) f ∙ get_or-take n d i (pos 0) h))

-- a store at the count, and the count one more, is one more term at the end
pub terms_more : (n : ℕ) (keys : List ℕ) (coefficients : List ℤ) (k : ℕ) (c : ℤ) → n < length keys → n < length coefficients
    → terms_in (n + 1) (set keys n k) (set coefficients n c) ≡ terms_in n keys coefficients ++ (term k c ∷ [])
unfolding terms_in
terms_more n keys coefficients k c p q =
    listed_more n _ _ (term k c)
    (λ i h. rw (get_or-set_other keys n i k 0 (λ e. omega arith), get_or-set_other coefficients n i c (pos 0) (λ e. omega arith)))
    (rw (get_or-set_same keys n k 0 p, get_or-set_same coefficients n c (pos 0) q))

-- ---- the bounds are kept
-- a store keeps what holds at each place
pub set_all : {A : Type 0} (P : ℕ → A → Type 0) (l : List A) (i : ℕ) (a d : A) → ((j : ℕ) → P j (get_or l j d)) → P i a → (j : ℕ) → P j (get_or (set l i a) j d)
set_all P [] i a d h p j = h j
set_all P (x ∷ l) zero a d h p zero = p
set_all P (x ∷ l) zero a d h p (suc j) = h (suc j)
set_all P (x ∷ l) (suc i) a d h p zero = h zero
set_all P (x ∷ l) (suc i) a d h p (suc j) = set_all (λ k. P (suc k)) l i a d (λ k. h (suc k)) p j

pub low_set : (d : ℕ) (keys : List ℕ) (n k : ℕ) → Low d keys → k ≤ d * 2 ^ 56 → Low d (set keys n k)
low_set d keys n k h l = set_all (λ _ x. x ≤ d * 2 ^ 56) keys n k 0 h l

pub small_set : (m : ℕ) (coefficients : List ℤ) (n : ℕ) (c : ℤ) → Small m coefficients → nat_abs c ≤ m → Small m (set coefficients n c)
small_set m coefficients n c h l = set_all (λ _ x. nat_abs x ≤ m) coefficients n c (pos 0) h l

pub small_zeros : (m n : ℕ) → Small m (replicate n (pos 0))
small_zeros m zero i = zero-le
small_zeros m (suc n) zero = zero-le
small_zeros m (suc n) (suc i) = small_zeros m n i

pub filled_none : (d most m : ℕ) → FilledTerms d most m (replicate most 0) (replicate most (pos 0)) 0
filled_none d most m =
    record {
      count_low = zero-le;
      keys_length = length-replicate most 0;
      coefficients_length = length-replicate most (pos 0);
      keys_low = bounded_zeros _ most;
      coefficients_small = small_zeros m most;
    }

pub filled_more : (d most m : ℕ) (keys : List ℕ) (coefficients : List ℤ) (n k : ℕ) (c : ℤ) → FilledTerms d most m keys coefficients n → n < most → k ≤ d * 2 ^ 56 → nat_abs c ≤ m
    → FilledTerms d most m (set keys n k) (set coefficients n c) (n + 1)
filled_more d most m keys coefficients n k c f h l a =
    record {
      count_low = omega arith;
      keys_length = length-set keys n k ∙ f.keys_length;
      coefficients_length = length-set coefficients n c ∙ f.coefficients_length;
      keys_low = low_set d keys n k f.keys_low l;
      coefficients_small = small_set m coefficients n c f.coefficients_small a;
    }
