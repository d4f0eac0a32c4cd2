-- The arrays of the code that stand for a list of terms.
use Rattle.std.specs.Prelude.{◌≡◌, List, ℕ, ◌*◌, ◌^◌, ◌≤◌, ℤ, pos, nat_abs, get_or, length}
use Rattle.counting.specs.Counting.{listed, Bounded}
use Rattle.polynomial.specs.Terms.{Term, term}

-- the terms that the first n places of two arrays hold
unfoldable pub terms_in : ℕ → List ℕ → List ℤ → List Term
terms_in n keys coefficients = listed n (λ i. term (get_or keys i 0) (get_or coefficients i (pos 0)))

-- no number of a list is above d × 256^7, as no key of a monomial of degree at most d is
abbrev pub Low : ℕ → List ℕ → Type 0
Low d keys = Bounded (d * 2 ^ 56) keys

-- no number of a list is above m in size
abbrev pub Small : ℕ → List ℤ → Type 0
Small m l = (i : ℕ) → nat_abs (get_or l i (pos 0)) ≤ m

-- arrays of `most` places that hold `count` terms of degree at most d, with coefficients of size at most m
pub record FilledTerms (d most m : ℕ) (keys : List ℕ) (coefficients : List ℤ) (count : ℕ) : Type 0 where
  pub count_low : count ≤ most
  pub keys_length : length keys ≡ most
  pub coefficients_length : length coefficients ≡ most
  pub keys_low : Low d keys
  pub coefficients_small : Small m coefficients
