-- What is said of the sums with the compared keys as one value, and of a polynomial with its two arrays as one.
use Rattle.std.specs.Prelude.{◌≡◌, List, ℕ, ℤ, length, get_or, take, drop}
use Rattle.polynomial.specs.Terms.{Term}
use Rattle.key_set.specs.Table.{divisor_in}
use Rattle.flat.specs.declared.Arrays.{Arrays}
use Rattle.flat.specs.Flat.{exponents_at, coefficients_at, count_at}
use Rattle.flat.specs.TermArrays.{terms_in}
use Rattle.identity_sums.specs.declared.Compared.{Compared}
use Rattle.identity_sums.specs.declared.Terms.{Terms}
use Rattle.identity_sums.specs.declared.Placed.{Placed}
use Rattle.identity_sums.specs.Tables.{Ready, SumsGrown, Slots, Addable}

-- the sums at the compared keys have room for c
abbrev pub ReadyFor : Compared → List ℤ → List ℤ → ℕ → Type 0
ReadyFor keys hi lo c = Ready keys.table.now keys.index.now keys.count hi lo c

-- the sums at the compared keys have grown by f of the key, and by at most c
abbrev pub Grown : Compared → List ℤ → List ℤ → (ℕ → ℤ) → ℕ → List ℤ → List ℤ → Type 0
Grown keys hi₀ lo₀ f c hi₁ lo₁ = SumsGrown keys.table.now keys.count hi₀ lo₀ f c hi₁ lo₁

-- the terms of a polynomial that two arrays hold
abbrev pub held : Terms → List Term
held t = terms_in (length t.exponents.now) t.exponents.now t.coefficients.now

-- polynomial j of a problem: its exponents and its coefficients, as many as the problem has terms of it
pub record IsPolynomial (a : Arrays) (j : ℕ) (t : Terms) : Type 0 where
  pub exponents : t.exponents.now ≡ take (get_or a.sizes.now (count_at j) 0) (drop (exponents_at j) a.keys.now)
  pub coefficients : t.coefficients.now ≡ take (get_or a.sizes.now (count_at j) 0) (drop (coefficients_at j) a.coefficients.now)

-- a polynomial may be added x times, moved by a key
abbrev pub AddableTerms : Terms → ℕ → ℤ → Type 0
AddableTerms t key x = Addable t.exponents.now t.coefficients.now key x

-- the places of a polynomial's exponents are those in the index of the compared keys
abbrev pub PlacedBy : Compared → Placed → Type 0
PlacedBy keys p = Slots (divisor_in keys.index.now) p.terms.exponents.now p.slots
