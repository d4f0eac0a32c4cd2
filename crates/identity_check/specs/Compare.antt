-- Refusal 9 by the tables: what the comparison asks for, and its answer's cases.
use Rattle.std.specs.Prelude.{◌≡◌, ◌⊎◌, Option, Some, None, IfSome, IsSomeAnd, List, ℕ, min, ◌^◌, ◌≤◌, ◌<◌, ℤ, pos, ◌+ℤ◌, ◌*ℤ◌, length, get_or, drop}
use Rattle.std.proofs.Math.Option as Math
use Rattle.format.specs.ProblemRules.{Problem}
use Rattle.format.specs.CertificateRules.{Certificate}
use Rattle.format.specs.declared.certificate.Header.{Header}
use Rattle.accepting.specs.Judgement.{compared_keys, difference_key}
use Rattle.key_set.specs.Table.{keys_in, Holds}
use Rattle.wide_sums.specs.Sums.{base, value_at, Shrunk, Uneven, Floor}
use Rattle.flat.specs.Flat.{FlatProblem}
use Rattle.certificate_rows.specs.Offsets.{rows_by}

-- the answer's cases: the key of refusal 9, or none
abbrev pub difference_of : Math.Option ℕ → Option ℕ
difference_of (Math.some k) = Some k
difference_of Math.none = None

-- the first n numbers of the table differ, and the sums at their places are 0
pub record Zeroed (table : List ℕ) (n : ℕ) (hi lo : List ℤ) : Type 0 where
  pub support : Holds table n
  pub in_hi : 2048 ≤ length hi
  pub in_lo : 2048 ≤ length lo
  pub hi_zero : (q : ℕ) → q < n → get_or hi q (pos 0) ≡ pos 0
  pub lo_zero : (q : ℕ) → q < n → get_or lo q (pos 0) ≡ pos 0

-- the smaller of a key that may be known and another
abbrev pub smaller_of : Option ℕ → ℕ → ℕ
smaller_of None key = key
smaller_of (Some k) key = min k key

-- there is a key, and it is not above this one
abbrev pub AtMost : ℕ → Option ℕ → Type 0
AtMost key r = IsSomeAnd r (λ k. k ≤ key)

-- r is the smallest of the keys at those of the first m places that P holds of, and of `found`, if there is any
pub record Smallest (P : ℕ → Type 0) (table : List ℕ) (m : ℕ) (found r : Option ℕ) : Type 0 where
  pub one : (r ≡ found) ⊎ ((q : ℕ) × (q < m) × P q × (r ≡ Some (get_or table q 0)))
  pub first : IfSome found (λ k. AtMost k r)
  pub each : (q : ℕ) → q < m → P q → AtMost (get_or table q 0) r

-- the sum at a place is not 0
abbrev pub Nonzero : List ℤ → List ℤ → ℕ → Type 0
Nonzero hi lo q = value_at hi lo q ≡ pos 0 → ⊥

-- the sums at the first m places are divided by 2^16, rounded down, and nothing else has changed; r is the smallest key
-- of those whose sum was no multiple of 2^16, and of `found`
pub record DividedSums (table : List ℕ) (m : ℕ) (found : Option ℕ) (hi₀ lo₀ hi₁ lo₁ : List ℤ) (r : Option ℕ) :
    Type 0 where
  pub floors : (q : ℕ) → q < m → Floor (value_at hi₀ lo₀ q) (value_at hi₁ lo₁ q)
  pub smallest : Smallest (λ q. Uneven (value_at hi₀ lo₀ q)) table m found r
  pub high : Shrunk m (2 ^ 48) hi₀ hi₁
  pub low : Shrunk m base lo₀ lo₁

-- what is known of the differences D at the first n places when the numbers W are left to be tested for 0: r is the key
-- at a place that differs, if there is one; and each place either differs and has no smaller key than r, or its
-- difference is W's number there times a factor, so that one is 0 where the other is
pub record Reached (D W : ℕ → ℤ) (table : List ℕ) (n : ℕ) (r : Option ℕ) : Type 0 where
  pub factor : ℕ
  pub positive : 0 < factor
  pub there : IfSome r (λ k. (q : ℕ) × (q < n) × (D q ≡ pos 0 → ⊥) × (get_or table q 0 ≡ k))
  pub each : (q : ℕ) → q < n → ((D q ≡ pos 0 → ⊥) × AtMost (get_or table q 0) r) ⊎ (D q ≡ pos factor *ℤ W q)

-- the arrays stand for the problem p, and the stream by its offsets for the certificate c; the table holds the keys
-- that are compared
pub record Given (p : Problem) (c : Certificate) (s starts : List ℕ) (rows : ℕ) (header : Header) (keys : List ℕ)
    (coefficients : List ℤ) (sizes table : List ℕ) (n : ℕ) : Type 0 where
  pub flat : FlatProblem p keys coefficients sizes
  pub header_is : header ≡ c.header
  pub rows_are : c.rows ≡ rows_by s starts rows
  pub compared : keys_in n table ≡ compared_keys p

-- what a call leaves of a lent table from place 2,048 on
pub record Untouched (t₀ t₁ : List ℤ) : Type 0 where
  pub long : length t₁ ≡ length t₀
  pub rest : drop 2048 t₁ ≡ drop 2048 t₀

-- the sums grew by f of the problem that the arrays hold, part after part, and were divided between the parts: what is
-- known of the whole sums then
pub record Carried (f : Problem → ℕ → ℤ) (keys : List ℕ) (coefficients : List ℤ) (sizes table : List ℕ) (n : ℕ)
    (hi₀ lo₀ hi₁ lo₁ : List ℤ) (r : Option ℕ) : Type 0 where
  pub reached : (p : Problem) → FlatProblem p keys coefficients sizes
      → Reached (λ q. value_at hi₀ lo₀ q +ℤ f p (get_or table q 0)) (value_at hi₁ lo₁) table n r
  pub high : Untouched hi₀ hi₁
  pub low : Untouched lo₀ lo₁

-- the answer for the problem and the certificate, and what is left of the sums
pub record Answered (s starts : List ℕ) (rows : ℕ) (header : Header) (keys : List ℕ) (coefficients : List ℤ)
    (sizes table : List ℕ) (n : ℕ) (r : Option ℕ) (hi₀ lo₀ hi₁ lo₁ : List ℤ) : Type 0 where
  pub difference : (p : Problem) (c : Certificate) → Given p c s starts rows header keys coefficients sizes table n
      → r ≡ difference_of (difference_key p c)
  pub high : Untouched hi₀ hi₁
  pub low : Untouched lo₀ lo₁
