-- Laws of a commutative ring, from those that its record states.
use mathlib.Core.Path.{◌≡◌, sym, ap, ◌∙◌}
use Prim.Native.Nat.{ℕ, zero, suc, ◌+◌ as ◌+ℕ◌}
use native.Mathlib.Nat.{add-zero, add-suc}
use Rattle.ordered_rings.specs.Rings.{Ring, power}

module _ {A : Type 0} (R : Ring A) where
  open R use {𝟘, 𝟙, ◌+◌, -◌, ◌*◌, +_assoc, +_comm, +-zero, +-minus, *-assoc, *-comm, *-one, *-+}

  -- ---- sums
  pub zero-+ : (a : A) → 𝟘 + a ≡ a
  zero-+ a = +_comm 𝟘 a ∙ +-zero a

  pub +-left : (a b c : A) → a + (b + c) ≡ b + (a + c)
  +-left a b c = sym (+_assoc a b c) ∙ ap (λ x. x + c) (+_comm a b) ∙ +_assoc b a c

  -- ---- products
  pub one-* : (a : A) → 𝟙 * a ≡ a
  one-* a = *-comm 𝟙 a ∙ *-one a

  pub *-left : (a b c : A) → a * (b * c) ≡ b * (a * c)
  *-left a b c = sym (*-assoc a b c) ∙ ap (λ x. x * c) (*-comm a b) ∙ *-assoc b a c

  pub +-* : (a b c : A) → (a + b) * c ≡ a * c + b * c
  +-* a b c = simp (*-comm, *-+)

  -- four factors, paired anew
  pub *-pairs : (a b c d : A) → (a * b) * (c * d) ≡ (a * c) * (b * d)
  *-pairs a b c d = simp (*-assoc, *-left b c d)

  -- ---- powers
  pub power-+ : (a : A) (e f : ℕ) → power R a (e +ℕ f) ≡ power R a e * power R a f
  unfolding power
  power-+ a e zero = rw (add-zero, *-one)
  power-+ a e (suc f) = ap (power R a) (add-suc e f) ∙ ap (λ x. x * a) (power-+ a e f) ∙ *-assoc _ _ _

  pub power-* : (a b : A) (n : ℕ) → power R (a * b) n ≡ power R a n * power R b n
  unfolding power
  power-* a b zero = sym (*-one 𝟙)
  power-* a b (suc n) = ap (λ x. x * (a * b)) (power-* a b n) ∙ *-pairs _ _ a b

  -- ---- 0 and negatives
  pub none : (a : A) → a + a ≡ a → a ≡ 𝟘
  none a e =
      sym (+-zero a) ∙ ap (λ x. a + x) (sym (+-minus a)) ∙ sym (+_assoc a a (- a)) ∙ ap (λ x. x + - a) e ∙ +-minus a

  pub *-zero : (a : A) → a * 𝟘 ≡ 𝟘
  *-zero a = none (a * 𝟘) (sym (*-+ a 𝟘 𝟘) ∙ ap (λ x. a * x) (+-zero 𝟘))

  pub zero-* : (a : A) → 𝟘 * a ≡ 𝟘
  zero-* a = *-comm 𝟘 a ∙ *-zero a

  -- what adds up with a to 0 is its negative
  pub is_minus : (a b : A) → a + b ≡ 𝟘 → b ≡ - a
  is_minus a b e =
      sym (zero-+ b) ∙ ap (λ x. x + b) (sym (+-minus a) ∙ +_comm a (- a)) ∙ +_assoc (- a) a b
      ∙ ap (λ x. - a + x) e ∙ +-zero (- a)

  pub minus_zero : - 𝟘 ≡ 𝟘
  minus_zero = sym (is_minus 𝟘 𝟘 (+-zero 𝟘))

  pub minus_minus : (a : A) → - - a ≡ a
  minus_minus a = sym (is_minus (- a) a (+_comm (- a) a ∙ +-minus a))

  pub minus-+ : (a b : A) → - (a + b) ≡ - a + - b
  minus-+ a b = sym (is_minus (a + b) (- a + - b) (simp (+_assoc, +-left b (- a) (- b), +-minus, +-zero)))

  pub minus-* : (a b : A) → - a * b ≡ - (a * b)
  minus-* a b = is_minus (a * b) (- a * b) (sym (+-* a (- a) b) ∙ ap (λ x. x * b) (+-minus a) ∙ zero-* b)

  pub *-minus : (a b : A) → a * - b ≡ - (a * b)
  *-minus a b = *-comm a (- b) ∙ minus-* b a ∙ ap -◌ (*-comm b a)

  -- ---- the record's own laws, under names that a set can list
  pub sum_assoc : (a b c : A) → (a + b) + c ≡ a + (b + c)
  sum_assoc = +_assoc

  pub sum_comm : (a b : A) → a + b ≡ b + a
  sum_comm = +_comm

  pub product_assoc : (a b c : A) → (a * b) * c ≡ a * (b * c)
  product_assoc = *-assoc

  pub product_comm : (a b : A) → a * b ≡ b * a
  product_comm = *-comm

  pub product_sum : (a b c : A) → a * (b + c) ≡ a * b + a * c
  product_sum = *-+

-- both sides of an equation multiplied out, and their sums and products sorted: `simp (sorted, R)`
pub ruleset sorted-sums = (sum_assoc, sum_comm, +-left)

pub ruleset sorted-products = (product_assoc, product_comm, *-left, product_sum, +-*)

pub ruleset sorted = (sorted-sums, sorted-products, minus-+, minus-*, *-minus, minus_minus)
