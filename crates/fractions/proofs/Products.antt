-- A product of two 64-bit numbers by their halves of 32 bits.
use native.Mathlib.Omega.{arith}
use native.Mathlib.Nat.{div-add-mod'}
use mathlib.Core.Path.{◌≡◌, refl, sym, ap₂, ◌∙◌}
use Prim.Native.Nat.{ℕ, ◌+◌, ◌*◌, ◌/◌, ◌%◌, ◌^◌}

abbrev half : ℕ
half = 4294967296

-- the digits of the lowest, the middle and the other sum, for the four products of halves
sums_up : (hh hl lh ll l m o : ℕ) → ll ≡ l → hl + l / half ≡ m → lh + m % half ≡ o
    → (hh + m / half + o / half) * 2 ^ 64 + (o % half * half + l % half) ≡ hh * 2 ^ 64 + (hl + lh) * half + ll
sums_up hh hl lh ll l m o e f g = omega arith

by_halves : (a b c d : ℕ) → (a * half + b) * (c * half + d) ≡ a * c * 2 ^ 64 + (a * d + b * c) * half + b * d
by_halves a b c d = omega arith

module _ (n d : ℕ) where
  pub product_is : let l = n % half * (d % half) in
      let m = n / half * (d % half) + l / half in
      let o = n % half * (d / half) + m % half in
      (n / half * (d / half) + m / half + o / half) * 2 ^ 64 + (o % half * half + l % half) ≡ n * d
  product_is =
      sums_up (n / half * (d / half)) (n / half * (d % half)) (n % half * (d / half)) (n % half * (d % half)) _ _ _ refl
      refl refl
      ∙ sym (by_halves (n / half) (n % half) (d / half) (d % half))
      ∙ ap₂ (λ (x y : ℕ). x * y) (div-add-mod' n half) (div-add-mod' d half)
