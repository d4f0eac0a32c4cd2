-- Laws of the parity byte, which is made variable by variable.
use mathlib.Core.Path.{◌≡◌, refl, sym, ap, ◌∙◌}
use Prim.Native.Nat.{ℕ, ◌+◌, ◌-◌, ◌*◌, ◌/◌, ◌%◌, ◌^◌, ◌≤◌, ◌<◌}
use native.Mathlib.Nat.{pow-suc, div-div-eq-div-mul}
use native.Mathlib.Numerals.{add-one}
use native.Mathlib.Omega.{arith}
use lib.Pow.{pow_mono}
use Rattle.counting.specs.Counting.{sum_to}
use Rattle.counting.proofs.Binary.{by_bit, low}
use Rattle.polynomial.specs.Monomial.{exponent}
use Rattle.calls.specs.Symmetries.{parity_byte}

-- the parities of the first i variables, each at its bit
abbrev pub parities : ℕ → ℕ → ℕ
parities key i = sum_to i (λ k. exponent (k + 1) key % 2 * 2 ^ k)

pub parities_all : (key : ℕ) → parities key 8 ≡ parity_byte key
unfolding parity_byte
parities_all key = refl

-- what the loop keeps: the first i variables are in the byte, and the exponents of the others are left
pub record Passed (key byte place rest i : ℕ) : Type 0 where
  pub few : i ≤ 8
  pub at : place ≡ 2 ^ i
  pub left : rest ≡ key / 256 ^ i
  pub made : byte ≡ parities key i
  pub small : byte < 2 ^ i

pub passed_none : (key place : ℕ) → place ≡ 1 → Passed key 0 place key 0
unfolding sum_to
passed_none key place h = record { few = omega arith; at = h; left = let e : key / 1 ≡ key = omega arith in sym e; made = refl; small = omega arith }

-- a bit at its place
pub bit_most : (x y : ℕ) → x % 2 * y ≤ y
bit_most x y = by_bit (λ b. b * y ≤ y) (x % 2) (low x) (omega arith) (omega arith)

module _ (key byte place rest i : ℕ) (p : Passed key byte place rest i) (h : i < 8) where
  pub place_most : place ≤ 128
  place_most = omega (arith, p.at, pow_mono {i = i} {j = 7} (omega arith))

  pub passed_more : Passed key (byte + rest % 2 * place) (place * 2) (rest / 256) (i + 1)
  unfolding sum_to exponent
  passed_more =
      let e : i + 1 - 1 ≡ i = omega arith in
      let m = bit_most rest place in
      let q : key / 256 ^ i % 256 % 2 ≡ rest % 2 = omega (arith, p.left) in
      record {
        few = omega arith;
        at = rw (add-one i, pow-suc 2 i) (omega (arith, p.at));
        left =
            let t : 256 ^ (i + 1) ≡ 256 ^ i * 256 = ap (λ (n : ℕ). 256 ^ n) (add-one i) ∙ pow-suc 256 i in
            rw (t, ← div-div-eq-div-mul key (256 ^ i) 256, p.left);
        made = rw (add-one i, sum_to, e, q, ← p.at) (ap (λ (n : ℕ). n + rest % 2 * place) p.made);
        small = rw (add-one i, pow-suc 2 i) (omega (arith, p.at, p.small));
      }
