-- Laws of the numbers in a stream, over the width: one more byte in front, two's complement, and how large they are.
use mathlib.Core.Path.{◌≡◌, refl, ap, ◌∙◌}
use mathlib.Core.Bool.{Bool, true, false}
use mathlib.Core.List.{List}
use Prim.Native.Nat.{ℕ, zero, suc, ◌+◌, ◌-◌, ◌*◌, ◌^◌, ◌≤◌, ◌<◌}
use native.Mathlib.Nat.{pow-suc, pow-le-pow_right}
use native.Mathlib.Numerals.{add-one}
use native.Mathlib.Omega.{arith}
use lib.ListN.{get_or}
use lib.Dec.{lit<, ltb}
use lib.IntN.{ℤ, pos, negsuc, nat_abs, ◌-ℤ◌}
use mir.Syntax.{w32, w64}
use mir.Val.{to_z, of_z, SFits}
use mir.Facts.{to_z_pos, to_z-of_z}
use borrow.Author.Tests.{lt-ltb, le-ltb, ltb-true, ltb-false}
use Rattle.counting.specs.Counting.{Bounded}
use Rattle.format.specs.Operands.{number, signed}

-- a run that starts one byte earlier is one byte longer
module _ (w i at : ℕ) (p : 0 < i) (q : i ≤ w) where
  longer : w - (i - 1) ≡ suc (w - i)
  longer = omega arith

  earlier : at + (i - 1) + 1 ≡ at + i
  earlier = omega arith

  pub number_more : (s : List ℕ) → get_or s (at + (i - 1)) 0 + 256 * number (w - i) s (at + i) ≡ number (w - (i - 1)) s (at + (i - 1))
  unfolding number
  number_more s = rw (longer, number, earlier)

  pub power_more : {x b : ℕ} → x < 256 ^ (w - i) → b < 256 → x * 256 + b < 256 ^ (w - (i - 1))
  power_more h k = rw (longer, pow-suc) (omega arith)

-- a run shorter than 8 bytes leaves room for one more
pub room : (k x b : ℕ) → k < 8 → x < 256 ^ k → b < 256 → x * 256 + b < 2 ^ 64
room k x b h p q =
    let e : 256 ^ suc k ≤ 256 ^ 8 = pow-le-pow_right (lit< tt) h in
    let f : 256 ^ suc k ≡ 256 ^ k * 256 = pow-suc 256 k in
    omega arith

-- ---- two's complement: x in the upper half, less suc m, the number of patterns
module _ (m x : ℕ) (p : x ≤ m) (q : m - x < 2 ^ 31) (r : m < 2 ^ 32) where
  negative : pos x -ℤ pos (suc m) ≡ negsuc (suc m - suc x)
  negative = let h : x < suc m = omega arith in rw (lt-ltb x (suc m) h)

  pub turned_fits : SFits w64 (to_z w64 x -ℤ pos (suc m))
  turned_fits = rw (to_z_pos w64 {n = x} (omega arith), negative) (record { sfits = omega arith })

  pub turned_back : to_z w64 (of_z w64 (to_z w64 x -ℤ pos (suc m))) ≡ pos x -ℤ pos (suc m)
  turned_back = to_z-of_z turned_fits ∙ ap (λ (z : ℤ). z -ℤ pos (suc m)) (to_z_pos w64 {n = x} (omega arith))

  pub narrow_fits : SFits w32 (to_z w64 (of_z w64 (to_z w64 x -ℤ pos (suc m))))
  narrow_fits = rw (turned_back, negative) (record { sfits = omega arith })

  pub narrow_back : to_z w32 (of_z w32 (to_z w64 (of_z w64 (to_z w64 x -ℤ pos (suc m))))) ≡ pos x -ℤ pos (suc m)
  narrow_back = to_z-of_z narrow_fits ∙ turned_back

pub lower : (w x : ℕ) → x < 2 ^ w → pos x ≡ signed w x
unfolding signed
lower w x h = rw (lt-ltb x (2 ^ w) h)

pub upper : (w x : ℕ) → 2 ^ w ≤ x → pos x -ℤ pos (2 ^ (w + 1)) ≡ signed w x
unfolding signed
upper w x h = rw (le-ltb x (2 ^ w) h)

-- ---- how large numbers are: w bytes give one below 256^w, and w + 1 bits a signed one of at most 2^w in size
pub number_low : (s : List ℕ) → Bounded 255 s → (w at : ℕ) → number w s at < 256 ^ w
unfolding number
number_low s bytes zero at = omega arith
number_low s bytes (suc w) at = rw (pow-suc 256 w) (omega (arith, bytes at, number_low s bytes w (at + 1)))

turned_abs : (m x : ℕ) → x < m → nat_abs (pos x -ℤ pos m) ≤ m - x
turned_abs zero x h = absurd (omega arith)
turned_abs (suc m) x h = rw (lt-ltb x (suc m) h) (omega arith)

pub signed_small : (w x : ℕ) → x < 2 ^ (w + 1) → nat_abs (signed w x) ≤ 2 ^ w
signed_small w x h = go (ltb x (2 ^ w)) refl
  where
    go : (b : Bool) → ltb x (2 ^ w) ≡ b → nat_abs (signed w x) ≤ 2 ^ w
    go true q = let l = ltb-true x (2 ^ w) q in rw (← lower w x l) (omega arith)
    go false q =
        let l = ltb-false x (2 ^ w) q in
        let d : 2 ^ (w + 1) ≡ 2 ^ w * 2 = rw (add-one w) (pow-suc 2 w) in
        rw (← upper w x l) (omega (arith, turned_abs (2 ^ (w + 1)) x h))

bytes_bits : (w : ℕ) → 256 ^ w ≡ 2 ^ (8 * w)
bytes_bits zero = refl
bytes_bits (suc w) =
    let e : 8 * suc w ≡ suc (suc (suc (suc (suc (suc (suc (suc (8 * w)))))))) = omega arith in
    rw e (simp pow-suc (omega (arith, bytes_bits w)))

-- so a signed operand of w bytes is at most 2^(8w − 1) in size
pub operand_small : (s : List ℕ) → Bounded 255 s → (w at : ℕ) → nat_abs (signed (8 * w - 1) (number w s at)) ≤ 2 ^ (8 * w - 1)
operand_small s bytes w at =
    let m = pow-le-pow_right {n = 2} (lit< tt) {i = 8 * w} {j = 8 * w - 1 + 1} (omega arith) in
    signed_small (8 * w - 1) (number w s at) (omega (arith, number_low s bytes w at, bytes_bits w))
