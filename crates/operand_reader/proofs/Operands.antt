-- What std's bytes and bits say of the numbers in a stream: eight bytes of which the first are the stream's, and the bits
-- of a signed number.
use mathlib.Core.Path.{◌≡◌, refl, sym, ◌∙◌}
use mathlib.Core.Bool.{Bool, true, false, cond}
use mathlib.Core.List.{List, ◌++◌}
use Prim.Native.Nat.{ℕ, zero, suc, ◌+◌, ◌-◌, ◌^◌, ◌≤◌, ◌<◌}
use native.Mathlib.Numerals.{unary_clauses}
use native.Mathlib.Omega.{arith}
use lib.Dec.{ltb}
use lib.IntN.{pos, negsuc, ◌-ℤ◌}
use lib.ListN.{length, get_or, take, drop, replicate}
use Rattle.std.proofs.Math.ListN.{get_or-append}
use Rattle.std.proofs.Math.Seq.{get_or-append_right}
use Rattle.std.proofs.lemmas.Grind.{common_steps}
use Rattle.std.proofs.lemmas.List.{get_or-take, get_or-drop}
use mir.Syntax.{Width, w64}
use mir.Val.{to_z, bits, hbits}
use borrow.Author.Tests.{lt-ltb}
use Rattle.std.specs.Int.{from_le_bytes}
use Rattle.format.specs.Operands.{number, signed}

-- bytes that are 0 give the number 0
number_zeros : (t : List ℕ) (m i : ℕ) → ((j : ℕ) → i ≤ j → get_or t j 0 ≡ 0) → number m t i ≡ 0
unfolding number
number_zeros t zero i z = refl
number_zeros t (suc m) i z = omega (arith, z i (omega arith), number_zeros t m (i + 1) (λ j h. z j (omega arith)))

-- w bytes as they stand elsewhere give the same number, with zeros behind them too
pub number_copied : (s t : List ℕ) (w n at i : ℕ) → w ≤ n → ((j : ℕ) → j < w → get_or t (i + j) 0 ≡ get_or s (at + j) 0)
    → ((j : ℕ) → i + w ≤ j → get_or t j 0 ≡ 0) → number n t i ≡ number w s at
unfolding number
number_copied s t zero n at i h e z = number_zeros t n i (λ j k. z j (omega arith))
number_copied s t (suc w) zero at i h e z = absurd (omega arith)
number_copied s t (suc w) (suc n) at i h e z =
    let here : get_or t i 0 ≡ get_or s at 0 = simp unary_clauses at (e 0 (omega arith)) in
    let more = number_copied s t w n (at + 1) (i + 1) (omega arith)
    (λ j k.
    let f : i + 1 + j ≡ i + (j + 1) = omega arith in
    let g : at + 1 + j ≡ at + (j + 1) = omega arith in
    rw (f, g) (e (j + 1) (omega arith)))
    (λ j k. z j (omega arith)) in
    omega arith

-- eight bytes in std's words
pub eight_bytes : (t : List ℕ) → from_le_bytes w64 t ≡ number 8 t 0
unfolding number
eight_bytes t = omega arith

zeros : (n i : ℕ) → get_or (replicate {A = ℕ} n 0) i 0 ≡ 0
zeros zero i = refl
zeros (suc n) zero = refl
zeros (suc n) (suc i) = zeros n i

-- the number of w bytes of the stream that are copied to the front of eight zeros
pub read_front : (s front : List ℕ) (w at r : ℕ) → w ≤ 8 → at + w ≤ length s → front ≡ take (at + w - at) (drop at s)
    → r ≡ from_le_bytes w64 (front ++ drop w (replicate {A = ℕ} 8 0)) → r ≡ number w s at
read_front s front w at r h k e f =
    let n : at + w - at ≡ w = omega arith in
    let t : front ≡ take w (drop at s) = rw n at e in
    let long : length front ≡ w = grind (arith, common_steps) in
    let tail : List ℕ = drop w (replicate 8 0) in
    f ∙ eight_bytes (front ++ tail) ∙ number_copied s (front ++ tail) w 8 at 0 h
    (λ j l.
    let i : 0 + j ≡ j = omega arith in
    rw (i, get_or-append front tail 0 j (omega arith), t) (get_or-take w (drop at s) j 0 l ∙ get_or-drop at s j 0))
    (λ j l. get_or-append_right front tail j 0 (omega arith) ∙ get_or-drop w (replicate 8 0) (j - length front) 0 ∙ zeros 8 (w + (j - length front)))

negative : (m x : ℕ) → x < m → pos x -ℤ pos m ≡ negsuc (m - suc x)
negative zero x h = absurd (omega arith)
negative (suc m) x h = rw (lt-ltb x (suc m) h)

-- the signed number of a width's bits
pub signed_bits : (w : Width) (x : ℕ) → bits w ≡ hbits w + 1 → x < 2 ^ bits w → to_z w x ≡ signed (hbits w) x
unfolding signed
signed_bits w x e h = go (ltb x (2 ^ hbits w))
  where
    go : (b : Bool) → cond b (pos x) (negsuc (2 ^ bits w - suc x)) ≡ cond b (pos x) (pos x -ℤ pos (2 ^ (hbits w + 1)))
    go true = refl
    go false = rw (← e) (sym (negative (2 ^ bits w) x h))
