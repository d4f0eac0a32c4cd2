-- What a command's operands give where they stand, by the layout: each operand again, if it has its width.
use mathlib.Core.Path.{◌≡◌, refl, sym, ap, ◌∙◌}
use mathlib.Core.Bool.{Bool, true, false}
use mathlib.Core.List.{List, [], ◌∷◌, ◌++◌, append_assoc}
use Prim.Native.Nat.{ℕ, zero, suc, ◌+◌, ◌-◌, ◌*◌, ◌%◌, ◌^◌, ◌≤◌, ◌<◌}
use native.Mathlib.Nat.{pow-suc, mod-eq_of_lt}
use native.Mathlib.Numerals.{add-one}
use native.Mathlib.Omega.{arith}
use lib.IntN.{ℤ, pos, negsuc, ◌-ℤ◌}
use lib.Dec.{ltb}
use lib.ListN.{length, get_or, take, drop, length-append}
use lib.Seq.{get_or-append_seam, take-add, drop-cons, drop-drop}
use borrow.Author.Tests.{lt-ltb, le-ltb, ltb-true, ltb-false}
use Rattle.counting.specs.Counting.{Bounded}
use Rattle.format.specs.Operands.{number, signed}
use Rattle.format.specs.Layouts.{line, total, length_of, unsigned_operand, signed_operand}
use Rattle.format.proofs.Numbers.{lower, upper}
use Rattle.calls.specs.Report.{little_endian, unsigned}
use Rattle.calls.proofs.Records.{number_of, bytes_of}
use Rattle.written.specs.Bytes.{Operand, u, i, operand_number, operand_bytes, command_bytes}
use Rattle.written.specs.Legal.{OfBits}

-- ---- two's complement
turned : (m x n : ℕ) → x + suc n ≡ m → pos x -ℤ pos m ≡ negsuc n
turned zero x n e = absurd (omega arith)
turned (suc m) x n e = let h : x < suc m = omega arith in rw (lt-ltb x (suc m) h) (ap negsuc (omega arith))

module _ (b : ℕ) where
  double : 2 ^ (b + 1) ≡ 2 ^ b * 2
  double = rw (add-one b) (pow-suc 2 b)

  one_less : suc b - 1 ≡ b
  one_less = omega arith

  unsigned_up : (n : ℕ) → unsigned b (pos n) ≡ n
  unfolding unsigned
  unsigned_up n = rw (le-ltb n 0 (omega arith))

  pub unsigned_low : (z : ℤ) → OfBits (suc b) z → unsigned b z < 2 ^ (b + 1)
  unfolding unsigned
  unsigned_low (pos n) h = let k : n < 2 ^ b = rw one_less at h in rw (unsigned_up n) (omega (arith, double))
  unsigned_low (negsuc n) h = let k : n < 2 ^ b = rw one_less at h in omega (arith, double)

  pub signed_unsigned : (z : ℤ) → OfBits (suc b) z → signed b (unsigned b z) ≡ z
  unfolding unsigned
  signed_unsigned (pos n) h = let k : n < 2 ^ b = rw one_less at h in rw (unsigned_up n) (sym (lower b n k))
  signed_unsigned (negsuc n) h =
      let d = double in
      let j : n < 2 ^ b = rw one_less at h in
      let x = 2 ^ (b + 1) - suc n in
      sym (upper b x (omega arith)) ∙ turned (2 ^ (b + 1)) x n (omega arith)

  pub unsigned_signed : (x : ℕ) → x < 2 ^ (b + 1) → unsigned b (signed b x) ≡ x
  unfolding unsigned
  unsigned_signed x h = go (ltb x (2 ^ b)) refl
    where
      go : (t : Bool) → ltb x (2 ^ b) ≡ t → unsigned b (signed b x) ≡ x
      go true q = rw (← lower b x (ltb-true x (2 ^ b) q)) (unsigned_up x)
      go false q =
          let n = 2 ^ (b + 1) - suc x in
          let e : signed b x ≡ negsuc n =
          sym (upper b x (ltb-false x (2 ^ b) q)) ∙ turned (2 ^ (b + 1)) x n (omega arith) in
          rw e (omega arith)

-- ---- operand n of a layout, wherever the command stands
pub bytes_length : (w x : ℕ) → length (little_endian w x) ≡ w
bytes_length zero x = refl
bytes_length (suc w) x = ap suc (bytes_length w _)

operand_number_lem : (ws : List ℕ) (os : List Operand) (n : ℕ) (front back : List ℕ) (at : ℕ) → length front ≡ at
    → n < length ws → length ws ≡ length os
    → number (get_or ws n 0) (front ++ (operand_bytes ws os ++ back)) (at + total (take n ws))
    ≡ operand_number (get_or ws n 0) (get_or os n (u 0)) % 256 ^ get_or ws n 0
unfolding operand_bytes
operand_number_lem [] os n front back at h k e = absurd (omega arith)
operand_number_lem (w ∷ ws) [] n front back at h k e = absurd (omega arith)
operand_number_lem (w ∷ ws) (o ∷ os) zero front back at h k e =
    let x = operand_number w o in
    let z : at + 0 ≡ at = omega arith in
    rw (z, append_assoc (little_endian w x) (operand_bytes ws os) back)
    (number_of w x front (operand_bytes ws os ++ back) at h)
operand_number_lem (w ∷ ws) (o ∷ os) (suc n) front back at h k e =
    let x = operand_number w o in
    let y = little_endian w x in
    let ys = operand_bytes ws os in
    let z : at + (w + total (take n ws)) ≡ at + w + total (take n ws) = omega arith in
    rw (z, append_assoc y ys back, ← append_assoc front y (ys ++ back))
    (operand_number_lem ws os n (front ++ little_endian w x) back (at + w)
    (length-append front (little_endian w x) ∙ omega (arith, bytes_length w x)) (omega arith) (omega arith))

module _ (b : ℕ) (ws : List ℕ) (os : List Operand) (front back : List ℕ) where
  abbrev pub written : List ℕ
  written = front ++ (command_bytes (line b ws) os ++ back)

  pub first_byte : get_or written (length front) 0 ≡ b
  unfolding command_bytes
  first_byte = get_or-append_seam front b (operand_bytes ws os ++ back) 0

  module _ (same : length ws ≡ length os) (n : ℕ) (inside : n < length ws) where
    abbrev w : ℕ
    w = get_or ws n 0

    operand_is : unsigned_operand (line b ws) n written (length front) ≡ operand_number w (get_or os n (u 0)) % 256 ^ w
    unfolding command_bytes
    operand_is =
        let z : length front + (1 + total (take n ws)) ≡ length front + 1 + total (take n ws) = omega arith in
        rw (z, ← append_assoc front (b ∷ []) (operand_bytes ws os ++ back))
        (operand_number_lem ws os n (front ++ (b ∷ [])) back (length front + 1) (length-append front (b ∷ [])) inside same)

    pub unsigned_is : (x : ℕ) → get_or os n (u 0) ≡ u x → x < 256 ^ w
        → unsigned_operand (line b ws) n written (length front) ≡ x
    unfolding operand_number
    unsigned_is x e h = operand_is ∙ rw e (mod-eq_of_lt h)

    pub signed_is : (c : ℕ) → 8 * w - 1 ≡ c → 256 ^ w ≡ 2 ^ (c + 1) → (z : ℤ) → get_or os n (u 0) ≡ i z → OfBits (suc c) z
        → signed_operand (line b ws) n written (length front) ≡ z
    unfolding operand_number
    signed_is c bits size z e h =
        let f : unsigned_operand (line b ws) n written (length front) ≡ unsigned c z =
        operand_is ∙ rw (e, bits, size) (mod-eq_of_lt (unsigned_low c z h)) in
        ap (signed (8 * w - 1)) f ∙ rw bits (signed_unsigned c z h)

-- a command is as long as its layout says
operands_length : (ws : List ℕ) (os : List Operand) → length ws ≡ length os → length (operand_bytes ws os) ≡ total ws
unfolding operand_bytes
operands_length [] os e = refl
operands_length (w ∷ ws) [] e = absurd (omega arith)
operands_length (w ∷ ws) (o ∷ os) e =
    length-append (little_endian w (operand_number w o)) (operand_bytes ws os)
    ∙ omega (arith, bytes_length w (operand_number w o), operands_length ws os (omega arith))

pub command_length : (b : ℕ) (ws : List ℕ) (os : List Operand) → length ws ≡ length os
    → length (command_bytes (line b ws) os) ≡ length_of (line b ws)
unfolding command_bytes
command_length b ws os e = omega (arith, operands_length ws os e)

-- ---- the other way round: the bytes that operands were read from
module _ (s : List ℕ) (bounded : Bounded 255 s) where
  -- operands one after another, from an offset on
  unfoldable pub OperandsAt : List ℕ → List Operand → ℕ → Type 0
  OperandsAt [] os at = Unit {0}
  OperandsAt (w ∷ ws) [] at = ⊥
  OperandsAt (w ∷ ws) (o ∷ os) at = (operand_number w o ≡ number w s at) × OperandsAt ws os (at + w)

  operands_of : (ws : List ℕ) (os : List Operand) (at : ℕ) → OperandsAt ws os at → at + total ws ≤ length s
      → operand_bytes ws os ≡ take (total ws) (drop at s)
  unfolding OperandsAt operand_bytes
  operands_of [] os at h n = refl
  operands_of (w ∷ ws) [] at h n = absurd h
  operands_of (w ∷ ws) (o ∷ os) at h n =
      rw (take-add w (total ws) (drop at s), drop-drop w at s, h.0, bytes_of w s at bounded (omega arith))
      (ap (λ (l : List ℕ). take w (drop at s) ++ l) (operands_of ws os (at + w) h.1 (omega arith)))

  pub command_of_lem : (b : ℕ) (ws : List ℕ) (os : List Operand) (at : ℕ) → get_or s at 0 ≡ b → OperandsAt ws os (at + 1)
      → at + (1 + total ws) ≤ length s → command_bytes (line b ws) os ≡ take (1 + total ws) (drop at s)
  unfolding command_bytes
  command_of_lem b ws os at e h n =
      let z : 1 + total ws ≡ suc (total ws) = omega arith in
      let y : suc at ≡ at + 1 = omega arith in
      rw (z, drop-cons s at 0 (omega arith), e, y)
      (ap (λ (l : List ℕ). b ∷ l) (operands_of ws os (at + 1) h (omega arith)))
