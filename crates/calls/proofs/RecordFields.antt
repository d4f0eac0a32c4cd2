-- What the 32 bytes of a record tell: each field again, read as a stream's operands are.
use native.Mathlib.Omega.{arith}
use native.Mathlib.Nat.{mod-eq_of_lt, zero-add}
use mathlib.Core.Path.{◌≡◌, refl, sym, ap, ◌∙◌}
use mathlib.Core.List.{List, [], ◌∷◌, ◌++◌, append_assoc, flat_map}
use Prim.Native.Nat.{ℕ, zero, suc, ◌+◌, ◌-◌, ◌*◌, ◌%◌, ◌^◌, ◌<◌}
use lib.Dec.{lit<}
use lib.IntN.{ℤ, pos, negsuc}
use lib.ListN.{length, get_or, length-append}
use borrow.Author.Tests.{lt-ltb, le-ltb}
use Rattle.format.specs.Operands.{number, signed}
use Rattle.format.proofs.Numbers.{lower, upper}
use Rattle.calls.specs.declared.PairVerdict.{PairVerdict}
use Rattle.calls.specs.Report.{little_endian, unsigned, fields_of, record_bytes, Told}
use Rattle.calls.proofs.Records.{number_of}

-- field k, of those in l, whatever stands behind them
field_at : (l : List ℕ) (k : ℕ) (front rest : List ℕ) (at : ℕ) → length front ≡ at → k < length l
    → number 4 (front ++ (flat_map (little_endian 4) l ++ rest)) (at + 4 * k) ≡ get_or l k 0 % 256 ^ 4
unfolding flat_map
field_at [] k front rest at h i = absurd (omega arith)
field_at (x ∷ l) zero front rest at h i =
    number_of 4 x front (flat_map (little_endian 4) l ++ rest) (at + 4 * 0) (omega arith)
field_at (x ∷ l) (suc k) front rest at h i =
    let e : at + 4 * suc k ≡ at + 4 + 4 * k = omega arith in
    let b = flat_map (little_endian 4) l ++ rest in
    rw (e, ← append_assoc front (little_endian 4 x) b)
    (field_at l k (front ++ little_endian 4 x) rest (at + 4) (length-append front (little_endian 4 x) ∙ omega arith)
    (omega arith))

module _ (v : PairVerdict) (rest : List ℕ) where
  field : (k : ℕ) → k < 8 → number 4 (record_bytes v ++ rest) (4 * k) ≡ get_or (fields_of v) k 0 % 2 ^ 32
  unfolding fields_of
  field k h = rw zero-add at (field_at (fields_of v) k [] rest 0 refl h)

-- a signed number of 32 bits
pub data Small : ℤ → Type 0 where
  up : (n : ℕ) → n < 2 ^ 31 → Small (pos n)
  down : (n : ℕ) → n < 2 ^ 31 → Small (negsuc n)

unsigned_up : (n : ℕ) → unsigned 63 (pos n) ≡ n
unfolding unsigned
unsigned_up n = rw (le-ltb n 0 (omega arith)) refl

signed_again : {z : ℤ} → Small z → signed 31 (unsigned 63 z % 2 ^ 32) ≡ z
unfolding unsigned
signed_again (up n h) = rw (unsigned_up n, mod-eq_of_lt {n = n} {m = 2 ^ 32} (omega arith)) (sym (lower 31 n h))
signed_again (down n h) =
    let e : (2 ^ 64 - suc n) % 2 ^ 32 ≡ 2 ^ 32 - suc n = omega arith in
    let x = 2 ^ 32 - suc n in
    let k : x < 2 ^ 32 = omega arith in
    rw e (sym (upper 31 x (omega arith)) ∙ rw (lt-ltb x (2 ^ 32) k) (ap negsuc (omega arith)))

-- a verdict whose fields have the widths of a record's: "refusal u32 .., p i32, q u32, P i32, Q u32, stream u32"
pub record OfWidths (v : PairVerdict) : Type 0 where
  pub number : v.refusal.number < 2 ^ 32
  pub p : Small v.lower.num
  pub q : v.lower.den < 2 ^ 32
  pub P : Small v.upper.num
  pub Q : v.upper.den < 2 ^ 32
  pub stream : v.refusal.stream < 2 ^ 32

pub record_told : (v : PairVerdict) → OfWidths v → (rest : List ℕ) → Told (record_bytes v ++ rest) v
unfolding fields_of
record_told v w rest = record {
  refusal = field v rest 0 (lit< tt) ∙ mod-eq_of_lt w.number;
  p = ap (signed 31) (field v rest 1 (lit< tt)) ∙ signed_again w.p;
  q = field v rest 2 (lit< tt) ∙ mod-eq_of_lt w.q;
  P = ap (signed 31) (field v rest 3 (lit< tt)) ∙ signed_again w.P;
  Q = field v rest 4 (lit< tt) ∙ mod-eq_of_lt w.Q;
  stream = field v rest 5 (lit< tt) ∙ mod-eq_of_lt w.stream;
  place = field v rest 6 (lit< tt);
  key = field v rest 7 (lit< tt);
}
