-- What the reading of records means: an input that is read is at most 64 records, each its three lengths and then its
-- three runs, one after the other; and every such input is read. So 12 is given exactly for any other.
use native.Mathlib.Omega.{arith}
use native.Mathlib.Nat.{mod-eq_of_lt}
use mathlib.Core.Path.{◌≡◌, refl, sym, ap, ◌∙◌}
use mathlib.Core.List.{List, [], ◌∷◌, ◌++◌, append_assoc, flat_map}
use Prim.Native.Nat.{ℕ, zero, suc, ◌+◌, ◌^◌, ◌≤◌, ◌<◌}
use lib.ListN.{length, take, drop, length-append, length-drop, take-append-drop}
use lib.Seq.{take_at, drop_at, drop-drop, drop-length, length-take-le}
use Rattle.counting.specs.Counting.{Bounded}
use Rattle.format.specs.All.{All}
use Rattle.format.specs.Commands.{given}
use Rattle.format.specs.Operands.{number}
use Rattle.format.proofs.Numbers.{number_low}
use Rattle.calls.specs.Report.{Runs, low_start, high_start, record_end, runs_at, records_from, records_of}
use Rattle.calls.specs.Report.{little_endian}
use Rattle.calls.proofs.Records.{records_over, records_one, records_induction, number_of, bytes_of}

-- "three u16 lengths, then problem, low and high"
abbrev pub packed : Runs → List ℕ
packed r =
    little_endian 2 (length r.problem)
    ++ (little_endian 2 (length r.low)
    ++ (little_endian 2 (length r.high) ++ (r.problem ++ (r.low ++ r.high))))

pub record Fits (r : Runs) : Type 0 where
  pub problem : length r.problem < 256 ^ 2
  pub low : length r.low < 256 ^ 2
  pub high : length r.high < 256 ^ 2

-- ---- a record that stands somewhere is read
part_at : (front p rest : List ℕ) (at n : ℕ) → length front ≡ at → length p ≡ n
    → take n (drop at (front ++ (p ++ rest))) ≡ p
part_at front p rest at n h k = rw (drop_at front (p ++ rest) at h, take_at p rest n k) refl

module _ (r : Runs) (f : Fits r) (front rest : List ℕ) (at : ℕ) (h : length front ≡ at) where
  abbrev a : List ℕ
  a = little_endian 2 (length r.problem)

  abbrev b : List ℕ
  b = little_endian 2 (length r.low)

  abbrev c : List ℕ
  c = little_endian 2 (length r.high)

  -- what stands behind the lengths, and behind the first run
  abbrev runs : List ℕ
  runs = r.problem ++ (r.low ++ (r.high ++ rest))

  abbrev s : List ℕ
  s = front ++ (a ++ (b ++ (c ++ runs)))

  first_length : number 2 s at ≡ length r.problem
  first_length = number_of 2 (length r.problem) front _ at h ∙ mod-eq_of_lt f.problem

  second_length : number 2 s (at + 2) ≡ length r.low
  second_length =
      rw (← append_assoc front a (b ++ (c ++ runs)))
      (number_of 2 (length r.low) (front ++ a) _ (at + 2) (length-append front a ∙ omega arith)
      ∙ mod-eq_of_lt f.low)

  third_length : number 2 s (at + 4) ≡ length r.high
  third_length =
      rw (← append_assoc front (a ++ b) (c ++ runs))
      (number_of 2 (length r.high) (front ++ (a ++ b)) _ (at + 4) (length-append front (a ++ b) ∙ omega arith)
      ∙ mod-eq_of_lt f.high)

  -- the lengths, with what stands before them
  abbrev head : List ℕ
  head = front ++ (a ++ (b ++ c))

  head_length : length head ≡ at + 6
  head_length = length-append front (a ++ (b ++ c)) ∙ omega arith

  problem_is : take (number 2 s at) (drop (at + 6) s) ≡ r.problem
  problem_is =
      rw (first_length, ← append_assoc front (a ++ (b ++ c)) runs)
      (part_at head r.problem (r.low ++ (r.high ++ rest)) (at + 6) _ head_length refl)

  low_is : take (number 2 s (at + 2)) (drop (low_start s at) s) ≡ r.low
  low_is =
      rw (second_length, first_length, ← append_assoc front (a ++ (b ++ c)) runs, ← append_assoc head r.problem (r.low ++ (r.high ++ rest)))
      (part_at (head ++ r.problem) r.low (r.high ++ rest) (at + 6 + length r.problem) _
      (length-append head r.problem ∙ omega (arith, head_length)) refl)

  high_is : take (number 2 s (at + 4)) (drop (high_start s at) s) ≡ r.high
  high_is =
      rw (third_length, second_length, first_length, ← append_assoc front (a ++ (b ++ c)) runs, ← append_assoc head r.problem (r.low ++ (r.high ++ rest)), ← append_assoc (head ++ r.problem) r.low (r.high ++ rest))
      (part_at ((head ++ r.problem) ++ r.low) r.high rest (at + 6 + length r.problem + length r.low) _
      (length-append (head ++ r.problem) r.low ∙ omega (arith, length-append head r.problem, head_length)) refl)

  runs_are : runs_at s at ≡ r
  unfolding runs_at
  runs_are = rw (problem_is, low_is, high_is) refl

  ends_at : record_end s at ≡ at + length (packed r)
  ends_at =
      rw (first_length, second_length, third_length)
      (omega (arith, length-append r.problem (r.low ++ r.high), length-append r.low r.high))

  s_is : front ++ (packed r ++ rest) ≡ s
  s_is = simp append_assoc

packed_length : (r : Runs) → 6 ≤ length (packed r)
packed_length r = omega arith

-- "up to 64 pairs": at most `left` records are read as they were packed
reads_from : (l : List Runs) (left : ℕ) (front : List ℕ) (at : ℕ) → length front ≡ at → All Fits l → length l ≤ left
    → records_from left (front ++ flat_map packed l) at ≡ given l
unfolding flat_map All
reads_from [] left front at h f k =
    let e : length (front ++ []) ≤ at = omega (arith, length-append front []) in
    records_over (front ++ []) at left e
reads_from (r ∷ l) zero front at h f k = absurd (omega arith)
reads_from (r ∷ l) (suc left) front at h f k =
    let rest = flat_map packed l in
    let n = length-append front (packed r ++ rest) in
    let m = length-append (packed r) rest in
    let e = rw (← s_is r f.0 front rest at h) at (ends_at r f.0 front rest at h) in
    let v = rw (← s_is r f.0 front rest at h) at (runs_are r f.0 front rest at h) in
    let i =
    reads_from l left (front ++ packed r) (at + length (packed r)) (length-append front (packed r) ∙ omega arith) f.1
    (omega arith) in
    records_one (front ++ (packed r ++ rest)) at (omega arith) left (omega arith)
    ∙ rw (v, e, ← append_assoc front (packed r) rest, i) refl

pub reads_packed : (l : List Runs) → All Fits l → length l ≤ 64 → records_of (flat_map packed l) ≡ given l
unfolding records_of
reads_packed l f k = reads_from l 64 [] 0 refl f k

-- ---- what is read is packed so
regrouped : (a b c p q r d : List ℕ)
    → (a ++ (b ++ (c ++ (p ++ (q ++ r))))) ++ d ≡ a ++ (b ++ (c ++ (p ++ (q ++ (r ++ d)))))
regrouped a b c p q r d = simp append_assoc

-- three lengths by their bytes
lengths_are : (x y z : ℕ) (a b c t : List ℕ) → little_endian 2 x ≡ a → little_endian 2 y ≡ b → little_endian 2 z ≡ c
    → little_endian 2 x ++ (little_endian 2 y ++ (little_endian 2 z ++ t)) ≡ a ++ (b ++ (c ++ t))
lengths_are x y z a b c t e f g =
    ap (λ (l : List ℕ). l ++ (little_endian 2 y ++ (little_endian 2 z ++ t))) e
    ∙ ap (λ (l : List ℕ). a ++ (l ++ (little_endian 2 z ++ t))) f
    ∙ ap (λ (l : List ℕ). a ++ (b ++ (l ++ t))) g

module _ (s : List ℕ) (bytes : Bounded 255 s) where
  -- n bytes, and what stands behind them
  behind : (at n m : ℕ) → at + n ≡ m → drop at s ≡ take n (drop at s) ++ drop m s
  behind at n m e =
      rw (← e)
      (sym (take-append-drop n (drop at s)) ∙ ap (λ (l : List ℕ). take n (drop at s) ++ l) (drop-drop n at s))

  part_length : (at n : ℕ) → at + n ≤ length s → length (take n (drop at s)) ≡ n
  part_length at n h = length-take-le n (drop at s) (omega (arith, length-drop at s))

  -- the bytes of a run's length stand at k
  length_bytes : (at n k : ℕ) → at + n ≤ length s → n ≡ number 2 s k → k + 2 ≤ length s
      → little_endian 2 (length (take n (drop at s))) ≡ take 2 (drop k s)
  length_bytes at n k h e j = rw (part_length at n h, e) (bytes_of 2 s k bytes j)

  module _ (at : ℕ) (h : record_end s at ≤ length s) where
    fits : Fits (runs_at s at)
    unfolding runs_at
    fits = record {
      problem = rw (part_length (at + 6) (number 2 s at) (omega arith)) (number_low s bytes 2 at);
      low = rw (part_length (low_start s at) (number 2 s (at + 2)) (omega arith)) (number_low s bytes 2 (at + 2));
      high = rw (part_length (high_start s at) (number 2 s (at + 4)) h) (number_low s bytes 2 (at + 4));
    }

    abbrev first : List ℕ
    first = take (number 2 s at) (drop (at + 6) s)

    abbrev second : List ℕ
    second = take (number 2 s (at + 2)) (drop (low_start s at) s)

    abbrev third : List ℕ
    third = take (number 2 s (at + 4)) (drop (high_start s at) s)

    parts_are : drop at s
        ≡ take 2 (drop at s) ++ (take 2 (drop (at + 2) s) ++ (take 2 (drop (at + 4) s)
        ++ (first ++ (second ++ (third ++ drop (record_end s at) s)))))
    parts_are =
        behind at 2 (at + 2) refl
        ∙ ap (λ (l : List ℕ). take 2 (drop at s) ++ l) (behind (at + 2) 2 (at + 4) (omega arith)
        ∙ ap (λ (l : List ℕ). take 2 (drop (at + 2) s) ++ l) (behind (at + 4) 2 (at + 6) (omega arith)
        ∙ ap (λ (l : List ℕ). take 2 (drop (at + 4) s) ++ l) (behind (at + 6) (number 2 s at) (low_start s at) refl
        ∙ ap (λ (l : List ℕ). first ++ l) (behind (low_start s at) (number 2 s (at + 2)) (high_start s at) refl
        ∙ ap (λ (l : List ℕ). second ++ l) (behind (high_start s at) (number 2 s (at + 4)) (record_end s at) refl)))))

    packed_here : drop at s ≡ packed (runs_at s at) ++ drop (record_end s at) s
    unfolding runs_at
    packed_here =
        parts_are
        ∙ sym (ap (λ (l : List ℕ). l ++ drop (record_end s at) s)
        (lengths_are (length first) (length second) (length third) _ _ _ (first ++ (second ++ third))
        (length_bytes (at + 6) (number 2 s at) at (omega arith) refl (omega arith))
        (length_bytes (low_start s at) (number 2 s (at + 2)) (at + 2) (omega arith) refl (omega arith))
        (length_bytes (high_start s at) (number 2 s (at + 4)) (at + 4) h refl (omega arith)))
        ∙ regrouped (take 2 (drop at s)) (take 2 (drop (at + 2) s)) (take 2 (drop (at + 4) s)) first second third
        (drop (record_end s at) s))

-- the records of an input from an offset on: at most `left`, with lengths that fit, and nothing else
pub record IsPacked (left : ℕ) (s : List ℕ) (at : ℕ) (l : List Runs) : Type 0 where
  pub bytes : drop at s ≡ flat_map packed l
  pub few : length l ≤ left
  pub fits : All Fits l

module _ (s : List ℕ) (b : Bounded 255 s) where
  packed_none : (left at : ℕ) → length s ≤ at → at ≤ length s → IsPacked left s at []
  unfolding flat_map All
  packed_none left at h k =
      let n : at ≡ length s = omega arith in record { bytes = rw n (drop-length s); few = omega arith; fits = tt }

  packed_more : (left at : ℕ) (l : List Runs) → at < length s → record_end s at ≤ length s
      → (record_end s at ≤ length s → IsPacked left s (record_end s at) l) → at ≤ length s
      → IsPacked (suc left) s at (runs_at s at ∷ l)
  unfolding flat_map All
  packed_more left at l h w f k =
      let p = f w in
      record {
        bytes = packed_here s b at w ∙ ap (λ (m : List ℕ). packed (runs_at s at) ++ m) p.bytes;
        few = omega (arith, p.few);
        fits = (fits s b at w, p.fits);
      }

-- of a whole input
pub packed_read : (s : List ℕ) (l : List Runs) → Bounded 255 s → records_of s ≡ given l → IsPacked 64 s 0 l
unfolding records_of
packed_read s l b e =
    records_induction s (λ left at k. at ≤ length s → IsPacked left s at k) (packed_none s b) (packed_more s b) 64 0 l e
    (omega arith)
