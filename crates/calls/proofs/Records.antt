-- How the records of a report are read, a record at a time; and what that means: at most 64 records, whose bytes stand
-- one after the other, and nothing else.
use native.Mathlib.Omega.{arith}
use native.Mathlib.Nat.{pow-succ', pow-le-pow_right, mod-lt, mod-one, mod-add-div, mod-eq_of_lt, add-mul-mod_self_left}
use native.Mathlib.Numerals.{add-one}
use mathlib.Core.Path.{◌≡◌, refl, sym, ap, ◌∙◌}
use mathlib.Core.Bool.{Bool, true, false, cond}
use mathlib.Core.List.{List, [], ◌∷◌, ◌++◌, append_assoc}
use Prim.Native.Nat.{ℕ, zero, suc, ◌+◌, ◌-◌, ◌*◌, ◌/◌, ◌%◌, ◌^◌, ◌≤◌, ◌<◌, zero-le}
use lib.Dec.{leb, lit<}
use lib.ListN.{length, take, drop, get_or, length-append}
use lib.Seq.{drop-cons, get_or_at}
use borrow.Author.Tests.{ltb-false, leb-true, leb-false, lt-ltb, le-ltb, le-leb, lt-leb}
use Rattle.counting.specs.Counting.{Bounded}
use Rattle.counting.proofs.Cases.{clash}
use Rattle.format.specs.Commands.{Outcome, refused, given}
use Rattle.format.specs.Operands.{number}
use Rattle.calls.specs.Report.{Runs, record_end, runs_at, is_cut, with_runs, records_from}
use Rattle.calls.specs.Report.{little_endian}

-- ---- a record at a time
module _ (s : List ℕ) (at : ℕ) where
  pub records_over : (left : ℕ) → length s ≤ at → records_from left s at ≡ given []
  unfolding records_from
  records_over zero h = rw (le-leb (length s) at h) refl
  records_over (suc left) h = rw (le-leb (length s) at h) refl

  module _ (h : at < length s) where
    -- "a byte after the 64th"
    pub records_past : records_from 0 s at ≡ refused 12 at
    unfolding records_from
    records_past = rw (lt-leb (length s) at h) refl

    -- "a record cut short"
    pub records_cut : (left : ℕ) → length s < record_end s at → records_from left s at ≡ refused 12 at
    unfolding records_from
    records_cut zero k = records_past
    records_cut (suc left) k = rw (lt-leb (length s) at h, lt-ltb (length s) (record_end s at) k) refl

    pub records_one : (left : ℕ) → record_end s at ≤ length s
        → records_from (suc left) s at ≡ with_runs (runs_at s at) (records_from left s (record_end s at))
    unfolding records_from
    records_one left k = rw (lt-leb (length s) at h, le-ltb (length s) (record_end s at) k) refl

-- what is read is over, refused, or a record and what is read after it
data Reading (s : List ℕ) (at : ℕ) : ℕ → Outcome (List Runs) → Type 0 where
  over : (left : ℕ) → length s ≤ at → Reading s at left (given [])
  stops : (left : ℕ) → at < length s → Reading s at left (refused 12 at)
  one : (left : ℕ) → at < length s → record_end s at ≤ length s
      → Reading s at (suc left) (with_runs (runs_at s at) (records_from left s (record_end s at)))

reading : (left : ℕ) (s : List ℕ) (at : ℕ) → Reading s at left (records_from left s at)
unfolding records_from
reading zero s at = go (leb (length s) at) refl
  where
    go : (b : Bool) → leb (length s) at ≡ b → Reading s at 0 (cond b (given []) (refused 12 at))
    go true e = over 0 (leb-true (length s) at e)
    go false e = stops 0 (leb-false (length s) at e)
reading (suc left) s at = go (leb (length s) at) refl (is_cut s at) refl
  where
    go : (b : Bool) → leb (length s) at ≡ b → (t : Bool) → is_cut s at ≡ t → Reading s at (suc left)
        (cond b (given []) (cond t (refused 12 at) (with_runs (runs_at s at) (records_from left s (record_end s at)))))
    go true e t f = over (suc left) (leb-true (length s) at e)
    go false e true f = stops (suc left) (leb-false (length s) at e)
    go false e false f = one left (leb-false (length s) at e) (ltb-false (length s) (record_end s at) f)

-- ---- where records were read, and there is a byte left, there is a record
pub record Taken (s : List ℕ) (at left : ℕ) (l : List Runs) : Type 0 where
  pub fewer : ℕ
  pub left_is : left ≡ suc fewer
  pub whole : record_end s at ≤ length s
  pub rest : List Runs
  pub list_is : l ≡ runs_at s at ∷ rest
  pub read : records_from fewer s (record_end s at) ≡ given rest

with_given : (r : Runs) (o : Outcome (List Runs)) (l : List Runs) → with_runs r o ≡ given l
    → record { rest : List Runs; list_is : l ≡ r ∷ rest; read : o ≡ given rest }
with_given r (refused n place) l e = clash (cc)
with_given r (given k) l e = record { rest = k; list_is = cc; read = refl }

by_reading : {s : List ℕ} {at left : ℕ} {o : Outcome (List Runs)} {l : List Runs} → Reading s at left o → o ≡ given l
    → at < length s → Taken s at left l
by_reading (over left k) e h = absurd (omega arith)
by_reading (stops left k) e h = clash (cc)
by_reading {s} {at} {l = l} (one left k w) e h =
    let g = with_given (runs_at s at) (records_from left s (record_end s at)) l e in
    record { fewer = left; left_is = refl; whole = w; rest = g.rest; list_is = g.list_is; read = g.read }

pub taken : (left : ℕ) (s : List ℕ) (at : ℕ) (l : List Runs) → records_from left s at ≡ given l → at < length s
    → Taken s at left l
taken left s at l e h = by_reading (reading left s at) e h

-- ---- the number of a refusal is 12
with_refused : (r : Runs) (o : Outcome (List Runs)) (n place : ℕ) → with_runs r o ≡ refused n place → o ≡ refused n place
with_refused r (refused m at) n place e = e
with_refused r (given k) n place e = clash (cc)

abbrev Twelve : ℕ → List ℕ → ℕ → Type 0
Twelve left s at = (n place : ℕ) → records_from left s at ≡ refused n place → n ≡ 12

twelve_by : {s : List ℕ} {at left : ℕ} {o : Outcome (List Runs)} → Reading s at left o
    → ((fewer : ℕ) → left ≡ suc fewer → Twelve fewer s (record_end s at)) → (n place : ℕ) → o ≡ refused n place → n ≡ 12
twelve_by (over left k) t n place e = clash (cc)
twelve_by (stops left k) t n place e = cc
twelve_by {s} {at} (one left k w) t n place e =
    t left refl n place (with_refused (runs_at s at) (records_from left s (record_end s at)) n place e)

pub records_twelve : (left : ℕ) (s : List ℕ) (at : ℕ) → Twelve left s at
records_twelve zero s at n place e = twelve_by (reading 0 s at) (λ fewer h. absurd (omega arith)) n place e
records_twelve (suc left) s at n place e =
    twelve_by (reading (suc left) s at)
    (λ fewer h. let k : fewer ≡ left = omega arith in rw k (records_twelve left s (record_end s at))) n place e

-- ---- induction over the records that are read: P relates how many there may be, the offset, and the records from there
-- on
module _ (s : List ℕ) (P : ℕ → ℕ → List Runs → Type 0)
    (ends : (left at : ℕ) → length s ≤ at → P left at [])
    (more : (left at : ℕ) (l : List Runs) → at < length s → record_end s at ≤ length s → P left (record_end s at) l
    → P (suc left) at (runs_at s at ∷ l)) where
  by_step : {at left : ℕ} {o : Outcome (List Runs)} → Reading s at left o
      → ((fewer : ℕ) → left ≡ suc fewer → (to : ℕ) (k : List Runs) → records_from fewer s to ≡ given k → P fewer to k)
      → (l : List Runs) → o ≡ given l → P left at l
  by_step {at} (over left h) f l e = let z : [] ≡ l = cc in rw (← z) (ends left at h)
  by_step (stops left h) f l e = clash (cc)
  by_step {at} (one left h w) f l e =
      let g = with_given (runs_at s at) (records_from left s (record_end s at)) l e in
      rw g.list_is (more left at g.rest h w (f left refl (record_end s at) g.rest g.read))

  pub records_induction : (left at : ℕ) (l : List Runs) → records_from left s at ≡ given l → P left at l
  records_induction zero at l e = by_step (reading 0 s at) (λ fewer z. absurd (omega arith)) l e
  records_induction (suc left) at l e =
      by_step (reading (suc left) s at)
      (λ fewer z. let n : fewer ≡ left = omega arith in rw n (records_induction left)) l e

-- at most so many records are read as there may be
pub records_few : (left : ℕ) (s : List ℕ) (at : ℕ) (l : List Runs) → records_from left s at ≡ given l → length l ≤ left
records_few left s =
    records_induction s (λ n at l. length l ≤ n) (λ n at h. omega arith) (λ n at l h w k. omega arith) left

-- ---- the bytes of a number, by the width: what `number` reads
-- the lowest digit to the base 256, and the others, of which w are left
digits : (w x : ℕ) → x % 256 + 256 * (x / 256 % 256 ^ w) ≡ x % 256 ^ suc w
digits w x =
    let m = 256 ^ w in
    let p : 256 ^ 0 ≤ m = pow-le-pow_right (lit< tt) zero-le in
    let r = x % 256 + 256 * (x / 256 % m) in
    let l = mod-lt (x / 256) {m = m} (omega arith) in
    let d = mod-add-div (x / 256) m in
    let u : r + (256 * m) * (x / 256 / m) ≡ x = omega arith in
    rw pow-succ'
    (sym (ap (λ (n : ℕ). n % (256 * m)) (sym u) ∙ add-mul-mod_self_left r (256 * m) (x / 256 / m) ∙ mod-eq_of_lt (omega arith)))

-- its lowest bytes give the number again, as far as they go, wherever they stand
pub number_of : (w x : ℕ) (front rest : List ℕ) (at : ℕ) → length front ≡ at
    → number w (front ++ (little_endian w x ++ rest)) at ≡ x % 256 ^ w
unfolding number
number_of zero x front rest at e = sym (mod-one x)
number_of (suc w) x front rest at e =
    let y = x % 256 in
    let l = little_endian w (x / 256) ++ rest in
    let n = number_of w (x / 256) (front ++ (y ∷ [])) rest (at + 1) (length-append front (y ∷ []) ∙ omega arith) in
    rw (get_or_at front y l 0 at e, ← append_assoc front (y ∷ []) l, n) (digits w x)

-- the bytes that a number was read from
pub bytes_of : (w : ℕ) (s : List ℕ) (at : ℕ) → Bounded 255 s → at + w ≤ length s
    → little_endian w (number w s at) ≡ take w (drop at s)
unfolding number
bytes_of zero s at b h = refl
bytes_of (suc w) s at b h =
    let y = get_or s at 0 in
    let n = number w s (at + 1) in
    let k = b at in
    let low : (y + 256 * n) % 256 ≡ y = omega arith in
    let high : (y + 256 * n) / 256 ≡ n = omega arith in
    rw (low, high, drop-cons s at 0 (omega arith))
    (ap (λ (l : List ℕ). y ∷ l) (bytes_of w s (at + 1) b (omega arith) ∙ rw add-one refl))
