-- How many numbers below 2^n there are in a set that has 0 and is closed under exclusive or: a power of two.
use mathlib.Core.Path.{◌≡◌, refl, sym, ap, ap₂, ◌∙◌}
use mathlib.Core.Logic.{⊎_elim}
use mathlib.Core.Bool.{Bool, true, false, cond}
use Prim.Native.Nat.{ℕ, zero, suc, ◌+◌, ◌*◌, ◌/◌, ◌%◌, ◌^◌, ◌≤◌, ◌<◌, zero-le}
use native.Mathlib.Nat.{pow-suc, add_comm, eq-or-lt_of_le}
use native.Mathlib.Omega.{arith}
use lib.Bits.{bit_xor, differ}
use lib.Dec.{lit<}
use Rattle.counting.specs.Counting.{sum_to}
use Rattle.counting.proofs.Sums.{sum_to_le, sum_to_same, sum_to_add, sum_to_none}
use Rattle.calls.specs.Symmetries.{PowerOfTwo}
use Rattle.counting.proofs.Binary.{by_bit, low, xor_more}

-- ---- sums over the numbers below 2^n

sum_to_pairs : (n : ℕ) (f : ℕ → ℕ) → sum_to (n * 2) f ≡ sum_to n (λ x. f (x * 2 + 0) + f (x * 2 + 1))
unfolding sum_to
sum_to_pairs zero f = refl
sum_to_pairs (suc n) f =
    let e : suc n * 2 ≡ suc (suc (n * 2)) = omega arith in
    let c : n * 2 ≡ n * 2 + 0 = omega arith in
    let d : suc (n * 2) ≡ n * 2 + 1 = omega arith in
    rw (e, sum_to, sum_to) (omega (arith, sum_to_pairs n f, ap f c, ap f d))

-- by the lowest digit
sum_halves : (n : ℕ) (f : ℕ → ℕ) → sum_to (2 ^ suc n) f ≡ sum_to (2 ^ n) (λ x. f (x * 2 + 0) + f (x * 2 + 1))
sum_halves n f = rw (pow-suc 2 n) (sum_to_pairs (2 ^ n) f)

-- exclusive or with a number of n digits only exchanges the numbers below 2^n
sum_xor : (n m : ℕ) (f : ℕ → ℕ) → m < 2 ^ n → sum_to (2 ^ n) (λ x. f (bit_xor x m)) ≡ sum_to (2 ^ n) f
unfolding sum_to
sum_xor zero m f h = let e : m ≡ 0 = omega arith in rw e
sum_xor (suc n) m f h =
    sum_halves n (λ x. f (bit_xor x m))
    ∙ sum_to_same (2 ^ n) _ _ (λ x b. pair x (m % 2) (low m) refl)
    ∙ sum_xor n (m / 2) (λ y. f (y * 2 + 0) + f (y * 2 + 1)) (omega (arith, pow-suc 2 n))
    ∙ sym (sum_halves n f)
  where
    pair : (x d : ℕ) → d < 2 → d ≡ m % 2
        → f (bit_xor (x * 2 + 0) m) + f (bit_xor (x * 2 + 1) m) ≡ f (bit_xor x (m / 2) * 2 + 0) + f (bit_xor x (m / 2) * 2 + 1)
    pair x d h q =
        let e : m ≡ m / 2 * 2 + d = omega arith in
        ap (λ (y : ℕ). f (bit_xor (x * 2 + 0) y) + f (bit_xor (x * 2 + 1) y)) e
        ∙ ap₂ (λ (y z : ℕ). f y + f z) (xor_more x (m / 2) 0 d (lit< tt) h) (xor_more x (m / 2) 1 d (lit< tt) h)
        ∙ by_bit (λ d. f (bit_xor x (m / 2) * 2 + differ 0 d) + f (bit_xor x (m / 2) * 2 + differ 1 d) ≡ f (bit_xor x (m / 2) * 2 + 0) + f (bit_xor x (m / 2) * 2 + 1)) d h
        refl (add_comm _ _)

-- ---- sets of numbers below 2^n

abbrev pub count_in : (ℕ → Bool) → ℕ → ℕ
count_in s n = sum_to n (λ x. cond (s x) 1 0)

pub record ClosedSet (n : ℕ) (s : ℕ → Bool) : Type 0 where
  pub none : s 0 ≡ true
  pub both : (a b : ℕ) → a < 2 ^ n → b < 2 ^ n → s a ≡ true → s b ≡ true → s (bit_xor a b) ≡ true

-- some number below n is in the set, or none is
some_or_none : (s : ℕ → Bool) (n : ℕ) {P : Type 0} → ((x : ℕ) → x < n → s x ≡ true → P) → (((x : ℕ) → x < n → s x ≡ false) → P) → P
some_or_none s zero {P} f g = g (λ x h. absurd (omega arith))
some_or_none s (suc n) {P} f g = go (some_or_none s n {P = P} (λ x h. f x (omega arith))) (s n) refl
  where
    go : ((((x : ℕ) → x < n → s x ≡ false) → P) → P) → (b : Bool) → s n ≡ b → P
    go rest true e = f n (omega arith) e
    go rest false e = rest (λ z. g (λ x h. ⊎_elim (λ q. rw q e) (λ l. z x l) (eq-or-lt_of_le {n = x} {m = n} (omega arith))))

less_one : (a b : Bool) → (a ≡ true → b ≡ true) → cond a 1 0 ≤ cond b 1 0
less_one true b h = rw (h refl) (omega arith)
less_one false b h = zero-le

-- the even ones of a set, each halved
even_closed : (n : ℕ) (s : ℕ → Bool) → ClosedSet (suc n) s → ClosedSet n (λ x. s (x * 2 + 0))
even_closed n s c = record {
  none = c.none;
  both = λ a b ha hb ea eb.
      rw (← xor_more a b 0 0 (lit< tt) (lit< tt)) (c.both (a * 2 + 0) (b * 2 + 0) (omega (arith, pow-suc 2 n)) (omega (arith, pow-suc 2 n)) ea eb);
}

-- where it has an odd one, it has as many odd as even ones
as_many : (n m : ℕ) (s : ℕ → Bool) → ClosedSet (suc n) s → m < 2 ^ n → s (m * 2 + 1) ≡ true
    → count_in (λ x. s (x * 2 + 1)) (2 ^ n) ≡ count_in (λ x. s (x * 2 + 0)) (2 ^ n)
as_many n m s c h e =
    let even : ℕ → ℕ = λ x. cond (s (x * 2 + 0)) 1 0 in
    let odd : ℕ → ℕ = λ x. cond (s (x * 2 + 1)) 1 0 in
    let up : sum_to (2 ^ n) odd ≤ sum_to (2 ^ n) (λ x. even (bit_xor x m)) =
    sum_to_le (2 ^ n) _ _ (λ x b. less_one (s (x * 2 + 1)) (s (bit_xor x m * 2 + 0)) (λ t. rw (← xor_more x m 1 1 (lit< tt) (lit< tt)) (with_m (x * 2 + 1) (omega (arith, pow-suc 2 n)) t))) in
    let down : sum_to (2 ^ n) even ≤ sum_to (2 ^ n) (λ x. odd (bit_xor x m)) =
    sum_to_le (2 ^ n) _ _ (λ x b. less_one (s (x * 2 + 0)) (s (bit_xor x m * 2 + 1)) (λ t. rw (← xor_more x m 0 1 (lit< tt) (lit< tt)) (with_m (x * 2 + 0) (omega (arith, pow-suc 2 n)) t))) in
    omega (arith, up, down, sum_xor n m even h, sum_xor n m odd h)
  where
    with_m : (a : ℕ) → a < 2 ^ suc n → s a ≡ true → s (bit_xor a (m * 2 + 1)) ≡ true
    with_m a b t = c.both a (m * 2 + 1) b (omega (arith, pow-suc 2 n)) t e

pub closed_power : (n : ℕ) (s : ℕ → Bool) → ClosedSet n s → PowerOfTwo n (count_in s (2 ^ n))
unfolding sum_to
closed_power zero s c = record { power = 0; most = omega arith; is = rw c.none }
closed_power (suc n) s c =
    let r = closed_power n (λ x. s (x * 2 + 0)) (even_closed n s c) in
    let t = sum_halves n (λ x. cond (s x) 1 0) ∙ sum_to_add (2 ^ n) (λ x. cond (s (x * 2 + 0)) 1 0) (λ x. cond (s (x * 2 + 1)) 1 0) in
    some_or_none (λ x. s (x * 2 + 1)) (2 ^ n)
    (λ m h e. record { power = suc r.power; most = omega (arith, r.most); is = rw (pow-suc 2 r.power) (omega (arith, t, as_many n m s c h e, r.is)) })
    (λ z. record { power = r.power; most = omega (arith, r.most); is = omega (arith, t, sum_to_none (2 ^ n) (λ x. cond (s (x * 2 + 1)) 1 0) (λ x b. rw (z x b)), r.is) })
