-- The list of masks: what it means that every exponent is met, and that a list has the numbers below a limit that pass
-- a test.
use mathlib.Core.Path.{◌≡◌, refl, sym, ◌∙◌}
use mathlib.Core.Logic.{⊎_elim}
use mathlib.Core.Bool.{Bool, true, false, cond}
use mathlib.Core.List.{List, [], ◌∷◌, ◌++◌, append-nil}
use Prim.Native.Nat.{ℕ, zero, suc, ◌+◌, ◌≤◌, ◌<◌}
use native.Mathlib.Nat.{eq-or-lt_of_le}
use native.Mathlib.Numerals.{add-one}
use native.Mathlib.Omega.{arith}
use lib.ListN.{length, get_or, length-append, get_or-append}
use lib.Seq.{get_or_at}
use Rattle.counting.specs.Counting.{sum_to}
use Rattle.counting.proofs.Cases.{clash, and_left, and_right}
use Rattle.joining_rule.specs.Sets.{In}
use Rattle.joining_rule.proofs.Elements.{not_nil, in_cons, in_here, in_there}
use Rattle.calls.specs.Symmetries.{meets_evenly, meets_all, passing, IsListed}
use Rattle.calls.proofs.Doubling.{count_in}

-- ---- every exponent of a list

pub meets_in : (r : ℕ) (es : List ℕ) → meets_all r es ≡ true → (e : ℕ) → In e es → meets_evenly r e ≡ true
unfolding meets_all
meets_in r [] h e m = not_nil e m
meets_in r (x ∷ es) h e m =
    ⊎_elim (λ q. rw (← q) (and_left (meets_evenly r x) (meets_all r es) h)) (λ w. meets_in r es (and_right (meets_evenly r x) (meets_all r es) h) e w) (in_cons e x es m)

pub in_meets : (r : ℕ) (es : List ℕ) → ((e : ℕ) → In e es → meets_evenly r e ≡ true) → meets_all r es ≡ true
unfolding meets_all
in_meets r [] h = refl
in_meets r (x ∷ es) h = rw (h x (in_here x x es refl), in_meets r es (λ e m. h e (in_there e x es m)))

-- ---- one mask more

-- the numbers below n with a property, rising
pub record Lists (P : ℕ → Type 0) (n : ℕ) (l : List ℕ) : Type 0 where
  pub only : (m : ℕ) → m < length l → (get_or l m 0 < n) × P (get_or l m 0)
  pub all : (r : ℕ) → r < n → P r → IsListed (length l) l r
  pub rising : (k m : ℕ) → k < m → m < length l → get_or l k 0 < get_or l m 0
  pub few : length l ≤ n

module _ (P : ℕ → Type 0) (n : ℕ) (l : List ℕ) (h : Lists P n l) where
  before : (m : ℕ) → m < length l → get_or (l ++ (n ∷ [])) m 0 ≡ get_or l m 0
  before m b = get_or-append l (n ∷ []) 0 m b

  last : (m : ℕ) → m ≡ length l → get_or (l ++ (n ∷ [])) m 0 ≡ n
  last m e = get_or_at l n [] 0 m (sym e)

  longer : length (l ++ (n ∷ [])) ≡ length l + 1
  longer = length-append l (n ∷ [])

  lists_yes : P n → Lists P (suc n) (l ++ (n ∷ []))
  lists_yes p =
      let e = longer in
      record {
        only = λ m b. ⊎_elim (λ q. rw (last m q) (omega arith, p)) (λ c. rw (before m c) (let o = h.only m c in (omega arith, o.1))) (eq-or-lt_of_le {n = m} {m = length l} (omega arith));
        all = λ r b q.
            ⊎_elim
            (λ w. record { place = length l; within = omega arith; there = last (length l) refl ∙ sym w })
            (λ c. let o = h.all r c q in record { place = o.place; within = omega (arith, o.within); there = before o.place o.within ∙ o.there })
            (eq-or-lt_of_le {n = r} {m = n} (omega arith));
        rising = λ k m b c.
            ⊎_elim
            (λ q. rw (last m q, before k (omega arith)) (h.only k (omega arith)).0)
            (λ d. rw (before m d, before k (omega arith)) (h.rising k m b d))
            (eq-or-lt_of_le {n = m} {m = length l} (omega arith));
        few = omega (arith, h.few);
      }

  lists_no : (P n → ⊥) → Lists P (suc n) l
  lists_no p = record {
    only = λ m b. let o = h.only m b in (omega arith, o.1);
    all = λ r b q. ⊎_elim (λ w. absurd (p (rw w at q))) (λ c. h.all r c q) (eq-or-lt_of_le {n = r} {m = n} (omega arith));
    rising = h.rising;
    few = omega (arith, h.few);
  }

-- ---- the list

-- tests that agree below the limit
pub passing_same : (f g : ℕ → Bool) (n : ℕ) → ((r : ℕ) → r < n → f r ≡ g r) → passing f n ≡ passing g n
unfolding passing
passing_same f g zero h = refl
passing_same f g (suc n) h = rw (passing_same f g n (λ r b. h r (omega arith)), h n (omega arith))

module _ (test : ℕ → Bool) where
  pub passing_taken : (n : ℕ) → test n ≡ true → passing test (n + 1) ≡ passing test n ++ (n ∷ [])
  unfolding passing
  passing_taken n e = rw (add-one n, passing, e)

  pub passing_left : (n : ℕ) → test n ≡ false → passing test (n + 1) ≡ passing test n
  unfolding passing
  passing_left n e = rw (add-one n, passing, e) (append-nil (passing test n))

  pub passing_lists : (n : ℕ) → Lists (λ r. test r ≡ true) n (passing test n)
  unfolding passing
  passing_lists zero = record { only = λ m b. absurd (omega arith); all = λ r b q. absurd (omega arith); rising = λ k m b c. absurd (omega arith); few = omega arith }
  passing_lists (suc n) = go (test n) refl (passing_lists n)
    where
      go : (b : Bool) → test n ≡ b → Lists (λ r. test r ≡ true) n (passing test n) → Lists (λ r. test r ≡ true) (suc n) (passing test n ++ cond b (n ∷ []) [])
      go true e h = lists_yes _ n _ h e
      go false e h = rw (append-nil (passing test n)) (lists_no _ n _ h (λ t. clash (cc)))

  -- as many as there are below the limit
  pub passing_count : (n : ℕ) → length (passing test n) ≡ count_in test n
  unfolding passing sum_to
  passing_count zero = refl
  passing_count (suc n) = go (test n) (passing_count n)
    where
      go : (b : Bool) → length (passing test n) ≡ count_in test n → length (passing test n ++ cond b (n ∷ []) []) ≡ count_in test n + cond b 1 0
      go true e = rw (length-append (passing test n) (n ∷ [])) (omega arith)
      go false e = rw (append-nil (passing test n)) (omega arith)
