-- Laws of the sum of coefficient × m(monomial) over the terms of a polynomial, in a ring with the whole numbers in it.
-- A coefficient is such a sum, and so are a scaled value at a rational point and a value at a point of a ring; so each
-- law here is one of all three.
use mathlib.Core.Path.{◌≡◌, refl, sym, ap, ap₂, ◌∙◌}
use mathlib.Core.Bool.{Bool, true, false, cond}
use mathlib.Core.List.{List, [], ◌∷◌, ◌++◌}
use Prim.Native.Nat.{ℕ, zero, suc, ◌+◌ as ◌+ℕ◌, ◌≤◌}
use native.Mathlib.Nat.{le_refl}
use native.Mathlib.Omega.{arith}
use lib.Dec.{T, eqb, eqb→eq, eqb_refl}
use lib.ListN.{length}
use lib.IntN.{ℤ, pos, negsuc, ◌+ℤ◌, ◌*ℤ◌, +ℤ_idl, *ℤ-zero}
use Rattle.integers.proofs.Ring.{to_zero}
use Rattle.ordered_rings.proofs.Laws.{zero-+, one-*, +-left, *-left, +-*, *-zero, zero-*, is_minus, minus_minus, minus-*}
use Rattle.ordered_rings.proofs.Numbers.{Numbers, whole_zero, whole_minus}
use Rattle.ordered_rings.proofs.Integers.{integer_numbers, times_one}
use Rattle.polynomial.specs.Terms.{Term}
use Rattle.polynomial.specs.Algebra.{sum_by, match, coefficient, scale, shift, ◌⊗◌}
use Rattle.polynomial.proofs.Keys.{Keys}

-- ---- the terms of one monomial taken out
keep : Bool → Term → List Term → List Term
keep true t P = P
keep false t P = t ∷ P

without : ℕ → List Term → List Term
without k [] = []
without k (t ∷ P) = keep (eqb t.key k) t (without k P)

shorter : (k : ℕ) (P : List Term) → length (without k P) ≤ length P
unfolding without keep
shorter k [] = omega arith
shorter k (t ∷ P) = go (eqb t.key k) (shorter k P)
  where
    go : (b : Bool) → length (without k P) ≤ length P → length (keep b t (without k P)) ≤ suc (length P)
    go true h = omega arith
    go false h = omega arith

gone : (t : Term) (P : List Term) → without t.key (t ∷ P) ≡ without t.key P
unfolding without keep
gone t P = go (eqb t.key t.key) (eqb_refl t.key)
  where
    go : (b : Bool) → T b → keep b t (without t.key P) ≡ without t.key P
    go true h = refl
    go false h = absurd h

module _ {A : Type 0} (N : Numbers A) where
  open N use {ring, whole, whole-+, whole-*}
  open ring use {𝟘, ◌+◌, ◌*◌, +_assoc, *-assoc, *-+}

  abbrev pub sum_in : (ℕ → A) → List Term → A
  sum_in m P = sum_by 𝟘 ◌+◌ (λ c v. whole c * v) m P

  module _ (m : ℕ → A) where
    -- ---- the operations
    pub append_in : (P Q : List Term) → sum_in m (P ++ Q) ≡ sum_in m P + sum_in m Q
    append_in [] Q = sym (zero-+ ring _)
    append_in (t ∷ P) Q = ap (λ s. whole t.coefficient * m t.key + s) (append_in P Q) ∙ sym (+_assoc _ _ _)

    pub scale_in : (x : ℤ) (P : List Term) → sum_in m (scale x P) ≡ whole x * sum_in m P
    scale_in x [] = sym (*-zero ring (whole x))
    scale_in x (t ∷ P) =
        ap (λ s. whole (x *ℤ t.coefficient) * m t.key + s) (scale_in x P) ∙ rw (whole-*, *-assoc, *-+)

    shift_in : (s : Term) (Q : List Term)
        → sum_in m (shift s Q) ≡ whole s.coefficient * sum_in (λ k. m (s.key +ℕ k)) Q
    shift_in s [] = sym (*-zero ring (whole s.coefficient))
    shift_in s (t ∷ Q) =
        ap (λ x. whole (s.coefficient *ℤ t.coefficient) * m (s.key +ℕ t.key) + x) (shift_in s Q)
        ∙ rw (whole-*, *-assoc, *-+)

    -- a product's sum is a sum over both factors' terms
    pub ⊗-in : (P Q : List Term) → sum_in m (P ⊗ Q) ≡ sum_in (λ j. sum_in (λ k. m (j +ℕ k)) Q) P
    ⊗-in [] Q = refl
    ⊗-in (s ∷ P) Q = append_in (shift s Q) (P ⊗ Q) ∙ ap₂ ◌+◌ (shift_in s Q) (⊗-in P Q)

    -- a factor that every monomial has
    pub factor_in : (f : ℕ → A) (a : A) (P : List Term) → Keys (λ k. m k ≡ a * f k) P → sum_in m P ≡ a * sum_in f P
    factor_in f a [] h = sym (*-zero ring a)
    factor_in f a (t ∷ P) h =
        ap₂ (λ x s. whole t.coefficient * x + s) h.0 (factor_in f a P h.1)
        ∙ rw (*-left ring (whole t.coefficient) a (f t.key), *-+)

    -- ---- one monomial's share
    split_step : (k : ℕ) (b : Bool) (t : Term) (P : List Term) (S : A) (c : ℤ) → (T b → t.key ≡ k)
        → S ≡ whole c * m k + sum_in m P
        → whole t.coefficient * m t.key + S
        ≡ whole (t.coefficient *ℤ cond b (pos 1) (pos 0) +ℤ c) * m k + sum_in m (keep b t P)
    unfolding keep
    split_step k true t P S c f e = rw (e, f tt, times_one t.coefficient, whole-+, +-* ring, +_assoc)
    split_step k false t P S c f e = rw (e, *ℤ-zero t.coefficient, +ℤ_idl c, +-left ring)

    split : (k : ℕ) (P : List Term) → sum_in m P ≡ whole (coefficient k P) * m k + sum_in m (without k P)
    unfolding coefficient without
    split k [] = sym (rw (whole_zero N, zero-* ring, zero-+ ring))
    split k (t ∷ P) =
        split_step k (eqb t.key k) t (without k P) (sum_in m P) (coefficient k P) (eqb→eq _ _) (split k P)

    -- a monomial with the coefficient 0 has none
    rest : (k : ℕ) (P : List Term) → coefficient k P ≡ pos 0 → sum_in m P ≡ sum_in m (without k P)
    rest k P e = split k P ∙ rw (e, whole_zero N, zero-* ring, zero-+ ring)

-- ---- "Equality is per monomial"
module _ {A : Type 0} (N : Numbers A) (m : ℕ → A) where
  open N use {ring, whole, whole_one}
  open ring use {𝟘, ◌+◌, -◌, ◌*◌}

  -- where every coefficient is 0, so is the sum: each step takes out the monomial of the first term
  vanish : (n : ℕ) (P : List Term) → length P ≤ n → ((k : ℕ) → coefficient k P ≡ pos 0) → sum_in N m P ≡ 𝟘
  vanish zero [] h z = refl
  vanish zero (t ∷ P) h z = absurd (omega arith)
  vanish (suc n) [] h z = refl
  vanish (suc n) (t ∷ P) h z =
      rest N m t.key (t ∷ P) (z t.key)
      ∙ vanish n (without t.key (t ∷ P)) (rw gone (let s = shorter t.key P in omega arith))
      (λ j. unfold coefficient in sym (rest integer_numbers (match j) t.key (t ∷ P) (z t.key)) ∙ z j)

  -- b may be moved across, as −1 · b
  from_zero : (a b : A) → a + whole (negsuc 0) * b ≡ 𝟘 → a ≡ b
  from_zero a b e =
      let u : whole (negsuc 0) * b ≡ - b = rw (whole_minus N (pos 1), whole_one, minus-* ring, one-* ring) in
      sym (sym (minus_minus ring b) ∙ ap -◌ (sym u ∙ is_minus ring a _ e) ∙ minus_minus ring a)

  -- two polynomials with the same coefficient at every monomial have the same sum
  pub same_in : (P Q : List Term) → ((k : ℕ) → coefficient k P ≡ coefficient k Q) → sum_in N m P ≡ sum_in N m Q
  same_in P Q e =
      from_zero (sum_in N m P) (sum_in N m Q) (sym (less N m) ∙ vanish _ (P ++ scale (negsuc 0) Q) (le_refl _)
      (λ k. unfold coefficient in less integer_numbers (match k) ∙ to_zero (coefficient k P) (coefficient k Q) (e k)))
    where
      less : {B : Type 0} (M : Numbers B) (f : ℕ → B) → sum_in M f (P ++ scale (negsuc 0) Q)
          ≡ M.ring.◌+◌ (sum_in M f P) (M.ring.◌*◌ (M.whole (negsuc 0)) (sum_in M f Q))
      less M f = append_in M f P (scale (negsuc 0) Q) ∙ ap (M.ring.◌+◌ (sum_in M f P)) (scale_in M f (negsuc 0) Q)
