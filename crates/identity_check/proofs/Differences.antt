-- The smallest key whose sum is not 0 is the first at which the claim and the squares differ.
use Rattle.std.proofs.Common.{Option, None, Some}
use mathlib.Core.Path.{◌≡◌, refl, sym, ap, ap₂, ◌∙◌}
use mathlib.Core.Logic.{⊎_elim}
use mathlib.Core.Bool.{Bool, true, false, cond}
use mathlib.Core.List.{List, [], ◌∷◌}
use mathlib.Core.Option.{none, some}
use Prim.Native.Nat.{ℕ, ◌+◌, ◌*◌, ◌^◌, ◌≤◌, ◌<◌}
use native.Mathlib.Omega.{arith}
use borrow.Author.Tests.{ne_eqb}
use lib.IntN.{ℤ, pos, negsuc, neg_ℤ, nat_abs, ◌+ℤ◌, +ℤ_idl}
use lib.ListN.{length, get_or, take, drop}
use Rattle.integers.proofs.Ring.{view, diffs, ⊖-eq, ⊖-eq⁻¹}
use Rattle.counting.proofs.Cases.{clash}
use Rattle.polynomial.specs.Terms.{Term}
use Rattle.polynomial.specs.Algebra.{coefficient}
use Rattle.format.specs.ProblemRules.{Problem}
use Rattle.format.specs.CertificateRules.{Row, Certificate}
use Rattle.format.specs.declared.certificate.Header.{Header}
use Rattle.joining_rule.specs.Sets.{In}
use Rattle.joining_rule.proofs.Rising.{Rising}
use Rattle.joining_rule.proofs.Elements.{not_nil, in_here, in_there, in_cons, above_in}
use Rattle.accepting.specs.Identity.{squares, claim, claim_of}
use Rattle.accepting.specs.Judgement.{same_number, first_difference, difference_key}
use Rattle.accepting.proofs.Difference.{same_equal, same_self}
use Rattle.flat.specs.TermArrays.{terms_in}
use Rattle.flat.proofs.Flat.{objective_terms}
use Rattle.key_set.specs.Table.{keys_in, Holds, Indexed}
use Rattle.key_set.proofs.Keys.{keys_rising, keys_at, at_keys}
use Rattle.wide_sums.specs.Sums.{value_at}
use Rattle.certificate_rows.specs.Offsets.{rows_by}
use Rattle.identity_sums.specs.Tables.{unit, Ready, SumsGrown}
use Rattle.identity_check.specs.Compare.{difference_of, Nonzero, Zeroed, Smallest, Carried, Given}
use Rattle.identity_sums.proofs.Growth.{grown_same}
use Rattle.identity_check.proofs.Carries.{Least, reached_end}

-- ---- one comparison
same_not : (a b : ℤ) → (a ≡ b → ⊥) → same_number a b ≡ false
same_not (pos a) (pos b) f = ne_eqb a b (λ e. f (ap pos e))
same_not (pos a) (negsuc b) f = refl
same_not (negsuc a) (pos b) f = refl
same_not (negsuc a) (negsuc b) f = ne_eqb a b (λ e. f (ap negsuc e))

module _ (P Q : List Term) where
  abbrev Equal : ℕ → Type 0
  Equal k = coefficient k P ≡ coefficient k Q

  difference_none : (ks : List ℕ) → ((k : ℕ) → In k ks → Equal k) → first_difference P Q ks ≡ none
  unfolding first_difference
  difference_none [] h = refl
  difference_none (k ∷ ks) h = rw (h k (in_here k k ks refl), same_self (coefficient k Q)) (difference_none ks (λ j m. h j (in_there j k ks m)))

  -- the smallest of rising keys that differs is the first
  difference_at : (ks : List ℕ) → Rising ks → (x : ℕ) → In x ks → (Equal x → ⊥) → ((k : ℕ) → In k ks → (Equal k → ⊥) → x ≤ k) → first_difference P Q ks ≡ some x
  unfolding first_difference
  difference_at [] r x m f h = not_nil x m
  difference_at (k ∷ ks) r x m f h = go (same_number (coefficient k P) (coefficient k Q)) refl (λ n. difference_at ks r.1 x n f (λ j i. h j (in_there j k ks i)))
    where
      go : (b : Bool) → same_number (coefficient k P) (coefficient k Q) ≡ b → (In x ks → first_difference P Q ks ≡ some x) → cond b (first_difference P Q ks) (some k) ≡ some x
      go true e i = ⊎_elim (λ w. absurd (f (rw (← w) (same_equal _ _ e)))) i (in_cons x k ks m)
      go false e i =
          let l : x ≤ k = h k (in_here k k ks refl) (λ w. let t : same_number (coefficient k P) (coefficient k Q) ≡ true = rw w (same_self (coefficient k Q)) in clash (cc)) in
          ⊎_elim (λ w. ap some w) (λ n. let u = above_in k x ks r.0 n in absurd (omega arith)) (in_cons x k ks m)

-- ---- a sum is 0 where the two sides are equal
zero_equal : (a b : ℤ) → neg_ℤ a +ℤ b ≡ pos 0 → a ≡ b
zero_equal a b e =
    let k = ⊖-eq⁻¹ _ _ _ _ (simp diffs at (rw ((view a).eq, (view b).eq) at e)) in
    rw ((view a).eq, (view b).eq) (⊖-eq _ _ _ _ (omega arith))

equal_zero : (a b : ℤ) → a ≡ b → neg_ℤ a +ℤ b ≡ pos 0
equal_zero a b e = rw (e, (view b).eq) (simp diffs (⊖-eq _ _ _ _ (omega arith)))

-- the places of a table and the elements of its set
module _ (P Q : List Term) {table : List ℕ} {n : ℕ} (h : Holds table n) (D : ℕ → ℤ)
    (v : (q : ℕ) → q < n → D q ≡ neg_ℤ (coefficient (get_or table q 0) P) +ℤ coefficient (get_or table q 0) Q) (r : Option ℕ) (f : Least D table n r) where
  equal : (q : ℕ) → q < n → D q ≡ pos 0 → Equal P Q (get_or table q 0)
  equal q b e = zero_equal _ _ (sym (v q b) ∙ e)

  unequal : (q : ℕ) → q < n → (Equal P Q (get_or table q 0) → ⊥) → D q ≡ pos 0 → ⊥
  unequal q b g e = g (equal q b e)

  pub tables_same : r ≡ None → first_difference P Q (keys_in n table) ≡ none
  tables_same l = difference_none P Q (keys_in n table) (λ k m. keys_at h k m (λ q b e. rw (← e) (equal q b (f.none l q b))))

  pub tables_differ : (x : ℕ) → r ≡ Some x → first_difference P Q (keys_in n table) ≡ some x
  tables_differ x l =
      let w = rw l at f.there in
      difference_at P Q (keys_in n table) (keys_rising n table) x (rw w.3 at (at_keys h w.0 w.1))
      (λ e. w.2 (v w.0 w.1 ∙ equal_zero _ _ (rw (← w.3) at e)))
      (λ k m g. keys_at h k m (λ q b e. rw (← e) (rw l at (f.least q b (unequal q b (λ u. g (rw (← e) u)))))))

-- ---- the tables at the start and at the end
pub zeroed_ready : {table idx : List ℕ} {n : ℕ} {hi lo : List ℤ} → Zeroed table n hi lo → Indexed idx table n → (c : ℕ) → c < 2 ^ 63 → Ready table idx n hi lo c
zeroed_ready z x c h =
    let few = z.support.few in
    record {
      support = z.support;
      index = x;
      high = record { long = omega (arith, z.in_hi); small = λ q b. omega (arith, ap nat_abs (z.hi_zero q b)) };
      low = record { long = omega (arith, z.in_lo); small = λ q b. omega (arith, ap nat_abs (z.lo_zero q b)) };
    }

pub zeroed_value : {table : List ℕ} {n : ℕ} {hi lo : List ℤ} → Zeroed table n hi lo → (q : ℕ) → q < n → value_at hi lo q ≡ pos 0
zeroed_value z q b = rw (z.hi_zero q b, z.lo_zero q b)

-- what the claim at most adds: its objective has at most 256 terms
pub claim_most_lem : {table : List ℕ} {n : ℕ} {f : ℕ → ℤ} {hi₀ hi₁ lo₀ lo₁ : List ℤ} (m : ℕ) → m ≤ 256 → SumsGrown table n hi₀ lo₀ f ((m + 1) * unit) hi₁ lo₁ → SumsGrown table n hi₀ lo₀ f (257 * unit) hi₁ lo₁
claim_most_lem m h g = grown_same g (λ k. refl) (omega arith)

-- ---- the answer
module _ {p : Problem} {c : Certificate} {s starts : List ℕ} {rows : ℕ} {header : Header} {keys : List ℕ} {coefficients : List ℤ} {sizes table : List ℕ} {n : ℕ}
    (given : Given p c s starts rows header keys coefficients sizes table n)
    -- the objective's exponents and coefficients, as they are lent
    {E : List ℕ} {C : List ℤ} (lent : E ≡ take (get_or sizes 18 0) (drop 864 keys)) (with : C ≡ take (get_or sizes 18 0) (drop 288 coefficients)) where
  module _ {hi₀ hi₁ hi₂ lo₀ lo₁ lo₂ : List ℤ} {a : ℕ} {known r : Option ℕ} (z : Zeroed table n hi₀ lo₀) (g : SumsGrown table n hi₀ lo₀ (λ k. neg_ℤ (coefficient k (claim_of (terms_in (length E) E C) header))) a hi₁ lo₁)
      (m : Carried (λ p k. coefficient k (squares p (rows_by s starts rows))) keys coefficients sizes table n hi₁ lo₁ hi₂ lo₂ known) (f : Smallest (Nonzero hi₂ lo₂) table n known r) where
    -- the whole sum at a place
    abbrev total : ℕ → ℤ
    total q = value_at hi₁ lo₁ q +ℤ coefficient (get_or table q 0) (squares p (rows_by s starts rows))

    claim_is : (k : ℕ) → coefficient k (claim_of (terms_in (length E) E C) header) ≡ coefficient k (claim p c.header)
    claim_is k = rw (lent, with, objective_terms given.flat, given.header_is)

    total_is : (q : ℕ) → q < n → total q ≡ neg_ℤ (coefficient (get_or table q 0) (claim p c.header)) +ℤ coefficient (get_or table q 0) (squares p c.rows)
    total_is q b =
        let k = get_or table q 0 in
        let x = neg_ℤ (coefficient k (claim_of (terms_in (length E) E C) header)) in
        ap₂ ◌+ℤ◌
        (g.there q b ∙ ap (λ (v : ℤ). v +ℤ x) (zeroed_value z q b) ∙ +ℤ_idl x ∙ ap neg_ℤ (claim_is k))
        (sym (ap (λ (rs : List Row). coefficient k (squares p rs)) given.rows_are))

    least : Least total table n r
    least = reached_end hi₂ lo₂ (m.reached p given.flat) f

    key_is : first_difference (claim p c.header) (squares p c.rows) (keys_in n table) ≡ difference_key p c
    unfolding difference_key
    key_is = rw given.compared

    pub found_same : r ≡ None → None ≡ difference_of (difference_key p c)
    found_same e = ap difference_of (sym (tables_same _ _ z.support total total_is r least e) ∙ key_is)

    pub found_differs : (x : ℕ) → r ≡ Some x → Some x ≡ difference_of (difference_key p c)
    found_differs x e = ap difference_of (sym (tables_differ _ _ z.support total total_is r least x e) ∙ key_is)

    found_by : (o : Option ℕ) → r ≡ o → o ≡ difference_of (difference_key p c)
    found_by None e = found_same e
    found_by (Some x) e = found_differs x e

    pub found_is : r ≡ difference_of (difference_key p c)
    found_is = found_by r refl
