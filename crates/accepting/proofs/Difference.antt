-- The test over the compared keys is the identity at every key, and the key that it finds is the smallest that differs.
use mathlib.Core.Path.{◌≡◌, refl, sym, ap, ◌∙◌, subst}
use mathlib.Core.Logic.{⊎_elim}
use mathlib.Core.Bool.{Bool, true, false, cond}
use mathlib.Core.List.{List, [], ◌∷◌}
use mathlib.Core.Option.{Option, none, some}
use Prim.Native.Nat.{ℕ, ◌<◌}
use native.Mathlib.Omega.{arith}
use lib.IntN.{ℤ, pos, negsuc}
use borrow.Author.Tests.{eqb-true, eq-eqb}
use Rattle.counting.proofs.Cases.{clash}
use Rattle.polynomial.specs.Terms.{Term}
use Rattle.polynomial.specs.Algebra.{coefficient}
use Rattle.format.specs.ProblemRules.{Problem}
use Rattle.format.proofs.WithinLimits.{Limits}
use Rattle.joining_rule.specs.Sets.{In, member}
use Rattle.joining_rule.proofs.Rising.{Rising}
use Rattle.format.specs.All.{All}
use Rattle.format.proofs.CertificateLimits.{SoundRow}
use Rattle.joining_rule.proofs.Elements.{in_cons, not_nil, above_in}
use Rattle.format.specs.CertificateRules.{Certificate}
use Rattle.accepting.specs.Identity.{squares, claim, Identity, KeepsBlocks}
use Rattle.accepting.specs.Judgement.{same_number, first_difference, compared_keys, difference_key, Smallest}
use Rattle.accepting.proofs.Reach.{compared_rising, claim_outside, squares_outside}

-- ---- one comparison
pub same_equal : (a b : ℤ) → same_number a b ≡ true → a ≡ b
same_equal (pos a) (pos b) e = ap pos (eqb-true a b e)
same_equal (pos a) (negsuc b) e = clash (cc)
same_equal (negsuc a) (pos b) e = clash (cc)
same_equal (negsuc a) (negsuc b) e = ap negsuc (eqb-true a b e)

pub same_self : (a : ℤ) → same_number a a ≡ true
same_self (pos a) = eq-eqb a a refl
same_self (negsuc a) = eq-eqb a a refl

-- ---- one key after another
module _ (P Q : List Term) where
  abbrev Same : ℕ → Type 0
  Same k = coefficient k P ≡ coefficient k Q

  -- what an answer says of the keys that were compared
  Found : List ℕ → Option ℕ → Type 0
  Found ks none = (k : ℕ) → In k ks → Same k
  Found ks (some k) = (Same k → ⊥) × ((j : ℕ) → In j ks → j < k → Same j)

  found : (ks : List ℕ) → Rising ks → Found ks (first_difference P Q ks)
  unfolding first_difference Found
  found [] r = λ k m. not_nil k m
  found (k ∷ ks) r = go (same_number (coefficient k P) (coefficient k Q)) refl (first_difference P Q ks) (found ks r.1)
    where
      more : (o : Option ℕ) → Same k → Found ks o → Found (k ∷ ks) o
      more none e f = λ j m. ⊎_elim (λ d. subst Same d e) (f j) (in_cons j k ks m)
      more (some i) e f = (f.0, λ j m l. ⊎_elim (λ d. subst Same d e) (λ n. f.1 j n l) (in_cons j k ks m))

      go : (b : Bool) → same_number (coefficient k P) (coefficient k Q) ≡ b → (o : Option ℕ) → Found ks o → Found (k ∷ ks) (cond b o (some k))
      go true e o f = more o (same_equal _ _ e) f
      go false e o f = (
        λ q. let t : same_number (coefficient k P) (coefficient k Q) ≡ true = rw q (same_self (coefficient k Q)) in clash (cc),
        λ j m l. ⊎_elim (λ d. absurd (omega arith)) (λ n. let u = above_in k j ks r.0 n in absurd (omega arith)) (in_cons j k ks m),
      )

  -- where all coefficients are equal nothing is found
  same_none : ((k : ℕ) → Same k) → (ks : List ℕ) → first_difference P Q ks ≡ none
  unfolding first_difference
  same_none e [] = refl
  same_none e (k ∷ ks) =
      let t : same_number (coefficient k P) (coefficient k Q) ≡ true = rw (e k) (same_self (coefficient k Q)) in
      rw t (same_none e ks)

  -- where both have only compared keys, an answer speaks of every key
  module _ (ks : List ℕ) (r : Rising ks) (away : (k : ℕ) → (In k ks → ⊥) → Same k) where
    everywhere : (k : ℕ) → (In k ks → Same k) → Same k
    everywhere k f = go (member k ks) refl
      where
        go : (b : Bool) → member k ks ≡ b → Same k
        go true m = f m
        go false m = away k (λ n. clash (cc))

    none_same : first_difference P Q ks ≡ none → (k : ℕ) → Same k
    unfolding Found
    none_same e k = everywhere k (subst (Found ks) e (found ks r) k)

    some_smallest : (k : ℕ) → first_difference P Q ks ≡ some k → Smallest P Q k
    unfolding Found
    some_smallest k e = let f = subst (Found ks) e (found ks r) in record { differs = f.0; below = λ j l. everywhere j (λ m. f.1 j m l) }

-- ---- the test of a certificate
module _ (p : Problem) (c : Certificate) where
  -- where the identity holds the test finds no key
  pub identity_none : Identity p c → difference_key p c ≡ none
  unfolding difference_key Identity
  identity_none e = same_none (claim p c.header) (squares p c.rows) e (compared_keys p)

  module _ (limits : Limits p) (sound : All (SoundRow p) c.rows) (blocks : KeepsBlocks p c.rows) where
    both_none : (k : ℕ) → (In k (compared_keys p) → ⊥) → coefficient k (claim p c.header) ≡ coefficient k (squares p c.rows)
    both_none k f = claim_outside p c.header k f ∙ sym (squares_outside p limits c.rows sound blocks k f)

    -- "Equality is per monomial": where the test finds no key, the coefficients are equal at every key, also those not compared
    pub none_identity : difference_key p c ≡ none → Identity p c
    unfolding difference_key Identity
    none_identity = none_same (claim p c.header) (squares p c.rows) (compared_keys p) (compared_rising p) both_none

    -- "key is the smallest that differs"
    pub difference_smallest : (k : ℕ) → difference_key p c ≡ some k → Smallest (claim p c.header) (squares p c.rows) k
    unfolding difference_key
    difference_smallest = some_smallest (claim p c.header) (squares p c.rows) (compared_keys p) (compared_rising p) both_none
