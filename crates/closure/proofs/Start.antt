-- Laws of the start of S: what putting keys into a set gives.
use mathlib.Core.Path.{◌≡◌, refl, ap}
use mathlib.Core.List.{List, []}
use Prim.Native.Nat.{ℕ, zero, suc, ◌+◌, ◌*◌, ◌^◌, ◌≤◌, ◌<◌}
use native.Mathlib.Numerals.{add-one}
use native.Mathlib.Omega.{arith}
use lib.ListN.{length, drop, get_or, drop_of_length-le}
use lib.Seq.{drop-cons}
use Rattle.counting.specs.Counting.{from_to}
use Rattle.joining_rule.specs.Sets.{insert, insert_all}
use Rattle.key_set.specs.Table.{keys_in, Stored}
use Rattle.joining_products.proofs.Growing as Growing
use Rattle.joining_rule.specs.Joining.{multiples, start_from}
use Rattle.joining_rule.proofs.Extending.{from_to_extends}
use Rattle.joining_rule.proofs.Start.{insert_all_extends}
use Rattle.flat.specs.Flat.{basis_in}
use Rattle.joining_bases.specs.Parts.{exponents_in}
use Rattle.closure.specs.Tables.{start_in}

-- ---- one key after another
module _ (c : ℕ) (ks S : List ℕ) where
  pub insert_next : (i : ℕ) → i < length ks → insert_all (multiples c (drop i ks)) S ≡ insert_all (multiples c (drop (i + 1) ks)) (insert (c * get_or ks i 0) S)
  unfolding insert_all
  insert_next i h = rw (add-one, drop-cons ks i 0)

  pub insert_done : (i : ℕ) → length ks ≤ i → insert_all (multiples c (drop i ks)) S ≡ S
  unfolding insert_all
  insert_done i h = ap (λ (l : List ℕ). insert_all (multiples c l) S) (drop_of_length-le ks h)

-- a key of degree at most 32, and twice one, fit 64 bits
pub product_fits : (c k : ℕ) → c ≤ 2 → k ≤ 32 * 2 ^ 56 → c * k < 2 ^ 64
product_fits zero k h b = omega arith
product_fits (suc zero) k h b = omega arith
product_fits (suc (suc zero)) k h b = omega arith
product_fits (suc (suc (suc c))) k h b = absurd (omega arith)

-- ---- the start of S: the objective's exponents, those of the conditions, and twice those of basis 0
module _ (keys sizes : List ℕ) where
  abbrev pub first : List ℕ
  first = insert_all (exponents_in keys sizes 9) []

  abbrev pub conditions : List ℕ → List ℕ
  conditions = from_to 1 9 (λ j. insert_all (exponents_in keys sizes j))

  abbrev pub doubled : List ℕ → List ℕ
  doubled = insert_all (multiples 2 (basis_in keys sizes 0))

  pub start_is : doubled (conditions first) ≡ start_in keys sizes
  unfolding start_from
  start_is = refl

  -- what is put in last only adds
  pub doubled_more : (S : List ℕ) → length S ≤ length (doubled S)
  doubled_more S = (insert_all_extends (multiples 2 (basis_in keys sizes 0)) S).more

  pub conditions_more : (S : List ℕ) → length S ≤ length (doubled (conditions S))
  conditions_more S =
      omega (arith, (from_to_extends (λ j. insert_all (exponents_in keys sizes j)) (λ j X. insert_all_extends _ X) 1 9 S).more, doubled_more (conditions S))

-- a growth of an empty table after another
pub stored_then : (S t : List ℕ) (n : ℕ) (t₁ idx₁ : List ℕ) → Stored 0 S t n t₁ idx₁ → n ≤ 2048
    → (f : List ℕ → List ℕ) (r : ℕ) (t₂ idx₂ : List ℕ) → Stored n (f (keys_in n t₁)) t₁ r t₂ idx₂ → Stored 0 (f S) t r t₂ idx₂
stored_then S t n t₁ idx₁ g b f r t₂ idx₂ k = Growing.stored_then 0 S t n t₁ idx₁ (omega arith) b g (f S) r t₂ idx₂ (rw (g.grown.keys b) at k)
