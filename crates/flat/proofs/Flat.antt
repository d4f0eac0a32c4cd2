-- Laws of the arrays that hold a problem: what stands at each place is within the limits, and what is lent of the arrays
-- are the problem's bases, exponents and coefficients.
use mathlib.Core.Path.{◌≡◌, refl, sym, ap, ◌∙◌}
use mathlib.Core.List.{List, [], ◌∷◌}
use mathlib.Core.Logic.{⊎_elim}
use Prim.Native.Nat.{ℕ, zero, suc, ◌+◌, ◌*◌, ◌^◌, ◌≤◌, ◌<◌, zero-le}
use native.Mathlib.Omega.{arith}
use lib.Dec.{eqb}
use lib.IntN.{ℤ, pos, nat_abs}
use lib.ListN.{length, get_or, take, drop, length-drop}
use lib.Seq.{length-take-le, take-take, drop-drop, get_or-take, get_or-drop}
use borrow.Author.Tests.{lt-ltb, le-ltb}
use Rattle.counting.specs.Counting.{Bounded}
use Rattle.counting.proofs.Bounded.{bounded_take}
use Rattle.counting.proofs.Cases.{lt_or_le}
use Rattle.polynomial.specs.Terms.{keys_of}
use Rattle.format.specs.ProblemRules.{Problem}
use Rattle.format.specs.declared.problem.Kind.{Kind}
use Rattle.format.specs.declared.problem.Kind.TheVariants as K
use Rattle.format.specs.ProblemBases.{basis_of, multiplier, multiplier_of, kind_of, is_equality}
use Rattle.flat.specs.TermArrays.{terms_in, Low, Small}
use Rattle.flat.specs.Flat.{polynomial_in, kind_number, equality_in, most_at, degree_at, largest_at, FlatLimits, FlatProblem}
use Rattle.flat.proofs.TermArrays.{terms_keys, terms_same}

-- ---- the limits of each kind of place
pub basis_most : (i : ℕ) → i < 9 → most_at i ≡ 64
basis_most i h = rw (lt-ltb i 9 h)

pub multiplier_most : (i : ℕ) → 9 ≤ i → i < 18 → most_at i ≡ 32
multiplier_most i h k = rw (le-ltb i 9 h, lt-ltb i 18 k)

pub basis_degree : (i : ℕ) → i < 576 → degree_at i ≡ 8
basis_degree i h = rw (lt-ltb i 576 h)

pub multiplier_degree : (i : ℕ) → 576 ≤ i → i < 864 → degree_at i ≡ 16
multiplier_degree i h k = rw (le-ltb i 576 h, lt-ltb i 864 k)

pub objective_degree : (i : ℕ) → 864 ≤ i → degree_at i ≡ 32
objective_degree i h = rw (le-ltb i 576 (omega arith), le-ltb i 864 h)

pub multiplier_largest : (i : ℕ) → i < 288 → largest_at i ≡ 2 ^ 15
multiplier_largest i h = rw (lt-ltb i 288 h)

pub objective_largest : (i : ℕ) → 288 ≤ i → largest_at i ≡ 2 ^ 31
objective_largest i h = rw (le-ltb i 288 h)

pub kind_most : (i : ℕ) → 20 ≤ i → i < 29 → most_at i ≡ 1
kind_most i h k = rw (le-ltb i 9 (omega arith), le-ltb i 18 (omega arith), le-ltb i 19 (omega arith), le-ltb i 20 h, lt-ltb i 29 k)

-- ---- parts of parts
module _ {A : Type 0} where
  pub part_take : (m b n : ℕ) (l : List A) → b + m ≤ n → take m (drop b (take n l)) ≡ take m (drop b l)
  part_take m zero n l h = take-take m n l (omega arith)
  part_take m (suc b) zero l h = absurd (omega arith)
  part_take m (suc b) (suc n) [] h = refl
  part_take m (suc b) (suc n) (x ∷ l) h = part_take m b n l (omega arith)

  -- a part of what stands from a place on
  pub part_lent : (m b n a : ℕ) (l : List A) → b + m ≤ n → take m (drop b (take n (drop a l))) ≡ take m (drop (a + b) l)
  part_lent m b n a l h = part_take m b n (drop a l) h ∙ ap (take m) (drop-drop b a l)

  pub part_length : (n a : ℕ) (l : List A) → a + n ≤ length l → length (take n (drop a l)) ≡ n
  part_length n a l h = length-take-le n (drop a l) (rw (length-drop a l) (omega arith))

  beyond : (n : ℕ) (l : List A) (i : ℕ) (d : A) → n ≤ i → get_or (take n l) i d ≡ d
  beyond zero l i d h = refl
  beyond (suc n) [] i d h = refl
  beyond (suc n) (x ∷ l) zero d h = absurd (omega arith)
  beyond (suc n) (x ∷ l) (suc i) d h = beyond n l i d (omega arith)

  -- what holds of the default and of every element of a part holds wherever one looks in it
  part_all : (P : A → Type 0) (n a : ℕ) (l : List A) (d : A) → P d → ((i : ℕ) → a ≤ i → i < a + n → P (get_or l i d)) → (i : ℕ) → P (get_or (take n (drop a l)) i d)
  part_all P n a l d p h i =
      ⊎_elim
      (λ b. rw (get_or-take n (drop a l) i d b, get_or-drop a l i d) (h (a + i) (omega arith) (omega arith)))
      (λ b. rw (beyond n (drop a l) i d b) p)
      (lt_or_le i n)

-- a part in which every number is at most m, and one in which no number is above m in size
pub part_bounded : (m n a : ℕ) (l : List ℕ) → ((i : ℕ) → a ≤ i → i < a + n → get_or l i 0 ≤ m) → Bounded m (take n (drop a l))
part_bounded m n a l h = part_all (λ x. x ≤ m) n a l 0 zero-le h

pub part_small : (m n a : ℕ) (l : List ℤ) → ((i : ℕ) → a ≤ i → i < a + n → nat_abs (get_or l i (pos 0)) ≤ m) → Small m (take n (drop a l))
part_small m n a l h = part_all (λ x. nat_abs x ≤ m) n a l (pos 0) zero-le h

-- ---- what is lent of the arrays: the bases are `take 576 keys` with `take 9 sizes`, the multipliers
-- `take 288 (drop 576 keys)` and `take 288 coefficients` with `take 9 (drop 9 sizes)`
module _ {keys : List ℕ} {coefficients : List ℤ} {sizes : List ℕ} (f : FlatLimits keys coefficients sizes) where
  pub basis_size : (j : ℕ) → j < 9 → get_or sizes j 0 ≤ 64
  basis_size j h = rw (basis_most j h) at (f.sizes_low j)

  pub multiplier_size : (j : ℕ) → j < 9 → get_or sizes (9 + j) 0 ≤ 32
  multiplier_size j h = rw (multiplier_most (9 + j) (omega arith) (omega arith)) at (f.sizes_low (9 + j))

  pub objective_size : get_or sizes 18 0 ≤ 256
  objective_size = f.sizes_low 18

  pub conditions_few : get_or sizes 19 0 ≤ 8
  conditions_few = f.sizes_low 19

  pub bases_length : length (take 576 keys) ≡ 576
  bases_length = let e = f.keys_length in length-take-le 576 keys (omega arith)

  pub bases_low : Low 8 (take 576 keys)
  bases_low = part_bounded (8 * 2 ^ 56) 576 0 keys (λ i a b. rw (basis_degree i (omega arith)) at (f.keys_low i))

  pub sizes_length : length (take 9 sizes) ≡ 9
  sizes_length = let e = f.sizes_length in length-take-le 9 sizes (omega arith)

  pub sizes_low : Bounded 64 (take 9 sizes)
  sizes_low = part_bounded 64 9 0 sizes (λ i a b. basis_size i (omega arith))

  pub exponents_length : length (take 288 (drop 576 keys)) ≡ 288
  exponents_length = let e = f.keys_length in part_length 288 576 keys (omega arith)

  pub exponents_low : Low 16 (take 288 (drop 576 keys))
  exponents_low = part_bounded (16 * 2 ^ 56) 288 576 keys (λ i a b. rw (multiplier_degree i a (omega arith)) at (f.keys_low i))

  pub coefficients_length : length (take 288 coefficients) ≡ 288
  coefficients_length = let e = f.coefficients_length in length-take-le 288 coefficients (omega arith)

  pub counts_length : length (take 9 (drop 9 sizes)) ≡ 9
  counts_length = let e = f.sizes_length in part_length 9 9 sizes (omega arith)

  pub counts_low : Bounded 32 (take 9 (drop 9 sizes))
  counts_low = part_bounded 32 9 9 sizes (λ i a b. rw (multiplier_most i a b) at (f.sizes_low i))

  -- the objective's exponents, with room for 256
  pub objective_length : length (drop 864 keys) ≡ 256
  objective_length = let e = f.keys_length in rw (length-drop 864 keys) (omega arith)

  pub objective_low : Low 32 (drop 864 keys)
  objective_low i = rw (get_or-drop 864 keys i 0) (rw (objective_degree (864 + i) (omega arith)) at (f.keys_low (864 + i)))

  -- ---- basis j, and polynomial j, of which number 9 is the objective: they stand within the arrays
  pub basis_fits : (j : ℕ) → j < 9 → 64 * j + get_or sizes j 0 ≤ length keys
  basis_fits j h = omega (arith, basis_size j h, f.keys_length)

  pub polynomial_counted : (j : ℕ) → j ≤ 9 → 9 + j < length sizes
  polynomial_counted j h = omega (arith, f.sizes_length)

  -- there are 256 places from the objective's on, and 32 from a multiplier's
  polynomial_size : (j : ℕ) → j ≤ 9 → 32 * j + get_or sizes (9 + j) 0 ≤ 544
  polynomial_size j h =
      ⊎_elim
      (λ b. omega (arith, multiplier_size j b))
      (λ b.
      let q : j ≡ 9 = omega arith in
      let m : get_or sizes (9 + j) 0 ≤ 256 = rw q objective_size in
      omega arith)
      (lt_or_le j 9)

  pub exponents_fit : (j : ℕ) → j ≤ 9 → 576 + 32 * j + get_or sizes (9 + j) 0 ≤ length keys
  exponents_fit j h = omega (arith, polynomial_size j h, f.keys_length)

  pub coefficients_fit : (j : ℕ) → j ≤ 9 → 32 * j + get_or sizes (9 + j) 0 ≤ length coefficients
  coefficients_fit j h = omega (arith, polynomial_size j h, f.coefficients_length)

  -- how long they are
  pub basis_long : (j : ℕ) → j < 9 → length (take (get_or sizes j 0) (drop (64 * j) keys)) ≡ get_or sizes j 0
  basis_long j h = part_length (get_or sizes j 0) (64 * j) keys (basis_fits j h)

  pub exponents_long : (j : ℕ) → j ≤ 9 → length (take (get_or sizes (9 + j) 0) (drop (576 + 32 * j) keys)) ≡ get_or sizes (9 + j) 0
  exponents_long j h = part_length (get_or sizes (9 + j) 0) (576 + 32 * j) keys (exponents_fit j h)

  pub coefficients_long : (j : ℕ) → j ≤ 9 → length (take (get_or sizes (9 + j) 0) (drop (32 * j) coefficients)) ≡ get_or sizes (9 + j) 0
  coefficients_long j h = part_length (get_or sizes (9 + j) 0) (32 * j) coefficients (coefficients_fit j h)

  -- and how large their numbers
  pub basis_low : (j : ℕ) → j < 9 → Low 8 (take (get_or sizes j 0) (drop (64 * j) keys))
  basis_low j h =
      part_bounded (8 * 2 ^ 56) (get_or sizes j 0) (64 * j) keys
      (λ i a b. rw (basis_degree i (omega (arith, basis_size j h))) at (f.keys_low i))

  pub multiplier_low : (j : ℕ) → j < 9 → Low 16 (take (get_or sizes (9 + j) 0) (drop (576 + 32 * j) keys))
  multiplier_low j h =
      part_bounded (16 * 2 ^ 56) (get_or sizes (9 + j) 0) (576 + 32 * j) keys
      (λ i a b. rw (multiplier_degree i (omega arith) (omega (arith, multiplier_size j h))) at (f.keys_low i))

  pub objective_keys_low : Low 32 (take (get_or sizes 18 0) (drop 864 keys))
  objective_keys_low = bounded_take (32 * 2 ^ 56) (get_or sizes 18 0) (drop 864 keys) objective_low

  pub coefficients_small : (j : ℕ) → j < 9 → Small (2 ^ 15) (take (get_or sizes (9 + j) 0) (drop (32 * j) coefficients))
  coefficients_small j h =
      part_small (2 ^ 15) (get_or sizes (9 + j) 0) (32 * j) coefficients
      (λ i a b. rw (multiplier_largest i (omega (arith, multiplier_size j h))) at (f.coefficients_low i))

  pub objective_small : Small (2 ^ 31) (take (get_or sizes 18 0) (drop 288 coefficients))
  objective_small =
      part_small (2 ^ 31) (get_or sizes 18 0) 288 coefficients
      (λ i a b. rw (objective_largest i a) at (f.coefficients_low i))

-- a kind by its number
pub kind_told : (k : Kind) → eqb (kind_number k) 1 ≡ is_equality k
kind_told K.Inequality = refl
kind_told K.Equality = refl

module _ {p : Problem} {keys : List ℕ} {coefficients : List ℤ} {sizes : List ℕ} (f : FlatProblem p keys coefficients sizes) where
  pub kind_part : (j : ℕ) → j < 9 → equality_in sizes j ≡ is_equality (kind_of p j)
  kind_part j h = rw (f.kinds j h) (kind_told (kind_of p j))

  -- the exponents of a multiplier and of the objective
  pub multiplier_part : (j : ℕ) → j < 9 → take (get_or sizes (9 + j) 0) (drop (576 + 32 * j) keys) ≡ multiplier_of p j
  unfolding multiplier_of
  multiplier_part j h =
      let e = f.limits.keys_length in
      let b = multiplier_size f.limits j h in
      sym (terms_keys (get_or sizes (9 + j) 0) (drop (576 + 32 * j) keys) (drop (32 * j) coefficients) (rw (length-drop (576 + 32 * j) keys) (omega arith)))
      ∙ ap keys_of (f.multipliers j h)

  pub objective_part : take (get_or sizes 18 0) (drop 864 keys) ≡ keys_of p.objective
  objective_part =
      let e = f.limits.keys_length in
      let b = f.limits.sizes_low 18 in
      sym (terms_keys (get_or sizes 18 0) (drop 864 keys) (drop 288 coefficients) (rw (length-drop 864 keys) (omega arith))) ∙ ap keys_of f.objective

  -- the same by the parts that are lent
  pub basis_lent : (j : ℕ) → j < 9 → take (get_or (take 9 sizes) j 0) (drop (64 * j) (take 576 keys)) ≡ basis_of p j
  basis_lent j h =
      let b = basis_size f.limits j h in
      rw (get_or-take 9 sizes j 0 h) (part_take (get_or sizes j 0) (64 * j) 576 keys (omega arith) ∙ f.bases j h)

  count_lent : (j : ℕ) → j < 9 → get_or (take 9 (drop 9 sizes)) j 0 ≡ get_or sizes (9 + j) 0
  count_lent j h = get_or-take 9 (drop 9 sizes) j 0 h ∙ get_or-drop 9 sizes j 0

  keys_lent : (j : ℕ) → j < 9 → take (get_or sizes (9 + j) 0) (drop (32 * j) (take 288 (drop 576 keys))) ≡ take (get_or sizes (9 + j) 0) (drop (576 + 32 * j) keys)
  keys_lent j h = let b = multiplier_size f.limits j h in part_lent (get_or sizes (9 + j) 0) (32 * j) 288 576 keys (omega arith)

  pub exponents_lent : (j : ℕ) → j < 9 → take (get_or (take 9 (drop 9 sizes)) j 0) (drop (32 * j) (take 288 (drop 576 keys))) ≡ multiplier_of p j
  exponents_lent j h = rw (count_lent j h) (keys_lent j h ∙ multiplier_part j h)

  pub terms_lent : (j : ℕ) → j < 9
      → terms_in (get_or (take 9 (drop 9 sizes)) j 0) (drop (32 * j) (take 288 (drop 576 keys))) (drop (32 * j) (take 288 coefficients)) ≡ multiplier p j
  terms_lent j h =
      let b = multiplier_size f.limits j h in
      rw (count_lent j h)
      (terms_same (get_or sizes (9 + j) 0) _ _ _ _ (keys_lent j h) (part_take (get_or sizes (9 + j) 0) (32 * j) 288 coefficients (omega arith)) ∙ f.multipliers j h)

  -- the terms of a polynomial by its own slices
  slices_terms : (j : ℕ) → let n = get_or sizes (9 + j) 0 in terms_in n (take n (drop (576 + 32 * j) keys)) (take n (drop (32 * j) coefficients)) ≡ polynomial_in keys coefficients sizes j
  slices_terms j =
      let n = get_or sizes (9 + j) 0 in
      terms_same n _ _ _ _ (take-take n n (drop (576 + 32 * j) keys) (omega arith)) (take-take n n (drop (32 * j) coefficients) (omega arith))

  pub terms_part : (j : ℕ) → j < 9
      → let E = take (get_or sizes (9 + j) 0) (drop (576 + 32 * j) keys) in terms_in (length E) E (take (get_or sizes (9 + j) 0) (drop (32 * j) coefficients)) ≡ multiplier p j
  terms_part j h = rw (exponents_long f.limits j (omega arith)) (slices_terms j ∙ f.multipliers j h)

  pub objective_terms : let E = take (get_or sizes 18 0) (drop 864 keys) in terms_in (length E) E (take (get_or sizes 18 0) (drop 288 coefficients)) ≡ p.objective
  objective_terms = rw (exponents_long f.limits 9 (omega arith)) (slices_terms 9 ∙ f.objective)
