-- Laws of the parity bytes that are gathered, and of a mask that is held against them.
use mathlib.Core.Path.{◌≡◌, refl, sym, ap, ap₂, ◌∙◌}
use mathlib.Core.Logic.{⊎_elim}
use mathlib.Core.Bool.{Bool, true, ◌&&◌}
use mathlib.Core.List.{List, [], ◌∷◌, map, ◌++◌, append-nil, append_assoc}
use Prim.Native.Nat.{ℕ, suc, ◌+◌, ◌-◌, ◌*◌, ◌%◌, ◌^◌, ◌≤◌, ◌<◌}
use native.Mathlib.Numerals.{add-one}
use native.Mathlib.Omega.{arith}
use lib.IntN.{ℤ}
use lib.ListN.{length, get_or, take, drop, set, drop_of_length-le, get_or-eq_default}
use lib.Pow.{pow_mono}
use lib.Seq.{take-suc, take-suc-set, take_all, drop-cons}
use Rattle.counting.proofs.Cases.{lt_or_le}
use Rattle.polynomial.specs.Terms.{keys_of}
use Rattle.format.specs.ProblemRules.{Condition, Problem, no_condition}
use Rattle.format.specs.ProblemBases.{multiplier, multiplier_of}
use Rattle.flat.specs.Flat.{FlatProblem}
use Rattle.flat.proofs.Flat.{multiplier_size, objective_size, conditions_few, exponents_long, multiplier_part, objective_part}
use Rattle.closure.specs.Tables.{FlatKeys}
use Rattle.calls.specs.Symmetries.{parity_byte, ones_in_common, is_even, meets_evenly, meets_all, condition_exponents, exponents_of, passing, symmetries_of}
use Rattle.calls.proofs.Masks.{passing_same}
use Rattle.sign_symmetries.specs.Parities.{even_all, Gathered}

-- ---- a mask against bytes

pub even_all_meets : (r : ℕ) (es : List ℕ) → even_all r (map parity_byte es) ≡ meets_all r es
unfolding even_all meets_all meets_evenly
even_all_meets r [] = refl
even_all_meets r (e ∷ es) = rw (even_all_meets r es)

module _ (r : ℕ) (l : List ℕ) (i : ℕ) where
  pub even_next : (t : Bool) → i < length l → t ≡ is_even (ones_in_common r (get_or l i 0)) → even_all r (drop i l) ≡ t && even_all r (drop (i + 1) l)
  unfolding even_all
  even_next t h e = rw (add-one i, drop-cons l i 0 h, ← e)

  pub even_done : length l ≤ i → even_all r (drop i l) ≡ true
  unfolding even_all
  even_done h = rw (drop_of_length-le l h)

-- ---- one more parity byte

map_snoc : (l : List ℕ) (x : ℕ) → map parity_byte (l ++ (x ∷ [])) ≡ map parity_byte l ++ (parity_byte x ∷ [])
map_snoc [] x = refl
map_snoc (y ∷ l) x = ap (λ (t : List ℕ). parity_byte y ∷ t) (map_snoc l x)

pub map_append : (l m : List ℕ) → map parity_byte (l ++ m) ≡ map parity_byte l ++ map parity_byte m
map_append [] m = refl
map_append (y ∷ l) m = ap (λ (t : List ℕ). parity_byte y ∷ t) (map_append l m)

pub parity_put : (bytes₀ bytes keys : List ℕ) (n i v : ℕ) → n + i < length bytes → i < length keys → v ≡ parity_byte (get_or keys i 0)
    → take (n + i) bytes ≡ take n bytes₀ ++ map parity_byte (take i keys)
    → take (n + (i + 1)) (set bytes (n + i) v) ≡ take n bytes₀ ++ map parity_byte (take (i + 1) keys)
parity_put bytes₀ bytes keys n i v h b e q =
    let s : n + (i + 1) ≡ suc (n + i) = omega arith in
    rw (s, take-suc-set bytes (n + i) v h, q, add-one i, take-suc keys i 0 b, map_snoc (take i keys) (get_or keys i 0), e)
    (append_assoc (take n bytes₀) (map parity_byte (take i keys)) _)

-- ---- the exponents, condition by condition

module _ (p : Problem) where
  -- those of the objective and of the first j conditions
  abbrev pub exponents_to : ℕ → List ℕ
  exponents_to j = keys_of p.objective ++ condition_exponents (take j p.conditions)

  conditions_append : (a b : List Condition) → condition_exponents (a ++ b) ≡ condition_exponents a ++ condition_exponents b
  conditions_append [] b = refl
  conditions_append (g ∷ a) b = rw (conditions_append a b) (sym (append_assoc (keys_of g.terms) (condition_exponents a) (condition_exponents b)))

  conditions_next : (gs : List Condition) (j : ℕ) → condition_exponents (take (suc j) gs) ≡ condition_exponents (take j gs) ++ keys_of (get_or gs j no_condition).terms
  unfolding keys_of
  conditions_next gs j =
      ⊎_elim
      (λ b. rw (take-suc gs j no_condition b) (conditions_append (take j gs) (get_or gs j no_condition ∷ []) ∙ ap (λ (l : List ℕ). condition_exponents (take j gs) ++ l) (append-nil _)))
      (λ b. rw (take_all (suc j) gs (omega arith), take_all j gs b, get_or-eq_default gs no_condition b) (sym (append-nil (condition_exponents gs))))
      (lt_or_le j (length gs))

  pub exponents_next : (j : ℕ) → exponents_to (suc j) ≡ exponents_to j ++ multiplier_of p (suc j)
  unfolding multiplier_of multiplier
  exponents_next j =
      ap (λ (l : List ℕ). keys_of p.objective ++ l) (conditions_next p.conditions j)
      ∙ sym (append_assoc (keys_of p.objective) (condition_exponents (take j p.conditions)) (keys_of (get_or p.conditions j no_condition).terms))

  pub exponents_done : (j : ℕ) → length p.conditions ≤ j → exponents_to j ≡ exponents_of p
  unfolding exponents_of
  exponents_done j h = rw (take_all j p.conditions h)

-- ---- what the loop keeps: the parity bytes of the objective and of the conditions before number j

pub record GatheredTo (keys sizes : List ℕ) (j n : ℕ) (bytes : List ℕ) : Type 0 where
  pub some : 1 ≤ j
  pub most : j ≤ 9
  pub few : n + 32 ≤ 256 + 32 * j
  pub long : length bytes ≡ 512
  pub parities : (p : Problem) (coefficients : List ℤ) → FlatProblem p keys coefficients sizes → take n bytes ≡ map parity_byte (exponents_to p (j - 1))

-- the exponents of polynomial j, as they are lent
abbrev pub part_of : List ℕ → List ℕ → ℕ → List ℕ
part_of keys sizes j = take (get_or sizes (9 + j) 0) (drop (576 + 32 * j) keys)

module _ {keys sizes : List ℕ} (f : FlatKeys keys sizes) where
  pub objective_few : length (part_of keys sizes 9) ≤ 256
  objective_few = rw (exponents_long f.limits 9 (omega arith)) (objective_size f.limits)

  pub condition_few : (j : ℕ) → j < 9 → length (part_of keys sizes j) ≤ 32
  condition_few j h = rw (exponents_long f.limits j (omega arith)) (multiplier_size f.limits j h)

  pub gathered_first : (bytes : List ℕ) (r : ℕ) → r ≡ 0 + length (part_of keys sizes 9)
      → take r bytes ≡ map parity_byte (part_of keys sizes 9) → length bytes ≡ 512 → GatheredTo keys sizes 1 r bytes
  gathered_first bytes r e q l = record {
    some = omega arith;
    most = omega arith;
    few = omega (arith, objective_few);
    long = l;
    parities = λ p coefficients g. q ∙ ap (map parity_byte) (objective_part g ∙ sym (append-nil (keys_of p.objective)));
  }

  module _ (j n : ℕ) (bytes₀ : List ℕ) (k : GatheredTo keys sizes j n bytes₀) where
    pub gathered_next : (bytes : List ℕ) (r : ℕ) → j < 9 → r ≡ n + length (part_of keys sizes j)
        → take r bytes ≡ take n bytes₀ ++ map parity_byte (part_of keys sizes j) → length bytes ≡ 512 → GatheredTo keys sizes (j + 1) r bytes
    gathered_next bytes r h e q l = record {
      some = omega arith;
      most = omega arith;
      few = omega (arith, condition_few j h, k.few);
      long = l;
      parities = λ p coefficients g.
          let a : j + 1 - 1 ≡ suc (j - 1) = omega (arith, k.some) in
          let b : suc (j - 1) ≡ j = omega (arith, k.some) in
          rw (a, exponents_next p (j - 1), b)
          (q ∙ ap₂ (λ (x y : List ℕ). x ++ map parity_byte y) (k.parities p coefficients g) (multiplier_part g j h)
          ∙ sym (map_append (exponents_to p (j - 1)) (multiplier_of p j)));
    }

    pub gathered_all : j ≡ 9 → Gathered keys sizes n bytes₀
    gathered_all e = record {
      few = omega (arith, k.few);
      long = k.long;
      parities = λ p coefficients g.
          k.parities p coefficients g
          ∙ ap (map parity_byte) (exponents_done p (j - 1) (omega (arith, g.conditions, conditions_few g.limits)));
    }

-- ---- the masks that meet the gathered bytes are the symmetries

-- 1 << n
pub shifted_one : (n : ℕ) → n ≤ 8 → (1 * 2 ^ n % 2 ^ 64 ≡ 2 ^ n) × (2 ^ n ≤ 256)
shifted_one n h = let b = pow_mono {i = n} {j = 8} h in (omega arith, b)

pub masks_found : (p : Problem) (bytes : List ℕ) (limit : ℕ) → bytes ≡ map parity_byte (exponents_of p) → limit ≡ 2 ^ p.variables
    → passing (λ m. even_all m bytes) limit ≡ symmetries_of p
unfolding symmetries_of
masks_found p bytes limit e q = rw (e, q) (passing_same _ _ (2 ^ p.variables) (λ r _. even_all_meets r (exponents_of p)))
