-- What the arrays that hold a problem give the functions of this crate: bases and multipliers within the limits, and
-- what is computed of them is the problem's.
use mathlib.Core.Path.{◌≡◌, ap, ◌∙◌}
use mathlib.Core.List.{List}
use mathlib.Core.Logic.{⊎_elim}
use Prim.Native.Nat.{ℕ, ◌*◌, ◌^◌, ◌≤◌}
use native.Mathlib.Omega.{arith}
use lib.IntN.{ℤ}
use lib.ListN.{get_or}
use Rattle.counting.specs.Counting.{Bounded}
use Rattle.counting.proofs.Cases.{lt_or_le}
use Rattle.polynomial.specs.Terms.{keys_of}
use Rattle.format.specs.ProblemRules.{Problem}
use Rattle.flat.specs.Flat.{rule_at, order_at, FlatProblem}
use Rattle.flat.proofs.Flat as Flat
use Rattle.joining_rule.specs.Rounds.{State, most_rounds, closing_of, counted_keys}
use Rattle.joining_rule.specs.Joining.{bases_of, start_from, start_set, closing}
use Rattle.joining_rule.proofs.Same.{closing_same}
use Rattle.joining_rule.proofs.Counted.{counted_same}
use Rattle.joining_rule.proofs.Start.{start_same}
use Rattle.joining_bases.specs.Parts.{bases_in, Arrays}
use Rattle.closure.specs.Tables.{FlatKeys, start_in}

module _ (keys sizes : List ℕ) (k : FlatKeys keys sizes) where
  -- they are such as the rounds ask for
  pub arrays : Arrays keys sizes
  arrays =
      let f = k.limits in
      record {
        counted = omega (arith, f.sizes_length);
        bases = Flat.basis_fits f;
        multipliers = λ j h. Flat.exponents_fit f j (omega arith);
        limits = λ j h. record {
          basis = record { few = omega (arith, Flat.basis_long f j h, Flat.basis_size f j h); keys = Flat.basis_low f j h };
          few = omega (arith, Flat.exponents_long f j (omega arith), Flat.multiplier_size f j h);
          exponents = Flat.multiplier_low f j h;
        };
      }

  -- no key is of a degree above 32
  pub all_low : Bounded (32 * 2 ^ 56) keys
  all_low i =
      let b = k.limits.keys_low i in
      ⊎_elim
      (λ h. let d : get_or keys i 0 ≤ 8 * 2 ^ 56 = rw (Flat.basis_degree i h) at b in omega arith)
      (λ h.
      ⊎_elim
      (λ l. let d : get_or keys i 0 ≤ 16 * 2 ^ 56 = rw (Flat.multiplier_degree i h l) at b in omega arith)
      (λ l. let d : get_or keys i 0 ≤ 32 * 2 ^ 56 = rw (Flat.objective_degree i l) at b in omega arith)
      (lt_or_le i 864))
      (lt_or_le i 576)

module _ (p : Problem) (keys : List ℕ) (coefficients : List ℤ) (sizes : List ℕ) (f : FlatProblem p keys coefficients sizes) where
  pub start_held : start_in keys sizes ≡ start_set p
  unfolding start_set
  start_held = ap (λ (l : List ℕ). start_from l (bases_in keys sizes)) (Flat.objective_part f) ∙ start_same (keys_of p.objective) (bases_in keys sizes) (bases_of p) f.bases (Flat.multiplier_part f)

  pub closing_held : (most : ℕ) (S : List ℕ) → most ≡ most_rounds (get_or sizes order_at 0) → S ≡ start_in keys sizes
      → closing_of (get_or sizes rule_at 0) most (bases_in keys sizes) S ≡ closing p
  unfolding closing
  closing_held most S m e =
      rw (m, f.rule, f.order, e, start_held)
      (closing_same (bases_in keys sizes) (bases_of p) f.bases (Flat.multiplier_part f) p.rule (most_rounds p.order) (start_set p))

  pub counted_held : (s : State) → counted_keys (bases_in keys sizes) s ≡ counted_keys (bases_of p) s
  counted_held s = counted_same (bases_in keys sizes) (bases_of p) f.bases (Flat.multiplier_part f) s
