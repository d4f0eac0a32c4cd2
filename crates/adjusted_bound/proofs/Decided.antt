-- What is decided on an accepted certificate, by the tests, in their order.
use mathlib.Core.Path.{◌≡◌}
use mathlib.Core.Bool.{true, false}
use mathlib.Core.List.{List}
use Prim.Native.Nat.{ℕ, ◌≤◌}
use borrow.Author.Tests.{eq-eqb, ne_eqb}
use Rattle.format.specs.ProblemRules.{Problem}
use Rattle.calls.specs.declared.CheckVerdict.{CheckVerdict}
use Rattle.calls.specs.Refusals.{problem_refusal}
use Rattle.calls.specs.Adjusted.{change_count, changes_of, most_changes, changes_refusal, boxed_to, moved_bound}
use Rattle.calls.specs.Adjusted.{refused_adjusted, found_bound, adjusted_by, adjusted_of}
use Rattle.calls.proofs.Changes.{unrefused_fit}

module _ (n : ℕ) (changes : List ℕ) (z : (changes_refusal n changes).number ≡ 0) where
  pub few : change_count changes ≤ most_changes
  few = (unrefused_fit n changes z).few

module _ (p : Problem) (v : CheckVerdict) (changes : List ℕ) (n : ℕ) (e : p.variables ≡ n) where
  pub unfit : ((changes_refusal n changes).number ≡ 0 → ⊥)
      → refused_adjusted (changes_refusal n changes) ≡ adjusted_of p v changes
  unfolding adjusted_of
  unfit h = rw (e, ne_eqb (changes_refusal n changes).number 0 h)

  module _ (z : (changes_refusal n changes).number ≡ 0) where
    pub unboxed : boxed_to n p.conditions ≡ false → refused_adjusted (problem_refusal 16 0) ≡ adjusted_of p v changes
    unfolding adjusted_of adjusted_by
    unboxed b = rw (e, eq-eqb (changes_refusal n changes).number 0 z, b)

    module _ (b : boxed_to n p.conditions ≡ true) where
      pub upper : (v.side ≡ 0 → ⊥) → refused_adjusted (problem_refusal 17 0) ≡ adjusted_of p v changes
      unfolding adjusted_of adjusted_by
      upper h = rw (e, eq-eqb (changes_refusal n changes).number 0 z, b, ne_eqb v.side 0 h)

      pub lower : v.side ≡ 0 → found_bound (moved_bound v.bound (changes_of changes)) ≡ adjusted_of p v changes
      unfolding adjusted_of adjusted_by
      lower h = rw (e, eq-eqb (changes_refusal n changes).number 0 z, b, eq-eqb v.side 0 h)
