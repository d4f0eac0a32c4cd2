-- A sum of two indices is looked at once: its products stay in the support, and its pairs in one block.
use mathlib.Core.Path.{◌≡◌, refl}
use mathlib.Core.Logic.{⊎_elim}
use mathlib.Core.Bool.{true}
use mathlib.Core.List.{List, []}
use Prim.Native.Nat.{ℕ, ◌+◌, ◌<◌}
use native.Mathlib.Omega.{arith}
use lib.ListN.{length, get_or}
use Rattle.counting.proofs.Listed.{same_or_not}
use Rattle.joining_rule.specs.Sets.{In}
use Rattle.joining_rule.specs.Extend.{add_terms}
use Rattle.joining_rule.specs.Rounds.{Bases}
use Rattle.joining_rule.proofs.Rising.{Rising}
use Rattle.joining_rule.proofs.Members.{add_in, add_full}
use Rattle.joining_rule.proofs.FullSets.{Full}
use Rattle.joining_rule.proofs.Full.{full_any}
use Rattle.round_laws.specs.Added.{Products, Between, Done}
use Rattle.round_laws.specs.Joins.{Has, WithSum}

-- ---- every t + s is there: after it was put in, and from then on; then nothing is left to put in
pub done_added : (T S : List ℕ) (s : ℕ) → Done T (add_terms T s S) s
done_added T S s = record { at = λ t m. add_in T s S t m }

pub done_grows : (T S S' : List ℕ) (s : ℕ) → ((x : ℕ) → In x S → In x S') → Done T S s → Done T S' s
done_grows T S S' s h d = record { at = λ t m. h _ (d.at t m) }

pub done_nothing : (T S : List ℕ) (s : ℕ) → Rising S → Done T S s → add_terms T s S ≡ S
done_nothing T S s r d = add_full T s S r d.at

module _ (T B : List ℕ) where
  -- the products of pairs in one block are there, and stay so
  pub full_between : (L L' S S' : List ℕ) → Full T B L S → Between true T B L L' S S' → Full T B L' S'
  full_between L L' S S' f b = record {
    at = λ i k h u.
        record {
          at = λ e t m.
              ⊎_elim
              (λ q. b.keeps _ ((f.at i k h u).at q t m))
              (λ d. b.adds refl _ (record { product = record { i = i; k = k; t = t; first = omega arith; second = u; exponent = m; together = e; value = refl }; apart = d }))
              (same_or_not (get_or L i 0) (get_or L k 0));
        };
  }

  -- a sum whose pairs are in one block
  pub met_done : (L S : List ℕ) (s i k : ℕ) → Full T B L S → Has (WithSum B s) (length B) L → i < length B → k < length B → get_or B i 0 + get_or B k 0 ≡ s → Done T S s
  met_done L S s i k f h hi hk e =
      record { at = λ t m. rw (← e) (full_any T B L S f i k t hi hk (h.at i k hi hk (record { sum = e })).same m) }

-- of each basis that adds
pub products_all : (n : ℕ) (g : Bases) (L : List (List ℕ)) (S₀ S : List ℕ) (j : ℕ) → j < n → j < 9 → Products n g L S₀ S → Full (g.multiplier j) (g.basis j) (get_or L j []) S
products_all n g L S₀ S j h nine p = record {
  at = λ i k a u.
      record {
        at = λ e t m.
            p.full _ (record { j = j; i = i; k = k; t = t; adding = h; pair = record { basis = nine; first = omega arith; second = u; exponent = m }; together = e; value = refl });
      };
}
