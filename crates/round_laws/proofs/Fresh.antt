-- Laws of the loops that join a basis by the items of a list in turn: the members that came last, or the sums that one
-- of them leads to.
use mathlib.Core.Path.{◌≡◌, refl}
use mathlib.Core.Logic.{inl, inr, ⊎_elim}
use mathlib.Core.List.{List, [], ◌∷◌, ◌++◌}
use Prim.Native.Nat.{ℕ, ◌+◌, ◌<◌}
use native.Mathlib.Numerals.{add-one}
use lib.ListN.{length, get_or, take, drop, take-append-drop}
use lib.Seq.{take-suc}
use Rattle.joining_rule.specs.Sets.{In}
use Rattle.joining_rule.proofs.Elements.{not_nil, in_cons, in_here, append_keeps, in_snoc, snoc_keeps, snoc_in}
use Rattle.round_laws.specs.Joins.{Has, Among, Parts, Through, SomeOf}

-- ---- item by item
module _ (P : ℕ → ℕ → ℕ → Type 0) (n : ℕ) (items : List ℕ) where
  pub some_start : (L : List ℕ) → Has (SomeOf P (take 0 items)) n L
  some_start L = record { at = λ x y _ _ p. not_nil p.item p.listed }

  module _ (i : ℕ) (b : i < length items) where
    more : take (i + 1) items ≡ take i items ++ (get_or items i 0 ∷ [])
    more = rw (add-one i, take-suc items i 0 b)

    pub some_turn : Parts (SomeOf P (take i items)) (P (get_or items i 0)) (SomeOf P (take (i + 1) items)) n
    some_turn = record {
      split = λ x y _ _ p.
          ⊎_elim (λ e. inr (rw e p.holds)) (λ m. inl (record { item = p.item; listed = m; holds = p.holds })) (in_snoc p.item (take i items) (get_or items i 0) (rw more at p.listed));
      left = λ x y _ _ p. record { item = p.item; listed = rw more (snoc_keeps p.item (take i items) (get_or items i 0) p.listed); holds = p.holds };
      right = λ x y _ _ p. record { item = get_or items i 0; listed = rw more (snoc_in (take i items) (get_or items i 0)); holds = p };
    }

  -- where a joining is given up
  pub some_before : (i : ℕ) → Among (SomeOf P (take i items)) (SomeOf P items) n
  some_before i x y _ _ p =
      record { item = p.item; listed = rw (take-append-drop i items) at (append_keeps p.item (take i items) (drop i items) p.listed); holds = p.holds }

pub only_one : (z m : ℕ) → In z (m ∷ []) → m ≡ z
only_one z m h = ⊎_elim (λ q. q) (λ w. not_nil z w) (in_cons z m [] h)

-- ---- the items as members, each of which links what some exponent takes to it
module _ (n : ℕ) (T B F : List ℕ) where
  pub through_some : Among (Through T B F) (SomeOf (λ m. Through T B (m ∷ [])) F) n
  through_some x y _ _ p = record { item = p.t + (get_or B x 0 + get_or B y 0); listed = p.hits; holds = record { t = p.t; exponent = p.exponent; hits = in_here _ _ [] refl } }

  pub some_through : Among (SomeOf (λ m. Through T B (m ∷ [])) F) (Through T B F) n
  some_through x y _ _ p = record { t = p.holds.t; exponent = p.holds.exponent; hits = rw (← only_one _ _ p.holds.hits) p.listed }
