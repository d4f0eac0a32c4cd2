-- Laws of the joining rule's parts.
use mathlib.Core.Path.{◌≡◌, refl, sym, ap, ◌∙◌}
use mathlib.Core.Bool.{Bool, true, false, cond}
use mathlib.Core.List.{List, [], ◌∷◌, ◌++◌, map}
use Prim.Native.Nat.{ℕ, zero, suc, ◌+◌, ◌≤◌, ◌<◌}
use native.Mathlib.Nat.{min-eq_left, min-eq_right, max-eq_left, max-eq_right, le_of_suc-le-suc, not-suc-le-zero}
use native.Mathlib.Omega.{arith}
use native.Mathlib.Numerals.{add-one}
use lib.ListN.{length, get_or, take, drop, set, drop_of_length-le}
use lib.Seq.{drop-cons}
use lib.Dec.{eqb}
use borrow.Author.Tests.{eqb-true, eq-eqb, ne_eqb}
use Rattle.joining_rule.specs.Sets.{member}
use Rattle.joining_rule.specs.Join.{linked, renamed, merged, join_pair}

-- ---- a map in place

module _ (g : ℕ → ℕ) where
  -- one more element is done
  pub map_turn : (l : List ℕ) (i : ℕ) → i < length l → set (map g (take i l) ++ drop i l) i (g (get_or l i 0)) ≡ map g (take (suc i) l) ++ drop (suc i) l
  map_turn [] i h = absurd (not-suc-le-zero h)
  map_turn (x ∷ xs) zero h = refl
  map_turn (x ∷ xs) (suc i) h = ap (λ (r : List ℕ). g x ∷ r) (map_turn xs i (le_of_suc-le-suc h))

  pub map_read : (l : List ℕ) (i : ℕ) → get_or (map g (take i l) ++ drop i l) i 0 ≡ get_or l i 0
  map_read [] zero = refl
  map_read [] (suc i) = refl
  map_read (x ∷ xs) zero = refl
  map_read (x ∷ xs) (suc i) = map_read xs i

  pub map_long : (l : List ℕ) (i : ℕ) → length (map g (take i l) ++ drop i l) ≡ length l
  map_long [] zero = refl
  map_long [] (suc i) = refl
  map_long (x ∷ xs) zero = refl
  map_long (x ∷ xs) (suc i) = ap suc (map_long xs i)

  pub map_end : (l : List ℕ) (i : ℕ) → length l ≤ i → map g (take i l) ++ drop i l ≡ map g l
  map_end [] zero h = refl
  map_end [] (suc i) h = refl
  map_end (x ∷ xs) zero h = absurd (not-suc-le-zero h)
  map_end (x ∷ xs) (suc i) h = ap (λ (r : List ℕ). g x ∷ r) (map_end xs i (le_of_suc-le-suc h))

  -- a turn of the loop
  pub map_step : (l t : List ℕ) (i r : ℕ) → i < length l → t ≡ map g (take i l) ++ drop i l → r ≡ g (get_or t i 0) → set t i r ≡ map g (take (i + 1) l) ++ drop (i + 1) l
  map_step l t i r h e f = rw (f, e, map_read, add-one) (map_turn l i h)

-- ---- merging

pub renamed_same : (a : ℕ) (l : List ℕ) → map (renamed a a) l ≡ l
renamed_same a [] = refl
renamed_same a (x ∷ xs) = rw (renamed_same a xs) (ap (λ (y : ℕ). y ∷ xs) (go (eqb x a) refl))
  where
    go : (b : Bool) → eqb x a ≡ b → cond b a x ≡ x
    go true e = sym (eqb-true x a e)
    go false e = refl

pub merged_same : (a : ℕ) (l : List ℕ) → merged a a l ≡ l
unfolding merged
merged_same a l = rw (max-eq_left {n = a} {m = a} (omega arith), min-eq_left {n = a} {m = a} (omega arith)) (renamed_same a l)

module _ (a b : ℕ) (l : List ℕ) where
  pub merged_up : a < b → map (renamed b a) l ≡ merged a b l
  unfolding merged
  merged_up h = let h' : a ≤ b = omega arith in rw (max-eq_right h', min-eq_left h')

  pub merged_down : b ≤ a → map (renamed a b) l ≡ merged a b l
  unfolding merged
  merged_down h = rw (max-eq_left h, min-eq_right h)

-- ---- links

module _ (S T : List ℕ) (s : ℕ) where
  pub linked_start : linked S (drop 0 T) s ≡ linked S T s
  linked_start = refl

  linked_next : (i : ℕ) → i < length T → linked S (drop i T) s ≡ cond (member (get_or T i 0 + s) S) true (linked S (drop (i + 1) T) s)
  unfolding linked
  linked_next i h = rw (add-one, drop-cons T i 0)

  module _ (i : ℕ) (h : i < length T) (inv : linked S (drop i T) s ≡ linked S T s) where
    pub linked_hit : member (get_or T i 0 + s) S ≡ true → true ≡ linked S T s
    linked_hit m = sym (sym inv ∙ linked_next i h ∙ rw m)

    pub linked_miss : member (get_or T i 0 + s) S ≡ false → linked S (drop (i + 1) T) s ≡ linked S T s
    linked_miss m = sym (linked_next i h ∙ rw m) ∙ inv

  pub linked_done : (i : ℕ) → length T ≤ i → linked S (drop i T) s ≡ linked S T s → false ≡ linked S T s
  unfolding linked
  linked_done i h inv = sym (ap (λ (l : List ℕ). linked S l s) (drop_of_length-le T h)) ∙ inv

-- ---- one pair

module _ (S T B L : List ℕ) (i k : ℕ) where
  pub join_same : get_or L i 0 ≡ get_or L k 0 → L ≡ join_pair S T B i k L
  unfolding join_pair
  join_same e = rw (e, merged_same) (go (linked S T (get_or B i 0 + get_or B k 0)))
    where
      go : (b : Bool) → L ≡ cond b L L
      go true = refl
      go false = refl

  pub join_linked : linked S T (get_or B i 0 + get_or B k 0) ≡ true → merged (get_or L i 0) (get_or L k 0) L ≡ join_pair S T B i k L
  unfolding join_pair
  join_linked e = rw e

  pub join_apart : linked S T (get_or B i 0 + get_or B k 0) ≡ false → L ≡ join_pair S T B i k L
  unfolding join_pair
  join_apart e = rw e
