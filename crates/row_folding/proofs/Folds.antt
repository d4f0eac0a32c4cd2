-- Folding the table of sums: entries with the same b × b' are summed at one place, and the whole gives the same.
use mathlib.Core.Path.{◌≡◌, refl, sym, ap, ap₂, ◌∙◌}
use mathlib.Core.List.{List}
use mathlib.Core.Logic.{⊎_elim}
use Prim.Native.Nat.{ℕ, zero, suc, ◌+◌, ◌/◌, ◌%◌, ◌^◌, ◌≤◌, ◌<◌}
use native.Mathlib.Nat.{eq-or-lt_of_le}
use native.Mathlib.Numerals.{add-one}
use native.Mathlib.Omega.{arith}
use lib.IntN.{ℤ, pos, nat_abs, ◌+ℤ◌, ◌-ℤ◌, ◌*ℤ◌}
use lib.ListN.{length, get_or, set, length-set}
use lib.Seq.{get_or-set_same, get_or-set_other}
use Rattle.integers.proofs.Ranges.{abs_sum}
use Rattle.integers.proofs.Ring.{view, diffs, ⊖-eq}
use Rattle.counting.specs.Counting.{listed}
use Rattle.counting.proofs.Listed.{listed_same, same_or_not}
use Rattle.polynomial.specs.Terms.{Term, term}
use Rattle.polynomial.specs.Algebra.{sum, match}
use Rattle.row_outer.specs.Gram.{pair_key}
use Rattle.row_outer.specs.Frame.{share, spread_at, Framed, Entered}
use Rattle.row_outer.specs.Outer.{gathered_most}
use Rattle.row_folding.specs.Fold.{folded_most, WithProduct, Folded}
use Rattle.row_outer.proofs.Prefixes.{sum_more}
use Rattle.row_outer.proofs.Frames.{framed_entered}

-- ---- the first n places of a table, each times h of it, with one number set
module _ (h : ℕ → ℤ) where
  abbrev first : ℕ → List ℤ → ℤ
  first n g = sum h (listed n (λ y. term y (get_or g y (pos 0))))

  next : (n : ℕ) (g : List ℤ) → first (suc n) g ≡ first n g +ℤ get_or g n (pos 0) *ℤ h n
  next n g = rw (← add-one n) (sym (sum_more h (λ y. term y (get_or g y (pos 0))) n))

  module _ (g : List ℤ) (y : ℕ) (v : ℤ) (l : y < length g) where
    set_sum : (n : ℕ) → y < n → first n (set g y v) ≡ first n g +ℤ (v -ℤ get_or g y (pos 0)) *ℤ h y
    set_sum zero b = absurd (omega arith)
    set_sum (suc n) b =
        next n (set g y v) ∙
        ⊎_elim
        (λ e.
        let before : first y (set g y v) ≡ first y g = ap (sum h) (listed_same y _ _ (λ i b. ap (term i) (get_or-set_other g y i v (pos 0) (λ q. omega arith)))) in
        rw (← e, before, get_or-set_same g y v (pos 0) l, next y g) (here (first y g) (get_or g y (pos 0)) v (h y)))
        (λ b. rw (set_sum n b, get_or-set_other g y n v (pos 0) (λ q. omega arith), next n g) (there (first n g) ((v -ℤ get_or g y (pos 0)) *ℤ h y) (get_or g n (pos 0) *ℤ h n)))
        (eq-or-lt_of_le {n = y} {m = n} (omega arith))
      where
        here : (s a v t : ℤ) → s +ℤ v *ℤ t ≡ s +ℤ a *ℤ t +ℤ (v -ℤ a) *ℤ t
        here s a v t = rw ((view s).eq, (view a).eq, (view v).eq, (view t).eq) (simp diffs (⊖-eq _ _ _ _ (omega arith)))

        there : (s a b : ℤ) → s +ℤ a +ℤ b ≡ s +ℤ b +ℤ a
        there s a b = rw ((view s).eq, (view a).eq, (view b).eq) (simp diffs (⊖-eq _ _ _ _ (omega arith)))

-- ---- one entry
pub folded_left : (B : List ℕ) (x : ℕ) (g : List ℤ) → Folded B x g g
folded_left B x g = record { long = refl; same = λ G k. refl; ahead = λ y b. refl; framed = λ f. f }

-- the entry at place x is moved to place y
module _ (B : List ℕ) (x : ℕ) (g : List ℤ) (low : x < 4096) (l : x < length g) (small : nat_abs (get_or g x (pos 0)) ≤ gathered_most)
    (y : ℕ) (b : y < x) (pair : WithProduct B y (pair_key B x)) (room : nat_abs (get_or g y (pos 0)) ≤ 2 ^ 53) where
  abbrev z : ℤ
  z = get_or g y (pos 0) +ℤ get_or g x (pos 0)

  abbrev raised : List ℤ
  raised = set g y z

  abbrev moved : List ℤ
  moved = set raised x (pos 0)

  raised_long : x < length raised
  raised_long = omega (arith, length-set g y z)

  left : get_or raised x (pos 0) ≡ get_or g x (pos 0)
  left = get_or-set_other g y x z (pos 0) (λ e. omega arith)

  others : (i : ℕ) → (i ≡ x → ⊥) → (i ≡ y → ⊥) → get_or moved i (pos 0) ≡ get_or g i (pos 0)
  others i a b = get_or-set_other raised x i (pos 0) (pos 0) a ∙ get_or-set_other g y i z (pos 0) b

  gone : get_or moved x (pos 0) ≡ pos 0
  gone = get_or-set_same raised x (pos 0) (pos 0) raised_long

  -- what is 0 stays 0, but for place y
  zero_kept : (i : ℕ) → (i ≡ y → ⊥) → get_or g i (pos 0) ≡ pos 0 → get_or moved i (pos 0) ≡ pos 0
  zero_kept i f e = ⊎_elim (λ q. rw q gone) (λ d. others i d f ∙ e) (same_or_not i x)

  moved_small : (i : ℕ) → nat_abs (get_or g i (pos 0)) ≤ folded_most → nat_abs (get_or moved i (pos 0)) ≤ folded_most
  moved_small i h =
      ⊎_elim
      (λ q. let w = ap nat_abs gone in rw q (omega arith))
      (λ d.
      ⊎_elim
      (λ q. rw (q, get_or-set_other raised x y (pos 0) (pos 0) (λ e. omega arith), get_or-set_same g y z (pos 0) (omega arith)) (omega (arith, abs_sum (get_or g y (pos 0)) (get_or g x (pos 0)))))
      (λ f. rw (others i d f) h)
      (same_or_not i y))
      (same_or_not i x)

  moved_same : (G : List Term) (k : ℕ) → spread_at B G moved k ≡ spread_at B G g k
  unfolding spread_at
  moved_same G k =
      set_sum (share B G k) raised x (pos 0) raised_long 4096 low
      ∙ ap₂ (λ (s a : ℤ). s +ℤ (pos 0 -ℤ a) *ℤ share B G k x) (set_sum (share B G k) g y z (omega arith) 4096 (omega arith)) left
      ∙ ap (λ (n : ℕ). sum (share B G k) (listed 4096 (λ y. term y (get_or g y (pos 0)))) +ℤ (z -ℤ get_or g y (pos 0)) *ℤ sum (λ t. match k (n + t)) G +ℤ (pos 0 -ℤ get_or g x (pos 0)) *ℤ share B G k x) pair.is
      ∙ nothing _ (get_or g y (pos 0)) (get_or g x (pos 0)) (share B G k x)
    where
      nothing : (s a b t : ℤ) → s +ℤ (a +ℤ b -ℤ a) *ℤ t +ℤ (pos 0 -ℤ b) *ℤ t ≡ s
      nothing s a b t = rw ((view s).eq, (view a).eq, (view b).eq, (view t).eq) (simp diffs (⊖-eq _ _ _ _ (omega arith)))

  pub folded_moved : Folded B x g moved
  folded_moved =
      record {
        long = length-set raised x (pos 0) ∙ length-set g y z;
        same = moved_same;
        ahead = λ i h. others i (λ e. omega arith) (λ e. omega arith);
        framed = λ f. record {
          long = omega (arith, f.long, length-set raised x (pos 0), length-set g y z);
          columns = λ i h. zero_kept i (λ q. omega (arith, pair.column, ap (λ (k : ℕ). k % 64) q)) (f.columns i h);
          lower = λ i h. zero_kept i (λ q. omega (arith, pair.upper, ap (λ (k : ℕ). k / 64) q, ap (λ (k : ℕ). k % 64) q)) (f.lower i h);
          small = λ i. moved_small i (f.small i);
        };
      }

-- ---- the places before x are folded, those from x on are as they were
pub record Folding (B : List ℕ) (g₀ : List ℤ) (x : ℕ) (g₁ : List ℤ) : Type 0 where
  pub long : length g₁ ≡ length g₀
  pub same : (G : List Term) (k : ℕ) → spread_at B G g₁ k ≡ spread_at B G g₀ k
  pub ahead : (y : ℕ) → x ≤ y → get_or g₁ y (pos 0) ≡ get_or g₀ y (pos 0)
  pub framed : Framed (length B) folded_most g₁

module _ {B : List ℕ} {g₀ : List ℤ} (f : Framed (length B) gathered_most g₀) where
  pub folding_start : Folding B g₀ 0 g₀
  folding_start =
      record {
        long = refl;
        same = λ G k. refl;
        ahead = λ y b. refl;
        framed = record { long = f.long; columns = f.columns; lower = f.lower; small = λ y. omega (arith, f.small y) };
      }

  module _ {x : ℕ} {g₁ : List ℤ} (h : Folding B g₀ x g₁) where
    pub folding_entered : Entered gathered_most B x (get_or g₁ x (pos 0))
    folding_entered = rw (h.ahead x (omega arith)) (framed_entered f x)

    pub folding_more : {g₂ : List ℤ} {r : ℕ} → Folded B x g₁ g₂ → x < r → Folding B g₀ r g₂
    folding_more d b =
        record {
          long = d.long ∙ h.long;
          same = λ G k. d.same G k ∙ h.same G k;
          ahead = λ y l. d.ahead y (omega arith) ∙ h.ahead y (omega arith);
          framed = d.framed h.framed;
        }
