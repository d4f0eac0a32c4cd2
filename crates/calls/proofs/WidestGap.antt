-- What `widest_of` finds among accepted gaps is the widest, the newest on ties: the order by cross products is one, as
-- their denominators are not 0.
use native.Mathlib.Omega.{arith}
use native.Mathlib.Numerals.{add-one}
use native.Mathlib.Nat.{mul-zero, zero-mul}
use mathlib.Core.Path.{◌≡◌, refl, sym, ap, ◌∙◌}
use mathlib.Core.Bool.{Bool, true, false, cond, ◌||◌}
use mathlib.Core.List.{List, [], ◌∷◌}
use Prim.Native.Nat.{ℕ, zero, suc, ◌+◌, ◌*◌, ◌≤◌, ◌<◌}
use lib.Dec.{eqb, leb}
use lib.IntN.{ℤ, pos, negsuc, ◌*ℤ◌}
use lib.ListN.{length, get_or, take, length-take}
use lib.Seq.{get_or-take}
use lib.Signed.{lt_z, le_z}
use borrow.Author.Tests.{eqb-false}
use Rattle.counting.proofs.Cases.{clash, never}
use Rattle.calls.specs.Fractions.{none, is_less}
use Rattle.calls.specs.declared.Fraction.{Fraction}
use Rattle.calls.specs.declared.AgedGap.{AgedGap}
use Rattle.calls.specs.declared.GapWindow.{GapWindow}
use Rattle.calls.specs.declared.WindowVerdict.{WindowVerdict}
use Rattle.calls.specs.declared.Pushed.{Pushed}
use Rattle.calls.specs.Window.{numerator_limit, denominator_limit, is_refused, accepted_of, aged, widest_of, refused_arrival, found_widest, arrival_verdict}
use Rattle.calls.specs.Window.{push_verdict, Widest, FindsWidest}
use Rattle.calls.proofs.FractionOrder.{one_way, not_itself, less_at_most}
use Rattle.calls.proofs.Windows.{verdict_is}

-- ---- what an accepted arrival is: 0 or more, over 1 or more
pub record Gap (f : Fraction) : Type 0 where
  pub size : ℕ
  pub num : f.num ≡ pos size
  pub den : 0 < f.den

or_left : (a b : Bool) → (a || b) ≡ false → a ≡ false
or_left true b e = e
or_left false b e = refl

or_right : (a b : Bool) → (a || b) ≡ false → b ≡ false
or_right true b e = clash (cc)
or_right false b e = e

sized : (f : Fraction) (z : ℤ) → f.num ≡ z → lt_z z (pos 0) ≡ false → 0 < f.den → Gap f
sized f (pos n) e t h = record { size = n; num = e; den = h }
sized f (negsuc n) e t h = clash (cc)

accepted_gap : (f : Fraction) → is_refused f ≡ false → Gap f
unfolding is_refused
accepted_gap f e =
    let x = lt_z f.num (pos 0) || le_z (pos numerator_limit) f.num in
    let y = eqb f.den 0 || leb denominator_limit f.den in
    let p = or_left x y e in
    let q = or_right x y e in
    let n = eqb-false f.den 0 (or_left (eqb f.den 0) (leb denominator_limit f.den) q) in
    sized f f.num refl (or_left (lt_z f.num (pos 0)) (le_z (pos numerator_limit) f.num) p) (omega arith)

abbrev pub Gaps : List Fraction → Type 0
Gaps l = (j : ℕ) → j < length l → Gap (get_or l j none)

one_more_gap : (a : Fraction) (l : List Fraction) → Gaps l → (t : Bool) → is_refused a ≡ t → Gaps (cond t l (a ∷ l))
one_more_gap a l g true e j h = g j h
one_more_gap a l g false e zero h = accepted_gap a e
one_more_gap a l g false e (suc j) h = g j (omega arith)

gaps_accepted : (past : List Fraction) → Gaps (accepted_of past)
gaps_accepted [] j h = absurd (omega arith)
gaps_accepted (a ∷ past) j h = one_more_gap a (accepted_of past) (gaps_accepted past) (is_refused a) refl j h

-- ---- the order of gaps
through : (f g h : Fraction) → Gap g → is_less f g ≡ false → is_less g h ≡ false → is_less f h ≡ false
through f g h q d e = go (is_less f h) refl
  where
    go : (t : Bool) → is_less f h ≡ t → t ≡ false
    go true x = let y = less_at_most f h g q.den x e in never (sym d ∙ y)
    go false x = refl

not_none : (f : Fraction) → Gap f → is_less f none ≡ false
not_none f p = rw (p.num, mul-zero, zero-mul) refl

-- ---- the widest
module _ (x : Fraction) (l : List Fraction) (g : Gaps (x ∷ l)) where
  newest_wins : ((j : ℕ) → j < length l → is_less x (get_or l j none) ≡ false) → Widest (x ∷ l) x 0
  newest_wins h = record { within = omega arith; there = refl; widest = at; newest = λ j i. absurd (omega arith) }
    where
      at : (j : ℕ) → j < suc (length l) → is_less x (get_or (x ∷ l) j none) ≡ false
      at zero i = not_itself x
      at (suc j) i = h j (omega arith)

  module _ (w : AgedGap) (p : Widest l w.gap w.age) where
    found : Gap w.gap
    found = rw (← p.there) (g (suc w.age) (omega (arith, p.within)))

    older_wins : is_less x w.gap ≡ true → Widest (x ∷ l) w.gap (w.age + 1)
    older_wins e = record {
      within = omega (arith, p.within);
      there = rw add-one p.there;
      widest = at;
      newest = before;
    }
      where
        at : (j : ℕ) → j < suc (length l) → is_less w.gap (get_or (x ∷ l) j none) ≡ false
        at zero i = one_way x w.gap e
        at (suc j) i = p.widest j (omega arith)

        before : (j : ℕ) → j < w.age + 1 → is_less (get_or (x ∷ l) j none) w.gap ≡ true
        before zero i = e
        before (suc j) i = p.newest j (omega arith)

    wider_is : (t : Bool) → is_less x w.gap ≡ t
        → let r = cond t (aged w.gap (w.age + 1)) (aged x 0) in Widest (x ∷ l) r.gap r.age
    wider_is true e = older_wins e
    wider_is false e =
        newest_wins λ j i.
        through x w.gap (get_or l j none) found e (p.widest j i)

pub widest_is : (x : Fraction) (l : List Fraction) → Gaps (x ∷ l)
    → let r = widest_of (x ∷ l) in Widest (x ∷ l) r.gap r.age
unfolding widest_of
widest_is x [] g = rw (not_none x (g 0 (omega arith))) (newest_wins x [] g (λ j i. absurd (omega arith)))
widest_is x (y ∷ l) g =
    wider_is x (y ∷ l) g (widest_of (y ∷ l)) (widest_is y l (λ j i. g (suc j) (omega arith))) _ refl

-- ---- of a call
module _ (a : Fraction) (past : List Fraction) where
  last_gaps : is_refused a ≡ false → Gaps (a ∷ take 31 (accepted_of past))
  last_gaps e zero h = accepted_gap a e
  last_gaps e (suc j) h =
      let n = length-take 31 (accepted_of past) in
      rw (get_or-take 31 (accepted_of past) j none (omega arith)) (gaps_accepted past j (omega arith))

  outcome_widest : (t : Bool) → is_refused a ≡ t → (v : WindowVerdict)
      → let l = take 32 (cond t (accepted_of past) (a ∷ accepted_of past)) in
      v ≡ cond t refused_arrival (found_widest (widest_of l)) → v.refusal.number ≡ 0 → Widest l v.widest v.age
  outcome_widest true r v e n =
      absurd (let z : v.refusal.number ≡ 14 = ap (λ (u : WindowVerdict). u.refusal.number) e in omega arith)
  outcome_widest false r v e n = rw e (widest_is a (take 31 (accepted_of past)) (last_gaps r))

pub finds_widest : (w : GapWindow) (a : Fraction) (r : Pushed) → r.verdict ≡ push_verdict w a → FindsWidest w a r
unfolding arrival_verdict
finds_widest w a r v past h n =
    outcome_widest a past (is_refused a) refl r.verdict (v ∙ verdict_is w a past h) n
