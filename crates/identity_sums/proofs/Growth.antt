-- How the tables grow: by nothing, by one growth after another, by one number.
use mathlib.Core.Path.{◌≡◌, refl, sym, ap, ◌∙◌}
use mathlib.Core.Bool.{Bool, true, false, cond}
use mathlib.Core.List.{List}
use mathlib.Core.Logic.{⊎_elim}
use Prim.Native.Nat.{ℕ, ◌+◌, ◌%◌, ◌≤◌, ◌<◌}
use native.Mathlib.Nat.{eq-or-lt_of_le}
use native.Mathlib.Omega.{arith}
use borrow.Author.Tests.{eqb-true, eqb-false, eq-eqb, ne_eqb, ltb-true, ltb-false}
use lib.Dec.{eqb, ltb}
use lib.IntN.{ℤ, pos, one, ◌+ℤ◌, ◌*ℤ◌, +ℤ_assoc, +ℤ_idr, *ℤ-zero, *ℤ-one}
use lib.ListN.{length, get_or, take}
use lib.Seq.{get_or-take, length-take-le}
use Rattle.counting.proofs.Cases.{clash}
use Rattle.polynomial.specs.Algebra.{match}
use Rattle.key_set.specs.Table.{Holds, Finds}
use Rattle.joining_rule.specs.Sets.{member}
use Rattle.std.specs.Prelude.{Result, Ok, Err}
use Rattle.joining_rule.proofs.Elements.{member_at}
use Rattle.key_set.proofs.Keys.{inside, keys_apart}
use Rattle.key_set.proofs.Index.{rest_sum}
use Rattle.wide_sums.specs.Sums.{value_of, value_at, Room, added_at}
use Rattle.wide_sums.specs.declared.Halves.{Halves}
use Rattle.wide_sums.proofs.Tables.{added_at_lem, added_near, room_at, room_after, near_none, near_more, near_then}
use Rattle.identity_sums.specs.Tables.{unit, Sought, Ready, SumsGrown, Scaled}

module _ {keys : List ℕ} {n : ℕ} {hi₀ hi₁ lo₀ lo₁ : List ℤ} where
  pub ready_after : {idx : List ℕ} {f : ℕ → ℤ} {c d e : ℕ} → Ready keys idx n hi₀ lo₀ e → SumsGrown keys n hi₀ lo₀ f c hi₁ lo₁ → c + d ≤ e → Ready keys idx n hi₁ lo₁ d
  ready_after r h l =
      record { support = r.support; index = r.index; high = room_after h.high r.high l; low = room_after h.low r.low l }

  pub grown_same : {f g : ℕ → ℤ} {c d : ℕ} → SumsGrown keys n hi₀ lo₀ f c hi₁ lo₁ → ((k : ℕ) → f k ≡ g k) → c ≤ d → SumsGrown keys n hi₀ lo₀ g d hi₁ lo₁
  grown_same h e l =
      record {
        there = λ q b. h.there q b ∙ ap (λ (z : ℤ). value_at hi₀ lo₀ q +ℤ z) (e (get_or keys q 0));
        high = near_more h.high l;
        low = near_more h.low l;
      }

  -- one growth after another
  pub grown_then : {hi₂ lo₂ : List ℤ} {f g h : ℕ → ℤ} {c d e : ℕ} → SumsGrown keys n hi₀ lo₀ f c hi₁ lo₁ → SumsGrown keys n hi₁ lo₁ g d hi₂ lo₂
      → ((k : ℕ) → f k +ℤ g k ≡ h k) → c + d ≤ e → SumsGrown keys n hi₀ lo₀ h e hi₂ lo₂
  grown_then {f = f} {g = g} x y e l =
      record {
        there = λ q b.
            y.there q b
            ∙ ap (λ (z : ℤ). z +ℤ g (get_or keys q 0)) (x.there q b)
            ∙ +ℤ_assoc (value_at hi₀ lo₀ q) (f (get_or keys q 0)) (g (get_or keys q 0))
            ∙ ap (λ (z : ℤ). value_at hi₀ lo₀ q +ℤ z) (e (get_or keys q 0));
        high = near_then x.high y.high l;
        low = near_then x.low y.low l;
      }

pub grown_none : {keys : List ℕ} {n : ℕ} {hi lo : List ℤ} {f : ℕ → ℤ} {c : ℕ} → ((q : ℕ) → q < n → f (get_or keys q 0) ≡ pos 0) → SumsGrown keys n hi lo f c hi lo
grown_none {hi = hi} {lo = lo} e =
    record {
      there = λ q b. sym (ap (λ (z : ℤ). value_at hi lo q +ℤ z) (e q b) ∙ +ℤ_idr (value_at hi lo q));
      high = near_none;
      low = near_none;
    }

-- ---- one number added at the place of a key
-- the place of a product in the index, from those of its factors
pub slot_of_product : (d e a b k t r : ℕ) → e ≡ d → a ≡ k % d → b ≡ t % d → r ≡ (a + b) % e → r ≡ (k + t) % d
slot_of_product d e a b k t r u v w x =
    x ∙ ap (λ (n : ℕ). (a + b) % n) u ∙ ap (λ (n : ℕ). (n + b) % d) v ∙ ap (λ (n : ℕ). (k % d + n) % d) w ∙ rest_sum d k t

matched : (x : ℤ) (k j : ℕ) → (k ≡ j → ⊥) → x *ℤ match k j ≡ pos 0
matched x k j f = rw (ne_eqb j k (λ e. f (sym e)), *ℤ-zero)

-- what a search tells
module _ {keys : List ℕ} {n : ℕ} (support : Holds keys n) (key : ℕ) (r : Result ℕ ℕ) (f : Finds key (take n keys) r) where
  long : length (take n keys) ≡ n
  long = length-take-le n keys (inside support)

  pub sought_at : (p : ℕ) → r ≡ Ok p → Sought keys n key p
  sought_at p e =
      let g = rw e at f in
      let b : p < n = omega (arith, g.0, long) in
      record { there = λ _. sym (get_or-take n keys p 0 b) ∙ g.1; none = λ l. absurd (omega arith) }

  pub found_inside : (p : ℕ) → r ≡ Ok p → p < n
  found_inside p e = let g = rw e at f in omega (arith, g.0, long)

  pub sought_nowhere : (steps : ℕ) → r ≡ Err steps → Sought keys n key n
  sought_nowhere steps e =
      record {
        there = λ l. absurd (omega arith);
        none = λ _ q b w.
            let g = rw e at f in
            let m : member key (take n keys) ≡ false = g.0 in
            let t = member_at key (take n keys) q (omega (arith, long)) (get_or-take n keys q 0 b ∙ w) in
            clash (cc);
      }

module _ {keys idx : List ℕ} {n : ℕ} {hi lo : List ℤ} (r : Ready keys idx n hi lo unit) (key p : ℕ) (s : Sought keys n key p) (x : Halves) (c : ℤ) where
  other_key : (a b : ℕ) → a < n → b < n → (a ≡ b → ⊥) → get_or keys a 0 ≡ get_or keys b 0 → ⊥
  other_key a b x y f e = go (ltb a b) refl
    where
      go : (t : Bool) → ltb a b ≡ t → ⊥
      go true h = keys_apart r.support a b (ltb-true a b h) y e
      go false h = ⊎_elim (λ q. f (sym q)) (λ (d : b < a). keys_apart r.support b a d x (sym e)) (eq-or-lt_of_le {n = b} {m = a} (ltb-false a b h))

  abbrev z : ℤ
  z = value_of x.high x.low *ℤ c

  pub grown_gap : n ≤ p → SumsGrown keys n hi lo (λ k. z *ℤ match k key) unit hi lo
  grown_gap l = grown_none (λ q b. matched z (get_or keys q 0) key (s.none l q b))

  module _ (a : p < n) (d : Scaled x c) where
    pub room_high : Room hi p (x.high *ℤ c)
    room_high = room_at r.high a d.high

    pub room_low : Room lo p (x.low *ℤ c)
    room_low = room_at r.low a d.low

    pub grown_at : {hi₁ lo₁ : List ℤ} → hi₁ ≡ added_at hi p (x.high *ℤ c) → lo₁ ≡ added_at lo p (x.low *ℤ c) → SumsGrown keys n hi lo (λ k. z *ℤ match k key) unit hi₁ lo₁
    unfolding one
    grown_at e f =
        rw (e, f)
        record {
          there = λ q b. added_at_lem hi lo p x.high x.low c room_high room_low q ∙ ap (λ (y : ℤ). value_at hi lo q +ℤ y) (go q b (eqb p q) refl);
          high = added_near room_high a d.high;
          low = added_near room_low a d.low;
        }
      where
        go : (q : ℕ) → q < n → (t : Bool) → eqb p q ≡ t → cond t z (pos 0) ≡ z *ℤ match (get_or keys q 0) key
        go q b true w = rw (eq-eqb key (get_or keys q 0) (sym (s.there a) ∙ ap (λ (i : ℕ). get_or keys i 0) (eqb-true p q w))) (sym (*ℤ-one z))
        go q b false w = sym (matched z (get_or keys q 0) key (λ v. other_key p q a b (eqb-false p q w) (s.there a ∙ sym v)))
