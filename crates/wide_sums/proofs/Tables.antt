-- What additions do to a table of sums, and to the number at each place of two.
use mathlib.Core.Path.{◌≡◌, refl, sym, ap, ap₂, ◌∙◌}
use mathlib.Core.Bool.{Bool, true, false, cond}
use mathlib.Core.List.{List}
use mathlib.Core.Logic.{⊎_elim}
use Prim.Native.Nat.{ℕ, ◌+◌, ◌^◌, ◌<◌, ◌≤◌}
use native.Mathlib.Nat.{eq-or-lt_of_le}
use native.Mathlib.Omega.{arith}
use borrow.Author.Tests.{eqb-true, eqb-false}
use lib.Dec.{eqb}
use lib.IntN.{ℤ, pos, nat_abs, ◌+ℤ◌, ◌*ℤ◌, +ℤ_idr}
use lib.ListN.{length, get_or, set, length-set}
use lib.Seq.{get_or-set_same, get_or-set_other}
use mir.Syntax.{w64}
use mir.Val.{SFits, of_z}
use Rattle.integers.proofs.Ring.{view, ⊖-eq, diffs}
use Rattle.integers.proofs.Ranges.{abs_fits, fits_abs, abs_sum, zero_bits, mod_z, floor_lt}
use Rattle.wide_sums.specs.Sums.{carried, step, value_of, value_at, cut_at, halves_of, Room, added_at, HasRoom, Near, Shrunk, Replaced, Divided}
use Rattle.wide_sums.proofs.Floors.{high_small, low_halved, rest_low, quotient_is, quotient_high, quotient_low}

-- ---- one table
module _ {t : List ℤ} {k : ℕ} {y : ℤ} (r : Room t k y) where
  pub number_fits : SFits w64 y
  number_fits = abs_fits (omega (arith, r.small))

  pub sum_fits : SFits w64 (get_or t k (pos 0) +ℤ y)
  sum_fits = abs_fits (omega (arith, r.small, abs_sum (get_or t k (pos 0)) y))

  pub added_there : get_or (added_at t k y) k (pos 0) ≡ get_or t k (pos 0) +ℤ y
  unfolding added_at
  added_there = get_or-set_same t k (get_or t k (pos 0) +ℤ y) (pos 0) r.inside

  pub added_other : (q : ℕ) → (q ≡ k → ⊥) → get_or (added_at t k y) q (pos 0) ≡ get_or t q (pos 0)
  unfolding added_at
  added_other q f = get_or-set_other t k q (get_or t k (pos 0) +ℤ y) (pos 0) f

  pub added_near : {n c : ℕ} → k < n → nat_abs y ≤ c → Near n c t (added_at t k y)
  unfolding added_at
  added_near {n} {c} b h =
      record {
        near = λ q l. go q (eqb k q) refl;
        rest = λ q l. added_other q (λ e. omega arith);
        long = length-set t k (get_or t k (pos 0) +ℤ y);
      }
    where
      go : (q : ℕ) (s : Bool) → eqb k q ≡ s → nat_abs (get_or (added_at t k y) q (pos 0)) ≤ nat_abs (get_or t q (pos 0)) + c
      go q true e = rw (← eqb-true k q e, added_there) (omega (arith, abs_sum (get_or t k (pos 0)) y))
      go q false e = rw (added_other q (λ p. eqb-false k q e (sym p))) (omega arith)

pub room_at : {n c : ℕ} {t : List ℤ} → HasRoom n c t → {k : ℕ} {y : ℤ} → k < n → nat_abs y ≤ c → Room t k y
room_at r {k} b h = record { inside = omega (arith, r.long); small = omega (arith, r.small k b) }

pub room_less : {n c d : ℕ} {t : List ℤ} → HasRoom n c t → d ≤ c → HasRoom n d t
room_less r l = record { long = r.long; small = λ q b. omega (arith, r.small q b) }

pub near_none : {n c : ℕ} {t : List ℤ} → Near n c t t
near_none = record { near = λ q b. omega arith; rest = λ q b. refl; long = refl }

module _ {n c : ℕ} {t₀ t₁ : List ℤ} (h : Near n c t₀ t₁) where
  pub near_more : {d : ℕ} → c ≤ d → Near n d t₀ t₁
  near_more l = record { near = λ q b. omega (arith, h.near q b); rest = h.rest; long = h.long }

  pub near_then : {d e : ℕ} {t₂ : List ℤ} → Near n d t₁ t₂ → c + d ≤ e → Near n e t₀ t₂
  near_then k l =
      record {
        near = λ q b. omega (arith, h.near q b, k.near q b);
        rest = λ q b. k.rest q b ∙ h.rest q b;
        long = k.long ∙ h.long;
      }

  pub room_after : {d e : ℕ} → HasRoom n e t₀ → c + d ≤ e → HasRoom n d t₁
  room_after r l = record { long = omega (arith, r.long, h.long); small = λ q b. omega (arith, h.near q b, r.small q b) }

-- ---- the number at a place of two tables
halves_add : (g a h l c : ℤ) → value_of (g +ℤ h *ℤ c) (a +ℤ l *ℤ c) ≡ value_of g a +ℤ value_of h l *ℤ c
halves_add g a h l c =
    rw ((view g).eq, (view a).eq, (view h).eq, (view l).eq, (view c).eq) (simp diffs (⊖-eq _ _ _ _ (omega arith)))

-- it grows by the number that is added where k is the place, and by 0 elsewhere
pub added_at_lem : (hi lo : List ℤ) (k : ℕ) (h l c : ℤ) → Room hi k (h *ℤ c) → Room lo k (l *ℤ c) → (q : ℕ)
    → value_at (added_at hi k (h *ℤ c)) (added_at lo k (l *ℤ c)) q ≡ value_at hi lo q +ℤ cond (eqb k q) (value_of h l *ℤ c) (pos 0)
added_at_lem hi lo k h l c r s q = go (eqb k q) refl
  where
    go : (t : Bool) → eqb k q ≡ t → value_at (added_at hi k (h *ℤ c)) (added_at lo k (l *ℤ c)) q ≡ value_at hi lo q +ℤ cond t (value_of h l *ℤ c) (pos 0)
    go true e =
        rw (← eqb-true k q e)
        (ap₂ value_of (added_there r) (added_there s) ∙ halves_add (get_or hi k (pos 0)) (get_or lo k (pos 0)) h l c)
    go false e =
        let n : q ≡ k → ⊥ = λ p. eqb-false k q e (sym p) in
        ap₂ value_of (added_other r q n) (added_other s q n) ∙ sym (+ℤ_idr (value_at hi lo q))

-- ---- a number divided by 2^16
set_replaced : (t : List ℤ) (k : ℕ) (z : ℤ) {c : ℕ} → k < length t → nat_abs z ≤ c → Replaced k c t (set t k z)
set_replaced t k z b h =
    record {
      small = rw (get_or-set_same t k z (pos 0) b) h;
      other = λ q n. get_or-set_other t k q z (pos 0) n;
      long = length-set t k z;
    }

module _ (hi lo : List ℤ) (k : ℕ) (f : SFits w64 (get_or lo k (pos 0))) (r : Room hi k carried) (b : k < length lo) where
  abbrev g : ℤ
  g = get_or hi k (pos 0)

  abbrev a : ℤ
  a = get_or lo k (pos 0)

  abbrev quotient : ℤ
  quotient = (cut_at step (g +ℤ (halves_of a).high)).high

  abbrev moved : ℤ
  moved = (cut_at step (g +ℤ (halves_of a).high)).low *ℤ pos (2 ^ 11) +ℤ (cut_at step (halves_of a).low).high

  abbrev rest : ℕ
  rest = mod_z (halves_of a).low step

  pub carry_room : nat_abs g + nat_abs (halves_of a).high < 2 ^ 63
  carry_room = omega (arith, r.small, high_small a (2 ^ 36) (omega (arith, fits_abs f)))

  pub divided : Divided k hi lo (set hi k quotient) (set lo k moved) (eqb (of_z w64 (cut_at step (halves_of a).low).low) 0)
  divided =
      let w = rest_low g a f carry_room in
      record {
        floor = record {
          rest = rest;
          low = floor_lt (halves_of a).low step (omega arith);
          is = quotient_is g a f carry_room
              ∙ ap (λ (v : ℤ). v *ℤ pos step +ℤ pos rest) (sym (ap₂ value_of (get_or-set_same hi k quotient (pos 0) r.inside) (get_or-set_same lo k moved (pos 0) b)));
        };
        yes = λ e. ap nat_abs (sym w ∙ zero_bits (low_halved g a f carry_room).low (eqb-true _ 0 e));
        no = λ e z. eqb-false _ 0 e (ap (of_z w64) (w ∙ ap pos z));
        high = set_replaced hi k quotient r.inside (quotient_high g a f carry_room);
        low = set_replaced lo k moved b (quotient_low g a f carry_room);
      }

-- ---- one place after another
pub shrunk_none : {c : ℕ} {t : List ℤ} → Shrunk 0 c t t
shrunk_none = record { small = λ q b. absurd (omega arith); rest = λ q b. refl; long = refl }

module _ {m c : ℕ} {t₀ t₁ : List ℤ} (h : Shrunk m c t₀ t₁) where
  pub shrunk_more : {t₂ : List ℤ} → Replaced m c t₁ t₂ → Shrunk (m + 1) c t₀ t₂
  shrunk_more r =
      record {
        small = λ q b.
            ⊎_elim
            (λ (e : q ≡ m). rw e r.small)
            (λ d. rw (r.other q (λ e. omega arith)) (h.small q d))
            (eq-or-lt_of_le {n = q} {m = m} (omega arith));
        rest = λ q b. r.other q (λ e. omega arith) ∙ h.rest q (omega arith);
        long = r.long ∙ h.long;
      }

  pub shrunk_room : {d : ℕ} → m ≤ length t₀ → c + d < 2 ^ 63 → HasRoom m d t₁
  shrunk_room l k = record { long = omega (arith, h.long); small = λ q b. omega (arith, h.small q b) }
