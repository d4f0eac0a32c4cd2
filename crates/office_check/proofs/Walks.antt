-- The walk as the code does it: one step by the tests of a byte, and the way to the next note.
use mathlib.Core.Path.{◌≡◌, refl, sym, ◌∙◌}
use mathlib.Core.Bool.{Bool, true, false, cond, ◌&&◌, ◌||◌}
use mathlib.Core.List.{List}
use mathlib.Core.Logic.{⊎_elim}
use Prim.Native.Nat.{ℕ, ◌+◌, ◌≤◌, ◌<◌}
use native.Mathlib.Omega.{arith}
use lib.Dec.{eqb, leb}
use lib.ListN.{length, get_or, get_or-eq_default}
use borrow.Author.Tests.{eq-eqb, ne_eqb, eqb-true, le-leb, lt-leb, leb-true, lt-ltb, le-ltb}
use Rattle.counting.proofs.Cases.{and_left, and_right, never, lt_or_le}
use Rattle.format.specs.Notes.{note_length, is_note, office_size, walk_start, step_at, note_offsets, walk_end, body_end}
use Rattle.format.proofs.Notes.{walking_found}
use Rattle.format.proofs.Walk.{stepped, note_step, start_inside, Walking, walking_start, walking_end, walking_command, walking_note}
use Rattle.office_check.specs.Steps.{note_here, Reached}

-- ---- where the walk begins
module _ (s : List ℕ) where
  pub start_short : length s < 10 → walk_start s ≡ length s
  unfolding walk_start
  start_short h = rw (lt-leb 10 (length s) h) (go (eqb (get_or s 0 0) 0x10))
    where
      go : (x : Bool) → cond (x && false) 10 (length s) ≡ length s
      go true = refl
      go false = refl

  pub start_other : (get_or s 0 0 ≡ 0x10 → ⊥) → walk_start s ≡ length s
  unfolding walk_start
  start_other h = rw (ne_eqb (get_or s 0 0) 0x10 h)

  pub start_headed : 10 ≤ length s → get_or s 0 0 ≡ 0x10 → walk_start s ≡ 10
  unfolding walk_start
  start_headed h e = rw (eq-eqb (get_or s 0 0) 0x10 e, le-leb 10 (length s) h)

-- ---- one step
module _ (s : List ℕ) (at : ℕ) where
  pub step_past : length s ≤ at → step_at s at ≡ 0
  step_past h =
      ⊎_elim (λ q. absurd (omega (arith, (stepped s at q).inside))) (λ q. omega arith) (lt_or_le 0 (step_at s at))

  pub step_end : get_or s at 0 ≡ 0x13 → step_at s at ≡ 0
  unfolding step_at
  step_end e = rw (eq-eqb (get_or s at 0) 0x13 e)

  module _ (n : ℕ) (size : n ≡ office_size (get_or s at 0)) where
    pub step_cut : length s < at + n → step_at s at ≡ 0
    unfolding step_at
    step_cut h = rw (← size, lt-ltb (length s) (at + n) h) (go (eqb (get_or s at 0) 0x13))
      where
        go : (x : Bool) → cond (x || true) 0 n ≡ 0
        go true = refl
        go false = refl

    pub step_goes : (get_or s at 0 ≡ 0x13 → ⊥) → at + n ≤ length s → step_at s at ≡ n
    unfolding step_at
    step_goes h b = rw (← size, ne_eqb (get_or s at 0) 0x13 h, le-ltb (length s) (at + n) b)

-- ---- a whole note
module _ (s : List ℕ) (at : ℕ) where
  here_step : note_here s at ≡ true → step_at s at ≡ note_length
  here_step h =
      let b = and_right (leb (at + note_length) (length s)) (is_note (get_or s at 0)) h in
      let i = leb-true (at + note_length) (length s) (and_left (leb (at + note_length) (length s)) _ h) in
      let e = eqb-true (get_or s at 0) 0x40 b in
      step_goes s at note_length (rw b) (λ z. omega arith) i

  -- it stands within the stream
  pub here_inside : note_here s at ≡ true → at + note_length ≤ length s
  here_inside h = leb-true (at + note_length) (length s) (and_left (leb (at + note_length) (length s)) _ h)

  pub here_not : length s < at + note_length → note_here s at ≡ false
  here_not h = rw (lt-leb (at + note_length) (length s) h)

  -- where the walk goes on at a 40, it stands there
  step_here : 0 < step_at s at → is_note (get_or s at 0) ≡ true → note_here s at ≡ true
  step_here q b =
      let z = note_step s at q b in
      rw (b, le-leb (at + note_length) (length s) (omega (arith, (stepped s at q).inside)))

  module _ (l : List ℕ) (e : ℕ) (w : Walking s at l e) where
    pub reached_end : step_at s at ≡ 0 → Reached s l e at
    reached_end z = record {
      note = λ h. absurd (omega (arith, here_step h));
      none = λ h. walking_end s at l e w z;
    }

    pub reached_note : 0 < step_at s at → is_note (get_or s at 0) ≡ true → Reached s l e at
    reached_note q b = record {
      note = λ h. walking_note s at l e w q b;
      none = λ h. never (sym h ∙ step_here q b);
    }

-- ---- one step of n bytes
module _ (s : List ℕ) (at n : ℕ) (is : n ≡ step_at s at) (some : 0 < n) where
  pub step_some : 0 < step_at s at
  step_some = rw (← is) some

  pub step_inside : at + n ≤ length s
  step_inside = rw is (stepped s at step_some).inside

  pub walked_on : (l : List ℕ) (e : ℕ) → is_note (get_or s at 0) ≡ false → Walking s at l e → Walking s (at + n) l e
  walked_on l e b w = rw is (walking_command s at l e w step_some b)

-- ---- where the commands end, by what stands at the end of the walk
module _ (s : List ℕ) where
  pub end_cut : get_or s (walk_end s) 0 ≡ 0x40 → body_end s ≡ walk_end s
  unfolding body_end
  end_cut e = rw (eq-eqb (get_or s (walk_end s) 0) 0x40 e)

  pub end_whole : (get_or s (walk_end s) 0 ≡ 0x40 → ⊥) → body_end s ≡ length s
  unfolding body_end
  end_whole h = rw (ne_eqb (get_or s (walk_end s) 0) 0x40 h)

  pub end_past : length s ≤ walk_end s → body_end s ≡ length s
  end_past h = let z = get_or-eq_default s 0 h in end_whole (λ e. omega arith)

  -- the walk ends before them
  pub end_before : walk_end s ≤ body_end s
  unfolding body_end
  end_before = go (is_note (get_or s (walk_end s) 0))
    where
      go : (b : Bool) → walk_end s ≤ cond b (walk_end s) (length s)
      go true = omega arith
      go false =
          (walking_found s (walk_start s) (note_offsets s) (walk_end s) (start_inside s) (walking_start s)).inside
