-- Laws of the walk over a certificate stream that tells its notes.
use mathlib.Core.Path.{◌≡◌, refl, sym, ◌∙◌}
use mathlib.Core.Bool.{Bool, true, false, cond, ◌&&◌, ◌||◌}
use mathlib.Core.List.{List, [], ◌∷◌}
use mathlib.Core.Logic.{⊎_elim}
use Prim.Native.Nat.{ℕ, zero, suc, ◌+◌, ◌≤◌, ◌<◌}
use native.Mathlib.Omega.{arith}
use lib.Dec.{eqb, leb, ltb}
use lib.ListN.{length, get_or}
use borrow.Author.Tests.{ne_eqb, eqb-false, leb-true, ltb-false}
use Rattle.counting.proofs.Cases.{lt_or_le}
use Rattle.format.specs.Notes.{note_length, is_note, office_size, walk_start, step_at, noted_at, notes_from, end_from, note_offsets, walk_end}

-- ---- one step
-- where the walk goes on at an offset, a note or a command stands there whole, and it is not the end command
pub record Stepped (s : List ℕ) (at : ℕ) : Type 0 where
  pub size : step_at s at ≡ office_size (get_or s at 0)
  pub inside : at + step_at s at ≤ length s
  pub goes : get_or s at 0 ≡ 0x13 → ⊥

pub stepped : (s : List ℕ) (at : ℕ) → 0 < step_at s at → Stepped s at
unfolding step_at
stepped s at h = go (eqb (get_or s at 0) 0x13) refl (ltb (length s) (at + office_size (get_or s at 0))) refl h
  where
    go : (x : Bool) → eqb (get_or s at 0) 0x13 ≡ x → (y : Bool) → ltb (length s) (at + office_size (get_or s at 0)) ≡ y
        → 0 < cond (x || y) 0 (office_size (get_or s at 0)) → Stepped s at
    go true e y f h = absurd (omega arith)
    go false e true f h = absurd (omega arith)
    go false e false f h =
        let z : step_at s at ≡ office_size (get_or s at 0) = unfold step_at in rw (e, f) in
        record { size = z; inside = rw z (ltb-false _ _ f); goes = eqb-false _ _ e }

-- a note is as long as it is
pub note_step : (s : List ℕ) (at : ℕ) → 0 < step_at s at → is_note (get_or s at 0) ≡ true → step_at s at ≡ note_length
note_step s at h e = (stepped s at h).size ∙ rw e

-- the walk begins within the stream
pub start_inside : (s : List ℕ) → walk_start s ≤ length s
unfolding walk_start
start_inside s = go (eqb (get_or s 0 0) 0x10) (leb 10 (length s)) refl
  where
    go : (x y : Bool) → leb 10 (length s) ≡ y → cond (x && y) 10 (length s) ≤ length s
    go true true e = leb-true 10 (length s) e
    go true false e = omega arith
    go false y e = omega arith

-- ---- the walk from an offset on: the notes that it finds, and where it ends
pub record Walking (s : List ℕ) (at : ℕ) (l : List ℕ) (e : ℕ) : Type 0 where
  pub left : ℕ
  pub enough : length s ≤ at + left
  pub notes : notes_from left s at ≡ l
  pub end : end_from left s at ≡ e

pub walking_start : (s : List ℕ) → Walking s (walk_start s) (note_offsets s) (walk_end s)
unfolding note_offsets walk_end
walking_start s = record { left = length s; enough = omega arith; notes = refl; end = refl }

-- what it finds where a note stands
pub record NoteMet (s : List ℕ) (at : ℕ) (l : List ℕ) (e : ℕ) : Type 0 where
  pub rest : List ℕ
  pub first : l ≡ at ∷ rest
  pub walking : Walking s (at + note_length) rest e

-- at its end
pub record WalkEnded (at : ℕ) (l : List ℕ) (e : ℕ) : Type 0 where
  pub none : l ≡ []
  pub last : e ≡ at

module _ (s : List ℕ) (at : ℕ) (l : List ℕ) (e : ℕ) (w : Walking s at l e) where
  pub walking_end : step_at s at ≡ 0 → WalkEnded at l e
  unfolding notes_from end_from
  walking_end h = go w.left w.notes w.end
    where
      go : (f : ℕ) → notes_from f s at ≡ l → end_from f s at ≡ e → WalkEnded at l e
      go zero n m = record { none = sym n; last = sym m }
      go (suc f) n m = record { none = sym (rw h at n); last = sym (rw h at m) }

  -- one step further
  record Further : Type 0 where
    left : ℕ
    enough : length s ≤ at + step_at s at + left
    notes : noted_at s at (notes_from left s (at + step_at s at)) ≡ l
    end : end_from left s (at + step_at s at) ≡ e

  further : 0 < step_at s at → Further
  unfolding notes_from end_from
  further h = go w.left w.enough w.notes w.end
    where
      not_zero : eqb (step_at s at) 0 ≡ false
      not_zero = ne_eqb (step_at s at) 0 (λ z. omega arith)

      go : (f : ℕ) → length s ≤ at + f → notes_from f s at ≡ l → end_from f s at ≡ e → Further
      go zero b n m = absurd (omega (arith, (stepped s at h).inside))
      go (suc f) b n m =
          record { left = f; enough = omega arith; notes = rw not_zero at n; end = rw not_zero at m }

  pub walking_command : 0 < step_at s at → is_note (get_or s at 0) ≡ false → Walking s (at + step_at s at) l e
  walking_command h b =
      let f = further h in
      record { left = f.left; enough = f.enough; notes = rw b at f.notes; end = f.end }

  pub walking_note : 0 < step_at s at → is_note (get_or s at 0) ≡ true → NoteMet s at l e
  walking_note h b =
      let f = further h in
      let z = note_step s at h b in
      record {
        rest = notes_from f.left s (at + step_at s at);
        first = sym (rw b at f.notes);
        walking =
            record {
              left = f.left;
              enough = rw z at f.enough;
              notes = rw z refl;
              end = rw z at f.end;
            };
      }

-- ---- induction over the walk: R relates an offset of it, the notes from there on, and where it ends
module _ (s : List ℕ) (R : ℕ → List ℕ → ℕ → Type 0)
    (ends : (at : ℕ) → at ≤ length s → step_at s at ≡ 0 → R at [] at)
    (command : (at : ℕ) (l : List ℕ) (e : ℕ) → 0 < step_at s at → is_note (get_or s at 0) ≡ false
    → R (at + step_at s at) l e → R at l e)
    (note : (at : ℕ) (l : List ℕ) (e : ℕ) → 0 < step_at s at → is_note (get_or s at 0) ≡ true
    → R (at + note_length) l e → R at (at ∷ l) e) where
  -- what it relates further on gives what it relates here
  walk_step : (at : ℕ) (l : List ℕ) (e : ℕ) → at ≤ length s → Walking s at l e
      → ((b : ℕ) (k : List ℕ) → at < b → b ≤ length s → Walking s b k e → R b k e) → R at l e
  walk_step at l e h w further = ⊎_elim (λ q. more q (is_note (get_or s at 0)) refl) done (lt_or_le 0 (step_at s at))
    where
      done : step_at s at ≤ 0 → R at l e
      done z =
          let k = walking_end s at l e w (omega arith) in
          rw (k.none, k.last) (ends at h (omega arith))

      more : 0 < step_at s at → (t : Bool) → is_note (get_or s at 0) ≡ t → R at l e
      more q true t =
          let m = walking_note s at l e w q t in
          let z = note_step s at q t in
          let i = (stepped s at q).inside in
          rw m.first
          (note at m.rest e q t (further (at + note_length) m.rest (omega arith) (omega arith) m.walking))
      more q false t =
          command at l e q t
          (further (at + step_at s at) l (omega arith) (stepped s at q).inside (walking_command s at l e w q t))

  walk_steps : (f at : ℕ) (l : List ℕ) (e : ℕ) → length s ≤ at + f → at ≤ length s → Walking s at l e → R at l e
  walk_steps zero at l e b h w = walk_step at l e h w (λ c k q r v. absurd (omega arith))
  walk_steps (suc f) at l e b h w = walk_step at l e h w (λ c k q r v. walk_steps f c k e (omega arith) r v)

  pub walking_induction : (at : ℕ) (l : List ℕ) (e : ℕ) → at ≤ length s → Walking s at l e → R at l e
  walking_induction at l e h w = walk_steps (length s) at l e (omega arith) h w

  pub walk_induction : R (walk_start s) (note_offsets s) (walk_end s)
  walk_induction =
      walking_induction (walk_start s) (note_offsets s) (walk_end s) (start_inside s) (walking_start s)
