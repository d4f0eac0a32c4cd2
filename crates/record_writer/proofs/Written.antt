-- The part of an output from a position onward, lent and back: one law for the fields of a record and for the records
-- of a report. What f gives for the first i of a list is written, and what is past it stays.
use native.Mathlib.Omega.{arith}
use native.Mathlib.Nat.{mul-suc}
use native.Mathlib.Numerals.{add-one}
use mathlib.Core.Path.{◌≡◌, refl, sym, ◌∙◌, ap}
use mathlib.Core.List.{List, [], ◌∷◌, ◌++◌, append-nil, append_assoc, flat_map}
use Prim.Native.Nat.{ℕ, zero, suc, ◌+◌, ◌-◌, ◌*◌, ◌<◌, ◌≤◌}
use lib.ListN.{length, take, drop, get_or, length-append, length-drop}
use lib.Seq.{take_at, drop_at, take-length, drop-length, drop-drop, length-take-le}
use borrow.Rule.Slice.PartMut.{mid_of, put_mid}
use Rattle.calls.proofs.Pieces.{pieces_length}

module _ (done l : List ℕ) (n : ℕ) (h : length done ≡ n) where
  rest : length (done ++ drop n l) - n ≡ length (drop n l)
  rest = omega (arith, length-append done (drop n l))

  -- what was written before n stays, and w stands from n on
  grown : (w : List ℕ) (m : ℕ)
      → let out = done ++ drop n l in
      put_mid n (length out - n) out (w ++ drop m (mid_of n (length out - n) out)) ≡ (done ++ w) ++ drop (n + m) l
  grown w m =
      rw (rest, take_at done (drop n l) n h, drop_at done (drop n l) n h, take-length, drop-length, append-nil, drop-drop, append_assoc)

module _ {A : Type 0} (f : A → List ℕ) where
  more : (l : List A) (k : ℕ) (d : A) → k < length l → flat_map f (take (suc k) l) ≡ flat_map f (take k l) ++ f (get_or l k d)
  unfolding flat_map
  more [] k d h = absurd (omega arith)
  more (x ∷ l) zero d h = append-nil (f x)
  more (x ∷ l) (suc k) d h =
      ap (λ (r : List ℕ). f x ++ r) (more l k d (omega arith))
      ∙ sym (append_assoc (f x) (flat_map f (take k l)) (f (get_or l k d)))

  module _ (m : ℕ) (each : (x : A) → length (f x) ≡ m) (l : List A) (i : ℕ) (out xs : List ℕ) where
    written_length : i ≤ length l → length (flat_map f (take i l)) ≡ m * i
    written_length h = pieces_length f m each (take i l) ∙ ap (λ (n : ℕ). m * n) (length-take-le i l h)

    -- the length stays
    pub kept : i ≤ length l → m * i ≤ length out → xs ≡ flat_map f (take i l) ++ drop (m * i) out
        → length xs ≡ length out
    kept h g e =
        omega (arith, ap length e, length-append (flat_map f (take i l)) (drop (m * i) out), length-drop (m * i) out, written_length h)

    -- one more, at its own position
    pub next : (d : A) (ys : List ℕ) → i < length l → xs ≡ flat_map f (take i l) ++ drop (m * i) out
        → ys ≡ f (get_or l i d) ++ drop m (mid_of (m * i) (length xs - m * i) xs)
        → put_mid (m * i) (length xs - m * i) xs ys ≡ flat_map f (take (i + 1) l) ++ drop (m * (i + 1)) out
    next d ys h e g =
        rw (g, e, grown (flat_map f (take i l)) out (m * i) (written_length (omega arith)) (f (get_or l i d)) m, add-one, mul-suc, more l i d h) refl
