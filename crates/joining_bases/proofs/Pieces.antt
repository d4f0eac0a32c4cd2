-- Laws of the flat arrays: nine that are replaced one by one, and a part that is replaced.
use mathlib.Core.Path.{◌≡◌, refl, sym, ap, ◌∙◌}
use mathlib.Core.Logic.{◌⊎◌, inl, inr, ⊎_elim}
use mathlib.Core.Bool.{cond}
use mathlib.Core.List.{List, ◌++◌}
use Prim.Native.Nat.{ℕ, suc, ◌+◌, ◌-◌, ◌*◌, ◌≤◌, ◌<◌}
use native.Mathlib.Nat.{add-sub_cancel_left, mul-le-mul_left, mul-suc}
use native.Mathlib.Omega.{arith}
use lib.Dec.{ltb}
use borrow.Author.Tests.{lt-ltb, le-ltb}
use lib.ListN.{length, get_or, take, drop, set, length-append, length-take, length-drop, get_or-append}
use lib.Seq.{length-take-le, get_or-take, get_or-drop, get_or-append-add, ext_get_or}
use Rattle.counting.specs.Counting.{listed}
use Rattle.counting.proofs.Cases.{lt_or_le}
use Rattle.counting.proofs.Listed.{listed_length, listed_same, listed_at, listed_set}
use Rattle.joining_bases.specs.Parts.{piece, PieceOnly}

-- another number is below i + 1 where it is below i
same_test : (i k : ℕ) → (k ≡ i → ⊥) → ltb k (i + 1) ≡ ltb k i
same_test i k d = ⊎_elim (λ b. lt-ltb k (i + 1) (omega arith) ∙ sym (lt-ltb k i b)) (λ b. le-ltb k (i + 1) (omega arith) ∙ sym (le-ltb k i b)) (lt_or_le k i)

-- ---- nine that are replaced one by one: those before i are f's, the others h's
unfoldable pub turned : {A : Type 0} → (ℕ → A) → (ℕ → A) → ℕ → List A
turned f h i = listed 9 (λ j. cond (ltb j i) (f j) (h j))

module _ {A : Type 0} (f h : ℕ → A) where
  abbrev turn : ℕ → ℕ → A
  turn i j = cond (ltb j i) (f j) (h j)

  pub turned_long : (i : ℕ) → length (turned f h i) ≡ 9
  unfolding turned
  turned_long i = listed_length 9 (turn i)

  pub turned_none : turned f h 0 ≡ listed 9 h
  unfolding turned
  turned_none = listed_same 9 (turn 0) h (λ j _. rw (le-ltb j 0 (omega arith)))

  pub turned_before : (i j : ℕ) → j < 9 → j < i → (d : A) → get_or (turned f h i) j d ≡ f j
  unfolding turned
  turned_before i j b c d = listed_at 9 (turn i) j d b ∙ rw (lt-ltb j i c)

  pub turned_from : (i j : ℕ) → j < 9 → i ≤ j → (d : A) → get_or (turned f h i) j d ≡ h j
  unfolding turned
  turned_from i j b c d = listed_at 9 (turn i) j d b ∙ rw (le-ltb j i c)

  pub turned_more : (i : ℕ) → set (turned f h i) i (f i) ≡ turned f h (i + 1)
  unfolding turned
  turned_more i = sym (listed_set 9 (turn i) (turn (i + 1)) i (f i) (λ k _ d. rw (same_test i k d)) (λ _. rw (lt-ltb i (i + 1) (omega arith))))

  pub turned_all : turned f h 9 ≡ listed 9 f
  unfolding turned
  turned_all = listed_same 9 (turn 9) f (λ j b. rw (lt-ltb j 9 b))

-- ---- a part, whose length the machine has as a + n - a
pub taken_long : (a n : ℕ) (l : List ℕ) → a + n ≤ length l → length (take (a + n - a) (drop a l)) ≡ n
taken_long a n l h = rw (add-sub_cancel_left a n) (length-take-le n (drop a l) (simp length-drop (omega arith)))

-- ---- n elements from place a on, replaced by m
module _ (l m : List ℕ) (a n : ℕ) (e : length m ≡ n) (fits : a + n ≤ length l) (d : ℕ) where
  abbrev new : List ℕ
  new = take a l ++ (m ++ drop n (drop a l))

  pub replaced_long : length new ≡ length l
  replaced_long = simp (length-append, length-take, length-drop) (omega arith)

  before : length (take a l) ≡ a
  before = length-take-le a l (omega arith)

  pub replaced_before : (x : ℕ) → x < a → get_or new x d ≡ get_or l x d
  replaced_before x h = get_or-append (take a l) (m ++ drop n (drop a l)) d x (omega (arith, before)) ∙ get_or-take a l x d h

  replaced_from : (y : ℕ) → get_or new (a + y) d ≡ get_or (m ++ drop n (drop a l)) y d
  replaced_from y = ap (λ (z : ℕ). get_or (take a l ++ (m ++ drop n (drop a l))) (z + y) d) (sym before) ∙ get_or-append-add (take a l) (m ++ drop n (drop a l)) y d

  pub replaced_in : (y : ℕ) → y < n → get_or new (a + y) d ≡ get_or m y d
  replaced_in y h = replaced_from y ∙ get_or-append m (drop n (drop a l)) d y (omega arith)

  replaced_past : (z : ℕ) → get_or new (a + (n + z)) d ≡ get_or l (a + (n + z)) d
  replaced_past z = replaced_from (n + z) ∙ ap (λ (k : ℕ). get_or (m ++ drop n (drop a l)) (k + z) d) (sym e) ∙ get_or-append-add m (drop n (drop a l)) z d ∙ get_or-drop n (drop a l) z d ∙ get_or-drop a l (n + z) d

  pub replaced_after : (x : ℕ) → a + n ≤ x → get_or new x d ≡ get_or l x d
  replaced_after x h =
      let q : x ≡ a + (n + (x - (a + n))) = omega arith in
      ap (λ (z : ℕ). get_or (take a l ++ (m ++ drop n (drop a l))) z d) q ∙ replaced_past (x - (a + n)) ∙ ap (λ (z : ℕ). get_or l z d) (sym q)

-- the part that was replaced is m, and one that has no place of it is as it was
module _ (l m : List ℕ) (a n : ℕ) (e : length m ≡ n) (fits : a + n ≤ length l) where
  part_length : (b k : ℕ) → b + k ≤ length l → (q : List ℕ) → length q ≡ length l → length (take k (drop b q)) ≡ k
  part_length b k h q f = length-take-le k (drop b q) (simp length-drop (omega arith))

  pub new_part : take n (drop a (new l m a n e fits 0)) ≡ m
  new_part =
      let k = part_length a n fits (new l m a n e fits 0) (replaced_long l m a n e fits 0) in
      ext_get_or 0 _ _ (k ∙ sym e)
      (λ y b. get_or-take n (drop a (new l m a n e fits 0)) y 0 (omega arith) ∙ get_or-drop a (new l m a n e fits 0) y 0 ∙ replaced_in l m a n e fits 0 y (omega arith))

  pub new_other : (b k : ℕ) → b + k ≤ length l → (b + k ≤ a) ⊎ (a + n ≤ b) → take k (drop b (new l m a n e fits 0)) ≡ take k (drop b l)
  new_other b k h w =
      let q = part_length b k h (new l m a n e fits 0) (replaced_long l m a n e fits 0) in
      ext_get_or 0 _ _ (q ∙ sym (part_length b k h l refl))
      (λ y u.
      get_or-take k (drop b (new l m a n e fits 0)) y 0 (omega arith) ∙ get_or-drop b (new l m a n e fits 0) y 0 ∙ same y (omega arith) w
      ∙ sym (get_or-take k (drop b l) y 0 (omega arith) ∙ get_or-drop b l y 0))
    where
      same : (y : ℕ) → y < k → (b + k ≤ a) ⊎ (a + n ≤ b) → get_or (new l m a n e fits 0) (b + y) 0 ≡ get_or l (b + y) 0
      same y u (inl v) = replaced_before l m a n e fits 0 (b + y) (omega arith)
      same y u (inr v) = replaced_after l m a n e fits 0 (b + y) (omega arith)

-- a whole piece replaced, in an array of nine
module _ (w j : ℕ) (l m : List ℕ) (long : length l ≡ w * 9) (h : j < 9) (e : length m ≡ w) where
  upto : (i k : ℕ) → i < k → w * i + w ≤ w * k
  upto i k b = let q : w * suc i ≤ w * k = mul-le-mul_left w b in rw (mul-suc w i) at q

  fits : w * j + w ≤ length l
  fits = omega (arith, upto j 9 h)

  abbrev put : List ℕ
  put = take (w * j) l ++ (m ++ drop (w * j + w - w * j) (drop (w * j) l))

  pub piece_put : piece w put j ≡ m
  piece_put = rw (add-sub_cancel_left (w * j) w) (new_part l m (w * j) w e fits)

  pub piece_only : PieceOnly w j l put
  piece_only = rw (add-sub_cancel_left (w * j) w)
      record {
        long = replaced_long l m (w * j) w e fits 0;
        others = λ i b d. new_other l m (w * j) w e fits (w * i) w (omega (arith, upto i 9 b)) (⊎_elim (λ c. inl (upto i j c)) (λ c. inr (upto j i (omega arith))) (lt_or_le i j));
      }

pub only_same : (w j : ℕ) (l : List ℕ) → PieceOnly w j l l
only_same w j l = record { long = refl; others = λ _ _ _. refl }
