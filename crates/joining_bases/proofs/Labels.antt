-- Laws of the nine lists of block numbers in 576 bytes.
use mathlib.Core.Path.{◌≡◌, refl, sym, ap, ◌∙◌}
use mathlib.Core.Logic.{inl, inr, ⊎_elim}
use mathlib.Core.List.{List, [], ◌++◌}
use Prim.Native.Nat.{ℕ, zero, suc, ◌+◌, ◌-◌, ◌*◌, ◌/◌, ◌%◌, ◌≤◌, ◌<◌}
use native.Mathlib.Nat.{add-sub_cancel_left}
use native.Mathlib.Numerals.{add-one}
use native.Mathlib.Omega.{arith}
use lib.ListN.{length, get_or, take, drop, set, replicate, length-replicate, get_or-replicate, length-drop, get_or-eq_default}
use lib.Seq.{length-take-le, get_or-take, get_or-drop, ext_get_or}
use Rattle.std.specs.List.{sum}
use Rattle.std.proofs.lemmas.List.Sums.{sum_by_more}
use Rattle.counting.specs.Counting.{listed, sum_to}
use Rattle.counting.proofs.Cases.{lt_or_le}
use Rattle.counting.proofs.Listed.{same_or_not, listed_length, listed_same, listed_at, listed_all, listed_set}
use Rattle.joining_rule.specs.Bytes.{block_bytes}
use Rattle.joining_rule.specs.Rounds.{Bases}
use Rattle.joining_rule.proofs.Bytes.{bytes_long, bytes_at, bytes_from}
use Rattle.joining_rule.proofs.Rounds.{Shaped}
use Rattle.joining_bases.specs.Parts.{labels_at, labels_in, Sizes, LabelsOnly, Others255}
use Rattle.joining_bases.proofs.Pieces.{taken_long, replaced_long, replaced_before, replaced_after, new_part, new_other}

-- ---- nine lists read off the bytes
module _ (sizes l : List ℕ) where
  pub labels_nine : length (labels_in sizes l) ≡ 9
  unfolding labels_in
  labels_nine = listed_length 9 _

  pub labels_at_lem : (j : ℕ) → j < 9 → get_or (labels_in sizes l) j [] ≡ labels_at sizes l j
  unfolding labels_in
  labels_at_lem j h = listed_at 9 _ j [] h

  -- basis j with other blocks
  pub labels_set : (j : ℕ) → j < 9 → (l' : List ℕ) → LabelsOnly sizes j l l' → labels_in sizes l' ≡ set (labels_in sizes l) j (labels_at sizes l' j)
  unfolding labels_in
  labels_set j h l' o = listed_set 9 _ _ j _ (λ k b d. o.others k b d) (λ _. refl)

  pub others_kept : Others255 sizes l → (j : ℕ) (l' : List ℕ) → LabelsOnly sizes j l l' → Others255 sizes l'
  others_kept o j l' k = record { long = k.long ∙ o.long; rest = λ i x b c d. k.rest i x b c d ∙ o.rest i x b c d }

module _ (sizes : List ℕ) (s : Sizes sizes) where
  -- the machine's part
  pub part_is : (l : List ℕ) (j : ℕ) → take (64 * j + get_or sizes j 0 - 64 * j) (drop (64 * j) l) ≡ labels_at sizes l j
  part_is l j = rw (add-sub_cancel_left (64 * j) (get_or sizes j 0)) refl

  -- the bytes are those of their lists
  pub bytes_held : (l : List ℕ) → Others255 sizes l → l ≡ block_bytes (labels_in sizes l)
  bytes_held l o = ext_get_or 255 _ _ (o.long ∙ sym (bytes_long (labels_in sizes l))) (λ x b. let c : x < 576 = omega (arith, o.long) in byte x c)
    where
      byte : (x : ℕ) → x < 576 → get_or l x 255 ≡ get_or (block_bytes (labels_in sizes l)) x 255
      byte x c =
          let j = x / 64 in
          let i = x % 64 in
          let n = get_or sizes (x / 64) 0 in
          let w : x ≡ 64 * (x / 64) + x % 64 = omega arith in
          let h : x / 64 < 9 = omega arith in
          let z = s.small (x / 64) h in
          ap (λ (y : ℕ). get_or l y 255) w
          ∙ ⊎_elim
          (λ b. sym (get_or-take n (drop (64 * j) l) i 255 b ∙ get_or-drop (64 * j) l i 255))
          (λ b.
          o.rest j i h b (omega arith)
          ∙ sym (get_or-eq_default (labels_at sizes l j) 255 (omega (arith, length-take-le n (drop (64 * j) l) (simp length-drop (omega (arith, o.long)))))))
          (lt_or_le i n)
          ∙ sym (bytes_at (labels_in sizes l) x c ∙ ap (λ (k : List ℕ). get_or k (x % 64) 255) (labels_at_lem sizes l (x / 64) h))

  -- the block numbers of basis j replaced
  module _ (l m : List ℕ) (j : ℕ) (long : length l ≡ 576) (h : j < 9) (e : length m ≡ get_or sizes j 0) where
    fits : 64 * j + get_or sizes j 0 ≤ length l
    fits = omega (arith, s.small j h)

    abbrev put : List ℕ
    put = take (64 * j) l ++ (m ++ drop (64 * j + get_or sizes j 0 - 64 * j) (drop (64 * j) l))

    pub labels_put : labels_at sizes put j ≡ m
    labels_put = rw (add-sub_cancel_left (64 * j) (get_or sizes j 0)) (new_part l m (64 * j) (get_or sizes j 0) e fits)

    pub labels_only : LabelsOnly sizes j l put
    labels_only = rw (add-sub_cancel_left (64 * j) (get_or sizes j 0))
        record {
          long = replaced_long l m (64 * j) (get_or sizes j 0) e fits 255;
          others = λ i b d.
              new_other l m (64 * j) (get_or sizes j 0) e fits (64 * i) (get_or sizes i 0) (omega (arith, s.small i b))
              (⊎_elim (λ c. inl (omega (arith, s.small i b))) (λ c. inr (omega (arith, s.small j h))) (lt_or_le i j));
          rest = λ i x b c d.
              ⊎_elim
              (λ q. replaced_before l m (64 * j) (get_or sizes j 0) e fits 255 (64 * i + x) (omega arith))
              (λ q.
              ⊎_elim
              (λ y. let z : get_or sizes j 0 ≤ x = rw y at c in replaced_after l m (64 * j) (get_or sizes j 0) e fits 255 (64 * i + x) (omega arith))
              (λ y. replaced_after l m (64 * j) (get_or sizes j 0) e fits 255 (64 * i + x) (omega (arith, s.small j h)))
              (same_or_not i j))
              (lt_or_le i j);
        }

  -- bytes give back the lists that they were made of
  pub labels_of : (g : Bases) → ((j : ℕ) → j < 9 → length (g.basis j) ≡ get_or sizes j 0) → (L : List (List ℕ)) → Shaped g L → labels_in sizes (block_bytes L) ≡ L
  unfolding labels_in
  labels_of g long L p =
      listed_same 9 _ (λ j. get_or L j []) part_of ∙ ap (λ (n : ℕ). listed n (λ j. get_or L j [])) (sym p.nine) ∙ listed_all L []
    where
      part_of : (j : ℕ) → j < 9 → labels_at sizes (block_bytes L) j ≡ get_or L j []
      part_of j h =
          let q = s.small j h in
          let k = bytes_long L in
          let n = length-take-le (get_or sizes j 0) (drop (64 * j) (block_bytes L)) (simp length-drop (omega arith)) in
          ext_get_or 255 _ _ (n ∙ sym (p.long j h ∙ long j h))
          (λ i b.
          get_or-take (get_or sizes j 0) (drop (64 * j) (block_bytes L)) i 255 (omega arith)
          ∙ get_or-drop (64 * j) (block_bytes L) i 255
          ∙ bytes_from L j i h (omega arith))

-- ---- the bases numbered, one by one
pub record NumberedTo (sizes : List ℕ) (i : ℕ) (l : List ℕ) : Type 0 where
  pub bytes : Others255 sizes l
  pub labels : (j : ℕ) → j < i → j < 9 → labels_at sizes l j ≡ listed (get_or sizes j 0) (λ x. x)

pub numbering_start : (sizes : List ℕ) → NumberedTo sizes 0 (replicate 576 255)
numbering_start sizes = record {
  bytes = record {
    long = length-replicate {A = ℕ} 576 255;
    rest = λ j x b _ c. get_or-replicate {A = ℕ} 576 (64 * j + x) 255 255 (omega arith);
  };
  labels = λ j b. absurd (omega arith);
}

module _ (sizes : List ℕ) (i : ℕ) (l : List ℕ) (n : NumberedTo sizes i l) where
  pub numbering_turn : Sizes sizes → (m : List ℕ) → i < 9 → m ≡ listed (length (take (64 * i + get_or sizes i 0 - 64 * i) (drop (64 * i) l))) (λ x. x)
      → NumberedTo sizes (i + 1) (take (64 * i) l ++ (m ++ drop (64 * i + get_or sizes i 0 - 64 * i) (drop (64 * i) l)))
  numbering_turn s m h f =
      let long = n.bytes.long in
      let q : m ≡ listed (get_or sizes i 0) (λ x. x) = f ∙ ap (λ (k : ℕ). listed k (λ x. x)) (taken_long (64 * i) (get_or sizes i 0) l (omega (arith, long, s.small i h))) in
      let e : length m ≡ get_or sizes i 0 = ap length q ∙ listed_length (get_or sizes i 0) (λ x. x) in
      let o = labels_only sizes s l m i long h e in
      record {
        bytes = others_kept sizes l n.bytes i _ o;
        labels = λ j b c.
            ⊎_elim
            (λ d. rw d (labels_put sizes s l m i long h e ∙ q))
            (λ d. o.others j c d ∙ n.labels j (omega arith) c)
            (same_or_not j i);
      }

-- ---- the sum of an array's first numbers
pub sum_taken : (l : List ℕ) (n : ℕ) → n ≤ length l → sum (take n l) ≡ sum_to n (λ j. get_or l j 0)
unfolding sum_to
sum_taken l zero h = refl
sum_taken l (suc n) h = rw (← add-one n) (sum_by_more (λ (x : ℕ). x) l n 0 (omega arith) ∙ ap (λ (m : ℕ). m + get_or l n 0) (sum_taken l n (omega arith)))

pub sum_small : (f : ℕ → ℕ) (m n : ℕ) → ((j : ℕ) → j < n → f j ≤ m) → sum_to n f ≤ m * n
unfolding sum_to
sum_small f m zero h = omega arith
sum_small f m (suc n) h = omega (arith, sum_small f m n (λ j b. h j (omega arith)), h n (omega arith))
