-- A list whose numbers are replaced by another's, from the last on; and the numbers of a state a place later.
use Rattle.std.proofs.Common.{◌≡◌, refl, sym, ap, ◌∙◌, List, [], ◌∷◌, ◌++◌, ℕ, zero, suc, ◌-◌, ◌≤◌, ◌<◌, length, get_or, take, drop, set, arith, length-append, length-drop, drop-cons, take-append-drop}
use Rattle.std.proofs.lemmas.List.{length-take-le}
use Rattle.std.proofs.Math.Seq.{set_at, get_or-take, drop_at}
use Rattle.std.proofs.Math.ListN.{get_or-append}

-- s with the numbers of t from k on
abbrev pub replaced : List ℕ → List ℕ → ℕ → List ℕ
replaced s t k = take k s ++ drop k t

pub one_fewer : (s t : List ℕ) (k v : ℕ) → k < length s → k < length t → v ≡ get_or t k 0
    → set (replaced s t (suc k)) k v ≡ replaced s t k
one_fewer [] t k v h g e = absurd (omega arith)
one_fewer (x ∷ s) [] k v h g e = absurd (omega arith)
one_fewer (x ∷ s) (y ∷ t) zero v h g e = ap (λ (z : ℕ). z ∷ t) e
one_fewer (x ∷ s) (y ∷ t) (suc k) v h g e =
    ap (λ (r : List ℕ). x ∷ r) (one_fewer s t k v (omega arith) (omega arith) e)

-- ---- the numbers of a state, with two before them
abbrev pub later : List ℕ → ℕ → ℕ → List ℕ
later s a b = a ∷ b ∷ (take 62 s ++ drop 64 s)

module _ (s : List ℕ) (a b : ℕ) (h : 65 ≤ length s) where
  front : length (take 62 s) ≡ 62
  front = length-take-le 62 s (omega arith)

  pub later_length : length (later s a b) ≡ length s
  later_length = omega (arith, length-append (take 62 s) (drop 64 s), front, length-drop 64 s)

  pub none_replaced : s ≡ replaced s (later s a b) 64
  none_replaced = sym (rw (drop_at (take 62 s) (drop 64 s) 62 front) (take-append-drop 64 s))

  moved : (j : ℕ) → j < 62 → get_or (take 62 s ++ drop 64 s) j 0 ≡ get_or s j 0
  moved j p = get_or-append (take 62 s) (drop 64 s) 0 j (omega (arith, front)) ∙ get_or-take 62 s j 0 p

  -- number k is the one two places before it
  pub two_before : (k : ℕ) → 2 ≤ k → k < 64 → get_or (replaced s (later s a b) (suc k)) (k - 2) 0 ≡ get_or (later s a b) k 0
  two_before k p q =
      let n = length-take-le (suc k) s (omega arith) in
      let e : k ≡ suc (suc (k - 2)) = omega arith in
      get_or-append (take (suc k) s) (drop (suc k) (later s a b)) 0 (k - 2) (omega (arith, n))
      ∙ get_or-take (suc k) s (k - 2) 0 (omega arith)
      ∙ sym (ap (λ (m : ℕ). get_or (later s a b) m 0) e ∙ moved (k - 2) (omega arith))

  -- and how many are held
  pub count_put : (n : ℕ) → set (later s a b) 64 n ≡ a ∷ b ∷ (take 62 s ++ (n ∷ drop 65 s))
  count_put n =
      rw (drop-cons s 64 0 (omega arith)) (ap (λ (l : List ℕ). a ∷ b ∷ l) (set_at (take 62 s) (get_or s 64 0) (drop 65 s) n 62 front))

pub first_two : (s : List ℕ) (a b : ℕ) → 2 ≤ length s → set (set (replaced s (later s a b) 2) 0 a) 1 b ≡ later s a b
first_two [] a b h = absurd (omega arith)
first_two (x ∷ []) a b h = absurd (omega arith)
first_two (x ∷ y ∷ s) a b h = refl
