-- The elements of a list, and what an insertion into a set does to them.
use mathlib.Core.Path.{◌≡◌, refl, ap}
use mathlib.Core.Logic.{◌⊎◌, inl, inr, ⊎_elim}
use mathlib.Core.Bool.{Bool, true, false, cond}
use mathlib.Core.List.{List, [], ◌∷◌, ◌++◌}
use Prim.Native.Nat.{ℕ, zero, suc, ◌+◌, ◌≤◌, ◌<◌, zero-le, suc-le-suc}
use native.Mathlib.Nat.{le_refl, le_of_suc-le-suc, not-suc-le-zero, suc_inj}
use native.Mathlib.Omega.{arith}
use lib.Dec.{eqb, ltb}
use lib.ListN.{length, get_or}
use borrow.Author.Tests.{eqb-true, eqb-false, eq-eqb, ne_eqb, ltb-true, ltb-false}
use Rattle.counting.proofs.Cases.{clash}
use Rattle.joining_rule.specs.Sets.{In, member, insert}
use Rattle.joining_rule.proofs.Rising.{Above, Rising}

pub either : (b : Bool) → cond b true true ≡ true
either true = refl
either false = refl

pub not_nil : (x : ℕ) {P : Type 0} → In x [] → P
unfolding member
not_nil x e = clash (cc)

pub in_cons : (x y : ℕ) (ys : List ℕ) → In x (y ∷ ys) → (y ≡ x) ⊎ In x ys
unfolding member
in_cons x y ys e = go (eqb y x) refl e
  where
    go : (b : Bool) → eqb y x ≡ b → cond b true (member x ys) ≡ true → (y ≡ x) ⊎ (member x ys ≡ true)
    go true f e = inl (eqb-true y x f)
    go false f e = inr e

pub in_here : (x y : ℕ) (ys : List ℕ) → y ≡ x → In x (y ∷ ys)
unfolding member
in_here x y ys e = rw (eq-eqb y x e)

pub in_there : (x y : ℕ) (ys : List ℕ) → In x ys → In x (y ∷ ys)
unfolding member
in_there x y ys e = rw e (either (eqb y x))

-- ---- the elements of one list and another

pub in_append : (x : ℕ) (l m : List ℕ) → In x (l ++ m) → In x l ⊎ In x m
in_append x [] m e = inr e
in_append x (y ∷ ys) m e = ⊎_elim (λ q. inl (in_here x y ys q)) (λ w. ⊎_elim (λ q. inl (in_there x y ys q)) (λ q. inr q) (in_append x ys m w)) (in_cons x y (ys ++ m) e)

pub append_in : (x : ℕ) (l m : List ℕ) → In x m → In x (l ++ m)
append_in x [] m e = e
append_in x (y ∷ ys) m e = in_there x y (ys ++ m) (append_in x ys m e)

pub append_keeps : (x : ℕ) (l m : List ℕ) → In x l → In x (l ++ m)
append_keeps x [] m e = not_nil x e
append_keeps x (y ∷ ys) m e = ⊎_elim (λ q. in_here x y (ys ++ m) q) (λ w. in_there x y (ys ++ m) (append_keeps x ys m w)) (in_cons x y ys e)

-- ---- a list with one more element

pub in_snoc : (y : ℕ) (l : List ℕ) (k : ℕ) → In y (l ++ (k ∷ [])) → (k ≡ y) ⊎ In y l
in_snoc y l k m = ⊎_elim (λ w. inr w) (λ w. ⊎_elim (λ e. inl e) (λ v. not_nil y v) (in_cons y k [] w)) (in_append y l (k ∷ []) m)

pub snoc_keeps : (y : ℕ) (l : List ℕ) (k : ℕ) → In y l → In y (l ++ (k ∷ []))
snoc_keeps y l k m = append_keeps y l (k ∷ []) m

pub snoc_in : (l : List ℕ) (k : ℕ) → In k (l ++ (k ∷ []))
snoc_in l k = append_in k l (k ∷ []) (in_here k k [] refl)

-- ---- an insertion adds the one number, and nothing else

pub in_insert : (x k : ℕ) (S : List ℕ) → In x (insert k S) → (k ≡ x) ⊎ In x S
unfolding insert
in_insert x k [] e = in_cons x k [] e
in_insert x k (y ∷ ys) e = go (in_insert x k ys) (ltb y k) (eqb y k) e
  where
    go : (In x (insert k ys) → (k ≡ x) ⊎ In x ys) → (b d : Bool) → In x (cond b (y ∷ insert k ys) (cond d (y ∷ ys) (k ∷ y ∷ ys))) → (k ≡ x) ⊎ In x (y ∷ ys)
    go h true d e = ⊎_elim (λ q. inr (in_here x y ys q)) (λ m. ⊎_elim (λ q. inl q) (λ n. inr (in_there x y ys n)) (h m)) (in_cons x y (insert k ys) e)
    go h false true e = inr e
    go h false false e = in_cons x k (y ∷ ys) e

pub insert_in : (k : ℕ) (S : List ℕ) → In k (insert k S)
unfolding insert
insert_in k [] = in_here k k [] refl
insert_in k (y ∷ ys) = go (insert_in k ys) (ltb y k) (eqb y k) refl
  where
    go : In k (insert k ys) → (b d : Bool) → eqb y k ≡ d → In k (cond b (y ∷ insert k ys) (cond d (y ∷ ys) (k ∷ y ∷ ys)))
    go h true d f = in_there k y (insert k ys) h
    go h false true f = in_here k y ys (eqb-true y k f)
    go h false false f = in_here k k (y ∷ ys) refl

pub insert_keeps : (x k : ℕ) (S : List ℕ) → In x S → In x (insert k S)
unfolding insert
insert_keeps x k [] e = not_nil x e
insert_keeps x k (y ∷ ys) e = go (insert_keeps x k ys) (ltb y k) (eqb y k)
  where
    go : (In x ys → In x (insert k ys)) → (b d : Bool) → In x (cond b (y ∷ insert k ys) (cond d (y ∷ ys) (k ∷ y ∷ ys)))
    go h true d = ⊎_elim (λ q. in_here x y (insert k ys) q) (λ m. in_there x y (insert k ys) (h m)) (in_cons x y ys e)
    go h false true = e
    go h false false = in_there x k (y ∷ ys) e

-- ---- where an element stands

pub member_at : (k : ℕ) (l : List ℕ) (i : ℕ) → i < length l → get_or l i 0 ≡ k → member k l ≡ true
unfolding member
member_at k [] i h e = absurd (not-suc-le-zero h)
member_at k (x ∷ xs) zero h e = rw (eq-eqb x k e)
member_at k (x ∷ xs) (suc i) h e = rw (member_at k xs i (le_of_suc-le-suc h) e) (either (eqb x k))

-- ---- order

pub above_trans : (x y : ℕ) (l : List ℕ) → x < y → Above y l → Above x l
above_trans x y [] h a = tt
above_trans x y (z ∷ zs) h a = (omega (arith, a.0), above_trans x y zs h a.1)

pub above_insert : (x k : ℕ) (l : List ℕ) → x < k → Above x l → Above x (insert k l)
unfolding insert
above_insert x k [] h a = (h, tt)
above_insert x k (y ∷ ys) h a = go (above_insert x k ys h a.1) (ltb y k) (eqb y k)
  where
    go : Above x (insert k ys) → (b d : Bool) → Above x (cond b (y ∷ insert k ys) (cond d (y ∷ ys) (k ∷ y ∷ ys)))
    go r true d = (a.0, r)
    go r false true = a
    go r false false = (h, a)

pub insert_rising : (k : ℕ) (l : List ℕ) → Rising l → Rising (insert k l)
unfolding insert
insert_rising k [] s = (tt, tt)
insert_rising k (x ∷ xs) s = go (insert_rising k xs s.1) (ltb x k) refl (eqb x k) refl
  where
    go : Rising (insert k xs) → (b : Bool) → ltb x k ≡ b → (d : Bool) → eqb x k ≡ d → Rising (cond b (x ∷ insert k xs) (cond d (x ∷ xs) (k ∷ x ∷ xs)))
    go r true e d f = (above_insert x k xs (ltb-true x k e) s.0, r)
    go r false e true f = s
    go r false e false f =
        let n : x ≡ k → ⊥ = eqb-false x k f in
        let h : k < x = omega (arith, ltb-false x k e) in
        ((h, above_trans k x xs h s.0), s)

beyond : (k x : ℕ) (l : List ℕ) → k ≤ x → Above x l → member k l ≡ false
unfolding member
beyond k x [] h a = refl
beyond k x (y ∷ ys) h a = let n : y ≡ k → ⊥ = λ e. omega (arith, a.0) in rw (ne_eqb y k n) (beyond k x ys h a.1)

pub above_in : (x k : ℕ) (ks : List ℕ) → Above x ks → In k ks → x < k
above_in x k [] a m = not_nil k m
above_in x k (y ∷ ks) a m = ⊎_elim (λ e. rw (← e) a.0) (λ i. above_in x k ks a.1 i) (in_cons k y ks m)

-- ---- an insertion adds one number or nothing

pub insert_member : (k : ℕ) (l : List ℕ) → Rising l → member k l ≡ true → insert k l ≡ l
unfolding insert member
insert_member k [] s m = clash (cc)
insert_member k (x ∷ xs) s m = go (insert_member k xs s.1) (ltb x k) refl (eqb x k) refl m
  where
    go : (member k xs ≡ true → insert k xs ≡ xs) → (b : Bool) → ltb x k ≡ b → (d : Bool) → eqb x k ≡ d → cond d true (member k xs) ≡ true
        → cond b (x ∷ insert k xs) (cond d (x ∷ xs) (k ∷ x ∷ xs)) ≡ x ∷ xs
    go ih true e true f m = absurd (let h = eqb-true x k f in omega (arith, ltb-true x k e))
    go ih true e false f m = ap (λ (r : List ℕ). x ∷ r) (ih m)
    go ih false e true f m = refl
    go ih false e false f m = let q = beyond k x xs (ltb-false x k e) s.0 in clash (cc)

pub length_insert_new : (k : ℕ) (l : List ℕ) → member k l ≡ false → length (insert k l) ≡ length l + 1
unfolding insert member
length_insert_new k [] m = refl
length_insert_new k (x ∷ xs) m = go (length_insert_new k xs) (ltb x k) (eqb x k) m
  where
    go : (member k xs ≡ false → length (insert k xs) ≡ length xs + 1) → (b d : Bool) → cond d true (member k xs) ≡ false → length (cond b (x ∷ insert k xs) (cond d (x ∷ xs) (k ∷ x ∷ xs))) ≡ length (x ∷ xs) + 1
    go h b true m = clash (cc)
    go h true false m = omega (arith, h m)
    go h false false m = omega arith

pub insert_grows : (k : ℕ) (l : List ℕ) → length l ≤ length (insert k l)
unfolding insert
insert_grows k [] = zero-le
insert_grows k (x ∷ xs) = go (insert_grows k xs) (ltb x k) (eqb x k)
  where
    go : length xs ≤ length (insert k xs) → (b d : Bool) → length (x ∷ xs) ≤ length (cond b (x ∷ insert k xs) (cond d (x ∷ xs) (k ∷ x ∷ xs)))
    go h true d = suc-le-suc h
    go h false true = le_refl (suc (length xs))
    go h false false = omega arith

pub insert_same : (k : ℕ) (l : List ℕ) → length (insert k l) ≡ length l → insert k l ≡ l
unfolding insert
insert_same k [] e = absurd (omega arith)
insert_same k (x ∷ xs) e = go (insert_same k xs) (ltb x k) (eqb x k) e
  where
    go : (length (insert k xs) ≡ length xs → insert k xs ≡ xs) → (b d : Bool) → length (cond b (x ∷ insert k xs) (cond d (x ∷ xs) (k ∷ x ∷ xs))) ≡ length (x ∷ xs)
        → cond b (x ∷ insert k xs) (cond d (x ∷ xs) (k ∷ x ∷ xs)) ≡ x ∷ xs
    go h true d e = ap (λ (r : List ℕ). x ∷ r) (h (suc_inj e))
    go h false true e = refl
    go h false false e = absurd (omega arith)

pub insert_small : (k : ℕ) (l : List ℕ) → length (insert k l) ≤ suc (length l)
unfolding insert
insert_small k [] = le_refl 1
insert_small k (x ∷ xs) = go (insert_small k xs) (ltb x k) (eqb x k)
  where
    go : length (insert k xs) ≤ suc (length xs) → (b d : Bool) → length (cond b (x ∷ insert k xs) (cond d (x ∷ xs) (k ∷ x ∷ xs))) ≤ suc (length (x ∷ xs))
    go h true d = suc-le-suc h
    go h false true = omega arith
    go h false false = omega arith
