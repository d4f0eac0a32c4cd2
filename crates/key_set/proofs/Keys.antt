-- The set of a table's first numbers, and how it grows by one more.
use mathlib.Core.Path.{◌≡◌, refl, sym, ap, ◌∙◌}
use mathlib.Core.Logic.{⊎_elim}
use mathlib.Core.Bool.{Bool, true, false}
use mathlib.Core.List.{List, [], ◌∷◌}
use Prim.Native.Nat.{ℕ, zero, suc, ◌+◌, ◌-◌, ◌≤◌, ◌<◌}
use native.Mathlib.Numerals.{add-one}
use native.Mathlib.Omega.{arith}
use lib.ListN.{length, get_or, take, set, length-set}
use lib.Dec.{ltb}
use borrow.Author.Tests.{lt-ltb, le-ltb}
use lib.Seq.{length-take-le, get_or-take, take-suc, take-suc-set, take-set-le, drop-set-lt}
use Rattle.counting.proofs.Cases.{clash, lt_or_le}
use Rattle.joining_rule.specs.Sets.{In, member, insert, insert_all}
use Rattle.joining_rule.proofs.Rising.{Rising}
use Rattle.key_set.specs.Table.{keys_in, Holds, Finds, Indexed, Grown, Stored}
use Rattle.std.specs.Prelude.{Result, Ok, Err, is_ok}
use Rattle.joining_rule.proofs.Elements.{not_nil, in_cons, member_at, insert_member, length_insert_new, insert_small}
use Rattle.joining_rule.proofs.Insertions.{insert_all_more, insert_all_rising, insert_all_in, insert_all_from}

pub inside : {t : List ℕ} {n : ℕ} → Holds t n → n ≤ length t
inside h = omega (arith, h.few, h.room)

-- ---- the first n numbers and their set have the same elements
module _ (n : ℕ) (t : List ℕ) where
  pub keys_rising : Rising (keys_in n t)
  unfolding keys_in
  keys_rising = insert_all_rising (take n t) [] tt

  pub keys_in_lem : (x : ℕ) → In x (take n t) → In x (keys_in n t)
  unfolding keys_in
  keys_in_lem x m = insert_all_in x (take n t) [] m

  pub keys_from : (x : ℕ) → In x (keys_in n t) → In x (take n t)
  unfolding keys_in
  keys_from x m = insert_all_from x (take n t) [] (λ w. w) (λ w. not_nil x w) m

  pub keys_member : (x : ℕ) → member x (keys_in n t) ≡ member x (take n t)
  keys_member x = go (member x (keys_in n t)) refl (member x (take n t)) refl
    where
      go : (b : Bool) → member x (keys_in n t) ≡ b → (d : Bool) → member x (take n t) ≡ d → b ≡ d
      go true p true q = refl
      go true p false q = let m = keys_from x p in clash (cc)
      go false p true q = let m = keys_in_lem x q in clash (cc)
      go false p false q = refl

pub keys_first : (n : ℕ) (t t' : List ℕ) → take n t ≡ take n t' → keys_in n t ≡ keys_in n t'
unfolding keys_in
keys_first n t t' e = ap (λ (l : List ℕ). insert_all l []) e

pub keys_none : (t : List ℕ) → keys_in 0 t ≡ []
unfolding keys_in insert_all
keys_none t = refl

-- one more number
pub keys_next : (n : ℕ) (t : List ℕ) → n < length t → keys_in (n + 1) t ≡ insert (get_or t n 0) (keys_in n t)
unfolding keys_in
keys_next n t h = rw (add-one n, take-suc t n 0 h) (insert_all_more (take n t) [] (get_or t n 0))

pub keys_set : (n : ℕ) (t : List ℕ) (k : ℕ) → n < length t → keys_in (n + 1) (set t n k) ≡ insert k (keys_in n t)
unfolding keys_in
keys_set n t k h = rw (add-one n, take-suc-set t n k h) (insert_all_more (take n t) [] k)

-- ---- no two of the numbers of a set are the same
keys_few : (d n : ℕ) (t : List ℕ) → n + d ≤ length t → length (keys_in (n + d) t) ≤ length (keys_in n t) + d
keys_few zero n t h = let e : n + 0 ≡ n = omega arith in rw e (omega arith)
keys_few (suc d) n t h =
    let e : n + suc d ≡ n + d + 1 = omega arith in
    rw (e, keys_next (n + d) t (omega arith)) (omega (arith, insert_small (get_or t (n + d) 0) (keys_in (n + d) t), keys_few d n t (omega arith)))

module _ {t : List ℕ} {n : ℕ} (h : Holds t n) where
  pub keys_apart : (a b : ℕ) → a < b → b < n → get_or t a 0 ≡ get_or t b 0 → ⊥
  keys_apart a b l u e =
      let i = inside h in
      let m : In (get_or t b 0) (keys_in b t) = keys_in_lem b t (get_or t b 0) (member_at (get_or t b 0) (take b t) a (omega (arith, length-take-le b t (omega arith))) (get_or-take b t a 0 l ∙ e)) in
      let s : keys_in (b + 1) t ≡ keys_in b t = keys_next b t (omega arith) ∙ insert_member (get_or t b 0) (keys_in b t) (keys_rising b t) m in
      let f : n ≡ b + 1 + (n - (b + 1)) = omega arith in
      let z = keys_few b 0 t (omega arith) in
      let w = keys_few (n - (b + 1)) (b + 1) t (omega arith) in
      omega (arith, h.apart, ap length s, ap (λ (m : ℕ). length (keys_in m t)) f, ap (λ (m : ℕ). length (keys_in m t)) (let g : 0 + b ≡ b = omega arith in g), ap length (keys_none t))

-- ---- the places of the numbers, and the elements of their set
in_place : (x : ℕ) (l : List ℕ) {P : Type 0} → ((q : ℕ) → q < length l → get_or l q 0 ≡ x → P) → In x l → P
in_place x [] f m = not_nil x m
in_place x (y ∷ l) f m = ⊎_elim (λ e. f 0 (omega arith) e) (λ w. in_place x l (λ q b e. f (suc q) (omega arith) e) w) (in_cons x y l m)

module _ {t : List ℕ} {n : ℕ} (h : Holds t n) where
  pub keys_at : (x : ℕ) {P : Type 0} → In x (keys_in n t) → ((q : ℕ) → q < n → get_or t q 0 ≡ x → P) → P
  keys_at x m f =
      let l = length-take-le n t (inside h) in
      in_place x (take n t) (λ q b e. let i : q < n = omega arith in f q i (sym (get_or-take n t q 0 i) ∙ e)) (keys_from n t x m)

  pub at_keys : (q : ℕ) → q < n → In (get_or t q 0) (keys_in n t)
  at_keys q b =
      let l = length-take-le n t (inside h) in
      keys_in_lem n t (get_or t q 0) (member_at (get_or t q 0) (take n t) q (omega arith) (get_or-take n t q 0 b))

-- ---- what the place of a key tells
pub found_there : (k n : ℕ) (t : List ℕ) (p : ℕ) → Finds k (take n t) (Ok p) → member k (keys_in n t) ≡ true
found_there k n t p f = keys_member n t k ∙ member_at k (take n t) p f.0 f.1

pub found_nowhere : (k n : ℕ) (t : List ℕ) (steps : ℕ) → Finds k (take n t) (Err steps) → member k (keys_in n t) ≡ false
found_nowhere k n t steps f = keys_member n t k ∙ f.0

pub found_is : (k n : ℕ) (t : List ℕ) (r : Result ℕ ℕ) → Finds k (take n t) r → is_ok r ≡ member k (keys_in n t)
found_is k n t (Ok p) f = sym (found_there k n t p f)
found_is k n t (Err steps) f = sym (found_nowhere k n t steps f)

-- ---- and what it tells of the first keys: a key has one place
module _ {t : List ℕ} {n : ℕ} (h : Holds t n) (m : ℕ) (b : m ≤ n) (k : ℕ) where
  not_first : ((q : ℕ) → q < m → get_or t q 0 ≡ k → ⊥) → false ≡ member k (keys_in m t)
  not_first f = go (member k (keys_in m t)) refl
    where
      go : (d : Bool) → member k (keys_in m t) ≡ d → false ≡ d
      go true e =
          let l = length-take-le m t (omega (arith, inside h)) in
          in_place k (take m t) (λ q c g. absurd (f q (omega arith) (sym (get_or-take m t q 0 (omega arith)) ∙ g))) (keys_from m t k e)
      go false e = refl

  pub before_at : (p : ℕ) → Finds k (take n t) (Ok p) → ltb p m ≡ member k (keys_in m t)
  before_at p f =
      let i = inside h in
      let l = length-take-le n t i in
      let e : get_or t p 0 ≡ k = sym (get_or-take n t p 0 (omega (arith, f.0))) ∙ f.1 in
      ⊎_elim
      (λ u. lt-ltb p m u ∙ sym (keys_in_lem m t k (member_at k (take m t) p (omega (arith, length-take-le m t (omega arith))) (get_or-take m t p 0 u ∙ e))))
      (λ u. le-ltb p m u ∙ not_first (λ q c g. keys_apart h q p (omega arith) (omega (arith, f.0)) (g ∙ sym e)))
      (lt_or_le p m)

  pub before_nowhere : (steps : ℕ) → Finds k (take n t) (Err steps) → false ≡ member k (keys_in m t)
  before_nowhere steps f =
      let l = length-take-le n t (inside h) in
      not_first (λ q c g. let w = member_at k (take n t) q (omega arith) (get_or-take n t q 0 (omega arith) ∙ g) in let z = f.0 in clash (cc))

-- ---- a key put in
module _ {t : List ℕ} {n : ℕ} (h : Holds t n) where
  grown_same : Grown (keys_in n t) t n t
  grown_same = record { count = omega (arith, h.few, h.apart); keys = λ _. refl; long = refl; rest = refl }

  module _ {idx : List ℕ} (x : Indexed idx t n) where
    pub stored_none : Stored n (keys_in n t) t n t idx
    stored_none = record { grown = grown_same; index = λ _. x; first = λ _. refl }

    pub stored_there : (k : ℕ) → member k (keys_in n t) ≡ true → Stored n (insert k (keys_in n t)) t n t idx
    stored_there k m = rw (insert_member k (keys_in n t) (keys_rising n t) m) stored_none

    pub stored_full : (k : ℕ) → member k (keys_in n t) ≡ false → 2047 < n → Stored n (insert k (keys_in n t)) t 2049 t idx
    stored_full k m b =
        let l = length_insert_new k (keys_in n t) m in
        record {
          grown = record { count = omega (arith, h.few, h.apart); keys = λ q. absurd (omega arith); long = refl; rest = refl };
          index = λ q. absurd (omega arith);
          first = λ q. absurd (omega arith);
        }

    pub stored_new : (k : ℕ) → member k (keys_in n t) ≡ false → n ≤ 2047 → (idx' : List ℕ) → Indexed idx' (set t n k) (n + 1) → Stored n (insert k (keys_in n t)) t (n + 1) (set t n k) idx'
    stored_new k m b idx' x' =
        let l = length_insert_new k (keys_in n t) m in
        record {
          grown = record {
            count = omega (arith, h.apart);
            keys = λ _. keys_set n t k (omega (arith, h.room));
            long = length-set t n k;
            rest = drop-set-lt 2048 t n k (omega arith);
          };
          index = λ _. x';
          first = λ _. take-set-le n t n k (omega arith);
        }

-- a table that has grown to hold at most 2,048 keys holds them
pub grown_holds : {S t t' : List ℕ} {r : ℕ} → Grown S t r t' → 2048 ≤ length t → r ≤ 2048 → Holds t' r
grown_holds g h b = record { few = b; room = omega (arith, g.long); apart = omega (arith, ap length (g.keys b), g.count) }
