-- Laws of a list in an array as a loop goes through it, and of what an array leads through.
use mathlib.Core.Path.{◌≡◌, refl, sym, ap, ◌∙◌}
use mathlib.Core.Logic.{⊎_elim}
use mathlib.Core.Bool.{Bool, true, false, cond}
use mathlib.Core.List.{List, [], ◌∷◌, ◌++◌}
use Prim.Native.Nat.{ℕ, zero, suc, ◌+◌, ◌≤◌, ◌<◌}
use native.Mathlib.Omega.{arith}
use lib.Dec.{ltb}
use lib.ListN.{length, get_or, set}
use lib.Seq.{get_or-set_same, get_or-set_other}
use borrow.Author.Tests.{lt-ltb, le-ltb}
use Rattle.counting.proofs.Cases.{lt_or_le}
use Rattle.joining_rule.specs.Sets.{In, member, insert, insert_all}
use Rattle.joining_rule.proofs.Rising.{Above, Rising}
use Rattle.joining_rule.proofs.Elements.{not_nil, in_here, in_there, in_insert, length_insert_new}
use Rattle.joining_rule.proofs.Insertions.{insert_all_rising, insert_all_from}
use Rattle.round_laws.specs.Lists.{walk, list_from, Ends, Once, last_of}

module _ (follow : List ℕ) where
  -- a number from 64 on ends the list
  walk_none : (m x : ℕ) → 64 ≤ x → walk m follow x ≡ []
  unfolding walk
  walk_none zero x h = refl
  walk_none (suc m) x h = rw (le-ltb x 64 h)

  walk_next : (m x : ℕ) → x < 64 → walk (suc m) follow x ≡ x ∷ walk m follow (get_or follow x 0)
  unfolding walk
  walk_next m x h = rw (lt-ltb x 64 h)

  -- a list that has ended does not go on
  walk_ended : (m x : ℕ) → length (walk m follow x) < m → walk (suc m) follow x ≡ walk m follow x
  walk_ended zero x h = absurd (omega arith)
  walk_ended (suc m) x h =
      ⊎_elim
      (λ l.
      let p = walk_next m x l in
      rw (walk_next (suc m) x l, p) (ap (λ (t : List ℕ). x ∷ t) (walk_ended m (get_or follow x 0) (omega (arith, ap length p)))))
      (λ l. walk_none (suc (suc m)) x l ∙ sym (walk_none (suc m) x l))
      (lt_or_le x 64)

  pub list_none : (x : ℕ) → 64 ≤ x → list_from follow x ≡ []
  list_none x h = walk_none 65 x h

  module _ (x : ℕ) (e : Ends follow x) (h : x < 64) where
    shorter : length (walk 64 follow (get_or follow x 0)) < 64
    shorter = omega (arith, e.few, ap length (walk_next 64 x h))

    -- an index, and the list from the next one on
    pub list_next : list_from follow x ≡ x ∷ list_from follow (get_or follow x 0)
    list_next = rw (walk_ended 64 (get_or follow x 0) shorter) (walk_next 64 x h)

    pub next_ends : Ends follow (get_or follow x 0)
    next_ends = record { few = rw (walk_ended 64 (get_or follow x 0) shorter) (omega (arith, shorter)) }

    -- the loop's measure
    pub list_less : length (list_from follow (get_or follow x 0)) < length (list_from follow x)
    list_less = omega (arith, ap length list_next)

  -- a place that is not in a list may change
  walk_set : (z v m x : ℕ) → (In z (walk m follow x) → ⊥) → walk m (set follow z v) x ≡ walk m follow x
  unfolding walk
  walk_set z v zero x d = refl
  walk_set z v (suc m) x d =
      ⊎_elim
      (λ l.
      let e : (r : List ℕ) → cond (ltb x 64) (x ∷ r) [] ≡ x ∷ r = λ r. rw (lt-ltb x 64 l) in
      let o : get_or (set follow z v) x 0 ≡ get_or follow x 0 = get_or-set_other follow z x v 0 (λ q. d (rw (e _) (in_here z x _ q))) in
      rw o (ap (λ (t : List ℕ). cond (ltb x 64) (x ∷ t) []) (walk_set z v m (get_or follow x 0) (λ w. d (rw (e _) (in_there z x _ w))))))
      (λ l. rw (le-ltb x 64 l))
      (lt_or_le x 64)

  pub list_set : (z v x : ℕ) → (In z (list_from follow x) → ⊥) → list_from (set follow z v) x ≡ list_from follow x
  list_set z v x d = walk_set z v 65 x d

-- ---- from x on, follow leads through the list l to e
abbrev pub Leads : List ℕ → ℕ → List ℕ → ℕ → Type 0
Leads follow x [] e = x ≡ e
Leads follow x (y ∷ ys) e = (x ≡ y) × Leads follow (get_or follow y 0) ys e

pub leads_set : (follow : List ℕ) (z v : ℕ) (x : ℕ) (l : List ℕ) (e : ℕ) → (In z l → ⊥) → Leads follow x l e → Leads (set follow z v) x l e
leads_set follow z v x [] e d h = h
leads_set follow z v x (y ∷ ys) e d h =
    let o : get_or (set follow z v) y 0 ≡ get_or follow y 0 = get_or-set_other follow z y v 0 (λ q. d (in_here z y ys q)) in
    (h.0, rw o (leads_set follow z v (get_or follow y 0) ys e (λ m. d (in_there z y ys m)) h.1))

pub leads_append : (follow : List ℕ) (x : ℕ) (l : List ℕ) (m : ℕ) (l' : List ℕ) (e : ℕ) → Leads follow x l m → Leads follow m l' e → Leads follow x (l ++ l') e
leads_append follow x [] m l' e h k = rw h k
leads_append follow x (y ∷ ys) m l' e h k = (h.0, leads_append follow (get_or follow y 0) ys m l' e h.1 k)

pub last_in : (y : ℕ) (ys : List ℕ) → In (last_of y ys) (y ∷ ys)
last_in y [] = in_here y y [] refl
last_in y (z ∷ zs) = in_there (last_of z zs) y (z ∷ zs) (last_in z zs)

-- the list of y and ys, whose last index now leads to v
pub leads_last : (follow : List ℕ) (v x y : ℕ) (ys : List ℕ) (e : ℕ) → last_of y ys < length follow → Once (y ∷ ys) → Leads follow x (y ∷ ys) e → Leads (set follow (last_of y ys) v) x (y ∷ ys) v
leads_last follow v x y [] e h o k = (k.0, get_or-set_same follow y v 0 h)
leads_last follow v x y (z ∷ zs) e h o k =
    let q : get_or (set follow (last_of z zs) v) y 0 ≡ get_or follow y 0 = get_or-set_other follow (last_of z zs) y v 0 (λ q. o.0 (rw q (last_in z zs))) in
    (k.0, rw q (leads_last follow v (get_or follow y 0) z zs e h o.1 k.1))

-- a list that ends leads to its end
pub record Ended (follow : List ℕ) (x : ℕ) (l : List ℕ) : Type 0 where
  pub end : ℕ
  pub beyond : 64 ≤ end
  pub leads : Leads follow x l end

module _ (follow : List ℕ) where
  walk_leads : (m x : ℕ) → length (walk m follow x) < m → Ended follow x (walk m follow x)
  walk_leads zero x h = absurd (omega arith)
  walk_leads (suc m) x h =
      ⊎_elim
      (λ l.
      let p = walk_next follow m x l in
      let w = walk_leads m (get_or follow x 0) (omega (arith, ap length p)) in
      rw p (record { end = w.end; beyond = w.beyond; leads = (refl, w.leads) }))
      (λ l. rw (walk_none follow (suc m) x l) (record { end = x; beyond = l; leads = refl }))
      (lt_or_le x 64)

  pub list_leads : (x : ℕ) → Ends follow x → Ended follow x (list_from follow x)
  list_leads x e = walk_leads 65 x (omega (arith, e.few))

  leads_walk : (m x : ℕ) (l : List ℕ) (e : ℕ) → length l < m → 64 ≤ e → ((y : ℕ) → In y l → y < 64) → Leads follow x l e → walk m follow x ≡ l
  leads_walk zero x l e f h low k = absurd (omega arith)
  leads_walk (suc m) x [] e f h low k = walk_none follow (suc m) x (omega arith)
  leads_walk (suc m) x (y ∷ ys) e f h low k =
      let q = k.0 in
      walk_next follow m x (omega (arith, low y (in_here y y ys refl)))
      ∙ rw q (ap (λ (t : List ℕ). y ∷ t) (leads_walk m (get_or follow y 0) ys e (omega arith) h (λ z n. low z (in_there z y ys n)) k.1))

  pub leads_list : (x : ℕ) (l : List ℕ) → length l ≤ 64 → ((y : ℕ) → In y l → y < 64) → Ended follow x l → list_from follow x ≡ l
  leads_list x l f low k = leads_walk 65 x l k.end (omega arith) k.beyond low k.leads

-- ---- different numbers below n are at most n
between_few : (n x : ℕ) (l : List ℕ) → ((y : ℕ) → In y l → y < n) → x < n → Above x l → Rising l → length l + suc x ≤ n
between_few n x [] low h a r = omega arith
between_few n x (y ∷ ys) low h a r =
    omega (arith, a.0, between_few n y ys (λ z m. low z (in_there z y ys m)) (low y (in_here y y ys refl)) r.0 r.1)

rising_few : (n : ℕ) (l : List ℕ) → ((y : ℕ) → In y l → y < n) → Rising l → length l ≤ n
rising_few n [] low r = omega arith
rising_few n (y ∷ ys) low r = omega (arith, between_few n y ys (λ z m. low z (in_there z y ys m)) (low y (in_here y y ys refl)) r.0 r.1)

not_in : (x : ℕ) (S : List ℕ) → (In x S → ⊥) → member x S ≡ false
not_in x S d = go (member x S) d
  where
    go : (b : Bool) → (b ≡ true → ⊥) → b ≡ false
    go true d = absurd (d refl)
    go false d = refl

once_all : (l S : List ℕ) → Once l → ((x : ℕ) → In x l → In x S → ⊥) → length (insert_all l S) ≡ length l + length S
unfolding insert_all
once_all [] S o d = omega arith
once_all (x ∷ xs) S o d =
    let new : member x S ≡ false = not_in x S (d x (in_here x x xs refl)) in
    once_all xs (insert x S) o.1 (λ y m n. ⊎_elim (λ e. o.0 (rw e m)) (λ w. d y (in_there y x xs m) w) (in_insert y x S n))
    ∙ omega (arith, length_insert_new x S new)

pub once_few : (n : ℕ) (l : List ℕ) → Once l → ((x : ℕ) → In x l → x < n) → length l ≤ n
once_few n l o low =
    omega (
      arith,
      once_all l [] o (λ x _ m. not_nil x m),
      rising_few n (insert_all l []) (λ y m. insert_all_from y l [] (low y) (λ w. not_nil y w) m) (insert_all_rising l [] tt),
    )
