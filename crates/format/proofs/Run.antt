-- Laws of a stream's reading, for every kind of stream.
use mathlib.Core.Path.{◌≡◌, refl, sym, subst, ◌∙◌}
use mathlib.Core.List.{List, [], ◌∷◌}
use mathlib.Core.Bool.{Bool, true, false, cond}
use Prim.Native.Nat.{ℕ, zero, suc, ◌+◌, ◌-◌, ◌≤◌, ◌<◌}
use native.Mathlib.Omega.{arith}
use lib.ListN.{length, get_or}
use lib.Dec.{eqb, leb, ltb}
use borrow.Author.Tests.{lt-ltb, le-ltb, le-leb, lt-leb, eq-eqb, ne_eqb, ltb-true, ltb-false, leb-false, eqb-true, eqb-false}
use Rattle.format.specs.Commands.{Outcome, refused, given, first_refusal, Language, run, read_whole, commands_from, commands}

-- ---- a command that no check refuses passes each of them
pub record Passes (p w a r f : Bool) : Type 0 where
  pub placed : p ≡ true
  pub whole : w ≡ true
  pub allowed : a ≡ true
  pub repeated : r ≡ false
  pub full : f ≡ false

pub passes : (p w a r f : Bool) → first_refusal p w a r f ≡ 0 → Passes p w a r f
unfolding first_refusal
passes true true true false false h = record { placed = refl; whole = refl; allowed = refl; repeated = refl; full = refl }
passes true true true false true h = absurd (omega arith)
passes true true true true f h = absurd (omega arith)
passes true true false r f h = absurd (omega arith)
passes true false a r f h = absurd (omega arith)
passes false w a r f h = absurd (omega arith)

-- ---- what the loop of a reader keeps: from the command at hand on, the definition gives what it gives for the whole stream
module _ {A : Type 0} (l : Language A) (s : List ℕ) (o : Outcome A) where
  pub record Left (a : A) (at : ℕ) : Type 0 where
    pub left : ℕ
    pub enough : length s < at + left
    pub same : run l left a s at ≡ o

module _ {A : Type 0} (l : Language A) (s : List ℕ) where
  pub left_start : (a : A) → Left l s (read_whole l a s) a 0
  unfolding read_whole
  left_start a = record { left = length s + 1; enough = omega arith; same = refl }

  module _ (o : Outcome A) (a : A) (at : ℕ) (k : Left l s o a at) where
    pub left_end : length s ≤ at → refused 2 (length s) ≡ o
    unfolding run
    left_end h = sym (go k.left) ∙ k.same
      where
        go : (f : ℕ) → run l f a s at ≡ refused 2 (length s)
        go zero = refl
        go (suc f) = rw (le-leb (length s) at h)

    module _ (h : at < length s) where
      pub left_refused : 0 < l.verdict a s at → refused (l.verdict a s at) at ≡ o
      unfolding run
      left_refused v = sym (go k.left k.enough) ∙ k.same
        where
          go : (f : ℕ) → length s < at + f → run l f a s at ≡ refused (l.verdict a s at) at
          go zero q = absurd (omega arith)
          go (suc f) q = rw (lt-leb (length s) at h, lt-ltb 0 (l.verdict a s at) v)

      module _ (v : l.verdict a s at ≡ 0) where
        pub left_extra : get_or s at 0 ≡ l.ending → at + 1 < length s → refused 2 (at + 1) ≡ o
        unfolding run
        left_extra b m = sym (go k.left k.enough) ∙ k.same
          where
            go : (f : ℕ) → length s < at + f → run l f a s at ≡ refused 2 (at + 1)
            go zero q = absurd (omega arith)
            go (suc f) q = rw (lt-leb (length s) at h, v, eq-eqb (get_or s at 0) l.ending b, lt-ltb (at + 1) (length s) m)

        pub left_given : get_or s at 0 ≡ l.ending → length s ≤ at + 1 → given a ≡ o
        unfolding run
        left_given b m = sym (go k.left k.enough) ∙ k.same
          where
            go : (f : ℕ) → length s < at + f → run l f a s at ≡ given a
            go zero q = absurd (omega arith)
            go (suc f) q = rw (lt-leb (length s) at h, v, eq-eqb (get_or s at 0) l.ending b, le-ltb (at + 1) (length s) m)

        pub left_next : (get_or s at 0 ≡ l.ending → ⊥) → 1 ≤ l.size (get_or s at 0) → Left l s o (l.next a s at) (at + l.size (get_or s at 0))
        unfolding run
        left_next b z =
            record { left = k.left - 1; enough = let e = k.enough in omega arith; same = sym (go k.left k.enough) ∙ k.same }
          where
            go : (f : ℕ) → length s < at + f → run l f a s at ≡ run l (f - 1) (l.next a s at) s (at + l.size (get_or s at 0))
            go zero q = absurd (omega arith)
            go (suc f) q =
                let e : suc f - 1 ≡ f = omega arith in
                rw (lt-leb (length s) at h, v, ne_eqb (get_or s at 0) l.ending b, e)

-- ---- induction over the commands of a stream that is read whole: R relates what was read before the command at an offset, the
-- offset, the commands from there on, and what the stream gives
never : {A : Type 0} {X : Type 0} (n m : ℕ) (b : A) → ◌≡◌ {A = Outcome A} (refused n m) (given b) → X
never n m b h = absurd (let z : ◌≡◌ {A = ℕ} 0 1 = cc in omega arith)

-- the command at an offset is there, and no check refuses it
pub record Taken {A : Type 0} (l : Language A) (s : List ℕ) (a : A) (at : ℕ) : Type 0 where
  pub inside : at < length s
  pub passed : l.verdict a s at ≡ 0

module _ {A : Type 0} (l : Language A) (s : List ℕ) (R : A → ℕ → List ℕ → A → Type 0)
    (ends : (a : A) (at : ℕ) → Taken l s a at → get_or s at 0 ≡ l.ending → R a at (at ∷ []) a)
    (more : (a b : A) (at : ℕ) (cs : List ℕ) → Taken l s a at → (get_or s at 0 ≡ l.ending → ⊥) → R (l.next a s at) (at + l.size (get_or s at 0)) cs b → R a at (at ∷ cs) b) where
  pub run_induction : (f : ℕ) (a b : A) (at : ℕ) → run l f a s at ≡ given b → R a at (commands_from l f s at) b
  unfolding run commands_from
  run_induction zero a b at h = never _ _ b h
  run_induction (suc f) a b at h =
      go (run_induction f (l.next a s at) b (at + l.size (get_or s at 0))) (leb (length s) at) refl (ltb 0 (l.verdict a s at)) refl (eqb (get_or s at 0) l.ending) refl (ltb (at + 1) (length s)) h
    where
      go : (run l f (l.next a s at) s (at + l.size (get_or s at 0)) ≡ given b → R (l.next a s at) (at + l.size (get_or s at 0)) (commands_from l f s (at + l.size (get_or s at 0))) b)
          → (t : Bool) → leb (length s) at ≡ t → (u : Bool) → ltb 0 (l.verdict a s at) ≡ u → (v : Bool) → eqb (get_or s at 0) l.ending ≡ v → (w : Bool)
          → cond t (refused 2 (length s)) (cond u (refused (l.verdict a s at) at) (cond v (cond w (refused 2 (at + 1)) (given a)) (run l f (l.next a s at) s (at + l.size (get_or s at 0))))) ≡ given b
          → R a at (cond t [] (cond v (at ∷ []) (at ∷ commands_from l f s (at + l.size (get_or s at 0))))) b
      go i true p u q v r w h = never _ _ b h
      go i false p true q v r w h = never _ _ b h
      go i false p false q true r true h = never _ _ b h
      go i false p false q true r false h =
          let e : a ≡ b = cc in
          subst (λ (x : A). R a at (at ∷ []) x) e (ends a at (record { inside = leb-false _ _ p; passed = let k = ltb-false 0 (l.verdict a s at) q in omega arith }) (eqb-true _ _ r))
      go i false p false q false r w h =
          more a b at _ (record { inside = leb-false _ _ p; passed = let k = ltb-false 0 (l.verdict a s at) q in omega arith }) (eqb-false _ _ r) (i h)

  pub read_induction : (a b : A) → read_whole l a s ≡ given b → R a 0 (commands l s) b
  unfolding read_whole commands
  read_induction a b h = run_induction (length s + 1) a b 0 h

-- ---- the number of a refusal: one of the checks', or 2
pub first_most : (p w a r f : Bool) → first_refusal p w a r f ≤ 6
unfolding first_refusal
first_most true true true false false = omega arith
first_most true true true false true = omega arith
first_most true true true true f = omega arith
first_most true true false r f = omega arith
first_most true false a r f = omega arith
first_most false w a r f = omega arith

module _ {A : Type 0} (l : Language A) (s : List ℕ) (P : ℕ → Type 0) (two : P 2) (checks : (a : A) (at : ℕ) → 0 < l.verdict a s at → P (l.verdict a s at)) where
  run_number : (f : ℕ) (a : A) (at n place : ℕ) → run l f a s at ≡ refused n place → P n
  unfolding run
  run_number zero a at n place h = let e : 2 ≡ n = cc in subst P e two
  run_number (suc f) a at n place h =
      go (run_number f (l.next a s at) (at + l.size (get_or s at 0)) n place) (leb (length s) at) (ltb 0 (l.verdict a s at)) refl (eqb (get_or s at 0) l.ending) (ltb (at + 1) (length s)) h
    where
      go : (run l f (l.next a s at) s (at + l.size (get_or s at 0)) ≡ refused n place → P n)
          → (t u : Bool) → ltb 0 (l.verdict a s at) ≡ u → (v w : Bool)
          → cond t (refused 2 (length s)) (cond u (refused (l.verdict a s at) at) (cond v (cond w (refused 2 (at + 1)) (given a)) (run l f (l.next a s at) s (at + l.size (get_or s at 0))))) ≡ refused n place
          → P n
      go i true u q v w h = let e : 2 ≡ n = cc in subst P e two
      go i false true q v w h = let e : l.verdict a s at ≡ n = cc in subst P e (checks a at (ltb-true 0 (l.verdict a s at) q))
      go i false false q true true h = let e : 2 ≡ n = cc in subst P e two
      go i false false q true false h = never n place a (sym h)
      go i false false q false w h = i h

  pub read_number : (a : A) (n place : ℕ) → read_whole l a s ≡ refused n place → P n
  unfolding read_whole
  read_number a n place h = run_number (length s + 1) a 0 n place h

module _ {A : Type 0} (l : Language A) (s : List ℕ) where
  pub read_positive : (a : A) (n place : ℕ) → read_whole l a s ≡ refused n place → 0 < n
  read_positive = read_number l s (λ n. 0 < n) (omega arith) (λ a at h. h)

  pub read_most : ((a : A) (at : ℕ) → l.verdict a s at ≤ 6) → (a : A) (n place : ℕ) → read_whole l a s ≡ refused n place → n ≤ 6
  read_most h = read_number l s (λ n. n ≤ 6) (omega arith) (λ a at _. h a at)
