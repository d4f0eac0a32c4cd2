-- Laws of the support's growth in its table: two growths one after the other, and a loop that grows it.
use mathlib.Core.Path.{◌≡◌, refl, sym, ap, ◌∙◌}
use mathlib.Core.List.{List}
use Prim.Native.Nat.{ℕ, ◌+◌, ◌≤◌, ◌<◌}
use native.Mathlib.Omega.{arith}
use native.Mathlib.Numerals.{add-one}
use lib.ListN.{length, get_or, take, drop, drop_of_length-le}
use lib.Seq.{drop-cons, take-take}
use borrow.Author.Tests.{eq-eqb, ne_eqb}
use Rattle.std.proofs.Common.{Result, Ok, Err, IsErr, IfOk}
use Rattle.std.proofs.lemmas.Result.{IfOk-from_err}
use Rattle.joining_rule.specs.Sets.{insert}
use Rattle.joining_rule.specs.Extend.{add_terms, add_pair}
use Rattle.joining_rule.proofs.Extending.{Extends}
use Rattle.key_set.specs.declared.Full.{Full}
use Rattle.key_set.specs.Table.{keys_in, count_in, Holds, Indexed, Grown, Stored}
use Rattle.key_set.proofs.Keys.{grown_holds}

module _ (S t : List ℕ) (n : ℕ) (t' : List ℕ) (g : Grown S t n t') where
  pub grown_length : n ≤ 2048 → length S ≡ n
  grown_length b = omega (arith, g.count)

-- the answer of a `?` that hands a full support on
pub count_full : (r : Result ℕ Full) → IsErr r → count_in r ≡ 2049
count_full (Ok n) e = cc
count_full (Err f) e = refl

-- ---- a growth after another
pub stored_then : (n : ℕ) (S t : List ℕ) (n' : ℕ) (t' idx' : List ℕ) → n ≤ n' → n' ≤ 2048 → Stored n S t n' t' idx'
    → (S' : List ℕ) (n'' : ℕ) (t'' idx'' : List ℕ) → Stored n' S' t' n'' t'' idx'' → Stored n S' t n'' t'' idx''
stored_then n S t n' t' idx' more b g S' n'' t'' idx'' h = record {
  grown = record { count = h.grown.count; keys = h.grown.keys; long = h.grown.long ∙ g.grown.long; rest = h.grown.rest ∙ g.grown.rest };
  index = h.index;
  first = λ c. sym (take-take n n' t'' more) ∙ ap (take n) (h.first c) ∙ take-take n n' t' more ∙ g.first b;
}

-- ---- a loop: what is left to do is f, and goal is what the set shall be. The first n₀ keys stay
pub record Growing (t₀ : List ℕ) (n₀ : ℕ) (goal : List ℕ) (f : List ℕ → List ℕ) (n : ℕ) (t idx : List ℕ) : Type 0 where
  pub holds : Holds t n
  pub index : Indexed idx t n
  pub long : length t ≡ length t₀
  pub rest : drop 2048 t ≡ drop 2048 t₀
  pub more : n₀ ≤ n
  pub first : take n₀ t ≡ take n₀ t₀
  pub todo : f (keys_in n t) ≡ goal

module _ (t₀ : List ℕ) where
  pub growing_start : (f : List ℕ → List ℕ) (n : ℕ) (idx : List ℕ) → Holds t₀ n → Indexed idx t₀ n → Growing t₀ n (f (keys_in n t₀)) f n t₀ idx
  growing_start f n idx h x = record { holds = h; index = x; long = refl; rest = refl; more = omega arith; first = refl; todo = refl }

  module _ (n₀ : ℕ) (goal : List ℕ) (f : List ℕ → List ℕ) (n : ℕ) (t idx : List ℕ) (h : Growing t₀ n₀ goal f n t idx) where
    pub growing_end : f (keys_in n t) ≡ keys_in n t → Stored n₀ goal t₀ n t idx
    growing_end e =
        let g : goal ≡ keys_in n t = sym h.todo ∙ e in
        record {
          grown = record { count = omega (arith, ap length g, h.holds.apart, h.holds.few); keys = λ _. sym g; long = h.long; rest = h.rest };
          index = λ _. h.index;
          first = λ _. h.first;
        }

    -- the index made anew
    pub growing_anew : (idx' : List ℕ) → Indexed idx' t n → Growing t₀ n₀ goal f n t idx'
    growing_anew idx' x = record { holds = h.holds; index = x; long = h.long; rest = h.rest; more = h.more; first = h.first; todo = h.todo }

    -- a turn that adds nothing
    pub growing_skip : (f' : List ℕ → List ℕ) → f (keys_in n t) ≡ f' (keys_in n t) → Growing t₀ n₀ goal f' n t idx
    growing_skip f' e = record { holds = h.holds; index = h.index; long = h.long; rest = h.rest; more = h.more; first = h.first; todo = sym e ∙ h.todo }

    module _ (S' : List ℕ) (n' : ℕ) (t' idx' : List ℕ) (g : Stored n S' t n' t' idx') (f' : List ℕ → List ℕ) (e : f (keys_in n t) ≡ f' S') where
      pub growing_step : n' ≤ 2048 → Extends (keys_in n t) S' → Growing t₀ n₀ goal f' n' t' idx'
      growing_step b x =
          let v : keys_in n' t' ≡ S' = g.grown.keys b in
          record {
            holds = grown_holds g.grown h.holds.room b;
            index = g.index b;
            long = g.grown.long ∙ h.long;
            rest = g.grown.rest ∙ h.rest;
            more = omega (arith, h.more, h.holds.apart, x.more, grown_length S' t n' t' g.grown b);
            first = sym (take-take n₀ n t' h.more) ∙ ap (take n₀) (g.first b) ∙ take-take n₀ n t h.more ∙ h.first;
            todo = rw v (sym e ∙ h.todo);
          }

      pub growing_stop : 2048 < n' → Extends S' (f' S') → Stored n₀ goal t₀ n' t' idx'
      growing_stop b x =
          let w : length S' ≤ length goal = omega (arith, x.more, ap length (sym e ∙ h.todo)) in
          record {
            grown = record { count = omega (arith, g.grown.count); keys = λ z. absurd (omega arith); long = g.grown.long ∙ h.long; rest = g.grown.rest ∙ h.rest };
            index = λ z. absurd (omega arith);
            first = λ z. absurd (omega arith);
          }

    -- a turn for which there is no room, and the answer that hands it on
    pub growing_full : (S' t' idx' : List ℕ) → Stored n S' t 2049 t' idx' → (f' : List ℕ → List ℕ) → f (keys_in n t) ≡ f' S' → Extends S' (f' S')
        → (r : Result ℕ Full) → IsErr r → Stored n₀ goal t₀ (count_in r) t' idx' × IfOk r (λ k. k ≤ 2048)
    growing_full S' t' idx' g f' e x r w = (rw (count_full r w) (growing_stop S' 2049 t' idx' g f' e (omega arith) x), IfOk-from_err r _ w)

-- ---- the loops' parts
module _ (T : List ℕ) (s : ℕ) (S : List ℕ) where
  pub add_next : (i : ℕ) → i < length T → add_terms (drop i T) s S ≡ add_terms (drop (i + 1) T) s (insert (get_or T i 0 + s) S)
  unfolding add_terms
  add_next i h = rw (add-one, drop-cons T i 0)

  pub add_done : (i : ℕ) → length T ≤ i → add_terms (drop i T) s S ≡ S
  unfolding add_terms
  add_done i h = ap (λ (l : List ℕ). add_terms l s S) (drop_of_length-le T h)

module _ (T B L : List ℕ) (i k : ℕ) (S : List ℕ) where
  pub one_same : get_or L i 0 ≡ get_or L k 0 → add_terms T (get_or B i 0 + get_or B k 0) S ≡ add_pair T B L i k S
  unfolding add_pair
  one_same e = rw (eq-eqb _ _ e)

  pub one_apart : (get_or L i 0 ≡ get_or L k 0 → ⊥) → S ≡ add_pair T B L i k S
  unfolding add_pair
  one_apart e = rw (ne_eqb _ _ e)
