-- Laws of blocks as lists: single blocks, and one block put behind the first index of another.
use mathlib.Core.Path.{◌≡◌, refl, sym, subst, ◌∙◌}
use mathlib.Core.Logic.{◌⊎◌, inl, inr, ⊎_elim}
use mathlib.Core.List.{List, [], ◌∷◌, ◌++◌}
use Prim.Native.Nat.{ℕ, ◌≤◌, ◌<◌}
use native.Mathlib.Omega.{arith}
use lib.ListN.{length, get_or, set, length-set}
use lib.Seq.{get_or-set_same}
use Rattle.counting.specs.Counting.{listed}
use Rattle.counting.proofs.Listed.{same_or_not, listed_length, listed_at}
use Rattle.joining_rule.specs.Sets.{In}
use Rattle.joining_rule.specs.Join.{merged}
use Rattle.joining_rule.proofs.Elements.{not_nil, in_cons, in_here, in_there, in_append, append_in, append_keeps}
use Rattle.joining_rule.proofs.Labels.{InOne, merged_long, merged_at, two_low, other_same, in_one_lem}
use Rattle.joining_rule.proofs.Labels.InOne.{two, other}
use Rattle.round_laws.specs.Lists.{list_from, Once, BlockList, Lists, last_of, spliced}
use Rattle.round_laws.proofs.Walks.{list_next, next_ends, list_set, Leads, leads_set, leads_append, leads_last, last_in, Ended, list_leads, leads_list, once_few}

-- ---- the lists of a block's indices: different elements in one list, and in one after another
once_append : (l m : List ℕ) → Once l → Once m → ((x : ℕ) → In x l → In x m → ⊥) → Once (l ++ m)
once_append [] m o p d = p
once_append (x ∷ xs) m o p d = (
  λ w. ⊎_elim o.0 (d x (in_here x x xs refl)) (in_append x xs m w),
  once_append xs m o.1 p (λ y n. d y (in_there y x xs n)),
)

-- ---- every index its own block
pub lists_single : (n : ℕ) (follow : List ℕ) → n ≤ 64 → n ≤ length follow → ((x : ℕ) → x < n → 64 ≤ get_or follow x 0) → Lists follow (listed n (λ i. i))
lists_single n follow few long last =
    let e = listed_length n (λ i. i) in
    record {
      few = omega arith;
      long = omega arith;
      at = λ a h _. one a (omega arith);
    }
  where
    one : (a : ℕ) → a < n → BlockList follow (listed n (λ i. i)) a
    one a h =
        let l : list_from follow a ≡ a ∷ [] =
        leads_list follow a (a ∷ []) (omega arith) (λ y m. ⊎_elim (λ e. omega arith) (λ w. not_nil y w) (in_cons y a [] m))
        (record { end = get_or follow a 0; beyond = last a h; leads = (refl, refl) }) in
        record {
          ends = record { few = rw l (omega arith) };
          once = rw l (λ w. not_nil a w, tt);
          inside = λ x m.
              ⊎_elim (λ q. (omega (arith, listed_length n (λ i. i)), listed_at n (λ i. i) x 0 (omega arith) ∙ sym q)) (λ w. not_nil x w) (in_cons x a [] (rw l at m));
          whole = λ x k q. rw l (in_here x a [] (sym q ∙ listed_at n (λ i. i) x 0 (omega (arith, listed_length n (λ i. i)))));
        }

-- ---- the block b, with the last index z, put behind the first index of the block a
module _ (follow L : List ℕ) (s : Lists follow L) (a b : ℕ) (below : a < b) (hb : b < length L) (oa : get_or L a 0 ≡ a) (ob : get_or L b 0 ≡ b) where
  ha : a < length L
  ha = omega arith

  abbrev rest : List ℕ
  rest = list_from follow (get_or follow a 0)

  -- a block's list has its number first
  first : (x : ℕ) → x < length L → get_or L x 0 ≡ x → list_from follow x ≡ x ∷ list_from follow (get_or follow x 0)
  first x h o = list_next follow x (s.at x h o).ends (omega (arith, s.few))

  -- two blocks have no index in common
  apart : (x y c : ℕ) → (hx : x < length L) → (ox : get_or L x 0 ≡ x) → (hy : y < length L) → (oy : get_or L y 0 ≡ y) → In c (list_from follow x) → In c (list_from follow y) → x ≡ y
  apart x y c hx ox hy oy m n = sym ((s.at x hx ox).inside c m).1 ∙ ((s.at y hy oy).inside c n).1

  in_rest : (x : ℕ) → In x rest → In x (list_from follow a)
  in_rest x m = rw (first a ha oa) (in_there x a rest m)

  in_own : (x : ℕ) → (h : x < length L) → (o : get_or L x 0 ≡ x) → In x (list_from follow x)
  in_own x h o = (s.at x h o).whole x h o

  -- the list of both
  abbrev both : List ℕ
  both = a ∷ (list_from follow b ++ rest)

  in_both : (x : ℕ) → In x both → In x (list_from follow a) ⊎ In x (list_from follow b)
  in_both x m =
      ⊎_elim (λ e. inl (rw (← e) (in_own a ha oa))) (λ w. ⊎_elim (λ n. inr n) (λ n. inl (in_rest x n)) (in_append x (list_from follow b) rest w)) (in_cons x a (list_from follow b ++ rest) m)

  a_both : (x : ℕ) → In x (list_from follow a) → In x both
  a_both x m =
      ⊎_elim (λ e. in_here x a _ e) (λ w. in_there x a _ (append_in x (list_from follow b) rest w)) (in_cons x a rest (rw (first a ha oa) at m))

  b_both : (x : ℕ) → In x (list_from follow b) → In x both
  b_both x m = in_there x a _ (append_keeps x (list_from follow b) rest m)

  both_once : Once both
  both_once =
      let o : Once (a ∷ rest) = rw (first a ha oa) at (s.at a ha oa).once in (
        λ w.
            ⊎_elim (λ n. omega (arith, apart a b a ha oa hb ob (in_own a ha oa) n)) o.0 (in_append a (list_from follow b) rest w),
        once_append (list_from follow b) rest (s.at b hb ob).once o.1 (λ x m n. omega (arith, apart a b x ha oa hb ob (in_rest x n) m)),
      )

  both_low : (x : ℕ) → In x both → x < length L
  both_low x m = ⊎_elim (λ n. ((s.at a ha oa).inside x n).0) (λ n. ((s.at b hb ob).inside x n).0) (in_both x m)

  module _ (z : ℕ) (last : last_of b (list_from follow b) ≡ z) where
    abbrev follow' : List ℕ
    follow' = spliced a b z follow

    abbrev behind : List ℕ
    behind = list_from follow (get_or follow b 0)

    at_last : last_of b behind ≡ z
    at_last = rw (first b hb ob) at last

    z_in : In z (list_from follow b)
    z_in = rw (← at_last, first b hb ob) (last_in b behind)

    z_low : z < length follow
    z_low = omega (arith, ((s.at b hb ob).inside z z_in).0, s.long)

    not_of : (x : ℕ) → (h : x < length L) → (o : get_or L x 0 ≡ x) → (x ≡ b → ⊥) → In z (list_from follow x) → ⊥
    not_of x h o d m = d (apart x b z h o hb ob m z_in)

    through_b : Leads follow' b (list_from follow b) (get_or follow a 0)
    through_b =
        let e = list_leads follow b (s.at b hb ob).ends in
        leads_set (set follow z (get_or follow a 0)) a b b (list_from follow b) (get_or follow a 0)
        (λ m. omega (arith, apart a b a ha oa hb ob (in_own a ha oa) m))
        (subst (λ w. Leads (set follow w (get_or follow a 0)) b (list_from follow b) (get_or follow a 0)) at_last
        (rw (first b hb ob)
        (leads_last follow (get_or follow a 0) b b behind e.end (omega (arith, at_last, z_low)) (rw (first b hb ob) at (s.at b hb ob).once) (rw (first b hb ob) at e.leads))))

    through_rest : Ended follow' (get_or follow a 0) rest
    through_rest =
        let e = list_leads follow (get_or follow a 0) (next_ends follow a (s.at a ha oa).ends (omega (arith, s.few))) in
        record {
          end = e.end;
          beyond = e.beyond;
          leads = leads_set (set follow z (get_or follow a 0)) a b (get_or follow a 0) rest e.end (λ m. both_once.0 (append_in a (list_from follow b) rest m))
              (leads_set follow z (get_or follow a 0) (get_or follow a 0) rest e.end (λ m. not_of a ha oa (λ q. omega arith) (in_rest z m)) e.leads);
        }

    -- the list of a has that of b behind its first index
    pub splice_list : list_from follow' a ≡ both
    splice_list =
        let e = through_rest in
        let q : get_or follow' a 0 ≡ b = get_or-set_same (set follow z (get_or follow a 0)) a b 0 (omega (arith, length-set follow z (get_or follow a 0), s.long, ha)) in
        leads_list follow' a both (omega (arith, once_few (length L) both both_once both_low, s.few)) (λ y m. omega (arith, both_low y m, s.few))
        (record {
          end = e.end;
          beyond = e.beyond;
          leads = (refl, rw q (leads_append follow' b (list_from follow b) (get_or follow a 0) rest e.end through_b e.leads));
        })

    -- every other block has its list as before
    pub splice_other : (x : ℕ) → x < length L → get_or L x 0 ≡ x → (x ≡ a → ⊥) → (x ≡ b → ⊥) → list_from follow' x ≡ list_from follow x
    splice_other x h o da db =
        let e = list_set follow z (get_or follow a 0) x (not_of x h o db) in
        list_set (set follow z (get_or follow a 0)) a b x (λ m. da (apart x a a h o ha oa (rw e at m) (in_own a ha oa))) ∙ e

    -- a block that is left after the merge is a, or was there before and is not b
    left_over : (x : ℕ) → x < length L → get_or (merged a b L) x 0 ≡ x → (x ≡ a) ⊎ ((get_or L x 0 ≡ x) × (x ≡ b → ⊥))
    left_over x h e = go (in_one_lem a b (get_or L x 0)) (sym (merged_at a b L x h) ∙ e)
      where
        go : {r : ℕ} → InOne a b (get_or L x 0) r → r ≡ x → (x ≡ a) ⊎ ((get_or L x 0 ≡ x) × (x ≡ b → ⊥))
        go (two k) q = inl (omega arith)
        go (other k l) q = inr (q, λ w. l (q ∙ w))

    merged_both : BlockList follow' (merged a b L) a
    merged_both = record {
      ends = record { few = rw splice_list (omega (arith, once_few (length L) both both_once both_low, s.few)) };
      once = rw splice_list both_once;
      inside = λ x m.
          let n = rw splice_list at m in
          let k = both_low x n in
          (omega (arith, merged_long a b L), merged_at a b L x k ∙ two_low a b (get_or L x 0) (⊎_elim (λ w. inl ((s.at a ha oa).inside x w).1) (λ w. inr ((s.at b hb ob).inside x w).1) (in_both x n)) ∙ omega arith);
      whole = λ x h e. rw splice_list (back x (omega (arith, merged_long a b L)) (in_one_lem a b (get_or L x 0)) (sym (merged_at a b L x (omega (arith, merged_long a b L))) ∙ e));
    }
      where
        back : (x : ℕ) → x < length L → {r : ℕ} → InOne a b (get_or L x 0) r → r ≡ a → In x both
        back x h (two k) q = ⊎_elim (λ w. a_both x ((s.at a ha oa).whole x h w)) (λ w. b_both x ((s.at b hb ob).whole x h w)) k
        back x h (other k l) q = absurd (k q)

    merged_other : (x : ℕ) → x < length L → get_or L x 0 ≡ x → (x ≡ a → ⊥) → (x ≡ b → ⊥) → BlockList follow' (merged a b L) x
    merged_other x h o da db =
        let e = splice_other x h o da db in
        let c = s.at x h o in
        record {
          ends = record { few = rw e c.ends.few };
          once = rw e c.once;
          inside = λ y m.
              let i = c.inside y (rw e at m) in
              (omega (arith, i.0, merged_long a b L), merged_at a b L y i.0 ∙ other_same a b (get_or L y 0) (λ q. da (sym i.1 ∙ q)) (λ q. db (sym i.1 ∙ q)) ∙ i.1);
          whole = λ y k q. rw e (c.whole y (omega (arith, merged_long a b L)) (back y (in_one_lem a b (get_or L y 0)) (sym (merged_at a b L y (omega (arith, merged_long a b L))) ∙ q)));
        }
      where
        back : (y : ℕ) → {r : ℕ} → InOne a b (get_or L y 0) r → r ≡ x → get_or L y 0 ≡ x
        back y (two k) q = absurd (da (omega arith))
        back y (other k l) q = q

    pub lists_splice : Lists follow' (merged a b L)
    lists_splice = record {
      few = omega (arith, merged_long a b L, s.few);
      long = omega (arith, merged_long a b L, s.long, length-set (set follow z (get_or follow a 0)) a b, length-set follow z (get_or follow a 0));
      at = λ x h o.
          let k : x < length L = omega (arith, merged_long a b L) in
          ⊎_elim
          (λ e. rw e merged_both)
          (λ w. ⊎_elim (λ e. rw e merged_both) (λ d. merged_other x k w.0 d w.1) (same_or_not x a))
          (left_over x k o);
    }
