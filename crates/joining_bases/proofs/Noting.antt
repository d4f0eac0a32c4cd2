-- Laws of two loops over the bases: the pairs of one after another are noted, and the products of one after another put
-- in.
use mathlib.Core.Path.{◌≡◌, refl, sym, ap, ◌∙◌}
use mathlib.Core.Logic.{⊎_elim}
use mathlib.Core.List.{List, [], ◌++◌}
use Prim.Native.Nat.{ℕ, zero, suc, ◌+◌, ◌-◌, ◌*◌, ◌≤◌, ◌<◌}
use native.Mathlib.Nat.{add-sub_cancel_left}
use native.Mathlib.Numerals.{add-one}
use native.Mathlib.Omega.{arith}
use lib.ListN.{length, get_or, take, drop, set, replicate, length-set, length-replicate, length-drop}
use lib.Seq.{length-take-le, get_or-set_same, get_or-set_other}
use Rattle.counting.specs.Counting.{from_to}
use Rattle.counting.proofs.Bounded.{bounded_zeros, bounded_part}
use Rattle.counting.proofs.Listed.{same_or_not}
use Rattle.counting.proofs.Steps.{from_to_more, from_to_done}
use Rattle.joining_rule.specs.Extend.{extend}
use Rattle.joining_rule.specs.Rounds.{Bases, extend_to}
use Rattle.joining_rule.proofs.Rising.{Rising}
use Rattle.joining_rule.proofs.Full.{extend_done}
use Rattle.joining_rule.proofs.Extending.{Extends, from_to_extends, extend_extends}
use Rattle.joining_rule.proofs.Products.{AllFull}
use Rattle.flat.specs.Flat.{basis_in}
use Rattle.joining_pairs.specs.Pairs.{NoPairs, PairsMade}
use Rattle.joining_products.specs.Adding.{plain}
use Rattle.joining_bases.specs.Parts.{piece, exponents_in}
use Rattle.joining_bases.proofs.Pieces.{taken_long, piece_put, piece_only}

-- ---- the pairs of the bases before j are noted, and none of the others
pub record NotedTo (keys sizes state₀ : List ℕ) (j : ℕ) (pairs state : List ℕ) : Type 0 where
  pub long : length pairs ≡ 56160
  pub numbers : length state ≡ 18
  pub counts : (i : ℕ) → i < 9 → get_or state i 0 ≡ get_or state₀ i 0
  pub made : (i : ℕ) → i < j → i < 9 → plain < get_or sizes i 0 → PairsMade (exponents_in keys sizes i) (basis_in keys sizes i) (get_or state (9 + i) 0) (piece 6240 pairs i)
  pub none : (i : ℕ) → j ≤ i → i < 9 → NoPairs (piece 6240 pairs i)

module _ (keys sizes state₀ : List ℕ) where
  pub noting_start : length state₀ ≡ 18 → NotedTo keys sizes state₀ 0 (replicate 56160 0) state₀
  noting_start e = record {
    long = length-replicate {A = ℕ} 56160 0;
    numbers = e;
    counts = λ i _. refl;
    made = λ i h. absurd (omega arith);
    none = λ i _ h.
        record {
          long = length-take-le 6240 (drop (6240 * i) (replicate 56160 0)) (simp length-drop (omega (arith, length-replicate {A = ℕ} 56160 0)));
          zero = λ x. omega (arith, bounded_part 0 (6240 * i) 6240 (replicate 56160 0) (bounded_zeros 0 56160) x);
        };
  }

  module _ (j : ℕ) (pairs state : List ℕ) (n : NotedTo keys sizes state₀ j pairs state) where
    -- a small basis
    pub noting_skip : get_or sizes j 0 ≤ plain → NotedTo keys sizes state₀ (j + 1) pairs state
    noting_skip small = record {
      long = n.long;
      numbers = n.numbers;
      counts = n.counts;
      made = λ i h nine l. ⊎_elim (λ e. let k : get_or sizes i 0 ≤ 16 = rw e small in absurd (omega arith)) (λ d. n.made i (omega arith) nine l) (same_or_not i j);
      none = λ i h. n.none i (omega arith);
    }

    module _ (h : j < 9) where
      -- what is lent
      pub noting_lent : NoPairs (take (6240 * j + 6240 - 6240 * j) (drop (6240 * j) pairs))
      noting_lent = rw (add-sub_cancel_left (6240 * j) 6240) (n.none j (omega arith) h)

      pub noting_next : (T B : List ℕ) → T ≡ exponents_in keys sizes j → B ≡ basis_in keys sizes j → (m : List ℕ) → length m ≡ length (take (6240 * j + 6240 - 6240 * j) (drop (6240 * j) pairs))
          → (bits : ℕ) → PairsMade T B bits m
          → NotedTo keys sizes state₀ (j + 1) (take (6240 * j) pairs ++ (m ++ drop (6240 * j + 6240 - 6240 * j) (drop (6240 * j) pairs))) (set state (9 + j) bits)
      noting_next T B e f m k bits p =
          let b : length pairs ≡ 6240 * 9 = omega (arith, n.long) in
          let l : length m ≡ 6240 = k ∙ taken_long (6240 * j) 6240 pairs (omega (arith, n.long)) in
          let o = piece_only 6240 j pairs m b h l in
          record {
            long = o.long ∙ n.long;
            numbers = length-set state (9 + j) bits ∙ n.numbers;
            counts = λ i c. get_or-set_other state (9 + j) i bits 0 (λ q. omega arith) ∙ n.counts i c;
            made = λ i c nine big.
                ⊎_elim
                (λ q. rw (q, piece_put 6240 j pairs m b h l, get_or-set_same state (9 + j) bits 0 (omega (arith, n.numbers))) (rw (e, f) at p))
                (λ q. rw (o.others i nine q, get_or-set_other state (9 + j) (9 + i) bits 0 (λ w. q (omega arith))) (n.made i (omega arith) nine big))
                (same_or_not i j);
            none = λ i c nine. rw (o.others i nine (λ q. omega arith)) (n.none i (omega arith) nine);
          }

-- ---- the products of the bases from n on
unfoldable pub extend_from : ℕ → Bases → List (List ℕ) → List ℕ → List ℕ
extend_from n g L S = from_to n 9 (λ j. extend (g.multiplier j) (g.basis j) (get_or L j [])) S

-- steps that leave a state can be left out
skipped : {A : Type 0} (f : ℕ → A → A) (m : ℕ) (s : A) (n : ℕ) → n ≤ m → ((k : ℕ) → k < n → f k s ≡ s) → from_to n m f s ≡ from_to 0 m f s
skipped f m s zero h e = refl
skipped f m s (suc n) h e =
    rw (← add-one n) (ap (from_to (n + 1) m f) (sym (e n (omega arith))) ∙ sym (from_to_more n m f s (omega arith)) ∙ skipped f m s n (omega arith) (λ k b. e k (omega arith)))

module _ (g : Bases) (L : List (List ℕ)) where
  abbrev step : ℕ → List ℕ → List ℕ
  step j = extend (g.multiplier j) (g.basis j) (get_or L j [])

  pub missing_start : (n : ℕ) (S : List ℕ) → n ≤ 9 → Rising S → AllFull n g (record { labels = L; support = S }) → extend_from n g L S ≡ extend_to 9 g L S
  unfolding extend_from extend_to
  missing_start n S h r f = skipped step 9 S n h (λ k b. extend_done (g.multiplier k) (g.basis k) (get_or L k []) S r (f.at k b))

  pub missing_more : (j : ℕ) (S : List ℕ) → j < 9 → extend_from j g L S ≡ extend_from (j + 1) g L (step j S)
  unfolding extend_from
  missing_more j S h = from_to_more j 9 step S h

  pub missing_done : (j : ℕ) (S : List ℕ) → 9 ≤ j → extend_from j g L S ≡ S
  unfolding extend_from
  missing_done j S h = from_to_done j 9 step S h

  pub missing_extends : (j : ℕ) (S : List ℕ) → Extends S (extend_from j g L S)
  unfolding extend_from
  missing_extends j S = from_to_extends step (λ i S'. extend_extends (g.multiplier i) (g.basis i) (get_or L i []) S') j 9 S
