-- The loops that join by the pairs of the basis: the turns of a row, which is at the pair of i and k, and of all rows.
use Rattle.std.proofs.Common.{◌≡◌, ℕ, ◌+◌, ◌*◌, ◌/◌, ◌%◌, ◌<◌, ◌≤◌, Bool, true, false, cond, eqb, ◌⊎◌, List, length, get_or, sym, refl, ap, ◌∙◌, inl, inr, ⊎_elim, arith, eqb-true}
use Rattle.counting.proofs.Cases.{never}
use Rattle.joining_rule.specs.Join.{linked}
use Rattle.round_laws.specs.Joins.{Two, Through, LinkedIn}
use Rattle.round_laws.proofs.Rows.{linked_through, not_through, rows_none, rows_more, rows_then, rows_hit, rows_same, rows_not, rows_end}
use Rattle.joining_pairs.specs.Pairs.{sum_at}
use Rattle.joining_blocks.specs.Standing.{Standing, looked_at, Ready, Grew}
use Rattle.joining_blocks.proofs.Grew.{grew_more, grew_as, grew_last}
use Rattle.joining_basis.proofs.Going.{Going, going_start, going_on, going_then, going_looked}
use Rattle.joining_blocks.proofs.Merged.{two_same}

-- what the look at a pair tells
abbrev Look : List ℕ → List ℕ → Standing → ℕ → Bool
Look T B s p =
    cond (eqb (get_or s.labels (p / 64) 0) (get_or s.labels (p % 64) 0)) false (linked (looked_at s) T (sum_at B p))

opened : (b d : Bool) → cond b false d ≡ true → d ≡ true
opened true d e = never e
opened false d e = e

closed : (b d : Bool) → cond b false d ≡ false → (b ≡ true) ⊎ (d ≡ false)
closed true d e = inl refl
closed false d e = inr e

module _ (T B : List ℕ) (a : Standing) where
  abbrev S : List ℕ
  S = looked_at a

  abbrev Rows : ℕ → ℕ → ℕ → ℕ → Type 0
  Rows = LinkedIn T B S

  -- ---- one row
  pub record InRow (i : ℕ) (a' : Standing) (k : ℕ) : Type 0 where
    pub after : i < k
    pub upto : k ≤ length B
    pub going : Going T B (Rows (64 * i) (64 * i + k)) a a'

  module _ (r : Ready T B a) where
    few : length B ≤ 64
    few = r.blocks.few

    module _ (i : ℕ) (hi : i < length B) where
      pub row_start : InRow i a (i + 1)
      row_start = record {
        after = omega arith;
        upto = omega arith;
        going = going_start T B (Rows (64 * i) (64 * i + (i + 1))) a r (rows_none T B S (64 * i) (64 * i + (i + 1)) a.labels (λ x y o h l u. omega (arith, few)));
      }

      module _ (a' : Standing) (k : ℕ) (w : InRow i a' k) where
        pub row_end_lem : length B ≤ k → Grew T B (Rows (64 * i) (64 * (i + 1))) a a'
        row_end_lem b =
            grew_as T B (Rows (64 * i) (64 * i + k)) (Rows (64 * i) (64 * (i + 1))) a a' w.going.grew
            (rows_more T B S (64 * i) (64 * i + k) (64 * (i + 1)) (omega (arith, w.upto, few)))
            (λ x y _ hy p. record { order = p.order; from = p.from; before = omega (arith, p.from, p.before, few); through = p.through })

        module _ (hk : k < length B) where
          abbrev p : ℕ
          p = 64 * i + k

          at_i : p / 64 ≡ i
          at_i = omega (arith, few)

          at_k : p % 64 ≡ k
          at_k = omega (arith, few)

          next : 64 * i + (k + 1) ≡ p + 1
          next = omega arith

          linked_now : linked (looked_at a') T (sum_at B p) ≡ linked S T (get_or B i 0 + get_or B k 0)
          linked_now = rw (going_looked T B _ a a' w.going r, at_i, at_k)

          through : Look T B a' p ≡ true → Through T B S i k
          through e = linked_through T B S i k (sym linked_now ∙ opened (eqb (get_or a'.labels (p / 64) 0) (get_or a'.labels (p % 64) 0)) (linked (looked_at a') T (sum_at B p)) e)

          -- a pair that is in one block, or not linked
          pub row_skip : Look T B a' p ≡ false → InRow i a' (k + 1)
          row_skip e = record {
            after = omega (arith, w.after);
            upto = omega arith;
            going = rw next
                (going_on T B (Rows (64 * i) p) a a' w.going (Rows (64 * i) (p + 1)) (rows_more T B S (64 * i) p (p + 1) (omega arith))
                (λ j.
                ⊎_elim
                (λ q.
                let z = two_same T B a' (w.going.grew.fits w.going.fits).ready i k hi hk (sym (ap (λ (x : ℕ). get_or a'.labels x 0) at_i) ∙ eqb-true (get_or a'.labels (p / 64) 0) (get_or a'.labels (p % 64) 0) q ∙ ap (λ (x : ℕ). get_or a'.labels x 0) at_k) in
                rows_same T B S (64 * i) few i k w.after hk (omega arith) a'.labels (z.at i k hi hk (record { first = refl; second = refl })) j)
                (λ q. rows_not T B S (64 * i) few i k w.after hk (omega arith) a'.labels (not_through T B S i k (sym linked_now ∙ q)) j)
                (closed (eqb (get_or a'.labels (p / 64) 0) (get_or a'.labels (p % 64) 0)) (linked (looked_at a') T (sum_at B p)) e)));
          }

          -- one that is linked
          module _ (e : Look T B a' p ≡ true) (a'' : Standing) (g : Grew T B (Two (p / 64) (p % 64)) a' a'') where
            joined : Grew T B (Two i k) a' a''
            joined = rw (at_i, at_k) at g

            pub row_hit : a''.reach.len ≤ 2048 → InRow i a'' (k + 1)
            row_hit c = record {
              after = omega (arith, w.after);
              upto = omega arith;
              going = rw next (going_then T B (Rows (64 * i) p) a a' w.going (Two i k) (Rows (64 * i) (p + 1)) a'' r joined c (rows_hit T B S (64 * i) few i k w.after hk (omega arith) (through e)));
            }

            -- given up
            pub row_over : 2048 < a''.reach.len → Grew T B (Rows (64 * i) (64 * (i + 1))) a a''
            row_over c =
                grew_last T B (Rows (64 * i) p) (Two i k) (Rows (64 * i) (64 * (i + 1))) a a' a'' r w.going.fits w.going.grew joined
                (rows_more T B S (64 * i) p (64 * (i + 1)) (omega (arith, few)))
                (λ x y _ _ v. rw (v.first, v.second) (record { order = w.after; from = omega arith; before = omega (arith, few); through = through e }))
                (inr c)

  -- ---- all rows
  pub record ToRow (a' : Standing) (i : ℕ) : Type 0 where
    pub upto : i ≤ length B
    pub going : Going T B (Rows 0 (64 * i)) a a'

  module _ (r : Ready T B a) where
    pub all_start : ToRow a 0
    all_start =
        record { upto = omega arith; going = going_start T B (Rows 0 (64 * 0)) a r (rows_none T B S 0 (64 * 0) a.labels (λ x y o h l u. omega arith)) }

    module _ (a' : Standing) (i : ℕ) (w : ToRow a' i) where
      module _ (hi : i < length B) (a'' : Standing) (g : Grew T B (LinkedIn T B (looked_at a') (64 * i) (64 * (i + 1))) a' a'') where
        row : Grew T B (Rows (64 * i) (64 * (i + 1))) a' a''
        row = rw (going_looked T B _ a a' w.going r) at g

        pub all_turn : a''.reach.len ≤ 2048 → ToRow a'' (i + 1)
        all_turn c = record {
          upto = omega arith;
          going = going_then T B (Rows 0 (64 * i)) a a' w.going (Rows (64 * i) (64 * (i + 1))) (Rows 0 (64 * (i + 1))) a'' r row c (rows_then T B S 0 (64 * i) (64 * (i + 1)) (omega arith) (omega arith));
        }

        -- ended early
        pub all_over : (a''.reach.blocks ≡ 1) ⊎ (2048 < a''.reach.len) → Grew T B (Through T B S) a a''
        all_over o =
            grew_last T B (Rows 0 (64 * i)) (Rows (64 * i) (64 * (i + 1))) (Through T B S) a a' a'' r w.going.fits w.going.grew row
            (λ x y _ _ v. v.through) (λ x y _ _ v. v.through) o

      pub all_end : length B ≤ i → Grew T B (Through T B S) a a'
      all_end b =
          let e : i ≡ length B = omega (arith, w.upto) in
          grew_more T B (Rows 0 (64 * i)) (Through T B S) a a' w.going.grew (λ x y _ _ v. v.through)
          (λ _ j. rows_end T B S a'.labels r.blocks.few (rw e at j))
