-- All pairs with a sum are in one block, and this is told of the sum.
use Rattle.std.proofs.Common.{◌≡◌, ℕ, ◌/◌, ◌%◌, ◌<◌, ◌≤◌, true, List, length, set, sym, ap, ◌∙◌, subst, ⊎_elim, arith}
use Rattle.counting.proofs.Listed.{same_or_not}
use Rattle.round_laws.specs.Joins.{Has, WithSum}
use Rattle.round_laws.specs.Added.{Done}
use Rattle.round_laws.proofs.Sums.{met_done}
use Rattle.joining_pairs.specs.Pairs.{pair_at, sum_at, told_at}
use Rattle.joining_products.specs.Adding.{plain, DoneTold}
use Rattle.joining_blocks.specs.Standing.{Standing, standing, support, Ready, MetTold, Grew}
use Rattle.joining_pairs.proofs.Places.{pair_order}
use Rattle.joining_pairs.proofs.Told.{told_other, told_index, told_slots}

module _ (T B : List ℕ) (s p : ℕ) (large : plain < length B) (e : pair_at B p ≡ true) (f : sum_at B p ≡ s) (a a' : Standing) (g : Grew T B (WithSum B s) a a') where
  abbrev noted : Standing
  noted = standing a'.labels a'.follow (set a'.pairs (told_at p) 2) a'.table a'.index a'.reach

  module _ (b : a'.reach.len ≤ 2048) where
    r : Ready T B a'
    r = (g.fits b).ready

    few : length B ≤ 64
    few = r.blocks.few

    met : MetTold B a'.labels noted.pairs
    met = record {
      at = λ q h m.
          ⊎_elim
          (λ w. subst (λ (u : ℕ). Has (WithSum B u) (length B) a'.labels) (sym (ap (sum_at B) w ∙ f)) (g.fits b).joins.joins)
          (λ d. (r.met large).at q h (rw (told_other B few p e a'.pairs 2 q h d) at m))
          (same_or_not q p);
    }

    done : a'.reach.adds ≡ true → DoneTold T B (support a') noted.pairs
    done t =
        let o = pair_order B p e in
        record {
          at = λ q h m.
              ⊎_elim
              (λ w.
              subst (λ (u : ℕ). Done T (support a') u) (sym (ap (sum_at B) w ∙ f))
              (met_done T B a'.labels (support a') s (p / 64) (p % 64) (r.full t) (g.fits b).joins.joins (omega (arith, o.0, o.1)) o.1 f))
              (λ d. (r.done t large).at q h (rw (told_other B few p e a'.pairs 2 q h d) at m))
              (same_or_not q p);
        }

    ready : Ready T B noted
    ready = record {
      basis = r.basis;
      blocks = r.blocks;
      count = r.count;
      since = r.since;
      until = r.until;
      full = r.full;
      index = record { all = λ h. told_index B few p e a'.pairs 2 (r.index.all h); slots = λ h. told_slots B few p e a'.pairs 2 T (r.index.slots h) };
      done = λ t _. done t;
      met = λ _. met;
      bits = r.bits;
    }

  told : Grew T B (WithSum B s) a noted
  told =
      record { set = g.set; stored = g.stored; within = g.within; same = g.same; fits = λ b. record { joins = (g.fits b).joins; ready = ready b } }

  pub met_grew : (at : ℕ) → at ≡ told_at p → Grew T B (WithSum B s) a (standing a'.labels a'.follow (set a'.pairs at 2) a'.table a'.index a'.reach)
  met_grew at h = rw h told
