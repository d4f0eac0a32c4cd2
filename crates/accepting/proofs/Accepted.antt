-- A certificate is accepted exactly when its stream gives it, its rows keep to blocks and the identity holds.
use mathlib.Core.Path.{◌≡◌, refl, ap, ◌∙◌}
use mathlib.Core.List.{List}
use mathlib.Core.Option.{Option, none, some}
use Prim.Native.Nat.{ℕ}
use lib.IntN.{ℤ, pos, negsuc}
use lib.Signed.{◌≤ℤ◌}
use Rattle.counting.proofs.Cases.{clash}
use Rattle.integers.proofs.Ring.{nonneg_pos}
use Rattle.format.specs.Commands.{Outcome}
use Rattle.format.specs.Commands as Stream
use Rattle.format.specs.ProblemRules.{Problem}
use Rattle.format.proofs.WithinLimits.{Limits}
use Rattle.format.specs.CertificateRules.{Certificate, read_certificate, Row}
use Rattle.format.proofs.CertificateLimits.{Sound, read_sound}
use Rattle.format.proofs.All.{all_map}
use Rattle.accepting.specs.Identity.{Identity, KeepsBlocks}
use Rattle.accepting.specs.Judgement.{split_place, difference_key, refused, accepted, by_identity, by_blocks, judge_read, judge_outcome, judge, Accepted, Splits, Differs}
use Rattle.accepting.proofs.Blocks.{split_none, split_kept, split_some}
use Rattle.accepting.proofs.Difference.{identity_none, none_identity, difference_smallest}
use Rattle.accepting.specs.Bounds.{BoundedBelow, BoundedAbove}
use Rattle.accepting.proofs.Weights.{RowWeighted, Weighted}
use Rattle.accepting.proofs.Bounds.{identity_below, identity_above}

-- a refusal is not an acceptance
not_refused : {X : Type 0} (n place key : ℕ) (c : Certificate) → refused n place key ≡ accepted c → X
not_refused n place key c e = clash (cc)

-- neither 8 nor 9 is given
record Passed (split difference : Option ℕ) (d c : Certificate) : Type 0 where
  split_none : split ≡ none
  difference_none : difference ≡ none
  same : d ≡ c

judged : (d c : Certificate) (x y : Option ℕ) → by_blocks x (by_identity d y) ≡ accepted c → Passed x y d c
judged d c (some place) y e = not_refused 8 place 0 c e
judged d c none (some k) e = not_refused 9 0 k c e
judged d c none none e = record { split_none = refl; difference_none = refl; same = cc }

-- a weight at least 1
nonneg_of_one : (w : ℤ) → pos 1 ≤ℤ w → pos 0 ≤ℤ w
nonneg_of_one (pos n) h = nonneg_pos n
nonneg_of_one (negsuc n) h = absurd h.le

module _ (p : Problem) where
  -- ---- an accepted stream gives a certificate with every row in one block and the identity true
  pub judge_accepted : Limits p → (s : List ℕ) (c : Certificate) → judge p s ≡ accepted c → Accepted p s c
  unfolding judge judge_read
  judge_accepted limits s c e = go (read_certificate p s) refl e
    where
      go : (o : Outcome Certificate) → read_certificate p s ≡ o → judge_outcome p o ≡ accepted c → Accepted p s c
      go (Stream.refused n at) r e = not_refused n at 0 c e
      go (Stream.given d) r e =
          let j = judged d c (split_place p d.rows) (difference_key p d) e in
          let read : read_certificate p s ≡ Stream.given c = r ∙ ap Stream.given j.same in
          let blocks = split_none p c.rows (rw (← j.same) j.split_none) in
          record {
            read = read;
            blocks = blocks;
            identity = none_identity p c limits (read_sound p s c read).rows blocks (rw (← j.same) j.difference_none);
          }

  -- and a stream whose certificate is such is accepted
  pub accepted_judge : (s : List ℕ) (c : Certificate) → Accepted p s c → judge p s ≡ accepted c
  unfolding judge judge_read
  accepted_judge s c a = rw (a.read, split_kept p c.rows a.blocks, identity_none p c a.identity)

  -- ---- what is accepted bounds the objective at every allowed point
  module _ (limits : Limits p) (s : List ℕ) (c : Certificate) (a : Accepted p s c) where
    pub sound : Sound p c
    sound = read_sound p s c a.read

    pub weighted : Weighted p c.rows
    weighted =
        all_map _ (RowWeighted p) (λ (r : Row) k e. nonneg_of_one r.weight (k.positive e)) c.rows sound.rows

    pub accepted_below : c.header.side ≡ 0 → BoundedBelow p c.header.p c.header.q
    accepted_below = identity_below p limits c sound.scale weighted a.identity

    pub accepted_above : c.header.side ≡ 1 → BoundedAbove p c.header.p c.header.q
    accepted_above = identity_above p limits c sound.scale weighted a.identity

  -- ---- refusals 8 and 9 of a certificate that was read
  module _ (s : List ℕ) (c : Certificate) (read : read_certificate p s ≡ Stream.given c) where
    -- 8: "first entry outside the row's first block"
    pub judge_split : (place : ℕ) → split_place p c.rows ≡ some place → judge p s ≡ refused 8 place 0
    unfolding judge judge_read
    judge_split place e = rw (read, e)

    -- it is given where some row is not in one block
    pub judge_splits : (KeepsBlocks p c.rows → ⊥) → Splits p s c
    judge_splits fails = go (split_place p c.rows) refl
      where
        go : (o : Option ℕ) → split_place p c.rows ≡ o → Splits p s c
        go none e = absurd (fails (split_none p c.rows e))
        go (some place) e = record { place = place; refusal = judge_split place e; split = split_some p c.rows place e }

    -- 9: given where every row is in one block and the identity is false, with the smallest key that differs
    pub judge_differs : Limits p → KeepsBlocks p c.rows → (Identity p c → ⊥) → Differs p s c
    unfolding judge judge_read
    judge_differs limits blocks fails = go (difference_key p c) refl
      where
        go : (o : Option ℕ) → difference_key p c ≡ o → Differs p s c
        go none e = absurd (fails (none_identity p c limits (read_sound p s c read).rows blocks e))
        go (some k) e = record {
          key = k;
          refusal = rw (read, split_kept p c.rows blocks, e);
          smallest = difference_smallest p c limits (read_sound p s c read).rows blocks k e;
        }
