-- Refusal 8 is given exactly where a row has entries in two blocks.
use mathlib.Core.Path.{◌≡◌, refl, ap, ◌∙◌}
use mathlib.Core.Bool.{Bool, true, false, cond}
use mathlib.Core.List.{List, [], ◌∷◌, ◌++◌}
use mathlib.Core.Option.{Option, none, some}
use Prim.Native.Nat.{ℕ}
use lib.Dec.{eqb}
use borrow.Author.Tests.{eqb-true, eqb-false, eq-eqb}
use Rattle.counting.proofs.Cases.{clash}
use Rattle.format.specs.ProblemRules.{Problem}
use Rattle.format.specs.All.{All}
use Rattle.format.specs.CertificateRules.{Entry, Row}
use Rattle.accepting.specs.Identity.{block_of, KeepsBlocks}
use Rattle.accepting.specs.Judgement.{first_outside, row_split, or_else, split_by, split_place, SplitAt}

-- none is not some
never : {X : Type 0} (n : ℕ) → ◌≡◌ {A = Option ℕ} (some n) none → X
never n e = clash (cc)

module _ (b : ℕ → ℕ) (l : ℕ) where
  outside_none : (es : List Entry) → first_outside b l es ≡ none → All (λ (e : Entry). b e.index ≡ l) es
  unfolding first_outside All
  outside_none [] h = tt
  outside_none (e ∷ es) h = go (eqb (b e.index) l) refl (outside_none es)
    where
      go : (t : Bool) → eqb (b e.index) l ≡ t → (first_outside b l es ≡ none → All (λ (e : Entry). b e.index ≡ l) es)
          → (b e.index ≡ l) × All (λ (e : Entry). b e.index ≡ l) es
      go true q f = (eqb-true (b e.index) l q, f (rw q at h))
      go false q f = never _ (rw q at h)

  outside_kept : (es : List Entry) → All (λ (e : Entry). b e.index ≡ l) es → first_outside b l es ≡ none
  unfolding first_outside All
  outside_kept [] h = refl
  outside_kept (e ∷ es) h = rw (eq-eqb (b e.index) l h.0) (outside_kept es h.1)

-- both are none
first_none : (x y : Option ℕ) → or_else x y ≡ none → x ≡ none
first_none (some n) y e = never n e
first_none none y e = refl

second_none : (x y : Option ℕ) → or_else x y ≡ none → y ≡ none
second_none (some n) y e = never n e
second_none none y e = e

-- ---- a row
-- one number for all entries
record Common (b : ℕ → ℕ) (es : List Entry) : Type 0 where
  block : ℕ
  entries : All (λ (e : Entry). b e.index ≡ block) es

row_none : (b : ℕ → ℕ) (es : List Entry) → row_split b es ≡ none → Common b es
unfolding row_split All
row_none b [] h = record { block = 0; entries = tt }
row_none b (e ∷ es) h = record { block = b e.index; entries = (refl, outside_none b (b e.index) es h) }

row_kept : (b : ℕ → ℕ) (l : ℕ) (es : List Entry) → All (λ (e : Entry). b e.index ≡ l) es → row_split b es ≡ none
unfolding row_split All
row_kept b l [] h = refl
row_kept b l (e ∷ es) h = rw h.0 (outside_kept b l es h.1)

-- the first entry outside a block, and where a row has one
record Outside (b : ℕ → ℕ) (l : ℕ) (es : List Entry) (at : ℕ) : Type 0 where
  inside : List Entry
  outside : Entry
  rest : List Entry
  entries : es ≡ inside ++ (outside ∷ rest)
  same : All (λ (e : Entry). b e.index ≡ l) inside
  differs : b outside.index ≡ l → ⊥
  place : at ≡ outside.place

outside_some : (b : ℕ → ℕ) (l : ℕ) (es : List Entry) (at : ℕ) → first_outside b l es ≡ some at → Outside b l es at
unfolding first_outside All
outside_some b l [] at h = clash (cc)
outside_some b l (e ∷ es) at h = go (eqb (b e.index) l) refl (outside_some b l es at)
  where
    go : (t : Bool) → eqb (b e.index) l ≡ t → (first_outside b l es ≡ some at → Outside b l es at)
        → Outside b l (e ∷ es) at
    go true q f =
        let o = f (rw q at h) in
        record {
          inside = e ∷ o.inside;
          outside = o.outside;
          rest = o.rest;
          entries = ap (λ (r : List Entry). e ∷ r) o.entries;
          same = (eqb-true (b e.index) l q, o.same);
          differs = o.differs;
          place = o.place;
        }
    go false q f = record {
      inside = [];
      outside = e;
      rest = es;
      entries = refl;
      same = tt;
      differs = eqb-false (b e.index) l q;
      place = let k = rw q at h in cc;
    }

record RowSplit (b : ℕ → ℕ) (es : List Entry) (at : ℕ) : Type 0 where
  first : Entry
  later : List Entry
  entries : es ≡ first ∷ later
  outside : Outside b (b first.index) later at

row_some : (b : ℕ → ℕ) (es : List Entry) (at : ℕ) → row_split b es ≡ some at → RowSplit b es at
unfolding row_split
row_some b [] at h = clash (cc)
row_some b (e ∷ es) at h = record { first = e; later = es; entries = refl; outside = outside_some b (b e.index) es at h }

-- ---- the rows: "All entries of a row are in one block"
module _ (p : Problem) where
  -- where refusal 8 finds no place, every row is in one block
  pub split_none : (rs : List Row) → split_place p rs ≡ none → KeepsBlocks p rs
  unfolding split_by All
  split_none [] h = tt
  split_none (r ∷ rs) h =
      let c = row_none (block_of p r.basis) r.entries (first_none _ (split_place p rs) h) in
      (record { block = c.block; entries = c.entries }, split_none rs (second_none (row_split (block_of p r.basis) r.entries) _ h))

  -- and where every row is, it finds none
  pub split_kept : (rs : List Row) → KeepsBlocks p rs → split_place p rs ≡ none
  unfolding split_by All
  split_kept [] h = refl
  split_kept (r ∷ rs) h = rw (row_kept (block_of p r.basis) h.0.block r.entries h.0.entries) (split_kept rs h.1)

  -- where it finds a place, that is the first entry outside its row's first block, in the first such row
  pub split_some : (rs : List Row) (at : ℕ) → split_place p rs ≡ some at → SplitAt p rs at
  unfolding split_by All
  split_some [] at h = clash (cc)
  split_some (r ∷ rs) at h = go (row_split (block_of p r.basis) r.entries) refl h (split_some rs at)
    where
      go : (o : Option ℕ) → row_split (block_of p r.basis) r.entries ≡ o → or_else o (split_place p rs) ≡ some at
          → (split_place p rs ≡ some at → SplitAt p rs at) → SplitAt p (r ∷ rs) at
      go (some x) e h f =
          let k = row_some (block_of p r.basis) r.entries at (e ∙ h) in
          let o = k.outside in
          record {
            before = [];
            row = r;
            after = rs;
            rows = refl;
            kept = tt;
            first = k.first;
            inside = o.inside;
            outside = o.outside;
            rest = o.rest;
            entries = k.entries ∙ ap (λ (l : List Entry). k.first ∷ l) o.entries;
            same = o.same;
            differs = o.differs;
            place = o.place;
          }
      go none e h f =
          let k = f h in
          let c = row_none (block_of p r.basis) r.entries e in
          record {
            before = r ∷ k.before;
            row = k.row;
            after = k.after;
            rows = ap (λ (l : List Row). r ∷ l) k.rows;
            kept = (record { block = c.block; entries = c.entries }, k.kept);
            first = k.first;
            inside = k.inside;
            outside = k.outside;
            rest = k.rest;
            entries = k.entries;
            same = k.same;
            differs = k.differs;
            place = k.place;
          }
