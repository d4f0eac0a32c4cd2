-- Refusal 8: the loop over a row's entries, the walk over the rows, and the bytes as the problem's block numbers.
use mathlib.Core.Path.{◌≡◌, refl, sym, ap, ◌∙◌}
use mathlib.Core.List.{List, [], ◌∷◌}
use mathlib.Core.Option.{Option, none, some}
use Prim.Native.Nat.{ℕ, ◌+◌, ◌*◌, ◌≤◌, ◌<◌}
use native.Mathlib.Numerals.{add-one}
use native.Mathlib.Omega.{arith}
use borrow.Author.Tests.{eq-eqb, ne_eqb}
use lib.ListN.{length, get_or, drop}
use lib.Seq.{drop-cons, drop-length}
use Rattle.counting.proofs.Cases.{clash}
use Rattle.format.specs.Commands.{given}
use Rattle.format.specs.ProblemRules.{Problem}
use Rattle.format.specs.ProblemBases.{basis_of}
use Rattle.format.specs.All.{All}
use Rattle.format.proofs.WithinLimits.{Limits}
use Rattle.joining_rule.specs.Bytes.{block_bytes, block_at}
use Rattle.joining_rule.proofs.Bytes.{byte_at}
use Rattle.joining_rule.proofs.Closing.{closing_shaped}
use Rattle.joining_rule.specs.Rounds.{most_rounds}
use Rattle.joining_rule.specs.Joining.{bases_of, start_set, closing}
use Rattle.format.specs.CertificateRules.{Entry, Row, Certificate, no_row, no_certificate, read_certificate}
use Rattle.certificate_rows.specs.Offsets.{size_at, basis_at, entry_at, row_at, rows_by, EntryStands, EntriesStand, Walkable}
use Rattle.format.proofs.ProblemLimits.{basis_few}
use Rattle.certificate_rows.proofs.Offsets.{stand_low, rows_length, row_by}
use Rattle.certificate_rows.proofs.Steps.{Step, step_of, step_entry, step_long, step_none, walk_sound}
use Rattle.accepting.specs.Identity.{block_of}
use Rattle.accepting.specs.Judgement.{accepted, first_outside, row_split, or_else, split_by, split_place, by_blocks}
use Rattle.format.proofs.All.{all_map}
use Rattle.format.proofs.CertificateLimits.{SoundRow, read_sound}
use Rattle.std.specs.Prelude.{Some, None}
use Rattle.row_blocks.specs.Places.{SplitTold, RowIndexed}

-- ---- the answer and what it tells
pub told_some : (o : Option ℕ) (x : ℕ) → some x ≡ o → SplitTold (Some x) o
told_some o x e = record { tells = λ j. ap (λ (q : Option ℕ). by_blocks q j) e }

pub told_none : (o : Option ℕ) → none ≡ o → SplitTold None o
told_none o e = record { tells = λ j. ap (λ (q : Option ℕ). by_blocks q j) e }

pub place_some : (o : Option ℕ) (x : ℕ) → SplitTold (Some x) o → o ≡ some x
place_some (some y) x h = let e = h.tells (accepted no_certificate) in cc
place_some none x h = let e = h.tells (accepted no_certificate) in clash (cc)

pub place_none : (o : Option ℕ) → SplitTold None o → o ≡ none
place_none (some y) h = let e = h.tells (accepted no_certificate) in clash (cc)
place_none none h = refl

-- ---- the loop over the entries of a row: those from the offset x on give the answer
abbrev answer : List ℕ → List ℕ → ℕ → ℕ → Option ℕ
answer s labels from to = row_split (block_at labels (basis_at s from)) (row_at s from to).entries

pub record Searching (s labels : List ℕ) (from to first x : ℕ) : Type 0 where
  pub row : RowIndexed s from to labels
  pub rest : List Entry
  pub stand : EntriesStand s to x rest
  pub low : All (λ (e : Entry). e.index < 64) rest
  pub same : first_outside (block_at labels (basis_at s from)) first rest ≡ answer s labels from to

module _ {s labels : List ℕ} {from to : ℕ} where
  -- at the row's first entry
  module _ (k : RowIndexed s from to labels) where
    pub row_inside : from + 4 ≤ length s
    row_inside = let r = k.stands in omega (arith, stand_low r.entries, r.inside)

    pub row_none : to ≤ from + 4 → SplitTold None (answer s labels from to)
    unfolding row_split
    row_none h = told_none _ (rw (step_none k.stands.entries h))

    searching_start : from + 4 < to → Searching s labels from to (block_at labels (basis_at s from) (entry_at s (from + 4)).index) (from + 4)
    unfolding row_split first_outside
    searching_start h =
        let t = step_of k.stands.entries h in
        let b = block_at labels (basis_at s from) (entry_at s (from + 4)).index in
        record {
          row = k;
          rest = (row_at s from to).entries;
          stand = k.stands.entries;
          low = k.indices;
          same = rw (t.is, eq-eqb b b refl);
        }

    pub row_first : from + 4 < to → EntryStands s (from + 4)
    row_first h = step_entry (step_of k.stands.entries h) k.stands.inside

  module _ {first x : ℕ} (k : Searching s labels from to first x) where
    pub searching_end : to ≤ x → SplitTold None (answer s labels from to)
    unfolding first_outside
    searching_end h = told_none _ (sym (sym k.same ∙ rw (step_none k.stand h)))

    module _ (h : x < to) where
      abbrev t : Step s to x k.rest
      t = step_of k.stand h

      both : ((entry_at s x).index < 64) × All (λ (e : Entry). e.index < 64) t.others
      unfolding All
      both = rw t.is at k.low

      pub searching_entry : EntryStands s x
      searching_entry = step_entry t k.row.stands.inside

      pub searching_long : 4 ≤ size_at s x
      searching_long = step_long t

      -- where the entry's block number is
      module _ {o : ℕ} (e : o ≡ 64 * basis_at s from + (entry_at s x).index) where
        number_is : block_at labels (basis_at s from) (entry_at s x).index ≡ get_or labels o 0
        number_is = rw e

        pub searching_low : o < length labels
        searching_low = let b = both.0 in let q = k.row.basis in let n = k.row.labels_length in omega arith

        pub searching_found : (get_or labels o 0 ≡ first → ⊥) → SplitTold (Some x) (answer s labels from to)
        unfolding first_outside entry_at
        searching_found d =
            told_some _ _ (sym (sym k.same ∙ rw (t.is, first_outside, ne_eqb (block_at labels (basis_at s from) (entry_at s x).index) first (λ q. d (sym number_is ∙ q)))))

        pub searching_more : get_or labels o 0 ≡ first → {y : ℕ} → y ≡ x + size_at s x → Searching s labels from to first y
        unfolding first_outside
        searching_more d z = rw z (record {
          row = k.row;
          rest = t.others;
          stand = t.stand;
          low = both.1;
          same = (rw (t.is, eq-eqb (block_at labels (basis_at s from) (entry_at s x).index) first (number_is ∙ d)) at k.same);
        })

  -- the first entry's block number
  module _ (k : RowIndexed s from to labels) (h : from + 4 < to) {o : ℕ} (e : o ≡ 64 * basis_at s from + (entry_at s (from + 4)).index) where
    pub row_low : o < length labels
    row_low = searching_low (searching_start k h) h e

    pub row_searched : Searching s labels from to (get_or labels o 0) (from + 4)
    row_searched = rw e (searching_start k h)

-- those of a row's walk that the search applies
pub ruleset searching = (row_inside, row_none, row_low, row_searched, searching_more)

-- ---- the walk over the rows: those from row r on give the answer
pub record Splitting (s starts labels : List ℕ) (rows r : ℕ) : Type 0 where
  pub within : r ≤ rows
  pub same : split_by (block_at labels) (drop r (rows_by s starts rows)) ≡ split_by (block_at labels) (rows_by s starts rows)

-- a row that is reached has its numbers
pub splitting_indexed : {s starts labels : List ℕ} {rows r : ℕ} → Walkable s starts rows → length labels ≡ 576 → r < rows → RowIndexed s (get_or starts r 0) (get_or starts (r + 1) 0) labels
splitting_indexed {s} {starts} {labels} {rows} {r} w l h =
    let q = walk_sound w r h in
    let z = w.rows_sound.limits in
    let b = q.basis in
    let m = z.conditions in
    let f = basis_few w.problem z (basis_at s (get_or starts r 0)) in
    record {
      stands = w.rows_sound.stand.each r h;
      labels_length = l;
      basis = omega arith;
      indices = all_map _ _ (λ (e : Entry) i. omega arith) (row_at s (get_or starts r 0) (get_or starts (r + 1) 0)).entries q.indices;
    }

module _ {s starts labels : List ℕ} {rows r : ℕ} (k : Splitting s starts labels rows r) where
  abbrev all : List Row
  all = rows_by s starts rows

  splitting_end : rows ≤ r → split_by (block_at labels) all ≡ none
  unfolding split_by
  splitting_end h =
      let n = rows_length s starts rows in
      let w = k.within in
      let e : r ≡ length all = omega arith in
      sym k.same ∙ rw (e, drop-length all)

  module _ (h : r < rows) where
    abbrev found : Option ℕ
    found = answer s labels (get_or starts r 0) (get_or starts (r + 1) 0)

    next : or_else found (split_by (block_at labels) (drop (r + 1) all)) ≡ split_by (block_at labels) all
    unfolding split_by
    next =
        let n = rows_length s starts rows in
        ap (λ (m : ℕ). or_else found (split_by (block_at labels) (drop m all))) (add-one r)
        ∙ (rw (drop-cons all r no_row (omega arith), row_by s starts rows r no_row h) at k.same)

    splitting_found : (x : ℕ) → found ≡ some x → split_by (block_at labels) all ≡ some x
    splitting_found x e = sym (rw e at next)

    pub splitting_more : SplitTold None found → Splitting s starts labels rows (r + 1)
    splitting_more e = record { within = omega arith; same = rw (place_none _ e) at next }

-- ---- the bytes are the problem's block numbers
row_same : (b b' : ℕ → ℕ) (es : List Entry) → All (λ (e : Entry). b e.index ≡ b' e.index) es → row_split b es ≡ row_split b' es
unfolding All row_split first_outside
row_same b b' [] h = refl
row_same b b' (e ∷ es) h = rw h.0 (others es h.1)
  where
    others : (es : List Entry) → All (λ (e : Entry). b e.index ≡ b' e.index) es → first_outside b (b' e.index) es ≡ first_outside b' (b' e.index) es
    others [] k = refl
    others (x ∷ es) k = rw (k.0, others es k.1)

module _ (p : Problem) (limits : Limits p) where
  block_is : (j i : ℕ) → j < 9 → i < length (basis_of p j) → block_at (block_bytes (closing p).state.labels) j i ≡ block_of p j i
  unfolding block_of closing
  block_is j i h b =
      let n = (closing_shaped p.rule (most_rounds p.order) (bases_of p) (start_set p)).long j h in
      let z = basis_few p limits j in
      byte_at (closing p).state.labels j i h (omega arith) (omega arith)

  rows_same : (rs : List Row) → All (SoundRow p) rs → split_by (block_at (block_bytes (closing p).state.labels)) rs ≡ split_place p rs
  unfolding split_by All
  rows_same [] f = refl
  rows_same (r ∷ rs) f =
      let c = limits.conditions in
      let b = f.0.basis in
      let e : row_split (block_at (block_bytes (closing p).state.labels) r.basis) r.entries ≡ row_split (block_of p r.basis) r.entries =
      row_same _ _ r.entries (all_map _ _ (λ (e : Entry) l. block_is r.basis e.index (omega arith) l) r.entries f.0.indices) in
      rw (e, rows_same rs f.1)

  -- what the walk decides by the bytes is refusal 8
  pub split_is : (s starts labels : List ℕ) (rows : ℕ) (c : Certificate) → read_certificate p s ≡ given c → c.rows ≡ rows_by s starts rows → labels ≡ block_bytes (closing p).state.labels
      → split_by (block_at labels) (rows_by s starts rows) ≡ split_place p c.rows
  split_is s starts labels rows c e f q = rw (q, ← f) (rows_same c.rows (read_sound p s c e).rows)

  module _ {s starts labels : List ℕ} {rows r : ℕ} (k : Splitting s starts labels rows r) {c : Certificate} (e : read_certificate p s ≡ given c) (f : c.rows ≡ rows_by s starts rows) (q : labels ≡ block_bytes (closing p).state.labels) where
    pub split_found : {x : ℕ} → r < rows → SplitTold (Some x) (answer s labels (get_or starts r 0) (get_or starts (r + 1) 0)) → SplitTold (Some x) (split_place p c.rows)
    split_found {x} h o = told_some _ _ (sym (splitting_found k h x (place_some _ _ o)) ∙ split_is s starts labels rows c e f q)

    pub split_none : rows ≤ r → SplitTold None (split_place p c.rows)
    split_none h = told_none _ (sym (splitting_end k h) ∙ split_is s starts labels rows c e f q)
