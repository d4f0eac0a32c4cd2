-- The walk over the rows for one basis: the table of sums holds one part of the products of the rows on the basis so far.
use Rattle.std.proofs.Common.{Option, None, Some, MatchOption, unwrap_or, ◌||◌}
use mathlib.Core.Path.{◌≡◌, refl, sym, ap, ◌∙◌}
use mathlib.Core.Bool.{Bool, true, false, cond}
use mathlib.Core.List.{List, [], ◌∷◌, ◌++◌, append_assoc, append-nil}
use mathlib.Core.Logic.{⊎_elim}
use Prim.Native.Nat.{ℕ, zero, suc, ◌+◌, ◌*◌, ◌^◌, ◌≤◌, ◌<◌}
use native.Mathlib.Nat.{eq-or-lt_of_le}
use native.Mathlib.Numerals.{add-one}
use native.Mathlib.Omega.{arith}
use borrow.Author.Tests.{eq-eqb, ne_eqb}
use lib.Dec.{eqb}
use lib.IntN.{ℤ, pos, nat_abs, ◌+ℤ◌, +ℤ_comm, +ℤ_assoc}
use lib.ListN.{length, get_or, set, take, length-append, length-set}
use lib.Seq.{take-suc, take_all}
use Rattle.integers.proofs.Ranges.{abs_sum}
use Rattle.counting.specs.Counting.{listed, Bounded}
use Rattle.counting.proofs.Cases.{clash}
use Rattle.counting.proofs.Listed.{listed_at}
use Rattle.polynomial.specs.Terms.{Term, term}
use Rattle.flat.specs.TermArrays.{terms_in}
use Rattle.flat.proofs.TermArrays.{terms_more}
use Rattle.format.specs.Operands.{number, signed}
use Rattle.format.specs.All.{All}
use Rattle.format.specs.ProblemRules.{Problem}
use Rattle.format.specs.ProblemBases.{basis_of}
use Rattle.format.specs.CertificateRules.{Entry, Row, no_row, most_rows}
use Rattle.format.proofs.All.{all_map}
use Rattle.format.proofs.Numbers.{number_low, signed_small}
use Rattle.format.proofs.CertificateLimits.{IndicesRise, all_within}
use Rattle.certificate_rows.specs.Offsets.{size_at, entry_at, basis_at, weight_at, row_at, rows_by, EntriesStand, done, more, SoundRows}
use Rattle.format.proofs.ProblemLimits.{basis_few}
use Rattle.certificate_rows.proofs.Steps.{Step, step_of, step_none, factor_small, width_most, walk_sound}
use Rattle.accepting.proofs.Reach.{all_both}
use Rattle.row_digits.specs.declared.Part.{Part}
use Rattle.row_digits.specs.declared.Part.TheVariants as P
use Rattle.row_outer.specs.Gram.{factor_terms, rows_on}
use Rattle.row_outer.specs.Frame.{Empty, Below, Framed}
use Rattle.row_outer.specs.Outer.{weight_most, factor_most, digit_most, outer_unit, row_unit, gathered_most, HasRow, Entries, HoldsEntries, Raised, above, outer_at}
use Rattle.row_digits.specs.Digits.{high_digit, low_digit, Narrow, NarrowRow, part_of, part_at, parts, HoldsDigits}
use Rattle.row_products.specs.Gather.{RowsFor, LowRow, RowHeld, PartAdded, RowAdded, Gathered}
use Rattle.row_outer.proofs.Gram.{factors_low, rows_on_lem, rows_all}
use Rattle.row_outer.proofs.Outers.{above_other, above_never, outer_at_bound, raised_none, raised_then, raised_below}
use Rattle.row_digits.proofs.Digits.{low_small, high_small, Upper, upper_none, part_none, all_append, held_digits, held_narrow}

-- ---- a row in arrays, as the table of sums takes it
abbrev no_entry : Entry
no_entry = record { index = 0; factor = pos 0; place = 0 }

factors_append : (es fs : List Entry) → factor_terms (es ++ fs) ≡ factor_terms es ++ factor_terms fs
factors_append [] fs = refl
factors_append (e ∷ es) fs = rw (factors_append es fs)

-- entry k of some entries
factors_at : (es : List Entry) (k : ℕ) (d : Entry) (t : Term) → k < length es → get_or (factor_terms es) k t ≡ term (get_or es k d).index (get_or es k d).factor
factors_at [] k d t h = absurd (omega arith)
factors_at (e ∷ es) zero d t h = refl
factors_at (e ∷ es) (suc k) d t h = factors_at es k d t (omega arith)

rising_next : (es : List Entry) (d : Entry) → IndicesRise es → (k : ℕ) → suc k < length es → (get_or es k d).index < (get_or es (suc k) d).index
unfolding IndicesRise
rising_next [] d r k h = absurd (omega arith)
rising_next (e ∷ []) d r k h = absurd (omega arith)
rising_next (e ∷ f ∷ es) d r zero h = r.0
rising_next (e ∷ f ∷ es) d r (suc k) h = rising_next (f ∷ es) d r.1 k (omega arith)

rising_any : (es : List Entry) (d : Entry) → IndicesRise es → (i k : ℕ) → i < k → k < length es → (get_or es i d).index < (get_or es k d).index
rising_any es d r i zero a b = absurd (omega arith)
rising_any es d r i (suc k) a b =
    let n = rising_next es d r k b in
    ⊎_elim (λ e. rw e n) (λ l. omega (arith, rising_any es d r i k l (omega arith))) (eq-or-lt_of_le {n = i} {m = k} (omega arith))

pub rows_low : (room : ℕ) (es : List Entry) → All (λ (e : Entry). HasRow room e.index) es → All (λ (e : Entry). e.index < 64) es
rows_low room es h = all_map _ _ (λ (e : Entry) b. b.0) es h

-- rising indices below 64 are at most 64
rising_above : (es : List Entry) (d : Entry) → IndicesRise es → (k : ℕ) → k < length es → k ≤ (get_or es k d).index
rising_above es d r zero h = omega arith
rising_above es d r (suc k) h = omega (arith, rising_next es d r k h, rising_above es d r k (omega arith))

pub rising_few : (es : List Entry) → IndicesRise es → All (λ (e : Entry). e.index < 64) es → length es ≤ 64
rising_few es r low = go (length es) refl
  where
    go : (n : ℕ) → length es ≡ n → n ≤ 64
    go zero h = omega arith
    go (suc k) h =
        omega (arith, rising_above es no_entry r k (omega arith), all_within (λ (e : Entry). e.index < 64) es k no_entry (omega arith) low)

-- ---- how large the factors and the weight of a row are
module _ (s : List ℕ) (bytes : Bounded 255 s) where
  stand_small : {to at : ℕ} {es : List Entry} → EntriesStand s to at es → All (λ (e : Entry). nat_abs e.factor ≤ factor_most) es
  unfolding All
  stand_small done = tt
  stand_small (more {at} e w) = (omega (arith, factor_small s bytes at, width_most e), stand_small w)

  -- a weight, with a sign or without
  pub weight_small : (at : ℕ) → nat_abs (weight_at s at) ≤ weight_most
  weight_small at = go (eqb (get_or s at 0) 0x14)
    where
      n : ℕ
      n = number 2 s (at + 2)

      low : n < 256 ^ 2
      low = number_low s bytes 2 (at + 2)

      go : (b : Bool) → nat_abs (cond b (signed 15 n) (pos n)) ≤ weight_most
      go true = omega (arith, signed_small 15 n low)
      go false = omega (arith, low)

-- the entries of a row that keeps its limits, in arrays
module _ (es : List Entry) (indices : List ℕ) (factors : List ℤ) (count room : ℕ) (q : HoldsEntries es indices factors count)
    (rise : IndicesRise es) (inside : All (λ (e : Entry). HasRow room e.index) es) (small : All (λ (e : Entry). nat_abs e.factor ≤ factor_most) es) where
  entry_held : (k : ℕ) → k < count → term (get_or indices k 0) (get_or factors k (pos 0)) ≡ term (get_or es k no_entry).index (get_or es k no_entry).factor
  unfolding terms_in
  entry_held k b =
      sym (listed_at count (λ i. term (get_or indices i 0) (get_or factors i (pos 0))) k (term 0 (pos 0)) b)
      ∙ ap (λ (l : List Term). get_or l k (term 0 (pos 0))) q.terms
      ∙ factors_at es k no_entry (term 0 (pos 0)) (omega (arith, q.count_is))

  index_held : (k : ℕ) → k < count → get_or indices k 0 ≡ (get_or es k no_entry).index
  index_held k b = ap (λ (t : Term). t.key) (entry_held k b)

  row_entries : Entries factor_most indices factors count room
  row_entries =
      let n = q.count_is in
      record {
        few = omega (arith, rising_few es rise (rows_low room es inside));
        inside = λ k b. rw (index_held k b) (all_within (λ (e : Entry). HasRow room e.index) es k no_entry (omega arith) inside);
        rising = λ i k a b. rw (index_held i (omega arith), index_held k b) (rising_any es no_entry rise i k a (omega arith));
        factors_small = λ k b.
            rw (ap (λ (t : Term). t.coefficient) (entry_held k b)) (all_within (λ (e : Entry). nat_abs e.factor ≤ factor_most) es k no_entry (omega arith) small);
      }

-- ---- a row's entries with a digit of each, and what is added for them
digit_entries : {indices : List ℕ} {factors held : List ℤ} {count room : ℕ} {wide : Bool} {d : ℤ → ℤ} → Entries factor_most indices factors count room
    → HoldsDigits d factors count held wide → ((l : ℤ) → nat_abs l ≤ factor_most → nat_abs (d l) ≤ digit_most) → Entries digit_most indices held count room
digit_entries e q small =
    record { few = e.few; inside = e.inside; rising = e.rising; factors_small = λ k b. rw (q.there k b) (small _ (e.factors_small k b)) }

module _ {indices : List ℕ} {factors : List ℤ} {count : ℕ} {w : ℤ} {g : List ℤ} (h : RowHeld indices factors count w g) where
  abbrev F : List Term
  F = terms_in count indices factors

  abbrev room : ℕ
  room = length g

  pub low_digit_entries : {lows : List ℤ} {wide : Bool} → HoldsDigits low_digit factors count lows wide → Entries digit_most indices lows count room
  low_digit_entries q = digit_entries h.entries q (λ l b. low_small l)

  pub high_digit_entries : {highs : List ℤ} {wide : Bool} → HoldsDigits high_digit factors count highs wide → Entries digit_most indices highs count room
  high_digit_entries q = digit_entries h.entries q high_small

  -- without a wide factor the parts with upper digits have nothing to add
  pub not_added : {part : Part} → Upper part → Narrow F → PartAdded part w F g g false
  not_added u n = record { raised = raised_none (λ x. upper_none w x F n u); small = λ x. rw (upper_none w x F n u) (omega arith); narrow = λ e. n }

  module _ {lows : List ℤ} {a : Bool} (l : HoldsDigits low_digit factors count lows a) where
    pub low_added : {g₁ : List ℤ} → Raised g (outer_at w (terms_in count indices lows) (terms_in count indices lows)) g₁ → PartAdded P.Low w F g g₁ a
    unfolding part_of
    low_added r =
        record {
          raised = rw (held_digits l indices) at r;
          small = λ x. rw (← held_digits l indices) (omega (arith, outer_at_bound (low_digit_entries l) (low_digit_entries l) w h.weight_small x));
          narrow = held_narrow l indices;
        }

    module _ {highs : List ℤ} {b : Bool} (u : HoldsDigits high_digit factors count highs b) where
      -- there is room for the second half of them
      pub cross_below : {g₁ : List ℤ} → Raised g (outer_at w (terms_in count indices lows) (terms_in count indices highs)) g₁ → Below (gathered_most + outer_unit) g₁
      cross_below r = raised_below gathered_most outer_unit r h.below (outer_at_bound (low_digit_entries l) (high_digit_entries u) w h.weight_small)

      pub cross_added : {g₁ g₂ : List ℤ} → Raised g (outer_at w (terms_in count indices lows) (terms_in count indices highs)) g₁
          → Raised g₁ (outer_at w (terms_in count indices highs) (terms_in count indices lows)) g₂ → PartAdded P.Cross w F g g₂ true
      unfolding part_of
      cross_added r k =
          record {
            raised = rw (held_digits l indices, held_digits u indices) at (raised_then r k);
            small = λ x.
                rw (← held_digits l indices, ← held_digits u indices)
                (omega (
                  arith,
                  abs_sum (outer_at w (terms_in count indices lows) (terms_in count indices highs) x) (outer_at w (terms_in count indices highs) (terms_in count indices lows) x),
                  outer_at_bound (low_digit_entries l) (high_digit_entries u) w h.weight_small x,
                  outer_at_bound (high_digit_entries u) (low_digit_entries l) w h.weight_small x,
                ));
            narrow = λ e. clash (cc);
          }

  pub high_added : {highs : List ℤ} {b : Bool} → HoldsDigits high_digit factors count highs b → {g₁ : List ℤ}
      → Raised g (outer_at w (terms_in count indices highs) (terms_in count indices highs)) g₁ → PartAdded P.High w F g g₁ true
  unfolding part_of
  high_added u r =
      record {
        raised = rw (held_digits u indices) at r;
        small = λ x. rw (← held_digits u indices) (omega (arith, outer_at_bound (high_digit_entries u) (high_digit_entries u) w h.weight_small x));
        narrow = λ e. clash (cc);
      }

-- ---- rows with low indices
abbrev Low : ℕ → Row → Type 0
Low m r = All (λ (e : Entry). e.index < m) r.entries

-- where no two indices below m have the place, no part of their products is there
parts_none : (part : Part) (m x : ℕ) → ((i k : ℕ) → i < m → k < m → above x i k ≡ pos 0) → (rs : List Row) → All (Low m) rs → parts part rs x ≡ pos 0
unfolding parts All
parts_none part m x z [] h = refl
parts_none part m x z (r ∷ rs) h =
    rw (part_none r.weight x (λ i. i < m) z part (factor_terms r.entries) (factors_low m r.entries h.0), parts_none part m x z rs h.1)

-- ---- the rows of a stream keep the limits
module _ {p : Problem} {s starts : List ℕ} {rows : ℕ} (w : SoundRows p s starts rows) where
  abbrev all : List Row
  all = rows_by s starts rows

  pub on_bases_lem : All (λ (r : Row). r.basis < 9) all
  on_bases_lem = all_map _ _ (λ (r : Row) q. omega (arith, q.basis, w.limits.conditions)) all w.sound

  -- those on basis j have its indices
  pub on_low : (j : ℕ) → All (Low (length (basis_of p j))) (rows_on j all)
  on_low j = all_both _ _ _ (λ (r : Row) e q. rw e at q.indices) (rows_on j all) (rows_on_lem j all) (rows_all _ j all w.sound)

-- ---- the rows on basis j, with one more row at the end
on_more : (j : ℕ) (rs : List Row) (r : Row) → r.basis ≡ j → rows_on j (rs ++ (r ∷ [])) ≡ rows_on j rs ++ (r ∷ [])
unfolding rows_on
on_more j [] r e = rw (eq-eqb r.basis j e)
on_more j (x ∷ rs) r e = rw (on_more j rs r e) (go (eqb x.basis j))
  where
    go : (b : Bool) → cond b (x ∷ rows_on j rs ++ (r ∷ [])) (rows_on j rs ++ (r ∷ [])) ≡ cond b (x ∷ rows_on j rs) (rows_on j rs) ++ (r ∷ [])
    go true = refl
    go false = refl

on_other : (j : ℕ) (rs : List Row) (r : Row) → (r.basis ≡ j → ⊥) → rows_on j (rs ++ (r ∷ [])) ≡ rows_on j rs
unfolding rows_on
on_other j [] r f = rw (ne_eqb r.basis j f)
on_other j (x ∷ rs) r f = rw (on_other j rs r f)

-- one row more at the end
parts_more : (part : Part) (rs : List Row) (r : Row) (x : ℕ) → parts part (rs ++ (r ∷ [])) x ≡ parts part rs x +ℤ part_at part r x
unfolding parts
parts_more part [] r x = +ℤ_comm (part_at part r x) (pos 0)
parts_more part (q ∷ rs) r x = rw (parts_more part rs r x) (sym (+ℤ_assoc (part_at part q x) (parts part rs x) (part_at part r x)))

-- ---- the walk for basis j: the table of sums holds one part of the products of the first t rows
pub record Gathering (part : Part) (rs : List Row) (j t : ℕ) (g₀ g₁ : List ℤ) (found : Option Bool) : Type 0 where
  pub holds : (x : ℕ) → get_or g₁ x (pos 0) ≡ parts part (rows_on j (take t rs)) x
  pub below : Below (t * row_unit) g₁
  pub long : length g₁ ≡ length g₀
  pub wide : MatchOption found (rows_on j (take t rs) ≡ []) (λ w. w ≡ false → All NarrowRow (rows_on j (take t rs)))

pub gathering_start : {part : Part} {rs : List Row} {j : ℕ} {g : List ℤ} → Empty g → Gathering part rs j 0 g g None
unfolding parts rows_on
gathering_start {g = g} z = record { holds = z; below = λ x. omega (arith, ap nat_abs (z x)); long = refl; wide = refl }

neither : (a : Bool) {b : Bool} → a || b ≡ false → (a ≡ false) × (b ≡ false)
neither true e = clash (cc)
neither false e = (refl, e)

-- no row so far has a wide factor
narrow_so_far : {P Q : Type 0} (found : Option Bool) → MatchOption found P (λ w. w ≡ false → Q) → (P → Q) → unwrap_or found false ≡ false → Q
narrow_so_far None h f e = f h
narrow_so_far (Some w) h f e = h e

module _ {part : Part} {rs : List Row} {j t : ℕ} {g₀ g : List ℤ} {found : Option Bool} (w : Gathering part rs j t g₀ g found) where
  pub gathering_small : t ≤ most_rows → Below gathered_most g
  gathering_small n x = omega (arith, w.below x)

  pub gathering_end : length rs ≤ most_rows → length rs ≡ t → Gathered part rs j g₀ g found
  gathering_end n f =
      let e : rows_on j (take t rs) ≡ rows_on j rs = ap (rows_on j) (take_all t rs (omega arith)) in
      record {
        holds = λ x. w.holds x ∙ ap (λ (l : List Row). parts part l x) e;
        small = gathering_small (omega arith);
        long = w.long;
        wide = rw e at w.wide;
      }

  -- one row more
  module _ (h : t < length rs) (r : Row) (is : get_or rs t no_row ≡ r) where
    taken : take (t + 1) rs ≡ take t rs ++ (r ∷ [])
    taken = rw (add-one t, take-suc rs t no_row h, is)

    pub gathering_other : (r.basis ≡ j → ⊥) → Gathering part rs j (t + 1) g₀ g found
    gathering_other f =
        let e : rows_on j (take (t + 1) rs) ≡ rows_on j (take t rs) = ap (rows_on j) taken ∙ on_other j (take t rs) r f in
        record {
          holds = λ x. w.holds x ∙ ap (λ (l : List Row). parts part l x) (sym e);
          below = λ x. omega (arith, w.below x);
          long = w.long;
          wide = rw e w.wide;
        }

    pub gathering_row : {g₂ : List ℤ} → {b : Bool} → r.basis ≡ j → RowAdded part r g g₂ b → Gathering part rs j (t + 1) g₀ g₂ (Some (b || unwrap_or found false))
    unfolding All
    gathering_row {b = b} on a =
        let e : rows_on j (take (t + 1) rs) ≡ rows_on j (take t rs) ++ (r ∷ []) = ap (rows_on j) taken ∙ on_more j (take t rs) r on in
        let d = a.raised in
        record {
          holds = λ x.
              d.there x
              ∙ ap (λ (z : ℤ). z +ℤ part_at part r x) (w.holds x)
              ∙ sym (parts_more part (rows_on j (take t rs)) r x)
              ∙ ap (λ (l : List Row). parts part l x) (sym e);
          below = λ x.
              let v = ap nat_abs (d.there x) in
              omega (arith, abs_sum (get_or g x (pos 0)) (part_at part r x), w.below x, a.small x);
          long = d.long ∙ w.long;
          wide = λ n.
              let q : All NarrowRow (rows_on j (take t rs)) = narrow_so_far found w.wide (λ z. rw z tt) (neither b n).1 in
              rw e (all_append NarrowRow (rows_on j (take t rs)) (r ∷ []) q (a.narrow (neither b n).0, tt));
        }

-- ---- what the walk gives: the table is within the frame of the basis
module _ {part : Part} {s starts : List ℕ} {rows j : ℕ} {g₀ g : List ℤ} {found : Option Bool} (w : RowsFor s starts rows j (length g₀))
    (k : Gathered part (rows_by s starts rows) j g₀ g found) where
  abbrev size : ℕ
  size = length (basis_of w.problem j)

  few : size ≤ 64
  few = basis_few w.problem w.rows_sound.limits j

  elsewhere : (x : ℕ) → ((i i' : ℕ) → i < size → i' < size → above x i i' ≡ pos 0) → get_or g x (pos 0) ≡ pos 0
  elsewhere x z = k.holds x ∙ parts_none part size x z (rows_on j (rows_by s starts rows)) (on_low w.rows_sound j)

  pub gathered_framed : Framed size gathered_most g
  gathered_framed =
      record {
        long = omega (arith, w.fits, k.long);
        columns = λ x h. elsewhere x (λ i i' a b. above_other x i i' (λ e. omega (arith, few)));
        lower = λ x h. elsewhere x (λ i i' a b. above_never x i i' (omega (arith, few)) h);
        small = k.small;
      }

-- without a row on basis j it stays empty
pub gathered_none : {part : Part} {rs : List Row} {j : ℕ} {g₀ g : List ℤ} → Gathered part rs j g₀ g None → Empty g
unfolding parts
gathered_none {part} k x = k.holds x ∙ ap (λ (l : List Row). parts part l x) k.wide

-- ---- a row that keeps its limits, in arrays
module _ {s : List ℕ} {from to room : ℕ} (bytes : Bounded 255 s) (k : LowRow s from to room) where
  abbrev row : Row
  row = row_at s from to

  pub low_few : length row.entries ≤ 64
  low_few = rising_few row.entries k.rising (rows_low room row.entries k.inside)

  pub row_held : {indices : List ℕ} {factors : List ℤ} {count : ℕ} {g : List ℤ} → HoldsEntries row.entries indices factors count → length g ≡ room → Below gathered_most g
      → RowHeld indices factors count row.weight g
  row_held {indices} {factors} {count} q e b =
      record {
        entries = rw e (row_entries row.entries indices factors count room q k.rising k.inside (stand_small s bytes k.stands.entries));
        factors_length = q.factors_length;
        weight_small = weight_small s bytes from;
        below = b;
      }

-- what is added for the arrays is added for the row that they hold
pub added_same : {part part' : Part} {w w' : ℤ} {F F' : List Term} {g₀ g₁ : List ℤ} {wide : Bool} → PartAdded part w F g₀ g₁ wide → part' ≡ part → w ≡ w' → F ≡ F'
    → PartAdded part' w' F' g₀ g₁ wide
added_same a p q r = rw (p, ← q, ← r) a

-- a row on basis j that is walked
pub walked_low : {s starts : List ℕ} {rows j room : ℕ} → RowsFor s starts rows j room → (t : ℕ) → t < rows → basis_at s (get_or starts t 0) ≡ j
    → LowRow s (get_or starts t 0) (get_or starts (t + 1) 0) room
walked_low {s} {starts} {rows} w t h e =
    let r = row_at s (get_or starts t 0) (get_or starts (t + 1) 0) in
    let q = walk_sound (record { problem = w.problem; rows_sound = w.rows_sound }) t h in
    record {
      stands = w.rows_sound.stand.each t h;
      rising = q.rising;
      inside = all_map _ _ (λ (i : Entry) b. omega (arith, basis_few w.problem w.rows_sound.limits r.basis, w.fits, ap (λ (j : ℕ). length (basis_of w.problem j)) e)) r.entries q.indices;
    }

-- ---- the loop of `read_row`: the arrays hold the entries before the offset x, and the others stand from there on
pub record Filling (s : List ℕ) (to : ℕ) (es : List Entry) (indices : List ℕ) (factors : List ℤ) (n x : ℕ) : Type 0 where
  pub before : List Entry
  pub rest : List Entry
  pub all_are : before ++ rest ≡ es
  pub stand : EntriesStand s to x rest
  pub held : HoldsEntries before indices factors n

module _ {s : List ℕ} {to : ℕ} {es : List Entry} {indices : List ℕ} {factors : List ℤ} where
  pub filling_start : {x : ℕ} → EntriesStand s to x es → length indices ≡ 64 → length factors ≡ 64 → Filling s to es indices factors 0 x
  unfolding terms_in listed
  filling_start w a b =
      record { before = []; rest = es; all_are = refl; stand = w; held = record { indices_length = a; factors_length = b; count_is = refl; terms = refl } }

  module _ {n x : ℕ} (k : Filling s to es indices factors n x) where
    pub filling_end : to ≤ x → HoldsEntries es indices factors n
    filling_end h =
        let e : k.before ≡ es = sym (append-nil k.before) ∙ ap (λ (l : List Entry). k.before ++ l) (sym (step_none k.stand h)) ∙ k.all_are in
        rw e at k.held

    module _ (h : x < to) where
      abbrev step : Step s to x k.rest
      step = step_of k.stand h

      pub filling_few : length es ≤ 64 → n < 64
      filling_few f =
          let a = ap length k.all_are in
          let b = length-append k.before k.rest in
          let c = ap length step.is in
          let d = k.held.count_is in
          omega arith

      pub filling_more : length es ≤ 64 → Filling s to es (set indices n (entry_at s x).index) (set factors n (entry_at s x).factor) (n + 1) (x + size_at s x)
      filling_more f =
          let l = filling_few f in
          let i = k.held.indices_length in
          let j = k.held.factors_length in
          let d = k.held.count_is in
          record {
            before = k.before ++ (entry_at s x ∷ []);
            rest = step.others;
            all_are = append_assoc k.before (entry_at s x ∷ []) step.others ∙ (rw step.is at k.all_are);
            stand = step.stand;
            held = record {
              indices_length = length-set indices n _ ∙ i;
              factors_length = length-set factors n _ ∙ j;
              count_is = rw (length-append k.before) (omega arith);
              terms =
                  terms_more n indices factors (entry_at s x).index (entry_at s x).factor (omega arith) (omega arith)
                  ∙ rw k.held.terms (sym (factors_append k.before (entry_at s x ∷ [])));
            };
          }
