-- One basis after another: the sums hold one part of the squares of the rows on the bases so far.
use Rattle.std.proofs.Common.{Option, None, Some}
use mathlib.Core.Path.{◌≡◌, refl, sym, ap, ap₂, ◌∙◌}
use mathlib.Core.Bool.{Bool, false}
use mathlib.Core.List.{List}
use Prim.Native.Nat.{ℕ, zero, suc, ◌+◌, ◌*◌, ◌^◌, ◌≤◌, ◌<◌}
use native.Mathlib.Numerals.{add-one}
use native.Mathlib.Omega.{arith}
use lib.IntN.{ℤ, pos, ◌+ℤ◌, ◌*ℤ◌}
use lib.ListN.{length, get_or, take, drop, replicate, length-replicate}
use Rattle.integers.proofs.Ring.{view, diffs, ⊖-eq}
use Rattle.polynomial.specs.Algebra.{coefficient}
use Rattle.polynomial.proofs.Sums.{coefficient_append}
use Rattle.format.specs.All.{All}
use Rattle.format.specs.ProblemRules.{Problem}
use Rattle.format.specs.ProblemBases.{basis_of}
use Rattle.format.specs.CertificateRules.{Row}
use Rattle.format.proofs.All.{all_map}
use Rattle.accepting.specs.Identity.{squares}
use Rattle.flat.specs.TermArrays.{terms_in}
use Rattle.flat.specs.Flat.{basis_in, FlatLimits}
use Rattle.flat.proofs.Flat.{basis_size, multiplier_size, basis_long, exponents_long, coefficients_long, basis_low, multiplier_low, coefficients_small, terms_part}
use Rattle.certificate_rows.specs.Offsets.{rows_by}
use Rattle.wide_sums.specs.Sums.{step}
use Rattle.row_digits.specs.declared.Part.{Part}
use Rattle.row_digits.specs.declared.Part.TheVariants.{Low, Cross, High}
use Rattle.row_outer.specs.Gram.{rows_on, by_basis}
use Rattle.row_outer.specs.Frame.{spread_at, Framed}
use Rattle.row_outer.specs.Outer.{gathered_most}
use Rattle.row_folding.specs.Fold.{FoldedTable}
use Rattle.row_digits.specs.Digits.{NarrowRow}
use Rattle.row_products.specs.Gather.{RowsFor, Gathered}
use Rattle.row_outer.proofs.Frames.{zeros_empty}
use Rattle.row_outer.proofs.Gram.{squares_bases}
use Rattle.row_products.proofs.Gathering.{gathered_framed, gathered_none}
use Rattle.row_products.proofs.Parts.{gathered_spread, none_spread, squares_parts, narrow_cross_spread, narrow_high_spread}
use Rattle.identity_rows.specs.Spread.{Spreadable, Spread}
use Rattle.identity_rows.specs.Walk.{Comparable, RoomFor, on_basis, on_bases, bases_in, beyond, Alone, Summed}
use Rattle.identity_sums.proofs.Growth.{grown_none, grown_same, grown_then}

-- ---- the parts of the arrays that belong to basis j
module _ {keys : List ℕ} {coefficients : List ℤ} {sizes : List ℕ} (f : FlatLimits keys coefficients sizes) (j : ℕ) (h : j < 9) where
  abbrev count : ℕ
  count = get_or sizes (9 + j) 0

  abbrev exponents : List ℕ
  exponents = take count (drop (576 + 32 * j) keys)

  abbrev factors : List ℤ
  factors = take count (drop (32 * j) coefficients)

  pub part_spreadable : Spreadable (basis_in keys sizes j) exponents factors
  part_spreadable =
      let a = basis_long f j h in
      let b = exponents_long f j (omega arith) in
      let c = coefficients_long f j (omega arith) in
      record {
        basis_few = omega (arith, basis_size f j h);
        basis_low = basis_low f j h;
        paired = omega arith;
        few = omega (arith, multiplier_size f j h);
        low = multiplier_low f j h;
        coefficients_small = coefficients_small f j h;
      }

-- ---- an empty table with room for every basis
pub room_zeros : {sizes : List ℕ} (m : ℕ) → ((j : ℕ) → j < 9 → 64 * get_or sizes j 0 ≤ m) → RoomFor sizes (replicate m (pos 0))
room_zeros m h = record { empty = zeros_empty m; long = λ j b. omega (arith, h j b, length-replicate m (pos 0)) }

-- ---- one basis: what the table of sums gives is one part of the squares of the rows on it
module _ {s starts : List ℕ} {rows : ℕ} {keys : List ℕ} {coefficients : List ℤ} {sizes : List ℕ} (w : Comparable s starts rows keys coefficients sizes) (j : ℕ) (h : j < 9) where
  abbrev limits : FlatLimits keys coefficients sizes
  limits = w.flat.limits

  pub size_is : length (basis_of w.problem j) ≡ get_or sizes j 0
  size_is = rw (← w.flat.bases j h) (basis_long limits j h)

  abbrev pub rows_for : {g : List ℤ} → RoomFor sizes g → RowsFor s starts rows j (length g)
  rows_for r = record { problem = w.problem; rows_sound = w.rows_sound; fits = omega (arith, size_is, r.long j h) }

  module _ {part : Part} {g₀ g₁ : List ℤ} {found : Option Bool} (r : RoomFor sizes g₀) (k : Gathered part (rows_by s starts rows) j g₀ g₁ found) where
    pub part_framed : Framed (length (basis_in keys sizes j)) gathered_most g₁
    part_framed = rw (w.flat.bases j h) (gathered_framed (rows_for r) k)

    -- what was folded and spread
    module _ {g₂ g₃ : List ℤ} (f : FoldedTable (basis_in keys sizes j) g₁ g₂) {table : List ℕ} {n : ℕ} {hi₀ lo₀ hi₁ lo₁ : List ℤ}
        (d : Spread table n (spread_at (basis_in keys sizes j) (terms_in (length (exponents limits j h)) (exponents limits j h) (factors limits j h)) g₂) g₂ hi₀ lo₀ g₃ hi₁ lo₁) where
      pub spread_room : RoomFor sizes g₃
      spread_room = record { empty = d.cleared; long = λ i b. omega (arith, r.long i b, k.long, f.long, d.long) }

      pub rows_summed : Summed (on_basis (rows_by s starts rows) j part) keys coefficients sizes table n 1 hi₀ lo₀ hi₁ lo₁
      rows_summed =
          record {
            sums = spread_at (basis_in keys sizes j) (terms_in (length (exponents limits j h)) (exponents limits j h) (factors limits j h)) g₂;
            grown = grown_same d.grown (λ m. refl) (omega arith);
            are = λ p t m. f.same _ m ∙ rw (t.bases j h, terms_part t j h) (gathered_spread k p m);
          }

  -- without a wide factor the first part is all
  abbrev on : List Row
  on = rows_on j (rows_by s starts rows)

  narrow_alone : All NarrowRow on → Alone (on_basis (rows_by s starts rows) j)
  narrow_alone k = record { cross = λ p m. narrow_cross_spread (rows_by s starts rows) j k p m; high = λ p m. narrow_high_spread (rows_by s starts rows) j k p m }

  pub basis_alone : {part : Part} {g₀ g₁ : List ℤ} {wide : Bool} → Gathered part (rows_by s starts rows) j g₀ g₁ (Some wide) → wide ≡ false
      → Alone (on_basis (rows_by s starts rows) j)
  basis_alone k e = narrow_alone (k.wide e)

  -- without a row there is nothing to add, and the table is as it was
  module _ {part : Part} {g₀ g₁ : List ℤ} (r : RoomFor sizes g₀) (k : Gathered part (rows_by s starts rows) j g₀ g₁ None) where
    pub none_room : RoomFor sizes g₁
    none_room = record { empty = gathered_none k; long = λ i b. omega (arith, r.long i b, k.long) }

    pub none_alone : Alone (on_basis (rows_by s starts rows) j)
    unfolding All
    none_alone = narrow_alone (rw k.wide tt)

    pub none_summed : {table : List ℕ} {n : ℕ} {hi lo : List ℤ} → Summed (on_basis (rows_by s starts rows) j part) keys coefficients sizes table n 1 hi lo hi lo
    none_summed = record { sums = λ _. pos 0; grown = grown_none (λ q b. refl); are = λ p t m. sym (none_spread k p m) }

-- ---- all bases
module _ (rs : List Row) where
  pub alone_start : Alone (on_bases rs 0)
  unfolding on_bases
  alone_start = record { cross = λ p k. refl; high = λ p k. refl }

  pub alone_more : (j : ℕ) → Alone (on_bases rs j) → Alone (on_basis rs j) → Alone (on_bases rs (j + 1))
  unfolding on_bases
  alone_more j a b = rw (add-one j) record { cross = λ p k. ap₂ ◌+ℤ◌ (a.cross p k) (b.cross p k); high = λ p k. ap₂ ◌+ℤ◌ (a.high p k) (b.high p k) }

module _ (rs : List Row) (part : Part) {keys : List ℕ} {coefficients : List ℤ} {sizes table : List ℕ} {n : ℕ} {hi₀ lo₀ : List ℤ} where
  pub walked_start : Summed (on_bases rs 0 part) keys coefficients sizes table n 0 hi₀ lo₀ hi₀ lo₀
  unfolding on_bases
  walked_start = record { sums = λ k. pos 0; grown = grown_none (λ q b. refl); are = λ p t k. refl }

  module _ {j : ℕ} {hi₁ lo₁ : List ℤ} (w : Summed (on_bases rs j part) keys coefficients sizes table n j hi₀ lo₀ hi₁ lo₁) where
    pub walked_more : {hi₂ lo₂ : List ℤ} → Summed (on_basis rs j part) keys coefficients sizes table n 1 hi₁ lo₁ hi₂ lo₂
        → Summed (on_bases rs (j + 1) part) keys coefficients sizes table n (j + 1) hi₀ lo₀ hi₂ lo₂
    unfolding on_bases
    walked_more d =
        rw (add-one j)
        record {
          sums = λ k. w.sums k +ℤ d.sums k;
          grown = grown_then w.grown d.grown (λ k. refl) (omega arith);
          are = λ p t k. ap₂ ◌+ℤ◌ (w.are p t k) (d.are p t k);
        }

    pub walked_end : j ≤ 9 → j ≡ bases_in sizes → Summed (on_bases rs (bases_in sizes) part) keys coefficients sizes table n 9 hi₀ lo₀ hi₁ lo₁
    walked_end l e =
        record {
          sums = w.sums;
          grown = grown_same w.grown (λ k. refl) (omega arith);
          are = λ p t k. w.are p t k ∙ ap (λ (m : ℕ). on_bases rs m part p k) e;
        }

-- ---- all parts
plus : (a b c a' b' c' : ℤ)
    → a +ℤ pos step *ℤ (b +ℤ pos step *ℤ c) +ℤ (a' +ℤ pos (2 ^ 16) *ℤ b' +ℤ pos (2 ^ 32) *ℤ c') ≡ (a +ℤ a') +ℤ pos step *ℤ ((b +ℤ b') +ℤ pos step *ℤ (c +ℤ c'))
plus a b c a' b' c' = rw ((view a).eq, (view b).eq, (view c).eq, (view a').eq, (view b').eq, (view c').eq) (simp diffs (⊖-eq _ _ _ _ (omega arith)))

module _ {s starts : List ℕ} {rows : ℕ} {keys : List ℕ} {coefficients : List ℤ} {sizes : List ℕ} (w : Comparable s starts rows keys coefficients sizes) (p : Problem) (k : ℕ) where
  abbrev rs : List Row
  rs = rows_by s starts rows

  rows_of : (j : ℕ) → RowsFor s starts rows j (64 * length (basis_of w.problem j))
  rows_of j = record { problem = w.problem; rows_sound = w.rows_sound; fits = omega arith }

  bases_parts : (n : ℕ) → coefficient k (by_basis p rs n) ≡ on_bases rs n Low p k +ℤ pos step *ℤ beyond rs n p k
  unfolding by_basis on_bases
  bases_parts zero = unfold coefficient in refl
  bases_parts (suc j) =
      coefficient_append k (by_basis p rs j) (squares p (rows_on j rs))
      ∙ ap₂ ◌+ℤ◌ (bases_parts j) (squares_parts (rows_of j) p k)
      ∙ plus (on_bases rs j Low p k) (on_bases rs j Cross p k) (on_bases rs j High p k) (on_basis rs j Low p k) (on_basis rs j Cross p k) (on_basis rs j High p k)

  -- no row is on a basis behind those of the conditions
  pub squares_are : coefficient k (squares p rs) ≡ on_bases rs (bases_in sizes) Low p k +ℤ pos step *ℤ beyond rs (bases_in sizes) p k
  squares_are =
      let on : All (λ (r : Row). r.basis < bases_in sizes) rs = all_map _ _ (λ (r : Row) b. omega (arith, b.basis, w.flat.conditions)) rs w.rows_sound.sound in
      squares_bases p rs (bases_in sizes) on k ∙ bases_parts (bases_in sizes)
