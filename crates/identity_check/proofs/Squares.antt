-- All parts of the squares, one after another: what is known of the whole sums.
use Rattle.std.proofs.Common.{Option, None}
use mathlib.Core.Path.{◌≡◌, refl, sym, ap, ◌∙◌}
use mathlib.Core.List.{List}
use Prim.Native.Nat.{ℕ, ◌+◌, ◌^◌, ◌≤◌, ◌<◌}
use native.Mathlib.Omega.{arith}
use lib.IntN.{ℤ, pos, ◌+ℤ◌, ◌*ℤ◌, +ℤ_assoc}
use lib.ListN.{get_or}
use Rattle.integers.proofs.Ring.{view, diffs, ⊖-eq}
use Rattle.polynomial.specs.Algebra.{coefficient}
use Rattle.format.specs.ProblemRules.{Problem}
use Rattle.format.specs.CertificateRules.{Row}
use Rattle.accepting.specs.Identity.{squares}
use Rattle.flat.specs.Flat.{FlatProblem}
use Rattle.certificate_rows.specs.Offsets.{rows_by}
use Rattle.wide_sums.specs.Sums.{step, value_at}
use Rattle.wide_sums.proofs.Tables.{shrunk_room}
use Rattle.row_digits.specs.declared.Part.TheVariants.{Low, Cross, High}
use Rattle.identity_sums.specs.Tables.{Ready}
use Rattle.identity_rows.specs.Walk.{Comparable, on_bases, bases_in, beyond, Alone, Summed}
use Rattle.identity_check.specs.Compare.{DividedSums, Reached, Carried}
use Rattle.identity_rows.proofs.Walks.{squares_are}
use Rattle.identity_check.proofs.Carries.{reached_start, reached_same, reached_of, reached_divided}
use Rattle.identity_check.proofs.Untouched.{near_untouched, shrunk_untouched, untouched_then}

-- after a division there is room again
pub divided_ready : {table idx : List ℕ} {n c : ℕ} {found r : Option ℕ} {hi₀ lo₀ hi₁ lo₁ : List ℤ} → Ready table idx n hi₀ lo₀ c
    → DividedSums table n found hi₀ lo₀ hi₁ lo₁ r → (d : ℕ) → d ≤ 2 ^ 62 + 2 ^ 61 → Ready table idx n hi₁ lo₁ d
divided_ready r h d l =
    record {
      support = r.support;
      index = r.index;
      high = shrunk_room h.high r.high.long (omega arith);
      low = shrunk_room h.low r.low.long (omega arith);
    }

module _ {keys : List ℕ} {coefficients : List ℤ} {sizes table : List ℕ} {n : ℕ} where
  -- the sum at a place, for the problem that the arrays hold
  summed_there : {f : Problem → ℕ → ℤ} {c : ℕ} {hi₀ lo₀ hi₁ lo₁ : List ℤ} → Summed f keys coefficients sizes table n c hi₀ lo₀ hi₁ lo₁
      → (p : Problem) → FlatProblem p keys coefficients sizes → (q : ℕ) → q < n → value_at hi₁ lo₁ q ≡ value_at hi₀ lo₀ q +ℤ f p (get_or table q 0)
  summed_there {hi₀ = hi₀} {lo₀ = lo₀} m p t q b = m.grown.there q b ∙ ap (λ (z : ℤ). value_at hi₀ lo₀ q +ℤ z) (m.are p t (get_or table q 0))

  -- ---- the parts that only wide factors have
  module _ (rs : List Row) {hi₀ lo₀ hi₁ lo₁ hi₂ lo₂ hi₃ lo₃ hi₄ lo₄ : List ℤ} {first second : Option ℕ} (few : n ≤ 2048)
      (d : DividedSums table n None hi₀ lo₀ hi₁ lo₁ first) (c : Summed (on_bases rs (bases_in sizes) Cross) keys coefficients sizes table n 9 hi₁ lo₁ hi₂ lo₂)
      (e : DividedSums table n first hi₂ lo₂ hi₃ lo₃ second) (h : Summed (on_bases rs (bases_in sizes) High) keys coefficients sizes table n 9 hi₃ lo₃ hi₄ lo₄) where
    module _ (p : Problem) (t : FlatProblem p keys coefficients sizes) where
      abbrev high_part : ℕ → ℤ
      high_part q = on_bases rs (bases_in sizes) High p (get_or table q 0)

      abbrev cross_part : ℕ → ℤ
      cross_part q = on_bases rs (bases_in sizes) Cross p (get_or table q 0)

      abbrev rest : ℕ → ℤ
      rest q = beyond rs (bases_in sizes) p (get_or table q 0)

      cross_moved : (q : ℕ) → q < n → value_at hi₁ lo₁ q +ℤ rest q ≡ value_at hi₂ lo₂ q +ℤ pos step *ℤ high_part q
      cross_moved q b =
          sym (+ℤ_assoc (value_at hi₁ lo₁ q) (cross_part q) (pos step *ℤ high_part q))
          ∙ ap (λ (z : ℤ). z +ℤ pos step *ℤ high_part q) (sym (summed_there c p t q b))

      all_reached : Reached (λ q. value_at hi₀ lo₀ q +ℤ pos step *ℤ rest q) (value_at hi₄ lo₄) table n second
      all_reached =
          let a = reached_same (reached_divided d rest (reached_start (λ q b. refl))) cross_moved in
          reached_same (reached_divided e high_part a) (λ q b. sym (summed_there h p t q b))

    pub wide_carried : Carried (λ p k. pos step *ℤ beyond rs (bases_in sizes) p k) keys coefficients sizes table n hi₀ lo₀ hi₄ lo₄ second
    wide_carried =
        record {
          reached = all_reached;
          high = untouched_then (untouched_then (shrunk_untouched few d.high) (near_untouched few c.grown.high)) (untouched_then (shrunk_untouched few e.high) (near_untouched few h.grown.high));
          low = untouched_then (untouched_then (shrunk_untouched few d.low) (near_untouched few c.grown.low)) (untouched_then (shrunk_untouched few e.low) (near_untouched few h.grown.low));
        }

  -- ---- all parts
  module _ {s starts : List ℕ} {rows : ℕ} (w : Comparable s starts rows keys coefficients sizes) {hi₀ lo₀ hi₁ lo₁ : List ℤ} (few : n ≤ 2048)
      (l : Summed (on_bases (rows_by s starts rows) (bases_in sizes) Low) keys coefficients sizes table n 9 hi₀ lo₀ hi₁ lo₁) where
    abbrev rs : List Row
    rs = rows_by s starts rows

    whole : (p : Problem) → FlatProblem p keys coefficients sizes → (q : ℕ) → q < n
        → value_at hi₀ lo₀ q +ℤ coefficient (get_or table q 0) (squares p rs) ≡ value_at hi₁ lo₁ q +ℤ pos step *ℤ beyond rs (bases_in sizes) p (get_or table q 0)
    whole p t q b =
        let k = get_or table q 0 in
        let m = bases_in sizes in
        ap (λ (z : ℤ). value_at hi₀ lo₀ q +ℤ z) (squares_are w p k)
        ∙ sym (+ℤ_assoc (value_at hi₀ lo₀ q) (on_bases rs m Low p k) (pos step *ℤ beyond rs m p k))
        ∙ ap (λ (z : ℤ). z +ℤ pos step *ℤ beyond rs m p k) (sym (summed_there l p t q b))

    pub narrow_carried : Alone (on_bases rs (bases_in sizes)) → Carried (λ p k. coefficient k (squares p rs)) keys coefficients sizes table n hi₀ lo₀ hi₁ lo₁ None
    narrow_carried a =
        record {
          reached = λ p t. reached_start (λ q b. whole p t q b ∙ rw (a.cross p (get_or table q 0), a.high p (get_or table q 0)) (nothing (value_at hi₁ lo₁ q)));
          high = near_untouched few l.grown.high;
          low = near_untouched few l.grown.low;
        }
      where
        nothing : (v : ℤ) → v +ℤ pos step *ℤ (pos 0 +ℤ pos step *ℤ pos 0) ≡ v
        nothing v = rw (view v).eq (simp diffs (⊖-eq _ _ _ _ (omega arith)))

    pub parts_carried : {hi₂ lo₂ : List ℤ} {r : Option ℕ} → Carried (λ p k. pos step *ℤ beyond rs (bases_in sizes) p k) keys coefficients sizes table n hi₁ lo₁ hi₂ lo₂ r
        → Carried (λ p k. coefficient k (squares p rs)) keys coefficients sizes table n hi₀ lo₀ hi₂ lo₂ r
    parts_carried c =
        record {
          reached = λ p t. reached_of (c.reached p t) (whole p t);
          high = untouched_then (near_untouched few l.grown.high) c.high;
          low = untouched_then (near_untouched few l.grown.low) c.low;
        }
