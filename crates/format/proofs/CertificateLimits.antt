-- The limits that a certificate keeps, and that every certificate keeps them that a stream gives.
use mathlib.Core.Path.{◌≡◌, refl, subst}
use mathlib.Core.List.{List, [], ◌∷◌, ◌++◌}
use mathlib.Core.Bool.{true, false, not, ◌&&◌}
use Prim.Native.Nat.{ℕ, zero, suc, ◌+◌, ◌-◌, ◌≤◌, ◌<◌}
use native.Mathlib.Omega.{arith}
use lib.Dec.{leb, ltb, le→leb}
use lib.IntN.{ℤ, pos}
use lib.ListN.{length, get_or, length-append, length-set}
use lib.Signed.{◌≤ℤ◌, le_z_yes}
use borrow.Author.Tests.{leb-true, leb-false, ltb-true, eqb-true, not-false}
use Rattle.counting.proofs.Cases.{never, and_left, and_right}
use Rattle.format.specs.Commands.{given}
use Rattle.format.specs.Operands.{number}
use Rattle.format.proofs.Run.{read_induction}
use Rattle.format.specs.ProblemRules.{nonzero, Problem}
use Rattle.format.specs.All.{All}
use Rattle.format.specs.declared.problem.Kind.{Kind}
use Rattle.format.specs.declared.problem.Kind.TheVariants as K
use Rattle.format.specs.ProblemBases.{basis_of, is_equality, kind_of}
use Rattle.format.proofs.ProblemLimits.{all_more, all_set, nonzero_not}
use Rattle.format.specs.declared.certificate.Command.{Command}
use Rattle.format.specs.declared.certificate.Command.TheVariants as C
use Rattle.format.specs.CertificateLayout.{certificate_command, certificate_size, certificate_decoded}
use Rattle.format.specs.CertificateRules.{Entry, Row, Certificate, no_certificate, no_row, last_row, rises, most_rows, entry_placed, entry_fits, index_repeated, rows_full, with_row, with_entry, entered, certificate_applied, certificate_command_at, certificate_refusal_at, certificate_next, certificate_language, read_certificate}
use Rattle.format.proofs.CertificateChecks.{Passed, passed, taken_size}

-- ---- the limits
-- "Indices rise within a row"
unfoldable pub IndicesRise : List Entry → Type 0
IndicesRise [] = Unit {0}
IndicesRise (e ∷ []) = Unit {0}
IndicesRise (e ∷ f ∷ es) = (e.index < f.index) × IndicesRise (f ∷ es)

-- a row on a basis of the problem, with indices of that basis that rise. Its weight is never 0, and at least 1 on
-- basis 0 and on an inequality
pub record SoundRow (p : Problem) (r : Row) : Type 0 where
  pub basis : r.basis ≤ length p.conditions
  pub weight : r.weight ≡ pos 0 → ⊥
  pub positive : kind_of p r.basis ≡ K.Inequality → pos 1 ≤ℤ r.weight
  pub indices : All (λ (e : Entry). e.index < length (basis_of p r.basis)) r.entries
  pub rising : IndicesRise r.entries
  pub factors : All (λ (e : Entry). e.factor ≡ pos 0 → ⊥) r.entries

pub record Sound (p : Problem) (c : Certificate) : Type 0 where
  pub side : c.header.side ≤ 1
  pub scale : 1 ≤ c.header.scale
  pub q : 1 ≤ c.header.q
  pub count : length c.rows ≤ most_rows
  pub rows : All (SoundRow p) c.rows

-- ---- lists: an element within, one more index that rises
pub all_within : {A : Type 0} (P : A → Type 0) (l : List A) (i : ℕ) (d : A) → i < length l → All P l → P (get_or l i d)
unfolding All
all_within P [] i d b h = absurd (omega arith)
all_within P (x ∷ l) zero d b h = h.0
all_within P (x ∷ l) (suc i) d b h = all_within P l i d (omega arith) h.1

rising_more : (es : List Entry) (e : Entry) → IndicesRise es → rises es e.index ≡ true → IndicesRise (es ++ (e ∷ []))
unfolding IndicesRise
rising_more [] e h b = tt
rising_more (x ∷ []) e h b = (ltb-true x.index e.index b, tt)
rising_more (x ∷ y ∷ es) e h b = (h.0, rising_more (y ∷ es) e h.1 b)

-- ---- weights: one of at least 1 is not 0, and 14 stands on no inequality
positive_not : (w : ℤ) → pos 1 ≤ℤ w → w ≡ pos 0 → ⊥
positive_not w h e = (subst (λ (z : ℤ). pos 1 ≤ℤ z) e h).le

not_inequality : (k : Kind) → is_equality k ≡ true → k ≡ K.Inequality → ⊥
not_inequality k h e = never (rw e at h)

-- ---- a row: begun by 11 or by 14, and with one entry more
module _ (p : Problem) where
  without_entries : (j : ℕ) (w : ℤ) → j ≤ length p.conditions → (w ≡ pos 0 → ⊥)
      → (kind_of p j ≡ K.Inequality → pos 1 ≤ℤ w) → SoundRow p (record { basis = j; weight = w; entries = [] })
  unfolding All IndicesRise
  without_entries j w b n h = record { basis = b; weight = n; positive = h; indices = tt; rising = tt; factors = tt }

  row_begun : (j w : ℕ) → (leb j (length p.conditions) && (not (is_equality (kind_of p j)) && leb 1 w)) ≡ true
      → SoundRow p (record { basis = j; weight = pos w; entries = [] })
  row_begun j w a =
      let low = leb j (length p.conditions) in
      let one = leb-true 1 w (and_right (not (is_equality (kind_of p j))) _ (and_right low _ a)) in
      let h : pos 1 ≤ℤ pos w = le_z_yes (le→leb 1 w one) in
      without_entries j (pos w) (leb-true j _ (and_left low _ a)) (positive_not (pos w) h) (λ _. h)

  equality_begun : (j : ℕ) (w : ℤ) → (leb j (length p.conditions) && (is_equality (kind_of p j) && nonzero w)) ≡ true
      → SoundRow p (record { basis = j; weight = w; entries = [] })
  equality_begun j w a =
      let low = leb j (length p.conditions) in
      let b = and_right low (is_equality (kind_of p j) && nonzero w) a in
      without_entries j w (leb-true j _ (and_left low _ a)) (nonzero_not w (and_right (is_equality (kind_of p j)) _ b))
      (λ e. absurd (not_inequality (kind_of p j) (and_left _ (nonzero w) b) e))

  row_more : (r : Row) (e : Entry) → SoundRow p r → (ltb e.index (length (basis_of p r.basis)) && nonzero e.factor) ≡ true → not (rises r.entries e.index) ≡ false → SoundRow p (with_entry r e)
  row_more r e k a f = record {
    basis = k.basis;
    weight = k.weight;
    positive = k.positive;
    indices = all_more _ r.entries e k.indices (ltb-true _ _ (and_left _ (nonzero e.factor) a));
    rising = rising_more r.entries e k.rising (not-false _ f);
    factors = all_more _ r.entries e k.factors (nonzero_not e.factor (and_right (ltb e.index (length (basis_of p r.basis))) _ a));
  }

-- a row is begun, by either command
with_row_sound : (p : Problem) (c : Certificate) (j : ℕ) (w : ℤ) → Sound p c → rows_full c ≡ false
    → SoundRow p (record { basis = j; weight = w; entries = [] }) → Sound p (with_row c j w)
with_row_sound p c j w q full r = record {
  side = q.side;
  scale = q.scale;
  q = q.q;
  count = rw (length-append c.rows) (omega (arith, leb-false most_rows (length c.rows) full));
  rows = all_more _ c.rows _ q.rows r;
}

-- ---- a command
-- what was read before the command at an offset: nothing where it is the first, else a certificate within the limits
pub record Kept (p : Problem) (c : Certificate) (at : ℕ) : Type 0 where
  pub first : at ≡ 0 → c ≡ no_certificate
  pub later : 0 < at → Sound p c

pub kept_start : (p : Problem) → Kept p no_certificate 0
kept_start p = record { first = λ _. refl; later = λ z. absurd (omega arith) }

module _ (p : Problem) (c : Certificate) (s : List ℕ) (at : ℕ) (kept : Kept p c at) where
  -- an entry, by either command
  entered_sound : (i : ℕ) (l : ℤ) → entry_placed c at ≡ true → entry_fits p c i l ≡ true → index_repeated c i ≡ false
      → Sound p (entered c i l at)
  entered_sound i l placed fits rising =
      let q = kept.later (ltb-true 0 at (and_left _ _ placed)) in
      let n = ltb-true 0 (length c.rows) (and_right (ltb 0 at) _ placed) in
      let last = all_within (SoundRow p) c.rows (length c.rows - 1) no_row (omega arith) q.rows in
      record {
        side = q.side;
        scale = q.scale;
        q = q.q;
        count = rw (length-set c.rows) q.count;
        rows = all_set _ c.rows _ _ q.rows (row_more p (last_row c.rows) _ last fits rising);
      }

  applied_sound : (k : Command) → Passed p c s at k → Sound p (certificate_applied c (certificate_decoded k s at) at)
  unfolding certificate_applied All
  applied_sound C.Header h =
      let side = number 1 s (at + 1) in
      let d = number 2 s (at + 2) in
      let q = number 2 s (at + 8) in
      rw (kept.first (eqb-true at 0 h.placed)) (record {
        side = leb-true _ 1 (and_left _ _ h.allowed);
        scale = leb-true 1 _ (and_left (leb 1 d) (leb 1 q) (and_right (leb side 1) _ h.allowed));
        q = leb-true 1 _ (and_right (leb 1 d) (leb 1 q) (and_right (leb side 1) _ h.allowed));
        count = omega arith;
        rows = tt;
      })
  applied_sound C.Row h =
      with_row_sound p c _ _ (kept.later (ltb-true 0 at h.placed)) h.full (row_begun p _ _ h.allowed)
  applied_sound C.Entry h = entered_sound _ _ h.placed h.allowed h.repeated
  applied_sound C.End h = kept.later (ltb-true 0 at h.placed)
  applied_sound C.Unknown h = absurd (let z : ◌≡◌ {A = ℕ} 0 1 = let e = h.placed in cc in omega arith)
  applied_sound C.EqualityRow h =
      with_row_sound p c _ _ (kept.later (ltb-true 0 at h.placed)) h.full (equality_begun p _ _ h.allowed)
  applied_sound C.WideEntry h = entered_sound _ _ h.placed h.allowed h.repeated

  next_sound : certificate_refusal_at p c s at ≡ 0 → Sound p (certificate_next c s at)
  unfolding certificate_next
  next_sound v = applied_sound (certificate_command_at s at) (passed p c s at v)

  pub kept_next : certificate_refusal_at p c s at ≡ 0 → Kept p (certificate_next c s at) (at + certificate_size (certificate_command_at s at))
  kept_next v = record { first = λ z. let n = taken_size p c s at v in absurd (omega arith); later = λ _. next_sound v }

-- the end command leaves the certificate
pub end_leaves : (c : Certificate) (s : List ℕ) (at : ℕ) → get_or s at 0 ≡ 0x13 → certificate_next c s at ≡ c
unfolding certificate_next certificate_applied certificate_command
end_leaves c s at e = rw e

-- every certificate that a stream gives keeps the limits
pub read_sound : (p : Problem) (s : List ℕ) (c : Certificate) → read_certificate p s ≡ given c → Sound p c
unfolding read_certificate
read_sound p s c e =
    read_induction (certificate_language p) s (λ a at cs b. Kept p a at → Sound p b)
    (λ a at t b k. subst (Sound p) (end_leaves a s at b) (next_sound p a s at k t.passed))
    (λ a b at cs t n f k. f (kept_next p a s at k t.passed))
    no_certificate c e (kept_start p)
