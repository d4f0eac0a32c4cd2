-- Where the entries of a certificate stand in its stream: at its place each has its command, 12 or 15, and its index.
use mathlib.Core.Path.{◌≡◌, refl, sym, ◌∙◌}
use mathlib.Core.Bool.{true}
use mathlib.Core.List.{List, [], ◌∷◌, ◌++◌}
use mathlib.Core.Logic.{inl, inr}
use Prim.Native.Nat.{ℕ, ◌+◌, ◌-◌, ◌<◌}
use native.Mathlib.Nat.{mul-zero, add-zero}
use native.Mathlib.Omega.{arith}
use lib.Dec.{ltb}
use lib.IntN.{ℤ}
use lib.ListN.{length, get_or}
use borrow.Author.Tests.{ltb-true, eqb-true}
use Rattle.counting.proofs.Cases.{clash, and_right}
use Rattle.format.specs.All.{All}
use Rattle.format.specs.Commands.{given}
use Rattle.format.specs.Operands.{number}
use Rattle.format.specs.ProblemRules.{Problem}
use Rattle.format.specs.declared.certificate.Command.{Command}
use Rattle.format.specs.declared.certificate.Command.TheVariants as C
use Rattle.format.specs.CertificateLayout.{certificate_decoded}
use Rattle.format.specs.CertificateRules.{Entry, Row, Certificate, no_certificate, no_row, entry_placed, entered, certificate_applied, certificate_command_at, certificate_refusal_at, certificate_next, certificate_language, read_certificate}
use Rattle.format.proofs.ProblemLimits.{all_more, all_set}
use Rattle.format.proofs.Run.{read_induction}
use Rattle.format.proofs.Lengths.{certificate_byte}
use Rattle.format.proofs.CertificateChecks.{Passed, passed}
use Rattle.format.proofs.CertificateLimits.{all_within}
use Rattle.accepting.specs.Judgement as J
use Rattle.calls.specs.Promises.{EntryAt}

abbrev Stands : List ℕ → Entry → Type 0
Stands s e = EntryAt s e.place e.index

abbrev RowStands : List ℕ → Row → Type 0
RowStands s r = All (Stands s) r.entries

abbrev EntriesStand : List ℕ → List Row → Type 0
EntriesStand s rs = All (RowStands s) rs

-- a byte is the number that it gives alone
one_byte : (s : List ℕ) (at : ℕ) → get_or s at 0 ≡ number 1 s at
unfolding number
one_byte s at = rw (mul-zero, add-zero)

module _ (p : Problem) (c : Certificate) (s : List ℕ) (at : ℕ) (k : EntriesStand s c.rows) where
  entered_stands : (i : ℕ) (x : ℤ) → entry_placed c at ≡ true → EntryAt s at i → EntriesStand s (entered c i x at).rows
  entered_stands i x q e =
      let n = ltb-true 0 (length c.rows) (and_right (ltb 0 at) _ q) in
      let last = all_within (RowStands s) c.rows (length c.rows - 1) no_row (omega arith) k in
      all_set (RowStands s) c.rows _ _ k (all_more (Stands s) _ _ last e)

  applied_stands : (j : Command) → certificate_command_at s at ≡ j → Passed p c s at j → EntriesStand s (certificate_applied c (certificate_decoded j s at) at).rows
  unfolding certificate_applied All
  applied_stands C.Header h q = k
  applied_stands C.Row h q = all_more (RowStands s) c.rows _ k tt
  applied_stands C.Entry h q =
      let b = certificate_byte C.Entry (get_or s at 0) h (λ e. clash (cc)) in
      entered_stands _ _ q.placed (record { command = inl (eqb-true _ _ b); index_is = one_byte s (at + 1) })
  applied_stands C.End h q = k
  applied_stands C.Unknown h q = clash (cc)
  applied_stands C.EqualityRow h q = all_more (RowStands s) c.rows _ k tt
  applied_stands C.WideEntry h q =
      let b = certificate_byte C.WideEntry (get_or s at 0) h (λ e. clash (cc)) in
      entered_stands _ _ q.placed (record { command = inr (eqb-true _ _ b); index_is = one_byte s (at + 1) })

  next_stands : certificate_refusal_at p c s at ≡ 0 → EntriesStand s (certificate_next c s at).rows
  unfolding certificate_next
  next_stands v = applied_stands (certificate_command_at s at) refl (passed p c s at v)

entries_stand : (p : Problem) (s : List ℕ) (c : Certificate) → read_certificate p s ≡ given c → EntriesStand s c.rows
unfolding read_certificate All
entries_stand p s c e =
    read_induction (certificate_language p) s (λ a at cs b. EntriesStand s a.rows → EntriesStand s b.rows)
    (λ a at t b k. k)
    (λ a b at cs t n f k. f (next_stands p a s at k t.passed))
    no_certificate c e tt

-- ---- the entry that a row is split at
all_behind : {A : Type 0} (P : A → Type 0) (l : List A) (a : A) (r : List A) → All P (l ++ (a ∷ r)) → P a
unfolding All
all_behind P [] a r h = h.0
all_behind P (x ∷ l) a r h = all_behind P l a r h.1

pub split_stands : (p : Problem) (s : List ℕ) (c : Certificate) → read_certificate p s ≡ given c → (at : ℕ)
    → (k : J.SplitAt p c.rows at) → EntryAt s at k.outside.index
split_stands p s c e at k =
    let rows = rw k.rows at (entries_stand p s c e) in
    let row = rw k.entries at (all_behind (RowStands s) k.before k.row k.after rows) in
    rw k.place (all_behind (Stands s) (k.first ∷ k.inside) k.outside k.rest row)
