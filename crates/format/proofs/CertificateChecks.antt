-- Laws of a command of the certificate stream that no check refuses.
use mathlib.Core.Path.{◌≡◌, refl}
use mathlib.Core.List.{List, [], ◌∷◌, ◌++◌}
use mathlib.Core.Bool.{true}
use Prim.Native.Nat.{ℕ, ◌+◌, ◌-◌, ◌≤◌, ◌<◌}
use native.Mathlib.Omega.{arith}
use lib.Dec.{leb}
use lib.ListN.{length, set, length-append, length-set}
use lib.Seq.{get_or_at, get_or-set_same}
use borrow.Author.Tests.{leb-true}
use Rattle.counting.proofs.Cases.{clash}
use Rattle.format.proofs.Run.{Passes, passes}
use Rattle.format.specs.declared.certificate.Command.{Command}
use Rattle.format.specs.declared.certificate.Command.TheVariants as C
use Rattle.format.specs.ProblemRules.{Problem}
use Rattle.format.specs.CertificateLayout.{certificate_size, certificate_decoded}
use Rattle.format.specs.CertificateRules.{Row, Certificate, no_row, last_row, certificate_placed, certificate_operands_fit, certificate_repeated, certificate_full, certificate_command_at, certificate_refusal_at}

-- ---- the row begun last
pub last_append : (rs : List Row) (r : Row) → last_row (rs ++ (r ∷ [])) ≡ r
last_append rs r =
    let n = length-append rs (r ∷ []) in
    let e : length (rs ++ (r ∷ [])) - 1 ≡ length rs = omega arith in
    rw e (get_or_at rs r [] no_row (length rs) refl)

pub last_set : (rs : List Row) (r : Row) → 0 < length rs → last_row (set rs (length rs - 1) r) ≡ r
last_set rs r h = rw (length-set rs (length rs - 1) r) (get_or-set_same rs (length rs - 1) r no_row (omega arith))

-- ---- one command
-- a command that no check refuses
abbrev pub Passed : Problem → Certificate → List ℕ → ℕ → Command → Type 0
Passed p c s at k =
    let i = certificate_decoded k s at in
    Passes (certificate_placed c at k) (leb (at + certificate_size k) (length s)) (certificate_operands_fit p c i) (certificate_repeated c i) (certificate_full c i)

pub passed : (p : Problem) (c : Certificate) (s : List ℕ) (at : ℕ) → certificate_refusal_at p c s at ≡ 0 → Passed p c s at (certificate_command_at s at)
unfolding certificate_refusal_at
passed p c s at v = passes _ _ _ _ _ v

-- a command that may stand somewhere has a byte
placed_size : (c : Certificate) (at : ℕ) (k : Command) → certificate_placed c at k ≡ true → 1 ≤ certificate_size k
placed_size c at C.Header h = omega arith
placed_size c at C.Row h = omega arith
placed_size c at C.Entry h = omega arith
placed_size c at C.End h = omega arith
placed_size c at C.Unknown h = clash (cc)
placed_size c at C.EqualityRow h = omega arith
placed_size c at C.WideEntry h = omega arith

module _ (p : Problem) (c : Certificate) (s : List ℕ) (at : ℕ) (v : certificate_refusal_at p c s at ≡ 0) where
  pub taken_size : 1 ≤ certificate_size (certificate_command_at s at)
  taken_size = placed_size c at (certificate_command_at s at) (passed p c s at v).placed

  pub taken_whole : at + certificate_size (certificate_command_at s at) ≤ length s
  taken_whole = leb-true _ _ (passed p c s at v).whole
