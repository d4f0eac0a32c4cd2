-- The command that a byte names, for every kind of stream: it has that byte; and its length, what an arm of a match on
-- the byte has to show for its bytes.
use mathlib.Core.Path.{◌≡◌, refl, sym, ap, subst, ◌∙◌}
use mathlib.Core.Bool.{Bool, true, false, cond, ◌&&◌}
use mathlib.Core.List.{List, [], ◌∷◌}
use mathlib.Core.Logic.{⊎_elim}
use Prim.Native.Nat.{ℕ, zero, suc, ◌+◌, ◌≤◌, ◌<◌}
use native.Mathlib.Nat.{eq-or-lt_of_le}
use native.Mathlib.Numerals.{lt_of_le_of_ne}
use native.Mathlib.Omega.{arith}
use lib.Dec.{eqb}
use borrow.Author.Tests.{eqb-true}
use Rattle.counting.proofs.Cases.{clash, and_left, and_right}
use Rattle.format.specs.Layouts.{Layout, line, none, length_of, has_byte, command_named, ZeroUnknown}
use Rattle.format.specs.declared.problem.Command.{Command as ProblemCommand}
use Rattle.format.specs.declared.problem.Command.TheVariants as Problem
use Rattle.format.specs.declared.certificate.Command.{Command as CertificateCommand}
use Rattle.format.specs.declared.certificate.Command.TheVariants as Certificate
use Rattle.format.specs.ProblemLayout.{problem_layout, problem_commands, problem_command, problem_size}
use Rattle.format.specs.CertificateLayout.{certificate_layout, certificate_commands, certificate_command, certificate_size}

-- ---- a test that holds at the n numbers from lo on
abbrev pub every : (ℕ → Bool) → ℕ → ℕ → Bool
every test lo zero = true
every test lo (suc n) = test lo && every test (suc lo) n

every_at : (test : ℕ → Bool) (lo n : ℕ) → every test lo n ≡ true → (k : ℕ) → lo ≤ k → k < lo + n → test k ≡ true
every_at test lo zero t k h g = absurd (omega arith)
every_at test lo (suc n) t k h g =
    ⊎_elim
    (λ e. subst (λ (x : ℕ). test x ≡ true) e (and_left (test lo) (every test (suc lo) n) t))
    (λ l. every_at test (suc lo) n (and_right (test lo) (every test (suc lo) n) t) k (omega arith) (omega arith))
    (eq-or-lt_of_le {n = lo} {m = k} h)

-- what is at least k and not k
pub past : {k b : ℕ} → k ≤ b → (b ≡ k → ⊥) → suc k ≤ b
past h d = lt_of_le_of_ne h (λ e. d (sym e))

-- ---- the command that a byte names has that byte, unless it is the unknown one
named_byte : {A : Type 0} (layout : A → Layout) (unknown : A) (ks : List A) (b : ℕ)
    → has_byte (layout (command_named layout unknown ks b)) b ≡ false → command_named layout unknown ks b ≡ unknown
named_byte layout unknown [] b e = refl
named_byte {A = A} layout unknown (k ∷ ks) b e =
    go (command_named layout unknown ks b) (named_byte layout unknown ks b) (has_byte (layout k) b) refl e
  where
    go : (n : A) → (has_byte (layout n) b ≡ false → n ≡ unknown) → (t : Bool) → has_byte (layout k) b ≡ t
        → has_byte (layout (cond t k n)) b ≡ false → cond t k n ≡ unknown
    go n f true p e = clash (cc)
    go n f false p e = f e

known_byte : {A : Type 0} (layout : A → Layout) (unknown : A) (ks : List A) (k : A) (b : ℕ)
    → command_named layout unknown ks b ≡ k → (k ≡ unknown → ⊥) → has_byte (layout k) b ≡ true
known_byte layout unknown ks k b h known = go (has_byte (layout k) b) refl
  where
    go : (t : Bool) → has_byte (layout k) b ≡ t → t ≡ true
    go true e = refl
    go false e = absurd (known (sym h ∙ named_byte layout unknown ks b (rw h e)))

-- so a length of 0 is that of the unknown one
no_byte : (l : Layout) (b : ℕ) → length_of l ≡ 0 → has_byte l b ≡ false
no_byte (line x ws) b e = absurd (omega arith)
no_byte none b e = refl

zero_only : {A : Type 0} (layout : A → Layout) (unknown : A) (ks : List A) (b : ℕ)
    → length_of (layout (command_named layout unknown ks b)) ≡ 0 → command_named layout unknown ks b ≡ unknown
zero_only layout unknown ks b e =
    named_byte layout unknown ks b (no_byte (layout (command_named layout unknown ks b)) b e)

-- ---- the commands ks of a kind of stream
module _ {A : Type 0} (layout : A → Layout) (unknown : A) (h : layout unknown ≡ none) (ks : List A) where
  abbrev named : ℕ → A
  named b = command_named layout unknown ks b

  abbrev size : ℕ → ℕ
  size b = length_of (layout (named b))

  -- an arm over the n bytes from lo on: where r is the length at each of them, which antt computes, r is the length, and
  -- it is 0 exactly where the command is unknown
  pub arm : {r : ℕ} (lo n : ℕ) → every (λ k. eqb r (size k)) lo n ≡ true → (b : ℕ) → lo ≤ b → b < lo + n → (r ≡ size b) × ZeroUnknown unknown (named b) r
  arm {r} lo n t b p q =
      let e : r ≡ size b = eqb-true r (size b) (every_at (λ k. eqb r (size k)) lo n t b p q) in
      (e, record { zero = λ u. e ∙ ap (λ (k : A). length_of (layout k)) u ∙ ap length_of h; only = λ z. zero_only layout unknown ks b (sym e ∙ z) })

-- ---- the same for each kind of stream
pub problem_byte : (k : ProblemCommand) (b : ℕ) → problem_command b ≡ k → (k ≡ Problem.Unknown → ⊥)
    → has_byte (problem_layout k) b ≡ true
unfolding problem_command
problem_byte = known_byte problem_layout Problem.Unknown problem_commands

pub certificate_byte : (k : CertificateCommand) (b : ℕ) → certificate_command b ≡ k → (k ≡ Certificate.Unknown → ⊥)
    → has_byte (certificate_layout k) b ≡ true
unfolding certificate_command
certificate_byte = known_byte certificate_layout Certificate.Unknown certificate_commands

pub problem_arm : {r : ℕ} (lo n : ℕ) → every (λ k. eqb r (problem_size (problem_command k))) lo n ≡ true → (b : ℕ) → lo ≤ b → b < lo + n
    → (r ≡ problem_size (problem_command b)) × ZeroUnknown Problem.Unknown (problem_command b) r
unfolding problem_command
problem_arm = arm problem_layout Problem.Unknown refl problem_commands

pub certificate_arm : {r : ℕ} (lo n : ℕ) → every (λ k. eqb r (certificate_size (certificate_command k))) lo n ≡ true → (b : ℕ) → lo ≤ b → b < lo + n
    → (r ≡ certificate_size (certificate_command b)) × ZeroUnknown Certificate.Unknown (certificate_command b) r
unfolding certificate_command
certificate_arm = arm certificate_layout Certificate.Unknown refl certificate_commands
