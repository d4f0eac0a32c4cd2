-- The zeros of a verdict, by what made it: a refusal with a number has its zeros, and so has every verdict that is made
-- of one, or of none.
use mathlib.Core.Path.{◌≡◌, refl}
use mathlib.Core.Bool.{Bool, true, false, cond}
use Prim.Native.Nat.{ℕ, ◌≤◌}
use native.Mathlib.Omega.{arith}
use Rattle.format.specs.declared.certificate.Header.{Header}
use Rattle.calls.specs.declared.Fraction.{Fraction}
use Rattle.calls.specs.declared.Refusal.{Refusal}
use Rattle.calls.specs.Fractions.{none}
use Rattle.calls.specs.Refusals.{no_refusal, problem_refusal, certificate_refusal}
use Rattle.calls.specs.Blocks.{refused_blocks}
use Rattle.calls.specs.Check.{refused_check, accepted_check}
use Rattle.calls.specs.Pair.{refused_pair, accepted_pair}
use Rattle.calls.specs.Symmetries.{refused_symmetries}
use Rattle.calls.specs.Window.{is_refused, refused_arrival, found_widest, push_verdict}
use Rattle.calls.specs.declared.AgedGap.{AgedGap}
use Rattle.calls.specs.declared.GapWindow.{GapWindow}
use Rattle.calls.specs.Zeros.{ZeroFraction, RefusalZeros, BlocksZeros, CheckZeros, PairZeros, SymmetriesZeros, WindowZeros}

-- ---- refusals
pub none_zeros : RefusalZeros no_refusal
none_zeros = record { stream = λ _. refl; place = λ _. refl; key = λ _. refl }

-- one with a number, whose key is 0 except at 9
pub refused_zeros : (r : Refusal) → 1 ≤ r.number → ((r.number ≡ 9 → ⊥) → r.key ≡ 0) → RefusalZeros r
refused_zeros r b k = record { stream = λ z. absurd (omega arith); place = λ z. absurd (omega arith); key = k }

pub problem_zeros : (n place : ℕ) → 1 ≤ n → RefusalZeros (problem_refusal n place)
problem_zeros n place b = refused_zeros (problem_refusal n place) b (λ _. refl)

pub certificate_zeros : (stream n place key : ℕ) → 1 ≤ n → ((n ≡ 9 → ⊥) → key ≡ 0)
    → RefusalZeros (certificate_refusal stream n place key)
certificate_zeros stream n place key b k = refused_zeros (certificate_refusal stream n place key) b k

-- 0 over 0
pub zero_fraction : ZeroFraction none
zero_fraction = record { num = refl; den = refl }

-- ---- verdicts with a refusal
pub blocks_refused_lem : (r : Refusal) → RefusalZeros r → BlocksZeros (refused_blocks r)
blocks_refused_lem r z = record { refusal = z; blocks = λ _. refl; rounds = λ _. refl; rule = λ _. refl }

pub check_refused_lem : (r : Refusal) → RefusalZeros r → CheckZeros (refused_check r)
check_refused_lem r z = record {
  refusal = z;
  side = λ _. refl;
  bound = λ _. zero_fraction;
  rounds = λ _. refl;
  rule = λ _. refl;
}

pub pair_refused_lem : (r : Refusal) → RefusalZeros r → PairZeros (refused_pair r)
pair_refused_lem r z = record {
  refusal = z;
  lower = λ _. zero_fraction;
  upper = λ _. zero_fraction;
  gap = λ _. zero_fraction;
  empty = λ _. refl;
  rounds = λ _. refl;
  rule = λ _. refl;
}

pub symmetries_refused_lem : (r : Refusal) → RefusalZeros r → SymmetriesZeros (refused_symmetries r)
symmetries_refused_lem r z = record { refusal = z; masks = λ _. refl }

-- ---- and with none
pub blocks_accepted : (blocks rounds rule : ℕ)
    → BlocksZeros (record { refusal = no_refusal; blocks = blocks; rounds = rounds; rule = rule })
blocks_accepted blocks rounds rule = record {
  refusal = none_zeros;
  blocks = λ h. absurd (omega arith);
  rounds = λ h. absurd (omega arith);
  rule = λ h. absurd (omega arith);
}

pub check_accepted_lem : (t : Header) (rounds rule : ℕ) → CheckZeros (accepted_check t rounds rule)
check_accepted_lem t rounds rule = record {
  refusal = none_zeros;
  side = λ h. absurd (omega arith);
  bound = λ h. absurd (omega arith);
  rounds = λ h. absurd (omega arith);
  rule = λ h. absurd (omega arith);
}

pub pair_accepted_lem : (t u : Header) (rounds rule : ℕ) → PairZeros (accepted_pair t u rounds rule)
pair_accepted_lem t u rounds rule = record {
  refusal = none_zeros;
  lower = λ h. absurd (omega arith);
  upper = λ h. absurd (omega arith);
  gap = λ h. absurd (omega arith);
  empty = λ h. absurd (omega arith);
  rounds = λ h. absurd (omega arith);
  rule = λ h. absurd (omega arith);
}

pub symmetries_accepted : (masks : ℕ) → SymmetriesZeros (record { refusal = no_refusal; masks = masks })
symmetries_accepted masks = record { refusal = none_zeros; masks = λ h. absurd (omega arith) }

-- ---- a push, whatever the state
pub window_zeros : (w : GapWindow) (a : Fraction) → WindowZeros (push_verdict w a)
unfolding push_verdict
window_zeros w a = go (is_refused a) _
  where
    go : (t : Bool) (x : AgedGap) → WindowZeros (cond t refused_arrival (found_widest x))
    go true x = record { refusal = problem_zeros 14 0 (omega arith); widest = λ _. zero_fraction; age = λ _. refl }
    go false x =
        record { refusal = none_zeros; widest = λ h. absurd (omega arith); age = λ h. absurd (omega arith) }
