-- The fields that are 0. Document 01: "A refusal .. returns number, stream (0 problem, 1 first certificate, 2 second),
-- place and key; all other fields are 0". Each field of each verdict is written out with its 0, and not by the
-- definitions that make a verdict: one with another number there does not have its zeros, whatever made it.
use Rattle.std.specs.Prelude.{◌≡◌, false, ℕ, ◌<◌, pos}
use Rattle.calls.specs.declared.Fraction.{Fraction}
use Rattle.calls.specs.declared.Refusal.{Refusal}
use Rattle.calls.specs.declared.BlocksVerdict.{BlocksVerdict}
use Rattle.calls.specs.declared.CheckVerdict.{CheckVerdict}
use Rattle.calls.specs.declared.TwoChecks.{TwoChecks}
use Rattle.calls.specs.declared.PairVerdict.{PairVerdict}
use Rattle.calls.specs.declared.SymmetriesVerdict.{SymmetriesVerdict}
use Rattle.calls.specs.declared.WindowVerdict.{WindowVerdict}
use Rattle.calls.specs.declared.ReportVerdict.{ReportVerdict}
use Rattle.calls.specs.declared.SumVerdict.{SumVerdict}
use Rattle.calls.specs.declared.AdjustedVerdict.{AdjustedVerdict}
use Rattle.calls.specs.declared.OfficeVerdict.{OfficeVerdict}

-- both numbers of a fraction
pub record ZeroFraction (f : Fraction) : Type 0 where
  pub num : f.num ≡ pos 0
  pub den : f.den ≡ 0

-- the refusal's own fields: without a refusal stream, place and key are 0; and "The key is 0 except at 9"
pub record RefusalZeros (f : Refusal) : Type 0 where
  pub stream : f.number ≡ 0 → f.stream ≡ 0
  pub place : f.number ≡ 0 → f.place ≡ 0
  pub key : (f.number ≡ 9 → ⊥) → f.key ≡ 0

-- ---- the calls of document 01
pub record BlocksZeros (v : BlocksVerdict) : Type 0 where
  pub refusal : RefusalZeros v.refusal
  pub blocks : 0 < v.refusal.number → v.blocks ≡ 0
  pub rounds : 0 < v.refusal.number → v.rounds ≡ 0
  pub rule : 0 < v.refusal.number → v.rule ≡ 0

pub record CheckZeros (v : CheckVerdict) : Type 0 where
  pub refusal : RefusalZeros v.refusal
  pub side : 0 < v.refusal.number → v.side ≡ 0
  pub bound : 0 < v.refusal.number → ZeroFraction v.bound
  pub rounds : 0 < v.refusal.number → v.rounds ≡ 0
  pub rule : 0 < v.refusal.number → v.rule ≡ 0

-- of two certificates, each as if it were alone
pub record TwoZeros (v : TwoChecks) : Type 0 where
  pub first : CheckZeros v.first
  pub second : CheckZeros v.second

-- there is no mark either
pub record PairZeros (v : PairVerdict) : Type 0 where
  pub refusal : RefusalZeros v.refusal
  pub lower : 0 < v.refusal.number → ZeroFraction v.lower
  pub upper : 0 < v.refusal.number → ZeroFraction v.upper
  pub gap : 0 < v.refusal.number → ZeroFraction v.gap
  pub empty : 0 < v.refusal.number → v.empty ≡ false
  pub rounds : 0 < v.refusal.number → v.rounds ≡ 0
  pub rule : 0 < v.refusal.number → v.rule ≡ 0

-- ---- the calls of document 02
-- request 01
pub record SymmetriesZeros (v : SymmetriesVerdict) : Type 0 where
  pub refusal : RefusalZeros v.refusal
  pub masks : 0 < v.refusal.number → v.masks ≡ 0

-- request 07
pub record ReportZeros (v : ReportVerdict) : Type 0 where
  pub refusal : RefusalZeros v.refusal
  pub accepted : 0 < v.refusal.number → v.accepted ≡ 0
  pub lower : 0 < v.refusal.number → ZeroFraction v.lower
  pub upper : 0 < v.refusal.number → ZeroFraction v.upper

-- request 10
pub record OfficeZeros (v : OfficeVerdict) : Type 0 where
  pub check : CheckZeros v.check
  pub notes : 0 < v.check.refusal.number → v.notes ≡ 0

-- request 11
pub record WindowZeros (v : WindowVerdict) : Type 0 where
  pub refusal : RefusalZeros v.refusal
  pub widest : 0 < v.refusal.number → ZeroFraction v.widest
  pub age : 0 < v.refusal.number → v.age ≡ 0

-- request 12
pub record SumZeros (v : SumVerdict) : Type 0 where
  pub refusal : RefusalZeros v.refusal
  pub lower : 0 < v.refusal.number → ZeroFraction v.lower
  pub upper : 0 < v.refusal.number → ZeroFraction v.upper
  pub first_rule : 0 < v.refusal.number → v.rules.first ≡ 0
  pub second_rule : 0 < v.refusal.number → v.rules.second ≡ 0

-- request 13
pub record AdjustedZeros (v : AdjustedVerdict) : Type 0 where
  pub refusal : RefusalZeros v.refusal
  pub bound : 0 < v.refusal.number → ZeroFraction v.bound
