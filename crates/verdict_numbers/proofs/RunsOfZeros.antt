-- The zeros of a verdict stand in its run: field by field, by what the verdict itself is proved to have.
use borrow.Author.Tests.{ne_eqb}
use native.Mathlib.Omega.{arith}
use mathlib.Core.Path.{refl, ap}
use mathlib.Core.List.{List}
use Prim.Native.Nat.{ℕ}
use Rattle.calls.specs.Report.{unsigned}
use Rattle.calls.specs.Superseding.{ChosenZeros, stream_of}
use Rattle.calls.specs.declared.SupersedingVerdict.{SupersedingVerdict}
use Rattle.calls.specs.declared.BlocksVerdict.{BlocksVerdict}
use Rattle.calls.specs.declared.CheckVerdict.{CheckVerdict}
use Rattle.calls.specs.declared.PairVerdict.{PairVerdict}
use Rattle.calls.specs.declared.SymmetriesVerdict.{SymmetriesVerdict}
use Rattle.calls.specs.declared.ReportVerdict.{ReportVerdict}
use Rattle.calls.specs.declared.WindowVerdict.{WindowVerdict}
use Rattle.calls.specs.declared.SumVerdict.{SumVerdict}
use Rattle.calls.specs.declared.AdjustedVerdict.{AdjustedVerdict}
use Rattle.calls.specs.declared.OfficeVerdict.{OfficeVerdict}
use Rattle.calls.specs.Zeros.{BlocksZeros, CheckZeros, PairZeros, SymmetriesZeros, ReportZeros, WindowZeros, SumZeros, AdjustedZeros, OfficeZeros}
use Rattle.verdict_numbers.specs.Numbers.{RunZeros, numbers_left, blocks_numbers, check_numbers, pair_numbers, symmetries_numbers, report_numbers, push_numbers, sum_numbers, adjusted_numbers, office_numbers, chosen_numbers}

-- refusal 1 writes nothing
pub unwritten : (n : ℕ) (run : List ℕ) → RunZeros n 1 run
unwritten n run = record { refused = λ _ k. absurd (k refl); accepted = λ e. absurd (omega arith) }

module _ (run : List ℕ) where
  pub blocks_run : (v : BlocksVerdict) → BlocksZeros v → RunZeros 7 v.refusal.number (numbers_left (blocks_numbers v) run)
  unfolding numbers_left blocks_numbers unsigned
  blocks_run v z = record {
    refused = λ h k. rw (ne_eqb v.refusal.number 1 k, z.blocks h, z.rounds h, z.rule h) refl;
    accepted = λ e. rw (e, z.refusal.stream e, z.refusal.place e, z.refusal.key (λ k. absurd (omega arith))) refl;
  }

  pub check_run : (v : CheckVerdict) → CheckZeros v → RunZeros 9 v.refusal.number (numbers_left (check_numbers v) run)
  unfolding numbers_left check_numbers unsigned
  check_run v z = record {
    refused = λ h k. rw (ne_eqb v.refusal.number 1 k, z.side h, (z.bound h).num, (z.bound h).den, z.rounds h, z.rule h) refl;
    accepted = λ e. rw (e, z.refusal.stream e, z.refusal.place e, z.refusal.key (λ k. absurd (omega arith))) refl;
  }

  pub pair_run : (v : PairVerdict) → PairZeros v → RunZeros 13 v.refusal.number (numbers_left (pair_numbers v) run)
  unfolding numbers_left pair_numbers unsigned
  pair_run v z = record {
    refused = λ h k. rw (ne_eqb v.refusal.number 1 k, (z.lower h).num, (z.lower h).den, (z.upper h).num, (z.upper h).den, (z.gap h).num, (z.gap h).den, z.empty h, z.rounds h, z.rule h) refl;
    accepted = λ e. rw (e, z.refusal.stream e, z.refusal.place e, z.refusal.key (λ k. absurd (omega arith))) refl;
  }

  pub symmetries_run : (v : SymmetriesVerdict) → SymmetriesZeros v → RunZeros 5 v.refusal.number (numbers_left (symmetries_numbers v) run)
  unfolding numbers_left symmetries_numbers unsigned
  symmetries_run v z = record {
    refused = λ h k. rw (ne_eqb v.refusal.number 1 k, z.masks h) refl;
    accepted = λ e. rw (e, z.refusal.stream e, z.refusal.place e, z.refusal.key (λ k. absurd (omega arith))) refl;
  }

  pub report_run : (v : ReportVerdict) → ReportZeros v → RunZeros 9 v.refusal.number (numbers_left (report_numbers v) run)
  unfolding numbers_left report_numbers unsigned
  report_run v z = record {
    refused = λ h k. rw (ne_eqb v.refusal.number 1 k, z.accepted h, (z.lower h).num, (z.lower h).den, (z.upper h).num, (z.upper h).den) refl;
    accepted = λ e. rw (e, z.refusal.stream e, z.refusal.place e, z.refusal.key (λ k. absurd (omega arith))) refl;
  }

  pub push_run : (v : WindowVerdict) → WindowZeros v → RunZeros 7 v.refusal.number (numbers_left (push_numbers v) run)
  unfolding numbers_left push_numbers unsigned
  push_run v z = record {
    refused = λ h k. rw (ne_eqb v.refusal.number 1 k, (z.widest h).num, (z.widest h).den, z.age h) refl;
    accepted = λ e. rw (e, z.refusal.stream e, z.refusal.place e, z.refusal.key (λ k. absurd (omega arith))) refl;
  }

  pub sum_run : (v : SumVerdict) → SumZeros v → RunZeros 10 v.refusal.number (numbers_left (sum_numbers v) run)
  unfolding numbers_left sum_numbers unsigned
  sum_run v z = record {
    refused = λ h k. rw (ne_eqb v.refusal.number 1 k, (z.lower h).num, (z.lower h).den, (z.upper h).num, (z.upper h).den, z.first_rule h, z.second_rule h) refl;
    accepted = λ e. rw (e, z.refusal.stream e, z.refusal.place e, z.refusal.key (λ k. absurd (omega arith))) refl;
  }

  pub adjusted_run : (v : AdjustedVerdict) → AdjustedZeros v → RunZeros 6 v.refusal.number (numbers_left (adjusted_numbers v) run)
  unfolding numbers_left adjusted_numbers unsigned
  adjusted_run v z = record {
    refused = λ h k. rw (ne_eqb v.refusal.number 1 k, (z.bound h).num, (z.bound h).den) refl;
    accepted = λ e. rw (e, z.refusal.stream e, z.refusal.place e, z.refusal.key (λ k. absurd (omega arith))) refl;
  }

  pub office_run : (v : OfficeVerdict) → OfficeZeros v
      → RunZeros 10 v.check.refusal.number (numbers_left (office_numbers v) run)
  unfolding numbers_left office_numbers check_numbers unsigned
  office_run v z = let y = z.check in record {
    refused = λ h k. rw (ne_eqb v.check.refusal.number 1 k, y.side h, (y.bound h).num, (y.bound h).den, y.rounds h, y.rule h, z.notes h) refl;
    accepted = λ e. rw (e, y.refusal.stream e, y.refusal.place e, y.refusal.key (λ k. absurd (omega arith))) refl;
  }

  pub chosen_run : (v : SupersedingVerdict) → ChosenZeros v.refusal v.chosen
      → RunZeros 5 v.refusal.number (numbers_left (chosen_numbers v) run)
  unfolding numbers_left chosen_numbers
  chosen_run v z = record {
    refused = λ h k. rw (ne_eqb v.refusal.number 1 k, ap stream_of (z.none h)) refl;
    accepted = λ e.
        rw (e, z.refusal.stream e, z.refusal.place e, z.refusal.key (λ k. absurd (omega arith))) refl;
  }
