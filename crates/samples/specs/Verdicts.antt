-- Verdicts with every field written out. The samples compare with these, and not with the abbreviations by which the
-- calls are defined: "A refusal .. returns number, stream .., place and key; all other fields are 0".
use Rattle.std.specs.Prelude.{false, ℕ, ℤ, pos}
use Rattle.calls.specs.declared.Refusal.{Refusal}
use Rattle.calls.specs.declared.Fraction.{Fraction}
use Rattle.calls.specs.declared.BlocksVerdict.{BlocksVerdict}
use Rattle.calls.specs.declared.CheckVerdict.{CheckVerdict}
use Rattle.calls.specs.declared.PairVerdict.{PairVerdict}
use Rattle.calls.specs.declared.SymmetriesVerdict.{SymmetriesVerdict}
use Rattle.calls.specs.declared.ReportVerdict.{ReportVerdict}
use Rattle.calls.specs.declared.OfficeVerdict.{OfficeVerdict}
use Rattle.calls.specs.declared.WindowVerdict.{WindowVerdict}
use Rattle.calls.specs.declared.SumVerdict.{SumVerdict}
use Rattle.calls.specs.declared.AdjustedVerdict.{AdjustedVerdict}

-- ---- a refusal by its four fields, as the program prints it; and none
abbrev pub refusal : ℕ → ℕ → ℕ → ℕ → Refusal
refusal number stream place key = record { number = number; stream = stream; place = place; key = key }

abbrev pub allowed : Refusal
allowed = record { number = 0; stream = 0; place = 0; key = 0 }

-- a numerator over a denominator, and "0 over 0"
abbrev pub over : ℤ → ℕ → Fraction
over p q = record { num = p; den = q }

abbrev pub zeroes : Fraction
zeroes = record { num = pos 0; den = 0 }

-- ---- the blocks call
abbrev pub blocks_found : ℕ → ℕ → ℕ → BlocksVerdict
blocks_found blocks rounds rule = record {
  refusal = record { number = 0; stream = 0; place = 0; key = 0 };
  blocks = blocks;
  rounds = rounds;
  rule = rule;
}

abbrev pub blocks_refused : ℕ → ℕ → BlocksVerdict
blocks_refused number place = record {
  refusal = record { number = number; stream = 0; place = place; key = 0 };
  blocks = 0;
  rounds = 0;
  rule = 0;
}

-- ---- the check
abbrev pub check_accepted : ℕ → Fraction → ℕ → ℕ → CheckVerdict
check_accepted side bound rounds rule = record {
  refusal = record { number = 0; stream = 0; place = 0; key = 0 };
  side = side;
  bound = bound;
  rounds = rounds;
  rule = rule;
}

abbrev pub check_refused : ℕ → ℕ → ℕ → ℕ → CheckVerdict
check_refused number stream place key = record {
  refusal = record { number = number; stream = stream; place = place; key = key };
  side = 0;
  bound = record { num = pos 0; den = 0 };
  rounds = 0;
  rule = 0;
}

-- ---- the pair
abbrev pub pair_accepted : Fraction → Fraction → Fraction → ℕ → ℕ → PairVerdict
pair_accepted lower upper gap rounds rule = record {
  refusal = record { number = 0; stream = 0; place = 0; key = 0 };
  lower = lower;
  upper = upper;
  gap = gap;
  empty = false;
  rounds = rounds;
  rule = rule;
}

abbrev pub pair_refused : ℕ → ℕ → ℕ → ℕ → PairVerdict
pair_refused number stream place key = record {
  refusal = record { number = number; stream = stream; place = place; key = key };
  lower = record { num = pos 0; den = 0 };
  upper = record { num = pos 0; den = 0 };
  gap = record { num = pos 0; den = 0 };
  empty = false;
  rounds = 0;
  rule = 0;
}

-- ---- requests 01, 02, 07, 10, 11, 12 and 13
abbrev pub symmetries_found : ℕ → SymmetriesVerdict
symmetries_found masks = record { refusal = record { number = 0; stream = 0; place = 0; key = 0 }; masks = masks }

abbrev pub symmetries_refused : ℕ → ℕ → SymmetriesVerdict
symmetries_refused number place =
    record { refusal = record { number = number; stream = 0; place = place; key = 0 }; masks = 0 }

abbrev pub reported : ℕ → Fraction → Fraction → ReportVerdict
reported accepted lower upper = record {
  refusal = record { number = 0; stream = 0; place = 0; key = 0 };
  accepted = accepted;
  lower = lower;
  upper = upper;
}

abbrev pub report_refused : ℕ → ℕ → ReportVerdict
report_refused number place = record {
  refusal = record { number = number; stream = 0; place = place; key = 0 };
  accepted = 0;
  lower = record { num = pos 0; den = 0 };
  upper = record { num = pos 0; den = 0 };
}

abbrev pub office_refused : ℕ → ℕ → ℕ → OfficeVerdict
office_refused number stream place = record {
  check = record {
    refusal = record { number = number; stream = stream; place = place; key = 0 };
    side = 0;
    bound = record { num = pos 0; den = 0 };
    rounds = 0;
    rule = 0;
  };
  notes = 0;
}

abbrev pub widest_found : Fraction → ℕ → WindowVerdict
widest_found widest age =
    record { refusal = record { number = 0; stream = 0; place = 0; key = 0 }; widest = widest; age = age }

abbrev pub arrival_refused : WindowVerdict
arrival_refused = record {
  refusal = record { number = 14; stream = 0; place = 0; key = 0 };
  widest = record { num = pos 0; den = 0 };
  age = 0;
}

abbrev pub summed : Fraction → Fraction → ℕ → ℕ → SumVerdict
summed lower upper first second = record {
  refusal = record { number = 0; stream = 0; place = 0; key = 0 };
  lower = lower;
  upper = upper;
  rules = record { first = first; second = second };
}

abbrev pub sum_refused : ℕ → ℕ → ℕ → ℕ → SumVerdict
sum_refused number stream place key = record {
  refusal = record { number = number; stream = stream; place = place; key = key };
  lower = record { num = pos 0; den = 0 };
  upper = record { num = pos 0; den = 0 };
  rules = record { first = 0; second = 0 };
}

abbrev pub moved : ℤ → ℕ → AdjustedVerdict
moved p q =
    record { refusal = record { number = 0; stream = 0; place = 0; key = 0 }; bound = record { num = p; den = q } }

abbrev pub adjusted_refused : ℕ → ℕ → ℕ → AdjustedVerdict
adjusted_refused number stream place = record {
  refusal = record { number = number; stream = stream; place = place; key = 0 };
  bound = record { num = pos 0; den = 0 };
}
