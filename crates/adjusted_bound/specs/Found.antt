-- The verdict, from the bound that is found or a refusal.
use Rattle.std.specs.Prelude.{Result, Ok, Err}
use Rattle.calls.specs.declared.AdjustedVerdict.{AdjustedVerdict}
use Rattle.calls.specs.declared.Fraction.{Fraction}
use Rattle.calls.specs.declared.Refusal.{Refusal}
use Rattle.calls.specs.Adjusted.{refused_adjusted, found_bound}

abbrev pub told_bound : Result Fraction Refusal → AdjustedVerdict
told_bound (Ok f) = found_bound f
told_bound (Err r) = refused_adjusted r
