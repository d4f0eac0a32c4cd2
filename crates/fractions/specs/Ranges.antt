-- The range of a bound, in which its products fit a machine word.
use Rattle.std.specs.Prelude.{◌^◌, ◌≤◌, ◌<◌, nat_abs}
use Rattle.calls.specs.declared.Fraction.{Fraction}

-- a bound's range: p(i32) over q(u16)
pub record Bound (f : Fraction) : Type 0 where
  pub num : nat_abs f.num ≤ 2 ^ 31
  pub den : f.den < 2 ^ 16
