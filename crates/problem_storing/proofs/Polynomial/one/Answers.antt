-- `Polynomial::one`: nothing but zeros, and a 1 in front of the exponent 0.
use Rattle.std.proofs.Common.{refl, arith, pos, ◌*◌, ◌^◌}
use lib.ListN.{replicate}
use Rattle.flat.specs.TermArrays.{terms_in}
use Rattle.counting.specs.Counting.{listed}
use Rattle.counting.proofs.Bounded.{bounded_zeros}
use Rattle.flat.proofs.TermArrays.{small_zeros, small_set}
use Rattle.problem_storing.proofs.Polynomial.one.Goals as goal

pub returns : goal.returns
unfolding terms_in listed
returns c =
    rw c.empty-q.ensures (
      record {
        count_low = omega arith;
        keys_length = refl;
        coefficients_length = refl;
        keys_low = bounded_zeros (16 * 2 ^ 56) 32;
        coefficients_small = small_set (2 ^ 15) (replicate 32 (pos 0)) 0 (pos 1) (small_zeros (2 ^ 15) 32) (omega arith);
      },
      refl,
    )
