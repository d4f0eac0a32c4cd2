-- `compare_in`: the sum at a key is the coefficient of the squares less that of the claim.
use Rattle.std.proofs.Common.{◌+◌, ◌*◌, ◌^◌, ◌≤◌, ap, length, arith}
use Rattle.flat.proofs.Flat.{exponents_long, coefficients_long}
use Rattle.identity_sums.specs.Tables.{unit}
use Rattle.identity_rows.specs.Spread.{table_unit}
use Rattle.identity_sums.proofs.Growth.{ready_after}
use Rattle.identity_rows.proofs.Room.{room_for_all}
use Rattle.identity_rows.proofs.Walks.{room_zeros}
use Rattle.identity_check.proofs.Untouched.{near_untouched, untouched_then}
use Rattle.identity_check.proofs.Differences.{zeroed_ready, claim_most_lem, found_is}
use Rattle.identity_check.proofs.compare_in.Goals as goal

pub add_claim-requires : goal.add_claim-requires
add_claim-requires g c =
    let p = c.requires.comparable in
    let l = p.1.0.flat.limits in
    let few = l.sizes_low 18 in
    let m = c.polynomial-objective.ensures in
    let x = exponents_long l 9 (omega arith) in
    let y = coefficients_long l 9 (omega arith) in
    rw (m.exponents, m.coefficients) (zeroed_ready p.0.0 p.0.1 _ (omega arith), omega arith)

pub add_squares-known-requires-clause-ready : goal.add_squares-known-requires-clause-ready
add_squares-known-requires-clause-ready g c =
    let p = c.requires.comparable in
    let l = p.1.0.flat.limits in
    let few : length c.polynomial-objective.result.exponents.now ≤ 256 =
    omega (arith, ap length c.polynomial-objective.ensures.exponents, exponents_long l 9 (omega arith), l.sizes_low 18) in
    ready_after (zeroed_ready p.0.0 p.0.1 (257 * unit + (9 * table_unit + 2 ^ 36)) (omega (arith, room_for_all))) (claim_most_lem _ few c.add_claim.ensures) (omega arith)

pub add_squares-known-requires-clause-comparable : goal.add_squares-known-requires-clause-comparable
add_squares-known-requires-clause-comparable g c = (c.requires.comparable.1, room_zeros _ c.requires.room.0)

pub returns : goal.returns
returns g c =
    let z = c.requires.comparable.0.0 in
    let o = c.polynomial-objective.ensures in
    let a = c.add_claim.ensures in
    let m = c.add_squares-known.ensures in
    record {
      difference = λ p k given. found_is given o.exponents o.coefficients z a m c.smallest.ensures;
      high = untouched_then (near_untouched z.support.few a.high) m.high;
      low = untouched_then (near_untouched z.support.few a.low) m.low;
    }
