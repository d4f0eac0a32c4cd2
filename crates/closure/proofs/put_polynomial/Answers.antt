-- `closure::put_polynomial` meets its contract: the part that is lent holds the exponents of polynomial j.
use Rattle.std.proofs.Common.{◌+◌, ◌*◌, get_or, arith}
use Rattle.counting.proofs.Bounded.{bounded_part}
use Rattle.joining_rule.proofs.Start.{multiples_one}
use Rattle.flat.proofs.Flat.{polynomial_counted, exponents_fit}
use Rattle.closure.proofs.Laid.{all_low}
use Rattle.closure.proofs.put_polynomial.Goals as goal

pub exponents-exponents-requires : goal.exponents-exponents-requires
exponents-exponents-requires c = (polynomial_counted c.requires.1.limits c.args.j c.requires.2, exponents_fit c.requires.1.limits c.args.j c.requires.2)

pub put_keys-requires : goal.put_keys-requires
put_keys-requires c =
    let j = c.args.j in
    (c.requires.0, (λ i. rw c.exponents-exponents.ensures (bounded_part _ (576 + 32 * j) (get_or c.args.sizes.now (9 + j) 0) c.args.keys.now (all_low _ _ c.requires.1) i)), omega arith)

pub returns : goal.returns
returns c = rw (multiples_one, c.exponents-exponents.ensures) at c.put_keys.ensures
