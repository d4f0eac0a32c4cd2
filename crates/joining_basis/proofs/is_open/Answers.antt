-- `is_open`: the labels tell whether the blocks are two, and the exponents whether the pair is linked.
use Rattle.std.proofs.Common.{◌/◌, ◌%◌, arith, eq-eqb, ne_eqb}
use Rattle.joining_basis.proofs.is_open.Goals as goal

pub returns-then-tables-p : goal.returns-then-tables-p
returns-then-tables-p c = rw (eq-eqb _ _ c.if-tables-p.true)

pub is_linked-requires : goal.is_linked-requires
is_linked-requires c =
    let b = c.requires.0 in
    let keys = b.basis.basis.keys in (
      record {
        support = b.support;
        index = b.index;
        exponents = b.basis.exponents;
        low = omega (arith, c.sum_at-s.ensures, keys (c.args.p / 64), keys (c.args.p % 64));
      },
      c.requires.1,
    )

pub returns : goal.returns
returns c = rw (ne_eqb _ _ c.if-tables-p.false) (rw c.sum_at-s.ensures at c.is_linked.ensures)
