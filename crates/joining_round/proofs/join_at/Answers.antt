-- `joining_round::join_at` meets its contract: the parts of basis j are lent, and what the joining leaves is put in
-- place.
use Rattle.joining_round.proofs.Lending.{lend_small, left_small, lend_large, left_large}
use Rattle.joining_round.proofs.join_at.Goals as goal

pub join-requires : goal.join-requires
join-requires c = lend_small _ _ _ _ _ _ _ _ _ c.requires _ _ c.exponents.ensures c.basis.ensures c.if-sizes-j-le-PLAIN.true _

pub returns-then-sizes-j-le-PLAIN : goal.returns-then-sizes-j-le-PLAIN
returns-then-sizes-j-le-PLAIN c =
    (left_small _ _ _ _ _ _ _ _ _ c.requires _ _ c.exponents.ensures c.basis.ensures c.if-sizes-j-le-PLAIN.true _ _ _ _ _ _ _ c.join.auto.labels c.join.auto.follow c.join.ensures.0, c.join.ensures.1)

pub join-requires-2 : goal.join-requires-2
join-requires-2 c = lend_large _ _ _ _ _ _ _ _ _ c.requires _ _ c.exponents.ensures c.basis.ensures c.if-sizes-j-le-PLAIN.false

pub returns : goal.returns
returns c =
    (left_large _ _ _ _ _ _ _ _ _ c.requires _ _ c.exponents.ensures c.basis.ensures c.if-sizes-j-le-PLAIN.false _ _ _ _ _ _ c.join-2.auto.labels c.join-2.auto.follow c.join-2.auto.pairs c.join-2.ensures.0, c.join-2.ensures.1)
