-- `join_members`: one more member.
use borrow.Author.Rules.{rules}
use Rattle.std.proofs.Common.{refl, inl, inr, arith}
use Rattle.joining_blocks.proofs.Grew.{grew_full}
use Rattle.joining_basis.proofs.Going.{going_ready}
use Rattle.joining_basis.proofs.Latest.{members_start, members_turn, members_over, members_end}
use Rattle.joining_basis.proofs.join_members.Goals as goal

pub loop-m-init : goal.loop-m-init
loop-m-init c = record { members = members_start _ _ _ c.requires.0; long = refl; same = search rules }

pub note_fits-n-requires : goal.note_fits-n-requires
note_fits-n-requires c = let o = c.requires.0.basis.basis in (c.loop-m.invariant.long, o.few, o.exponents)

pub join_sums-requires : goal.join_sums-requires
join_sums-requires c = (going_ready _ _ _ _ _ c.loop-m.invariant.members.going, c.requires.1)

pub returns-in_err-r-clause-grew : goal.returns-in_err-r-clause-grew
returns-in_err-r-clause-grew c =
    let fit = c.note_fits-n.ensures.2 c.args.basis.keys.now c.requires.0.blocks.few (c.requires.0.bits c.requires.1) in
    let over = members_over _ _ _ c.requires.0 _ c.loop-m.m c.loop-m.invariant.members c.loop-m-test.true _ fit _ c.in_err-r.ensures.grew (inr (omega arith)) in
    (grew_full _ _ _ _ _ _ _ _ _ _ over refl _ c.from_residual.ensures.0).0

pub returns-then-r-eq1-clause-grew : goal.returns-then-r-eq1-clause-grew
returns-then-r-eq1-clause-grew c =
    let fit = c.note_fits-n.ensures.2 c.args.basis.keys.now c.requires.0.blocks.few (c.requires.0.bits c.requires.1) in
    members_over _ _ _ c.requires.0 _ c.loop-m.m c.loop-m.invariant.members c.loop-m-test.true _ fit _ c.in_ok-r.ensures.grew (inl c.if-r-eq1.true)

pub loop-m-preserved : goal.loop-m-preserved
loop-m-preserved c =
    let fit = c.note_fits-n.ensures.2 c.args.basis.keys.now c.requires.0.blocks.few (c.requires.0.bits c.requires.1) in
    record {
      members = members_turn _ _ _ c.requires.0 _ c.loop-m.m c.loop-m.invariant.members c.loop-m-test.true _ fit _ c.in_ok-r.ensures.grew c.in_ok-r.ensures.room;
      long = c.note_fits-n.ensures.0;
      same = search rules;
    }

pub returns-clause-grew : goal.returns-clause-grew
returns-clause-grew c =
    members_end _ _ _ c.requires.0 _ c.loop-m.m c.loop-m.invariant.members c.loop-m-test.false
