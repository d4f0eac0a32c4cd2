-- `same_conditions`: a condition that differs, one more that is the same, and all of them.
use Rattle.std.proofs.Common.{◌∙◌, arith}
use Rattle.regions.specs.Compared.{SameCondition}
use Rattle.regions.proofs.Compared.{tells_true, tells_false, told_false, conditions_same, same_at, up_to}
use Rattle.regions.proofs.same_conditions.Goals as goal

pub returns-then-not-same_condition : goal.returns-then-not-same_condition
returns-then-not-same_condition c =
    λ p q f g.
    let t = c.same_condition.ensures p q f g in
    tells_false (told_false _ c.if-not-same_condition.true t (same_at p q c.loop-j.j c.loop-j.auto.j))

pub loop-j-preserved : goal.loop-j-preserved
loop-j-preserved c =
    λ p q f g.
    up_to (SameCondition p q) c.loop-j.j (c.loop-j.invariant p q f g)
    ((c.same_condition.ensures p q f g).only c.if-not-same_condition.false)

pub returns-else-not-same_condition : goal.returns-else-not-same_condition
returns-else-not-same_condition c =
    λ p q f g.
    let all = up_to (SameCondition p q) c.loop-j.j (c.loop-j.invariant p q f g)
    ((c.same_condition.ensures p q f g).only c.if-not-same_condition.false) in
    tells_true (conditions_same p q _ f.conditions (c.if-n-other.false ∙ g.conditions) (λ i h. all i (omega arith)))
