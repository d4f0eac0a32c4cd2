-- `decide`: each return by the tests that led there.
use Rattle.std.proofs.Common.{sym, ap, ◌∙◌, arith}
use Rattle.std.proofs.lemmas.Result.{err_from_is_err_and}
use Rattle.calls.specs.declared.Refusal.{Refusal}
use Rattle.calls.specs.Adjusted.{changes_of, refused_adjusted, found_bound}
use Rattle.adjusted_bound.proofs.Decided.{few, unfit, unboxed, upper, lower}
use Rattle.adjusted_bound.proofs.decide.Goals as goal

pub returns-in_err-check_changes : goal.returns-in_err-check_changes
returns-in_err-check_changes c p f e =
    let a = c.args in
    let w = c.in_err-check_changes.ensures in
    let told = w.0 in
    let some = w.1 in
    let number = ap (λ (r : Refusal). r.number) told in
    let q = err_from_is_err_and c.from_residual.result c.from_residual.ensures.1 in
    rw (q.1, q.2) (ap refused_adjusted told ∙ unfit p a.v a.changes.now a.n e (λ z. omega (arith, some, number, z)))

pub returns-then-not-boxed : goal.returns-then-not-boxed
returns-then-not-boxed c p f e =
    let a = c.args in
    ap refused_adjusted c.problem_refusal.ensures
    ∙ unboxed p a.v a.changes.now a.n e (ap (λ (r : Refusal). r.number) c.in_ok-check_changes.ensures)
    (sym (c.are_boxed-boxed.ensures p f) ∙ c.if-not-boxed.true)

pub returns-then-v-ne0 : goal.returns-then-v-ne0
returns-then-v-ne0 c p f e =
    let a = c.args in
    ap refused_adjusted c.problem_refusal-then-v-ne0.ensures
    ∙ upper p a.v a.changes.now a.n e (ap (λ (r : Refusal). r.number) c.in_ok-check_changes.ensures)
    (sym (c.are_boxed-boxed.ensures p f) ∙ c.if-not-boxed.false) c.if-v-ne0.true

pub absolute_sum-requires : goal.absolute_sum-requires
absolute_sum-requires c = few c.args.n c.args.changes.now (ap (λ (r : Refusal). r.number) c.in_ok-check_changes.ensures)

pub returns : goal.returns
returns c p f e =
    let a = c.args in
    ap found_bound (c.moved.ensures (changes_of a.changes.now) c.absolute_sum.ensures.0)
    ∙ lower p a.v a.changes.now a.n e (ap (λ (r : Refusal). r.number) c.in_ok-check_changes.ensures)
    (sym (c.are_boxed-boxed.ensures p f) ∙ c.if-not-boxed.false) c.if-v-ne0.false
