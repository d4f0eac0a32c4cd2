use Rattle.std.proofs.Common.{◌≡◌, ◌∙◌, ◌%◌, ℕ, get_or, arith}
use Rattle.std.proofs.Math.ListN.{set, length-set}
use Rattle.std.proofs.lemmas.List.{get_or-set_same, get_or-set_other}
use borrow.Author.Count.{below_more}
use Rattle.key_set.specs.Table.{divisor_in}
use Rattle.identity_sums.proofs.place.Goals as goal

pub loop-t-preserved : goal.loop-t-preserved
loop-t-preserved c =
    let v = c.loop-t.invariant in
    let noted = λ (i : ℕ). get_or (set c.loop-t.slots c.loop-t.t c.slot.result) i 0 ≡ get_or c.args.terms.exponents.now i 0 % divisor_in c.args.keys.index.now in (
      simp length-set v.0,
      below_more noted c.loop-t.t
          (λ i b. get_or-set_other _ c.loop-t.t i _ 0 (λ e. omega arith) ∙ v.1 i b)
          (get_or-set_same c.loop-t.slots c.loop-t.t _ 0 (omega (arith, v.0)) ∙ c.slot.ensures),
    )
