-- `judge_streams`: by what became of the problem.
use Rattle.std.proofs.Common.{refl, sym, ap, ◌∙◌}
use Rattle.format.specs.ProblemRules.{Problem}
use Rattle.calls.specs.Outcome.{Outcome}
use Rattle.key_set.proofs.Index.{indexed_start}
use Rattle.problem_judge.specs.Chain.{two_in}
use Rattle.problem_judge.proofs.judge_streams.Goals as goal

pub prepare-requires : goal.prepare-requires
prepare-requires c =
    (record { keys_zero = refl; coefficients_zero = refl; sizes_zero = refl }, c.requires.keys, indexed_start _)

pub judge_both-requires : goal.judge_both-requires
judge_both-requires c =
    let q = c.prepare.ensures.ready _ c.in-Ok.is in
    (record { problem = q.problem; joined = q.joined }, record { high_long = c.requires.high; low_long = c.requires.low })

pub returns-in-Ok : goal.returns-in-Ok
returns-in-Ok c =
    let s = c.args in
    let q = c.prepare.ensures.ready _ c.in-Ok.is in
    let v = c.judge_both.ensures in (
      v.judged q.problem q.joined q.rounds ∙ sym (ap (λ (o : Outcome Problem). two_in s.stream o s.first.now s.second.now) q.gives),
      record { keys = c.prepare.ensures.rest; high = v.rest.high_rest; low = v.rest.low_rest },
    )
