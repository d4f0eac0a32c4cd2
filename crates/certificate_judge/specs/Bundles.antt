-- A problem that was read and joined, as one value.
use Rattle.format.specs.ProblemRules.{Problem}
use Rattle.certificate_judge.specs.declared.Prepared.{Prepared}
use Rattle.certificate_judge.specs.Steps.{JoinedProblem, Judgeable}

-- this problem stands there, with its blocks and its compared keys
abbrev pub JoinedIn : Problem → Prepared → Type 0
JoinedIn p t =
    JoinedProblem p t.problem.keys.now t.problem.coefficients.now t.problem.sizes.now t.labels.now t.keys.table.now t.keys.count t.keys.index.now

-- some problem does
abbrev pub JudgeableIn : Prepared → Type 0
JudgeableIn t =
    Judgeable t.problem.keys.now t.problem.coefficients.now t.problem.sizes.now t.labels.now t.keys.table.now t.keys.count t.keys.index.now
