-- `zamiachisel_symmetries`: the clauses of the call, with its verdict in the run.
use borrow.Author.Rules.{rules}
use mathlib.Core.Path.{refl}
use mathlib.Core.Bool.{Bool}
use Rattle.calls.specs.declared.SymmetriesVerdict.{SymmetriesVerdict}
use Rattle.calls.specs.Tables.{Tables, tables}
use Rattle.calls.specs.Symmetries.{symmetries_short, symmetries_verdict, masks_left}
use Rattle.calls.specs.Checks.{problem_of}
use Rattle.verdict_numbers.specs.Numbers.{symmetries_numbers}
use Rattle.verdict_numbers.proofs.RunsOfZeros.{symmetries_run}
use Rattle.c_calls.proofs.Whole.{too_short, whole, beside, when_short, when_long}
use Rattle.c_calls.proofs.zamiachisel_symmetries.Statement.{statement}
use Rattle.c_calls.proofs.zamiachisel_symmetries.Tie as tie

returns : tie.Need-returns-then-verdict-lt-SYMMETRIES
unfolding symmetries_verdict masks_left symmetries_numbers problem_of
returns c =
    let a = c.args in
    let lent : Tables = tables a.keys.now a.high.now a.low.now in
    let of : Bool → SymmetriesVerdict = λ b. symmetries_verdict b a.problem.now in
    beside (too_short 5 a.verdict.now (symmetries_short a.out.now lent) symmetries_numbers of (λ b. b) lent c.if-verdict-lt-SYMMETRIES.true refl refl)
    (when_short 5 a.verdict.now (symmetries_short a.out.now lent) (λ (b : Bool). masks_left b a.problem.now a.out.now) a.out.now c.if-verdict-lt-SYMMETRIES.true refl)

returns-2 : tie.Need-returns
unfolding symmetries_numbers
returns-2 c =
    let p = c in
    let q = p in
    let k = q in
    let i = k in
    let a = i.args in
    let lent : Tables = tables a.keys.now a.high.now a.low.now in
    let of : Bool → SymmetriesVerdict = λ b. symmetries_verdict b a.problem.now in
    let v = k.symmetries-v.result in
    let e = k.symmetries-v.ensures in
    beside (whole 5 a.verdict.now (symmetries_short a.out.now lent) symmetries_numbers of (λ b. b) lent i.if-verdict-lt-SYMMETRIES.false v e.0 q.symmetries_numbers-numbers.result p.put_numbers.new.run p.put_numbers.result (tables k.symmetries-v.new.keys k.symmetries-v.new.high k.symmetries-v.new.low) q.symmetries_numbers-numbers.ensures p.put_numbers.ensures.0 p.put_numbers.ensures.1 e.1.1.0 (symmetries_run a.verdict.now v e.1.1.1.1.1.1.1.1.0))
    (when_long 5 a.verdict.now (symmetries_short a.out.now lent) (λ (b : Bool). masks_left b a.problem.now a.out.now) k.symmetries-v.new.out i.if-verdict-lt-SYMMETRIES.false e.1.0)

pub zamiachisel_symmetries_spec : {M : Type 1} → statement M
zamiachisel_symmetries_spec =
    tie.close
    (tie.spec
    returns
    (λ c κs. search rules)
    (λ c κs. search rules)
    (λ c. search rules)
    (λ c κs. search rules)
    (λ c. search rules)
    (λ c. search rules)
    (λ c. search rules)
    (λ c. search rules)
    (λ c. search rules)
    returns-2)
