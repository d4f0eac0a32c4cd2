-- `zamiachisel_blocks`: the clauses of the call, with its verdict in the run.
use borrow.Author.Rules.{rules}
use mathlib.Core.Path.{refl}
use mathlib.Core.Bool.{Bool}
use Rattle.calls.specs.declared.BlocksVerdict.{BlocksVerdict}
use Rattle.calls.specs.Tables.{Tables, tables}
use Rattle.calls.specs.Blocks.{blocks_short, blocks_verdict, bytes_left}
use Rattle.calls.specs.Checks.{problem_of}
use Rattle.verdict_numbers.specs.Numbers.{blocks_numbers}
use Rattle.verdict_numbers.proofs.RunsOfZeros.{blocks_run}
use Rattle.c_calls.proofs.Whole.{too_short, whole, beside, when_short, when_long}
use Rattle.c_calls.proofs.zamiachisel_blocks.Statement.{statement}
use Rattle.c_calls.proofs.zamiachisel_blocks.Tie as tie

returns : tie.Need-returns-then-verdict-lt-BLOCKS
unfolding blocks_verdict bytes_left blocks_numbers problem_of
returns c =
    let a = c.args in
    let lent : Tables = tables a.keys.now a.high.now a.low.now in
    let of : Bool → BlocksVerdict = λ b. blocks_verdict b a.problem.now in
    beside (too_short 7 a.verdict.now (blocks_short a.out.now lent) blocks_numbers of (λ b. b) lent c.if-verdict-lt-BLOCKS.true refl refl)
    (when_short 7 a.verdict.now (blocks_short a.out.now lent) (λ (b : Bool). bytes_left b a.problem.now a.out.now) a.out.now c.if-verdict-lt-BLOCKS.true refl)

returns-2 : tie.Need-returns
unfolding blocks_numbers
returns-2 c =
    let p = c in
    let q = p in
    let k = q in
    let i = k in
    let a = i.args in
    let lent : Tables = tables a.keys.now a.high.now a.low.now in
    let of : Bool → BlocksVerdict = λ b. blocks_verdict b a.problem.now in
    let v = k.blocks-v.result in
    let e = k.blocks-v.ensures in
    beside (whole 7 a.verdict.now (blocks_short a.out.now lent) blocks_numbers of (λ b. b) lent i.if-verdict-lt-BLOCKS.false v e.0 q.blocks_numbers-numbers.result p.put_numbers.new.run p.put_numbers.result (tables k.blocks-v.new.keys k.blocks-v.new.high k.blocks-v.new.low) q.blocks_numbers-numbers.ensures p.put_numbers.ensures.0 p.put_numbers.ensures.1 e.1.1.0 (blocks_run a.verdict.now v e.1.1.1.1.1.1.1.1.1.1.1.1.1.1.1))
    (when_long 7 a.verdict.now (blocks_short a.out.now lent) (λ (b : Bool). bytes_left b a.problem.now a.out.now) k.blocks-v.new.out i.if-verdict-lt-BLOCKS.false e.1.0)

pub zamiachisel_blocks_spec : {M : Type 1} → statement M
zamiachisel_blocks_spec =
    tie.close
    (tie.spec
    returns
    (λ c κs. search rules)
    (λ c κs. search rules)
    (λ c. search rules)
    (λ c κs. search rules)
    (λ c. search rules)
    (λ c. search rules)
    (λ c. search rules)
    (λ c. search rules)
    (λ c. search rules)
    returns-2)
