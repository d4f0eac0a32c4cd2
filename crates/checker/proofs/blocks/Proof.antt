-- `blocks`: the equations from the callees, and the clauses from the equations.
use borrow.Author.Rules.{rules}
use native.Mathlib.Omega.{arith}
use mathlib.Core.Path.{◌≡◌, refl, sym, ◌∙◌}
use mathlib.Core.Bool.{Bool, true, false}
use Rattle.calls.specs.Tables.{Tables, tables, tables_short}
use Rattle.work_tables.specs.Tables.{Long}
use Rattle.calls.specs.Checks.{problem_of}
use Rattle.calls.specs.Blocks.{blocks_short, blocks_verdict, bytes_left}
use Rattle.work_tables.proofs.Tables.{tables_long, tables_kept, tables_cleared}
use Rattle.checker.proofs.Tables.{out_short, out_long}
use Rattle.calls.proofs.Promised.{clauses}
use Rattle.checker.proofs.blocks.Statement.{statement}
use Rattle.checker.proofs.blocks.Tie as tie

-- whether something lent is too short
abbrev lent : tie.Start → Tables
lent s = tables s.args.keys.now s.args.high.now s.args.low.now

abbrev short : tie.Start → Bool
short s = blocks_short s.args.out.now (lent s)

returns : tie.Need-returns-then-out-lt576
unfolding problem_of blocks_verdict bytes_left
returns c =
    let i = c in
    let s = i in
    let e : short s.before.before.before.before.before.before ≡ true = out_short (lent s.before.before.before.before.before.before) s.args.out.now i.if-out-lt576.true in
    let v = rw c.problem_refusal.ensures at c.refuse_blocks.ensures in
    rw e (v, (refl, (tables_kept _, clauses true s.args.problem.now s.args.out.now _ _ v refl)))

returns-2 : tie.Need-returns-then-is_short
unfolding problem_of blocks_verdict bytes_left
returns-2 c =
    let t = c in
    let i = t in
    let s = i in
    let e : short s.before.before.before.before.before.before.before.before ≡ true = out_long (lent s.before.before.before.before.before.before.before.before) s.args.out.now true i.if-out-lt576.false (sym i.is_short.ensures ∙ t.if-is_short.true) in
    let v = rw c.problem_refusal-then-is_short.ensures at c.refuse_blocks-then-is_short.ensures in
    rw e (v, (refl, (tables_kept _, clauses true s.args.problem.now s.args.out.now _ _ v refl)))

-- with tables that are long enough
fine : (c : tie.Else-is_short) → tables_short (lent c.before.before.before.before.before.before) ≡ false
fine c = sym c.is_short.ensures ∙ c.if-is_short.false

long : (c : tie.Else-is_short) → Long (lent c.before.before.before.before.before.before)
long c = tables_long _ (fine c)

answer-blocks-requires : tie.Need-answer_blocks-v-requires
answer-blocks-requires c κs = let e = c in (e.if-out-lt576.false, (long e.before.before).keys)

clear-tables-requires : tie.Need-clear_tables-requires
clear-tables-requires c κs =
    let a = c in
    let l = long a.before.before.before.before.before.before.before.before.before.before in
    record { keys = omega (arith, l.keys, a.answer_blocks-v.auto.table); high = l.high; low = l.low }

returns-3 : tie.Need-returns
returns-3 c =
    let k = c in
    let a = k in
    let b = a in
    let s = b in
    let e : short s.before.before.before.before.before.before.before.before.before.before.before.before.before.before.before.before.before.before.before.before.before ≡ false = out_long (lent s.before.before.before.before.before.before.before.before.before.before.before.before.before.before.before.before.before.before.before.before.before) s.args.out.now false b.if-out-lt576.false (fine b.before.before.before.before.before.before.before.before.before.before.before.before.before.before.before) in
    let v = a.answer_blocks-v.ensures.0 in
    let o = a.answer_blocks-v.ensures.1 in
    let t = tables_cleared (record { keys = a.answer_blocks-v.ensures.2; high = refl; low = refl }) k.clear_tables.ensures in
    rw e (v, (o, (t, clauses false s.args.problem.now s.args.out.now _ _ v o)))

pub blocks_spec : {M : Type 1} → statement M
blocks_spec =
    tie.close
    (tie.spec
    (λ c κs. search rules)
    (λ c κs. search rules)
    returns
    (λ c κs. search rules)
    (λ c κs. search rules)
    (λ c κs. search rules)
    returns-2
    answer-blocks-requires
    clear-tables-requires
    (λ c. search rules)
    (λ c. search rules)
    (λ c. search rules)
    (λ c. search rules)
    returns-3)
