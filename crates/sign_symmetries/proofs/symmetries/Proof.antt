-- `symmetries`: what the blocks call refuses, or the masks; the clauses from the equations.
use borrow.Author.Rules.{rules}
use native.Mathlib.Omega.{arith}
use mathlib.Core.Path.{◌≡◌, refl, sym, ap, ◌∙◌}
use mathlib.Core.Bool.{Bool, true}
use Prim.Native.Nat.{ℕ}
use lib.ListN.{replicate, length-replicate}
use Rattle.calls.specs.Tables.{Tables, tables, tables_short}
use Rattle.calls.specs.Checks.{problem_of}
use Rattle.calls.specs.Blocks.{blocks_short, blocks_verdict}
use Rattle.calls.specs.Promises.{Reads, Within}
use Rattle.calls.specs.Symmetries.{symmetries_short, symmetries_verdict, masks_left}
use Rattle.calls.specs.declared.BlocksVerdict.{BlocksVerdict}
use Rattle.calls.proofs.Promised.{blocks_opens}
use Rattle.calls.proofs.SymmetryClauses.{symmetry_clauses}
use Rattle.work_tables.proofs.Tables.{tables_kept}
use Rattle.checker.proofs.Tables.{out_long}
use Rattle.sign_symmetries.proofs.Steps.{masks_short, masks_long, refused_as, found_as}
use Rattle.sign_symmetries.proofs.symmetries.Statement.{statement}
use Rattle.sign_symmetries.proofs.symmetries.Tie as tie

abbrev lent : tie.Start → Tables
lent s = tables s.args.keys.now s.args.high.now s.args.low.now

returns : tie.Need-returns-then-out-lt256
unfolding problem_of symmetries_verdict masks_left
returns c =
    let i = c in
    let s = i in
    let e : symmetries_short s.args.out.now (lent s.before.before.before.before.before.before) ≡ true = masks_short (lent s.before.before.before.before.before.before) s.args.out.now i.if-out-lt256.true in
    let v = rw c.problem_refusal.ensures at c.refuse.ensures in
    rw e (v, (refl, (tables_kept _, symmetry_clauses true s.args.problem.now s.args.out.now _ _ v refl)))

-- ---- with bytes that are long enough, the blocks call decides by the tables
abbrev asked : tie.After-struct_known-1 → tie.After-blocks-v
asked c = c.before.before.before.before.before.before.before

abbrev roomy : tie.After-struct_known-1 → tie.Else-out-lt256
roomy c = (asked c).before.before.before.before.before

abbrev start : tie.After-struct_known-1 → tie.Start
start c = (roomy c).before.before.before.before

abbrev short : tie.After-struct_known-1 → Bool
short c = tables_short (lent (start c))

-- 576 bytes are lent to it
asked-short : (c : tie.After-struct_known-1) → blocks_short (replicate 576 255) (lent (start c)) ≡ short c
asked-short c = out_long (lent (start c)) (replicate 576 255) (short c) (omega (arith, length-replicate {A = ℕ} 576 255)) refl

says : (c : tie.After-struct_known-1) → (asked c).blocks-v.result ≡ blocks_verdict (short c) (start c).args.problem.now
says c = rw (asked-short c) at (asked c).blocks-v.ensures.0

own-short : (c : tie.After-struct_known-1) → symmetries_short (start c).args.out.now (lent (start c)) ≡ short c
own-short c = masks_long (lent (start c)) (start c).args.out.now (roomy c).if-out-lt256.false

-- where it refuses nothing the stream gives a problem within its limits
opened : (c : tie.Else-f-ne0) → Reads (start c.before).args.problem.now (Within (short c.before) (start c.before).args.problem.now)
opened c =
    let n = c in
    blocks_opens (short n.before) (start n.before).args.problem.now (sym (ap (λ (v : BlocksVerdict). v.refusal.number) (says n.before)) ∙ c.if-f-ne0.false)

returns-2 : tie.Need-returns-then-f-ne0
returns-2 c =
    let i = c in
    let n = i in
    let a = (start n.before.before).args in
    let q = refused_as (short n.before.before) a.problem.now a.out.now _ (says n.before.before) i.if-f-ne0.true in
    let v = c.refuse-then-f-ne0.ensures ∙ q.0 in
    rw (own-short n.before.before) (v, (q.1, (rw (asked-short n.before.before) at (asked n.before.before).blocks-v.ensures.1.1.0, symmetry_clauses (short n.before.before) a.problem.now a.out.now _ _ v q.1)))

answer-requires : tie.Need-answer-requires
answer-requires c κs =
    let j = c in
    let r = opened j.before in
    (record { problem = r.problem; read = r.read }, (roomy j.before.before).if-out-lt256.false)

returns-3 : tie.Need-returns
returns-3 c =
    let d = c in
    let j = d in
    let n = j in
    let a = (start n.before.before.before.before.before).args in
    let r = opened j.before.before.before.before in
    let m = d.answer.ensures r.problem r.read in
    let q = found_as (short n.before.before.before.before.before) a.problem.now a.out.now r.problem r.holds _ _ _ (ap (λ (v : BlocksVerdict). v.refusal) (says n.before.before.before.before.before)) m.0 m.1 in
    rw (own-short n.before.before.before.before.before) (q.0, (q.1, (rw (asked-short n.before.before.before.before.before) at (asked n.before.before.before.before.before).blocks-v.ensures.1.1.0, symmetry_clauses (short n.before.before.before.before.before) a.problem.now a.out.now _ _ q.0 q.1)))

pub symmetries_spec : {M : Type 1} → statement M
symmetries_spec =
    tie.close
    (tie.spec
    (λ c κs. search rules)
    (λ c κs. search rules)
    returns
    (λ c. search rules)
    (λ c κs. search rules)
    (λ c κs. search rules)
    (λ c. search rules)
    (λ c. search rules)
    (λ c. search rules)
    returns-2
    answer-requires
    (λ c. search rules)
    (λ c. search rules)
    (λ c. search rules)
    (λ c. search rules)
    returns-3)
