-- `put_answer`: the line of refusal 12, or the lines of the records and the last one.
use borrow.Author.Rules.{rules}
use native.Mathlib.Omega.{arith}
use mathlib.Core.Path.{◌∙◌}
use Prim.Native.Nat.{◌+◌, ◌≤◌}
use lib.ListN.{length}
use Rattle.text.proofs.Appending.{appended_text}
use Rattle.week_file.proofs.Weeks.{week_refused, week_lines_lem, count_few}
use Rattle.week_file.proofs.put_answer.Statement.{statement}
use Rattle.week_file.proofs.put_answer.Tie as tie

returns : tie.Need-returns-then-refusal-gt0
returns c =
    let p = c in
    let t = c in
    let r = c in
    p.put_refusal.ensures
    ∙ week_refused r.args.records.now _ (omega arith) _ r.report-v.ensures.0 t.if-refusal-gt0.true

put-records-requires : tie.Need-put_records-at-requires
put-records-requires c κs =
    let e : c.record_count.result ≤ 64 = rw c.record_count.ensures.0 (count_few c.args.records.now) in
    (e, search rules, search rules)

append-last-requires : tie.Need-append_last-requires
append-last-requires c κs =
    let p = c in
    let n = p in
    let e : n.record_count.result ≤ 64 = rw n.record_count.ensures.0 (count_few n.args.records.now) in
    let f = p.put_records-at.ensures.1 in
    let h = n.requires in
    let g : p.put_records-at.result + 128 ≤ length p.put_records-at.new.text = search rules in
    g

returns-2 : tie.Need-returns
returns-2 c =
    let l = c in
    let p = c in
    let n = p in
    let t = c in
    let r = c in
    (appended_text p.put_records-at.ensures.0 l.append_last.ensures).bytes
    ∙ week_lines_lem r.args.records.now _ (omega arith) _ r.report-v.ensures.0 _ _ n.record_count.ensures.0
    (omega (arith, t.if-refusal-gt0.false)) r.report-v.ensures.1.1.1.1.0

pub put_answer_spec : {M : Type 1} → statement M
put_answer_spec =
    tie.close
    (tie.spec
    (λ c. search rules)
    (λ c. search rules)
    (λ c. search rules)
    (λ c. search rules)
    (λ c κs. search rules)
    (λ c κs. search rules)
    (λ c. search rules)
    returns
    (λ c. search rules)
    (λ c κs. search rules)
    put-records-requires
    append-last-requires
    (λ c. search rules)
    returns-2)
