-- `list`: by whether the mask at hand is listed.
use Rattle.std.proofs.Common.{◌≡◌, ◌<◌, ◌≤◌, ◌++◌, ℕ, List, ap, sym, ◌∙◌, arith, length, drop, replicate, length-set, length-append, length-drop}
use Rattle.std.proofs.lemmas.List.{length-take-le, length-replicate}
use Rattle.sign_symmetries.specs.Parities.{even_all}
use Rattle.sign_symmetries.proofs.Listing.{Written, written_start, written_taken, written_left, written_done}
use Rattle.sign_symmetries.proofs.list.Goals as goal
use Rattle.sign_symmetries.proofs.list.Goals.{then-is_even_with_all, else-is_even_with_all}

pub loop-r-init : goal.loop-r-init
loop-r-init c =
    let out = c.args.out.now in
    let long : 256 ≤ length out = omega (arith, c.requires.1) in
    let zeros : c.fill.new.self ≡ replicate 256 0 = c.fill.ensures.after (λ y e. e) ∙ ap (λ (n : ℕ). replicate n 0) (length-take-le 256 out long) in
    let all : length (c.fill.new.self ++ drop 256 out) ≡ length out = rw zeros (omega (arith, length-append (replicate 256 0) (drop 256 out), length-replicate {A = ℕ} 256 0, length-drop 256 out)) in
    (omega arith, all, written_start _ _ (omega arith) _ _ (ap (λ (l : List ℕ). l ++ drop 256 out) zeros))

pub loop-r-preserved : goal.loop-r-preserved
loop-r-preserved c =
    let l = c.loop-r in
    let v = l.invariant in
    let rest = drop 256 c.args.out.now in
    elim c.if-is_even_with_all.branch [
      | then-is_even_with_all w ↦
          let g : l.count < 256 = omega (arith, c.requires.0, c.loop-r-test.true, v.0) in
          rw (w.out-is, w.count-is)
          (omega (arith, v.0), simp length-set v.1, written_taken _ l.r l.count l.out rest v.2 (sym w.if-is_even_with_all.true ∙ c.is_even_with_all.ensures) g)
      | else-is_even_with_all w ↦
          rw (w.out-is, w.count-is)
          (omega (arith, v.0), v.1, written_left _ l.r l.count l.out rest v.2 (sym w.if-is_even_with_all.false ∙ c.is_even_with_all.ensures))
    ]

pub returns-clause-count : goal.returns-clause-count
returns-clause-count c =
    let l = c.loop-r in
    let e : l.r ≡ c.args.limit = omega (arith, l.auto.r-end, c.loop-r-test.false) in
    let w : Written (λ m. even_all m c.args.bytes.now) c.args.limit l.count l.out (drop 256 c.args.out.now) = rw e at l.invariant.2 in
    sym w.counted

pub returns-clause-bytes : goal.returns-clause-bytes
returns-clause-bytes c =
    let l = c.loop-r in
    let e : l.r ≡ c.args.limit = omega (arith, l.auto.r-end, c.loop-r-test.false) in
    let w : Written (λ m. even_all m c.args.bytes.now) c.args.limit l.count l.out (drop 256 c.args.out.now) = rw e at l.invariant.2 in
    written_done _ c.args.limit l.count l.out c.args.out.now w
