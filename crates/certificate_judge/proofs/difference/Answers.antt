-- `difference`: the comparison, with cleared tables.
use Rattle.std.proofs.Common.{◌≡◌, ◌++◌, ℤ, ℕ, ◌≤◌, List, pos, length, drop, take, replicate, length-append, length-drop, arith}
use Rattle.std.proofs.lemmas.List.{length-take-le, length-replicate}
use Rattle.certificate_judge.proofs.Comparing.{cleared_untouched}
use Rattle.certificate_judge.proofs.difference.Goals as goal

filled : (t l : List ℤ) (n : ℕ) → n ≤ length t → l ≡ replicate (length (take n t)) (pos 0) → l ++ drop n t ≡ replicate n (pos 0) ++ drop n t
filled t l n h e = rw (e, length-take-le n t h)

kept : (t : List ℤ) (n : ℕ) → n ≤ length t → (t' : List ℤ) → t' ≡ replicate n (pos 0) ++ drop n t → length t' ≡ length t
kept t n h t' e = rw e (omega (arith, length-append (replicate n (pos 0)) (drop n t), length-replicate n (pos 0), length-drop n t))

pub returns : goal.returns
returns c =
    let few = c.requires.0.0.few in
    let q = c.compare.ensures in
    let n = c.args.keys.count in
    let hi = c.args.high.now in
    let lo = c.args.low.now in
    let h : n ≤ length hi = omega (arith, few, c.requires.2.high_long) in
    let l : n ≤ length lo = omega (arith, few, c.requires.2.low_long) in
    let e = filled hi c.fill.new.self n h (c.fill.ensures.after (λ y e. e)) in
    let f = filled lo c.fill-2.new.self n l (c.fill-2.ensures.after (λ y e. e)) in
    record {
      difference = q.difference;
      high = cleared_untouched hi _ _ e few (kept hi n h _ e) q.high;
      low = cleared_untouched lo _ _ f few (kept lo n l _ f) q.low;
    }
