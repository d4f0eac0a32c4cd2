-- `all` looks at the first nine counts, which are the bases'.
use Rattle.std.proofs.Common.{ℕ, ◌<◌, ◌≤◌, Bool, List, length, get_or, take, MatchBool, true, false, arith, rules, tests, get_or-take, length-take-le}
use Rattle.std.specs.Prelude.{◌↔◌, IsTrue}
use Rattle.std.specs.List.{HoldsAt, AllWithin}
use Rattle.std.proofs.lemmas.Iterator.{cases_from_all, YieldsList-from_slice}
use Rattle.joining_bases.proofs.are_small.Goals as goal

small_if : (r : Bool) (l : List ℕ) → 9 ≤ length l → MatchBool r (AllWithin (λ n. n ≤ 16) (take 9 l) 0 (length (take 9 l))) ((k : ℕ) × (k < length (take 9 l)) × HoldsAt (λ n. 16 < n) (take 9 l) k)
    → IsTrue r ↔ ((j : ℕ) → j < 9 → get_or l j 0 ≤ 16)
small_if true l h m = (λ _ j b. rw (← get_or-take 9 l j 0 b) (m j 0 (omega arith) (omega (arith, length-take-le 9 l h))), λ _. search rules)
small_if false l h m = (λ e. search rules, λ f. absurd (omega (arith, f m.0 (omega (arith, length-take-le 9 l h)), get_or-take 9 l m.0 0 (omega (arith, length-take-le 9 l h)), m.2 0)))

pub returns : goal.returns
returns c =
    let l = c.args.sizes.now in
    small_if _ l c.requires (cases_from_all _ _ _ (λ n. n ≤ 16) (λ n. 16 < n) c.all.ensures.ran (YieldsList-from_slice (take 9 l) cc) (λ x q k. search (rules, tests)) (λ x q k. search (rules, tests)))
