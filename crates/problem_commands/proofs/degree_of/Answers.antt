-- `degree_of`: the bytes of a key are its exponents.
use Rattle.std.proofs.Common.{◌≡◌, ◌∙◌, ℕ, arith, rules, tests, w64, ◌+◌}
use native.Mathlib.Nat.{div-div-eq-div-mul}
use Rattle.std.specs.Int.{to_le_bytes}
use Rattle.std.proofs.lemmas.Iterator.{YieldsList-from_map, YieldsList-from_slice}
use Rattle.std.proofs.lemmas.Iterator.Consumers.{sum_by_from_yields_List}
use Rattle.std.specs.List.{sum_by}
use Rattle.polynomial.specs.Monomial.{degree, degree_of}
use Rattle.problem_commands.proofs.degree_of.Goals as goal

regroup : (a b d e f g h i : ℕ) → 0 + a + b + d + e + f + g + h + i ≡ a + (b + (d + (e + (f + (g + (h + (i + 0)))))))
regroup a b d e f g h i = omega arith

bytes_degree : (k : ℕ) → sum_by (λ x. x) (to_le_bytes w64 k) ≡ degree k
unfolding degree degree_of
bytes_degree k = simp div-div-eq-div-mul (regroup _ _ _ _ _ _ _ _)

pub returns : goal.returns
returns c =
    sum_by_from_yields_List (λ x. x) (to_le_bytes w64 c.args.key) c.map.result _ c.sum.ensures.ran
    (YieldsList-from_map _ (λ x. x) (YieldsList-from_slice (to_le_bytes w64 c.args.key) cc) c.map.ensures.closure (λ x r q k. search (rules, tests)))
    ∙ bytes_degree c.args.key
