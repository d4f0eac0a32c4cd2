-- Laws of the start of the joining rule.
use mathlib.Core.Path.{◌≡◌, refl, ap, ◌∙◌}
use mathlib.Core.List.{List, [], ◌∷◌}
use Prim.Native.Nat.{ℕ, ◌*◌, ◌<◌}
use native.Mathlib.Omega.{arith}
use Rattle.joining_rule.specs.Sets.{insert, insert_all}
use Rattle.joining_rule.proofs.Rising.{Rising}
use Rattle.joining_rule.proofs.Extending.{Extends, extends_refl, extends_trans, insert_extends, from_to_extends}
use Rattle.counting.specs.Counting.{from_to}
use Rattle.counting.proofs.Steps.{from_to_same}
use Rattle.joining_rule.specs.Rounds.{Bases}
use Rattle.joining_rule.specs.Joining.{multiples, start_from}

pub insert_all_extends : (ks S : List ℕ) → Extends S (insert_all ks S)
unfolding insert_all
insert_all_extends [] S = extends_refl S
insert_all_extends (k ∷ ks) S = extends_trans S _ _ (insert_extends k S) (insert_all_extends ks (insert k S))

pub multiples_one : (ks : List ℕ) → multiples 1 ks ≡ ks
multiples_one [] = refl
multiples_one (k ∷ ks) = let e : 1 * k ≡ k = omega arith in rw (e, multiples_one ks)

-- ---- the start
pub start_rising : (objective : List ℕ) (g : Bases) → Rising (start_from objective g)
unfolding start_from
start_rising objective g =
    (insert_all_extends (multiples 2 (g.basis 0)) _).rising
    ((from_to_extends (λ j. insert_all (g.multiplier j)) (λ j X. insert_all_extends (g.multiplier j) X) 1 9 _).rising
    ((insert_all_extends objective []).rising tt))

-- bases that agree have the same start
pub start_same : (objective : List ℕ) (g h : Bases) → ((j : ℕ) → j < 9 → g.basis j ≡ h.basis j) → ((j : ℕ) → j < 9 → g.multiplier j ≡ h.multiplier j) → start_from objective g ≡ start_from objective h
unfolding start_from
start_same objective g h b m =
    ap (λ (l : List ℕ). insert_all (multiples 2 l) (from_to 1 9 (λ j. insert_all (g.multiplier j)) (insert_all objective []))) (b 0 (omega arith))
    ∙ ap (insert_all (multiples 2 (h.basis 0))) (from_to_same (λ j. insert_all (g.multiplier j)) (λ j. insert_all (h.multiplier j)) 9 1 (λ j S _ l. ap (λ (ks : List ℕ). insert_all ks S) (m j l)) _)
