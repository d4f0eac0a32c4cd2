-- `zamiachisel_choose`: what was chosen as the number of its stream, with the refusal in the run.
use borrow.Author.Rules.{rules}
use mathlib.Core.Path.{◌≡◌, refl, ap, ap₂}
use mathlib.Core.Bool.{Bool}
use mathlib.Core.List.{[], ◌∷◌}
use Prim.Native.Nat.{ℕ}
use Rattle.calls.specs.declared.Chosen.{Chosen}
use Rattle.calls.specs.declared.Refusal.{Refusal}
use Rattle.calls.specs.declared.SupersedingVerdict.{SupersedingVerdict}
use Rattle.calls.specs.Tables.{Tables, tables, tables_short}
use Rattle.calls.specs.Superseding.{superseding_verdict, superseding_of}
use Rattle.calls.specs.Checks.{problem_of}
use Rattle.calls.specs.Check.{check_verdict}
use Rattle.verdict_numbers.specs.Numbers.{chosen_numbers}
use Rattle.verdict_numbers.proofs.RunsOfZeros.{chosen_run}
use Rattle.c_calls.proofs.Whole.{too_short, whole}
use Rattle.c_calls.proofs.zamiachisel_choose.Statement.{statement}
use Rattle.c_calls.proofs.zamiachisel_choose.Tie as tie

abbrev decided : Refusal → Chosen → SupersedingVerdict
decided f c = record { refusal = f; chosen = c }

five : (a b c d : ℕ) {x y : ℕ} → x ≡ y → (a ∷ b ∷ c ∷ d ∷ x ∷ []) ≡ (a ∷ b ∷ c ∷ d ∷ y ∷ [])
five a b c d e = ap (λ (x : ℕ). a ∷ b ∷ c ∷ d ∷ x ∷ []) e

returns : tie.Need-returns-then-verdict-lt-CHOOSE
unfolding superseding_verdict superseding_of check_verdict chosen_numbers problem_of
returns c =
    let a = c.args in
    let lent : Tables = tables a.keys.now a.high.now a.low.now in
    let of : Bool → SupersedingVerdict = λ b. superseding_verdict b a.problem.now a.first.now a.second.now in
    too_short 5 a.verdict.now (tables_short lent) chosen_numbers of (λ b. b) lent c.if-verdict-lt-CHOOSE.true refl refl

returns-2 : tie.Need-returns
unfolding chosen_numbers
returns-2 c =
    let p = c in
    let q = p in
    let k = q in
    let i = k in
    let a = i.args in
    let lent : Tables = tables a.keys.now a.high.now a.low.now in
    let of : Bool → SupersedingVerdict = λ b. superseding_verdict b a.problem.now a.first.now a.second.now in
    let e = k.choose-chosen.ensures in
    whole 5 a.verdict.now (tables_short lent) chosen_numbers of (λ b. b) lent i.if-verdict-lt-CHOOSE.false (decided _ k.choose-chosen.result) (ap₂ decided e.1.0 e.0) _ p.put_numbers.new.run p.put_numbers.result (tables k.choose-chosen.new.keys k.choose-chosen.new.high k.choose-chosen.new.low) (five _ _ _ _ q.stream_of-back.ensures) p.put_numbers.ensures.0 p.put_numbers.ensures.1 e.1.1.0 (chosen_run a.verdict.now (decided _ k.choose-chosen.result) e.1.1.1)

pub zamiachisel_choose_spec : {M : Type 1} → statement M
zamiachisel_choose_spec =
    tie.close
    (tie.spec
    returns
    (λ c κs. search rules)
    (λ c κs. search rules)
    (λ c. search rules)
    (λ c κs. search rules)
    (λ c. search rules)
    (λ c. search rules)
    (λ c. search rules)
    (λ c. search rules)
    returns-2)
