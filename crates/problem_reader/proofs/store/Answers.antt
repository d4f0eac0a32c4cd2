-- `store`: the arm of each command leaves what it stores (`Stepped`).
use Rattle.std.proofs.Common.{◌≡◌, refl, rules, w32, to_z, of_z}
use Rattle.problem_reader.proofs.Steps.{stepped_variables, stepped_rule, stepped_order, stepped_objective, stepped_term, stepped_member}
use Rattle.problem_reader.proofs.store.Goals as goal

pub returns-in-Variables : goal.returns-in-Variables
returns-in-Variables c = λ p s at after h t b d. let e = c.in-Variables.is in rw e (stepped_variables h (rw e at t) 0 refl)

pub returns-in-Rule : goal.returns-in-Rule
returns-in-Rule c = λ p s at after h t b d. let e = c.in-Rule.is in rw e (stepped_rule h (rw e at t) 0 refl)

pub returns-in-Order : goal.returns-in-Order
returns-in-Order c = λ p s at after h t b d. let e = c.in-Order.is in rw e (stepped_order h (rw e at t) 0 refl)

pub returns-in-Objective : goal.returns-in-Objective
returns-in-Objective c =
    λ p s at after h t b d.
    let e = c.in-Objective.is in
    let o = c.put_objective in
    let x : to_z w32 (of_z w32 c.in-Objective.c) ≡ c.in-Objective.c = search rules in
    rw e (stepped_objective h (rw e at t) b _ o.new.keys o.new.coefficients o.new.sizes o.ensures.0 o.ensures.1 (rw x at o.ensures.2) o.ensures.3)

pub returns-in-Term : goal.returns-in-Term
returns-in-Term c =
    λ p s at after h t b d.
    let e = c.in-Term.is in
    let o = c.put in
    let x : to_z w32 (of_z w32 c.in-Term.c) ≡ c.in-Term.c = search rules in
    rw e (stepped_term h (rw e at t) b _ o.new.self o.ensures.0 (rw x at o.ensures.1))

pub returns-in-Member : goal.returns-in-Member
returns-in-Member c =
    λ p s at after h t b d.
    let e = c.in-Member.is in
    let o = c.put-in-Member in
    rw e (stepped_member h (rw e at t) _ o.new.keys o.new.sizes o.ensures.0 o.ensures.1 o.ensures.2)
