-- `zamiachisel_window_push`: the clauses by what is too short, and otherwise by what the push says and leaves.
use borrow.Author.Rules.{rules}
use borrow.Author.Tests.{lt-ltb, le-ltb}
use native.Mathlib.Omega.{arith}
use mathlib.Core.Path.{◌≡◌, refl, sym, ◌∙◌}
use mathlib.Core.Bool.{Bool, true, false}
use mathlib.Core.List.{List}
use Prim.Native.Nat.{ℕ, ◌≤◌, ◌<◌}
use lib.ListN.{length, get_or}
use mir.Facts.{to_z-of_z}
use Rattle.counting.proofs.Cases.{never}
use Rattle.calls.specs.Fractions.{fraction}
use Rattle.calls.specs.Window.{push_verdict}
use Rattle.calls.specs.declared.Fraction.{Fraction}
use Rattle.calls.specs.declared.WindowVerdict.{WindowVerdict}
use Rattle.calls.proofs.Zeros.{window_zeros}
use Rattle.verdict_numbers.specs.Numbers.{push_numbers, numbers_left, RunZeros}
use Rattle.verdict_numbers.specs.States.{window_in, window_short, window_verdict, state_left, StateArrivals}
use Rattle.verdict_numbers.proofs.RunsOfZeros.{unwritten, push_run}
use Rattle.verdict_numbers.proofs.States.{state_arrivals}
use Rattle.c_calls.proofs.zamiachisel_window_push.Statement.{statement}
use Rattle.c_calls.proofs.zamiachisel_window_push.Tie as tie

module _ (run s : List ℕ) (a : Fraction) where
  abbrev Clauses : Bool → ℕ → List ℕ → List ℕ → Type 0
  Clauses b r left state =
      (r ≡ (window_verdict b s a).refusal.number)
      × ((left ≡ numbers_left (push_numbers (window_verdict b s a)) run)
      × ((state ≡ state_left b s a) × (StateArrivals b s a state × RunZeros 7 r left)))

  one : Clauses true 1 run s
  unfolding window_verdict push_numbers numbers_left state_left
  one = (refl, (refl, (refl, (λ e. never (sym e), unwritten 7 run))))

  run_short : length run < 7 → Clauses (window_short run s) 1 run s
  run_short h = rw (lt-ltb (length run) 7 h) one

  module _ (h : 7 ≤ length run) where
    state-short : length s < 65 → Clauses (window_short run s) 1 run s
    state-short g = rw (le-ltb (length run) 7 h, lt-ltb (length s) 65 g) one

    module _ (g : 65 ≤ length s) (v : WindowVerdict) (e : v ≡ push_verdict (window_in s) a) (ns left state : List ℕ) (r : ℕ) where
      zeros : ns ≡ push_numbers v → r ≡ get_or ns 0 0 → left ≡ numbers_left ns run → RunZeros 7 r left
      unfolding push_numbers
      zeros is number put = rw (number, put, is) (push_run run v (rw e (window_zeros (window_in s) a)))

      pushed : ns ≡ push_numbers v → r ≡ get_or ns 0 0 → left ≡ numbers_left ns run → state ≡ state_left false s a
          → Clauses (window_short run s) r left state
      unfolding window_verdict push_numbers
      pushed is number put kept =
          rw (le-ltb (length run) 7 h, le-ltb (length s) 65 g)
          (number ∙ rw (is, e) refl, (put ∙ rw (is, e) refl, (kept, (rw kept (state_arrivals s a g), zeros is number put))))

returns : tie.Need-returns-then-verdict-lt-WINDOW
returns c =
    let a = c.args in
    run_short a.verdict.now a.state.now (fraction a.numerator a.denominator) c.if-verdict-lt-WINDOW.true

returns-2 : tie.Need-returns-then-state-lt65
returns-2 c =
    let a = c.args in
    state-short a.verdict.now a.state.now (fraction a.numerator a.denominator) c.if-verdict-lt-WINDOW.false
    c.if-state-lt65.true

returns-3 : tie.Need-returns
returns-3 c =
    let p = c in
    let q = p in
    let k = q in
    let s = k in
    let a = s.args in
    let e = simp (to_z-of_z s.ranges.numerator) at k.push-v.ensures in
    let put = p.put_numbers.ensures in
    pushed a.verdict.now a.state.now (fraction a.numerator a.denominator) k.if-verdict-lt-WINDOW.false
    k.if-state-lt65.false k.push-v.result e.0 q.push_numbers-numbers.result p.put_numbers.new.run
    k.push-v.new.state p.put_numbers.result q.push_numbers-numbers.ensures put.0 put.1 e.1

pub zamiachisel_window_push_spec : {M : Type 1} → statement M
zamiachisel_window_push_spec =
    tie.close
    (tie.spec
    returns
    returns-2
    (λ c κs. search rules)
    (λ c κs. search rules)
    (λ c. search rules)
    (λ c κs. search rules)
    (λ c. search rules)
    (λ c. search rules)
    returns-3)
