-- Every problem that a stream of bytes gives is legal: so nothing past the documents' numbers is read. And written
-- again it is read as the same problem.
use mathlib.Core.Path.{◌≡◌, refl}
use mathlib.Core.Bool.{Bool, true, false}
use mathlib.Core.List.{List, [], ◌∷◌}
use Prim.Native.Nat.{ℕ, zero, suc, ◌+◌, ◌-◌, ◌*◌, ◌^◌, ◌≤◌, ◌<◌}
use native.Mathlib.Nat.{pow-suc}
use native.Mathlib.Numerals.{add-one}
use native.Mathlib.Omega.{arith}
use lib.Dec.{ltb}
use lib.IntN.{pos, ◌-ℤ◌}
use lib.ListN.{length}
use borrow.Author.Tests.{lt-ltb, ltb-true, ltb-false}
use Rattle.counting.specs.Counting.{Bounded}
use Rattle.polynomial.specs.Terms.{Term}
use Rattle.format.specs.All.{All}
use Rattle.format.specs.Commands.{given}
use Rattle.format.specs.Operands.{signed}
use Rattle.format.specs.declared.problem.Command.{Command}
use Rattle.format.specs.declared.problem.Command.TheVariants as C
use Rattle.format.specs.ProblemLayout.{problem_decoded}
use Rattle.format.specs.ProblemRules.{Condition, Problem, no_problem, no_condition, last_condition, problem_applied, problem_command_at, problem_next, problem_language, read_problem}
use Rattle.format.proofs.Numbers.{lower, upper, number_low}
use Rattle.format.proofs.Run.{read_induction}
use Rattle.format.proofs.WithinLimits.{Terms}
use Rattle.format.proofs.ProblemLimits.{all_more, all_set, all_at, read_limits}
use Rattle.written.specs.Legal.{OfBits, Polynomial, Legal}
use Rattle.written.specs.ProblemWritten.{encode_problem}
use Rattle.written.proofs.ProblemRoundTrip.{encoded_problem_read}

-- ---- a signed operand has its bits
turned_bits : (b m x : ℕ) → x < m → m ≤ x + 2 ^ b → OfBits (suc b) (pos x -ℤ pos m)
turned_bits b zero x h k = absurd (omega arith)
turned_bits b (suc m) x h k =
    let e : suc b - 1 ≡ b = omega arith in rw (lt-ltb x (suc m) h, e) (omega arith)

pub signed_bits : (b x : ℕ) → x < 2 ^ (b + 1) → OfBits (suc b) (signed b x)
signed_bits b x h = go (ltb x (2 ^ b)) refl
  where
    double : 2 ^ (b + 1) ≡ 2 ^ b * 2
    double = rw (add-one b) (pow-suc 2 b)

    go : (t : Bool) → ltb x (2 ^ b) ≡ t → OfBits (suc b) (signed b x)
    go true q =
        let l = ltb-true x (2 ^ b) q in
        let e : suc b - 1 ≡ b = omega arith in
        rw (← lower b x l, e) l
    go false q =
        let l = ltb-false x (2 ^ b) q in
        rw (← upper b x l) (turned_bits b (2 ^ (b + 1)) x h (omega (arith, double)))

-- ---- coefficients have their bits
abbrev Coefficients : ℕ → List Term → Type 0
Coefficients b ts = All (λ (t : Term). OfBits b t.coefficient) ts

record Wide (p : Problem) : Type 0 where
  objective : Coefficients 32 p.objective
  terms : All (λ (g : Condition). Coefficients 16 g.terms) p.conditions

module _ (s : List ℕ) (bytes : Bounded 255 s) where
  wide_applied : (p : Problem) (at : ℕ) (k : Command) → Wide p → Wide (problem_applied p (problem_decoded k s at))
  unfolding problem_applied All
  wide_applied p at C.Variables w = record { objective = w.objective; terms = w.terms }
  wide_applied p at C.Objective w = record {
    objective = all_more _ p.objective _ w.objective (signed_bits 31 _ (number_low s bytes 4 (at + 9)));
    terms = w.terms;
  }
  wide_applied p at C.Inequality w =
      record { objective = w.objective; terms = all_more _ p.conditions _ w.terms tt }
  wide_applied p at C.Term w =
      let gs = p.conditions in
      let ts = (last_condition gs).terms in
      let last : Coefficients 16 ts =
      all_at (λ (g : Condition). Coefficients 16 g.terms) gs (length gs - 1) no_condition w.terms tt in
      let new = signed_bits 15 _ (number_low s bytes 2 (at + 9)) in
      record { objective = w.objective; terms = all_set _ gs _ _ w.terms (all_more _ ts _ last new) }
  wide_applied p at C.Member w = record { objective = w.objective; terms = w.terms }
  wide_applied p at C.End w = w
  wide_applied p at C.Unknown w = w
  wide_applied p at C.Equality w =
      record { objective = w.objective; terms = all_more _ p.conditions _ w.terms tt }
  wide_applied p at C.Rule w = record { objective = w.objective; terms = w.terms }
  wide_applied p at C.Order w = record { objective = w.objective; terms = w.terms }

  read_wide : (p : Problem) → read_problem s ≡ given p → Wide p
  unfolding read_problem problem_next All
  read_wide p h =
      read_induction problem_language s (λ a at cs b. Wide a → Wide b)
      (λ a at t e w. w)
      (λ a b at cs t e f w. f (wide_applied a at (problem_command_at s at) w))
      no_problem p h (record { objective = tt; terms = tt })

polynomials : (n d most b : ℕ) (gs : List Condition) → All (λ (g : Condition). Terms n d most g.terms) gs
    → All (λ (g : Condition). Coefficients b g.terms) gs
    → All (λ (g : Condition). Polynomial n d most b g.terms) gs
unfolding All
polynomials n d most b [] t w = tt
polynomials n d most b (g ∷ gs) t w =
    (record { terms = t.0; coefficients = w.0 }, polynomials n d most b gs t.1 w.1)

-- ---- the law, from the reader's side
module _ (s : List ℕ) (bytes : Bounded 255 s) (p : Problem) (read : read_problem s ≡ given p) where
  pub read_problem_legal : Legal p
  read_problem_legal =
      let l = read_limits s p read in
      let w = read_wide s bytes p read in
      record {
        variables = l.variables;
        rule = l.rule;
        order = l.order;
        objective = record { terms = l.objective; coefficients = w.objective };
        conditions = l.conditions;
        terms = polynomials p.variables 16 32 16 p.conditions l.terms w.terms;
        bases = l.bases;
        members = l.members;
        begun = l.begun;
      }

  pub read_problem_again : read_problem (encode_problem p) ≡ given p
  read_problem_again = encoded_problem_read p read_problem_legal
