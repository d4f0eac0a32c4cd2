-- Laws of the chain: what was read and joined is the problem's outcome, and what was judged is the certificates'.
use mathlib.Core.Path.{◌≡◌, refl, sym, ap, subst, ◌∙◌}
use mathlib.Core.Bool.{Bool, false}
use mathlib.Core.List.{List}
use Prim.Native.Nat.{ℕ, ◌≤◌}
use native.Mathlib.Omega.{arith}
use borrow.Author.Tests.{ltb-false}
use lib.IntN.{ℤ}
use lib.ListN.{length, drop}
use Rattle.counting.proofs.Cases.{clash}
use Rattle.format.specs.Commands as Stream
use Rattle.format.specs.ProblemRules.{Problem, read_problem}
use Rattle.format.proofs.ProblemLimits.{read_limits}
use Rattle.joining_rule.specs.Joining.{bases_of, closing, too_large, block_total}
use Rattle.accepting.specs.Judgement.{compared_keys, judge}
use Rattle.calls.specs.Outcome.{refused}
use Rattle.calls.specs.declared.Refusal.{Refusal}
use Rattle.calls.specs.Refusals.{problem_refusal}
use Rattle.calls.specs.Tables.{table_length}
use Rattle.calls.specs.Checks.{problem_of}
use Rattle.flat.specs.Flat.{FlatLimits, FlatProblem}
use Rattle.closure.specs.Tables.{ClosureLeft}
use Rattle.closure.specs.declared.Joined.{Joined}
use Rattle.key_set.specs.declared.Full.{Full}
use Rattle.certificate_judge.specs.Steps.{JoinedProblem, judged_of}
use Rattle.format.specs.declared.certificate.Header.{Header}
use Rattle.std.specs.Prelude.{Result, Ok, Err}
use Rattle.problem_judge.specs.Chain.{Prepares, PreparedLeft, ends_with, both_judged, two_of}

-- ---- the problem's outcome
pub problem_refused : (s : List ℕ) (n place : ℕ) → read_problem s ≡ Stream.refused n place
    → problem_of false s ≡ refused (problem_refusal n place)
unfolding problem_of
problem_refused s n place e = rw e refl

module _ (s : List ℕ) (p : Problem) (read : read_problem s ≡ Stream.given p) {t t' idx' l' : List ℕ} where
  -- a joining that is full is refusal 7
  pub problem_full_lem : {f : Full} → ClosureLeft (bases_of p) (closing p) t (Err f) t' idx' l' → problem_of false s ≡ refused (problem_refusal 7 0)
  unfolding problem_of too_large
  problem_full_lem left = rw (read, sym left.full) refl

  -- one that is not leaves the problem with its blocks
  module _ {j : Joined} (left : ClosureLeft (bases_of p) (closing p) t (Ok j) t' idx' l') {keys : List ℕ} {coefficients : List ℤ} {sizes : List ℕ}
      (flat : FlatProblem p keys coefficients sizes) (long : 2048 ≤ length t) where
    joins : JoinedProblem p keys coefficients sizes l' t' j.len idx'
    unfolding compared_keys
    joins =
        let S = compared_keys p in
        record {
          limits = read_limits s p read;
          flat = flat;
          labels_are = left.labels;
          holds =
              record {
                few = rw left.len (ltb-false 2048 (length S) (sym left.full));
                room = omega (arith, long, left.long);
                apart = ap length left.keys ∙ sym left.len;
              };
          compared = left.keys;
          index = left.index;
        }

    pub prepares : Prepares s j keys coefficients sizes l' t' idx'
    unfolding problem_of block_total too_large
    prepares = record {
      problem = p;
      gives = rw (read, sym left.full) refl;
      joined = joins;
      rounds = left.rounds;
      blocks = left.blocks;
    }

-- ---- what is left of the stream
module _ {s keys : List ℕ} {coefficients : List ℤ} {sizes labels t t' idx : List ℕ} (limits : FlatLimits keys coefficients sizes)
    (rest : drop table_length t' ≡ drop table_length t) where
  pub left_refused : (f : Refusal) → problem_of false s ≡ refused f → PreparedLeft s (Err f) keys coefficients sizes labels t t' idx
  left_refused f e = record {
    limits = limits;
    refuses = λ g q. let i : f ≡ g = cc in e ∙ ap refused i;
    ready = λ j q. clash (cc);
    rest = rest;
  }

  pub left_ready : (j : Joined) → Prepares s j keys coefficients sizes labels t' idx → PreparedLeft s (Ok j) keys coefficients sizes labels t t' idx
  left_ready j p = record {
    limits = limits;
    refuses = λ g q. clash (cc);
    ready = λ k q. let i : j ≡ k = cc in subst (λ (k : Joined). Prepares s k keys coefficients sizes labels t' idx) i p;
    rest = rest;
  }

-- ---- the certificates, by what became of each
pub two_of_lem : (stream : ℕ) (p : Problem) (first second : List ℕ) (a b : Result Header Refusal) (ends : Bool) (rounds rule : ℕ)
    → a ≡ judged_of 1 (judge p first) → b ≡ judged_of stream (judge p second) → ends ≡ ends_with stream a
    → rounds ≡ (closing p).rounds → rule ≡ p.rule → both_judged rounds rule ends a b ≡ two_of stream p first second
unfolding two_of
two_of_lem stream p first second a b ends rounds rule e f g h k = rw (g, e, f, h, k) refl
