-- One law for every call, on a problem stream and on the same under rule 1 or at a larger order: refusal 7 applies there
-- to every certificate and pair, or all that were accepted are accepted, with the same bounds. A call that decides by
-- checks or by pairs has its own promise from this.
use mathlib.Core.Path.{◌≡◌, refl}
use mathlib.Core.Bool.{Bool}
use mathlib.Core.List.{List}
use mathlib.Core.Logic.{inl, inr}
use Prim.Native.Nat.{ℕ}
use Rattle.format.specs.Commands.{given}
use Rattle.format.specs.ProblemRules.{Problem, read_problem}
use Rattle.calls.specs.declared.Refusal.{Refusal}
use Rattle.calls.specs.declared.CheckVerdict.{CheckVerdict}
use Rattle.calls.specs.declared.PairVerdict.{PairVerdict}
use Rattle.calls.specs.Refusals.{no_refusal, problem_refusal}
use Rattle.calls.specs.Check.{refused_check, check_verdict}
use Rattle.calls.specs.Pair.{refused_pair, pair_verdict}
use Rattle.calls.specs.Promises.{Reads, Within}
use Rattle.calls.specs.Rules.{Unless, KeptUnless, SameBound, SameBounds}
use Rattle.calls.proofs.Rules.{AllLead, BothWithin, Under, large, both, under}
use Rattle.calls.proofs.Endings.{check_large, pair_large}
use Rattle.calls.proofs.Checking.{check_opens, check_stays}
use Rattle.calls.proofs.Pairing.{pair_opens, pair_stays}

-- 7 applies to the problem of t
pub record AllSeven (short : Bool) (t : List ℕ) : Type 0 where
  pub check : (c : List ℕ) → check_verdict short t c ≡ refused_check (problem_refusal 7 0)
  pub pair : (low high : List ℕ) → pair_verdict short t low high ≡ refused_pair (problem_refusal 7 0)

-- t gives a problem over the same region, and what is accepted with s is accepted with t
pub record AllStay (short : Bool) (s t : List ℕ) : Type 0 where
  pub problem : Problem
  pub other : Problem
  pub read : read_problem s ≡ given problem
  pub other_read : read_problem t ≡ given other
  pub variables : other.variables ≡ problem.variables
  pub conditions : other.conditions ≡ problem.conditions
  pub check : (c : List ℕ) → (check_verdict short s c).refusal.number ≡ 0
      → ((check_verdict short t c).refusal ≡ no_refusal) × SameBound (check_verdict short t c) (check_verdict short s c)
  pub pair : (low high : List ℕ) → (pair_verdict short s low high).refusal.number ≡ 0
      → ((pair_verdict short t low high).refusal ≡ no_refusal)
      × SameBounds (pair_verdict short t low high) (pair_verdict short s low high)

pub data Stays (short : Bool) (s t : List ℕ) : Type 0 where
  seven : AllSeven short t → Stays short s t
  stay : AllStay short s t → Stays short s t

module _ (short : Bool) (s t : List ℕ) (leads : AllLead s t) where
  pub stays : Reads s (Within short s) → Stays short s t
  stays r = go (under short s t leads r)
    where
      go : Under short s t → Stays short s t
      go (large q f e l) =
          seven (record {
            check = λ c. check_large short t c q f e l;
            pair = λ low high. pair_large short t low high q f e l;
          })
      go (both b) =
          stay (record {
            problem = b.problem;
            other = b.other;
            read = b.first.read;
            other_read = b.second.read;
            variables = b.variables;
            conditions = b.more.alike.conditions;
            check = λ c. check_stays short s c _ refl t b;
            pair = λ low high. pair_stays short s low high _ refl t b;
          })

  -- where some certificate is accepted with s, and where some pair is
  pub check_all : (c : List ℕ) → (check_verdict short s c).refusal.number ≡ 0 → Stays short s t
  check_all c h = stays (check_opens short s c _ refl h)

  pub pair_all : (low high : List ℕ) → (pair_verdict short s low high).refusal.number ≡ 0 → Stays short s t
  pair_all low high h = stays (pair_opens short s low high _ refl h)

-- ---- a call on one problem, whose verdict with the stream s is `of s`
-- it accepts only what the check, or the pair, accepts; with refusal 7 of every certificate and pair it gives the refusal
-- g; and where all stay accepted it accepts, and returns the same
pub record Decides {A : Type 0} (g : Refusal) (refusal : A → Refusal) (same : A → A → Type 0) (of : List ℕ → A)
    (short : Bool) (s : List ℕ) : Type 0 where
  pub opens : (refusal (of s)).number ≡ 0 → Reads s (Within short s)
  pub refuses : (t : List ℕ) → AllSeven short t → (refusal (of s)).number ≡ 0 → refusal (of t) ≡ g
  pub accepts : (t : List ℕ) → AllStay short s t → (refusal (of s)).number ≡ 0
      → (refusal (of t) ≡ no_refusal) × same (of t) (of s)

-- so of every relation R of streams that lead to no less joined
pub decides_kept : {A : Type 0} {g : Refusal} {refusal : A → Refusal} {same : A → A → Type 0} {of : List ℕ → A} {short : Bool}
    {s : List ℕ} → Decides g refusal same of short s
    → (R : List ℕ → List ℕ → Type 0) → ((t : List ℕ) → R s t → AllLead s t) → KeptUnless g refusal same of R s (of s)
decides_kept {g = g} {refusal = refusal} {same = same} {of = of} {short = short} {s = s} d R leads t u h =
    go (stays short s t (leads t u) (d.opens h))
  where
    go : Stays short s t → Unless g (refusal (of t)) (same (of t) (of s))
    go (seven a) = inl (d.refuses t a h)
    go (stay a) = inr (d.accepts t a h)
