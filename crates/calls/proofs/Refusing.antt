-- What the checks that the calls have in common refuse and give: the problem, and a certificate. So what a call tells is
-- known by how its problem ends.
use mathlib.Core.Path.{◌≡◌, refl, subst, ap}
use mathlib.Core.Bool.{Bool, true, false}
use mathlib.Core.List.{List}
use mathlib.Core.Option.{Option, none, some}
use Prim.Native.Nat.{ℕ, ◌≤◌}
use native.Mathlib.Omega.{arith}
use borrow.Author.Tests.{ltb-true, lt-ltb}
use Rattle.counting.proofs.Cases.{clash}
use Rattle.format.specs.Commands as Stream
use Rattle.format.proofs.Run.{first_most, read_positive, read_most}
use Rattle.format.specs.ProblemRules.{Problem, problem_refusal_at, problem_language, no_problem, read_problem}
use Rattle.format.proofs.WithinLimits.{Limits}
use Rattle.format.specs.CertificateRules.{Certificate, certificate_refusal_at, no_certificate, certificate_language, read_certificate}
use Rattle.format.proofs.CertificateLimits.{read_sound}
use Rattle.joining_rule.specs.Joining.{most_keys, too_large}
use Rattle.accepting.specs.Identity.{Identity}
use Rattle.accepting.specs.Judgement.{Judgement, judge, judge_read, judge_outcome, by_blocks, by_identity, split_place, difference_key}
use Rattle.accepting.specs.Judgement as J
use Rattle.accepting.proofs.Blocks.{split_none, split_some}
use Rattle.accepting.proofs.Difference.{difference_smallest}
use Rattle.accepting.proofs.Accepted.{judge_accepted}
use Rattle.calls.specs.declared.Refusal.{Refusal}
use Rattle.calls.specs.Refusals.{problem_refusal, certificate_refusal}
use Rattle.calls.specs.Outcome.{Outcome, refused, given, ◌then◌, of_stream, of_judgement, told}
use Rattle.calls.specs.Checks.{problem_of, certificate_of}
use Rattle.calls.specs.Promises.{Reads, Within, AboveLimit, SevenExactly, SplitsAt, DiffersAt}
use Rattle.calls.proofs.Entries.{split_stands}
use Rattle.calls.proofs.Outcomes.{Refuses, Gives, given_refuses, if_refuses, then_refuses, given_gives, if_gives, then_gives}

-- ---- streams
pub record Between (n low high : ℕ) : Type 0 where
  pub least : low ≤ n
  pub most : n ≤ high

pub problem_number : (s : List ℕ) (n place : ℕ) → read_problem s ≡ Stream.refused n place → Between n 1 6
unfolding read_problem problem_refusal_at
problem_number s n place h = record {
  least = read_positive problem_language s no_problem n place h;
  most = read_most problem_language s (λ a at. first_most _ _ _ _ _) no_problem n place h;
}

pub certificate_number : (p : Problem) (s : List ℕ) (n place : ℕ) → read_certificate p s ≡ Stream.refused n place → Between n 1 6
unfolding read_certificate certificate_refusal_at
certificate_number p s n place h =
    let l = certificate_language p in
    record { least = read_positive l s no_certificate n place h; most = read_most l s (λ a at. first_most _ _ _ _ _) no_certificate n place h }

-- a stream gives one problem
pub reads_at : (s : List ℕ) (P : Problem → Type 0) → Reads s P → (p : Problem) → read_problem s ≡ Stream.given p → P p
reads_at s P r p e = let i = r.read in let same : r.problem ≡ p = cc in subst P same r.holds

module _ {A : Type 0} (stream : ℕ) where
  stream_refuses : {P : Refusal → Type 0} (o : Stream.Outcome A)
      → ((n place : ℕ) → o ≡ Stream.refused n place → P (certificate_refusal stream n place 0)) → Refuses P (of_stream stream o)
  stream_refuses {P} (Stream.refused n place) x =
      record { by = λ r e. let i : certificate_refusal stream n place 0 ≡ r = cc in subst P i (x n place refl) }
  stream_refuses (Stream.given a) x = given_refuses

  stream_gives : (o : Stream.Outcome A) → Gives (λ a. o ≡ Stream.given a) (of_stream stream o)
  stream_gives (Stream.refused n place) = record { by = λ a e. clash (cc) }
  stream_gives (Stream.given b) = given_gives refl

-- ---- the problem
-- 7 is given for a problem that is too large
pub record Large (short : Bool) (p : Problem) : Type 0 where
  pub long : short ≡ false
  pub large : too_large p ≡ true

pub record ProblemRefused (short : Bool) (s : List ℕ) (r : Refusal) : Type 0 where
  pub least : 1 ≤ r.number
  pub most : r.number ≤ 7
  pub stream : r.stream ≡ 0
  pub key : r.key ≡ 0
  pub seven : r.number ≡ 7 → (r.place ≡ 0) × Reads s (Large short)

-- what a refusal with number 7 says
abbrev pub Seven : List ℕ → Refusal → Type 0
Seven s r = r.number ≡ 7 → (r.stream ≡ 0) × ((r.place ≡ 0) × Reads s AboveLimit)

pub seven_of : (short : Bool) (s : List ℕ) (r : Refusal) → ProblemRefused short s r → Seven s r
unfolding too_large
seven_of short s r b h =
    let k = b.seven h in
    (b.stream, (k.0, record { problem = k.1.problem; read = k.1.read; holds = ltb-true _ _ k.1.holds.large }))

module _ (short : Bool) (s : List ℕ) where
  pub problem_refuses : Refuses (ProblemRefused short s) (problem_of short s)
  unfolding problem_of
  problem_refuses =
      if_refuses short _
      (λ _. record { least = omega arith; most = omega arith; stream = refl; key = refl; seven = λ h. absurd (omega arith) })
      (λ long.
      then_refuses
      (stream_refuses 0 (read_problem s) (λ n place e.
      let b = problem_number s n place e in
      record { least = b.least; most = omega (arith, b.most); stream = refl; key = refl; seven = λ h. absurd (omega (arith, b.most)) }))
      (record {
        by = λ p e.
            if_refuses (too_large p) _
            (λ large. record {
              least = omega arith;
              most = omega arith;
              stream = refl;
              key = refl;
              seven = λ _. (refl, record { problem = p; read = (stream_gives 0 (read_problem s)).by p e; holds = record { long = long; large = large } });
            })
            (λ _. given_refuses);
      }))

  pub problem_gives : Gives (Within short s) (problem_of short s)
  unfolding problem_of
  problem_gives =
      if_gives short _ (λ long.
      then_gives (record {
        by = λ p e.
            if_gives (too_large p) _ (λ few. given_gives (record { long = long; read = (stream_gives 0 (read_problem s)).by p e; few = few }));
      }))

  pub problem_within : (p : Problem) → Within short s p → problem_of short s ≡ given p
  unfolding problem_of
  problem_within p w = rw (w.long, w.read, w.few)

  pub problem_large : (p : Problem) → short ≡ false → read_problem s ≡ Stream.given p → too_large p ≡ true
      → problem_of short s ≡ refused (problem_refusal 7 0)
  unfolding problem_of
  problem_large p long read large = rw (long, read, large)

  -- a property of what becomes of the problem, by how it ends
  pub problem_by : (P : Outcome Problem → Type 0) → ((r : Refusal) → ProblemRefused short s r → P (refused r))
      → ((p : Problem) → Within short s p → P (given p)) → P (problem_of short s)
  problem_by P x y = go (problem_of short s) refl
    where
      go : (o : Outcome Problem) → problem_of short s ≡ o → P o
      go (refused r) e = x r (problem_refuses.by r e)
      go (given p) e = y p (problem_gives.by p e)

  -- what a call tells
  module _ {X : Type 0} (refuse : Refusal → X) (f : Problem → Outcome X) where
    pub told_within : (p : Problem) → Within short s p → told refuse (problem_of short s then f) ≡ told refuse (f p)
    told_within p w = rw (problem_within p w)

    pub told_large : (p : Problem) → short ≡ false → read_problem s ≡ Stream.given p → too_large p ≡ true
        → told refuse (problem_of short s then f) ≡ refuse (problem_refusal 7 0)
    told_large p long read large = rw (problem_large p long read large)

    -- refusal 7, of a call that gives it only of its problem
    pub seven_exactly : (refusal : X → Refusal) → ((r : Refusal) → refusal (refuse r) ≡ r)
        → let g = refusal (told refuse (problem_of short s then f)) in Seven s g → SevenExactly short s g
    unfolding too_large
    seven_exactly refusal by only = record {
      only = only;
      always = λ p long read large. rw (told_large p long read (lt-ltb most_keys _ large), by (problem_refusal 7 0)) refl;
    }

-- ---- a certificate
pub record CertificateRefused (stream : ℕ) (p : Problem) (t : List ℕ) (r : Refusal) : Type 0 where
  pub least : 1 ≤ r.number
  pub most : r.number ≤ 9
  pub other : r.number ≡ 7 → ⊥
  pub stream_is : r.stream ≡ stream
  -- "The key is 0 except at 9"
  pub key : (r.number ≡ 9 → ⊥) → r.key ≡ 0
  pub eight : r.number ≡ 8 → SplitsAt p t r.place
  pub nine : r.number ≡ 9 → DiffersAt p t r.key

module _ (stream : ℕ) (p : Problem) (t : List ℕ) (limits : Limits p) where
  pub certificate_refuses : Refuses (CertificateRefused stream p t) (certificate_of stream p t)
  unfolding judge
  certificate_refuses = by_stream (read_certificate p t) refl
    where
      by_rows : (c : Certificate) → read_certificate p t ≡ Stream.given c → (x y : Option ℕ) → split_place p c.rows ≡ x
          → difference_key p c ≡ y → Refuses (CertificateRefused stream p t) (of_judgement stream (by_blocks x (by_identity c y)))
      by_rows c read (some place) y e f = record {
        by = λ r h.
            let i : certificate_refusal stream 8 place 0 ≡ r = cc in
            let k = split_some p c.rows place e in
            subst (CertificateRefused stream p t) i (record {
              least = omega arith;
              most = omega arith;
              other = λ z. omega arith;
              stream_is = refl;
              key = λ _. refl;
              eight = λ _. record { certificate = c; read = read; split = k; entry = split_stands p t c read place k };
              nine = λ z. absurd (omega arith);
            });
      }
      by_rows c read none (some key) e f = record {
        by = λ r h.
            let i : certificate_refusal stream 9 0 key ≡ r = cc in
            let blocks = split_none p c.rows e in
            let smallest = difference_smallest p c limits (read_sound p t c read).rows blocks key f in
            subst (CertificateRefused stream p t) i (record {
              least = omega arith;
              most = omega arith;
              other = λ z. omega arith;
              stream_is = refl;
              key = λ z. absurd (z refl);
              eight = λ z. absurd (omega arith);
              nine = λ _. record {
                certificate = c;
                identity = record { read = read; blocks = blocks; differs = unfold Identity in (λ i. smallest.differs (i key)) };
                smallest = smallest;
              };
            });
      }
      by_rows c read none none e f = given_refuses

      by_stream : (o : Stream.Outcome Certificate) → read_certificate p t ≡ o
          → Refuses (CertificateRefused stream p t) (of_judgement stream (judge_outcome p o))
      by_stream (Stream.refused n place) e = record {
        by = λ r h.
            let i : certificate_refusal stream n place 0 ≡ r = cc in
            let b = certificate_number p t n place e in
            subst (CertificateRefused stream p t) i (record {
              least = b.least;
              most = omega (arith, b.most);
              other = λ z. omega (arith, b.most);
              stream_is = refl;
              key = λ _. refl;
              eight = λ z. absurd (omega (arith, b.most));
              nine = λ z. absurd (omega (arith, b.most));
            });
      }
      by_stream (Stream.given c) e = unfold judge_read in by_rows c e (split_place p c.rows) (difference_key p c) refl refl

  pub certificate_gives : Gives (J.Accepted p t) (certificate_of stream p t)
  certificate_gives = go (judge p t) refl
    where
      go : (j : Judgement) → judge p t ≡ j → Gives (J.Accepted p t) (of_judgement stream j)
      go (J.refused n place key) f = record { by = λ c e. clash (cc) }
      go (J.accepted d) f = given_gives (judge_accepted p limits t d f)
