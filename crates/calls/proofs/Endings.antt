-- How the check and the pair end: a refusal, and what it says, or what was accepted. Each clause is a case of these.
use mathlib.Core.Path.{◌≡◌, refl, ap, ◌∙◌}
use mathlib.Core.Bool.{Bool, true, false, not}
use mathlib.Core.List.{List}
use mathlib.Core.Logic.{◌⊎◌, inl, inr}
use Prim.Native.Nat.{ℕ, ◌≤◌}
use native.Mathlib.Omega.{arith}
use lib.Dec.{eqb}
use borrow.Author.Tests.{eqb-true, eqb-false, eq-eqb}
use Rattle.counting.proofs.Cases.{clash}
use Rattle.format.specs.Commands as Stream
use Rattle.format.specs.ProblemRules.{Problem, read_problem}
use Rattle.format.proofs.ProblemLimits.{read_limits}
use Rattle.format.specs.CertificateRules.{Certificate}
use Rattle.format.specs.declared.certificate.Header.{Header}
use Rattle.joining_rule.specs.Joining.{closing, too_large}
use Rattle.accepting.specs.Judgement as J
use Rattle.accepting.proofs.Accepted.{accepted_judge}
use Rattle.calls.specs.declared.Refusal.{Refusal}
use Rattle.calls.specs.declared.CheckVerdict.{CheckVerdict}
use Rattle.calls.specs.declared.PairVerdict.{PairVerdict}
use Rattle.calls.specs.Refusals.{problem_refusal, certificate_refusal}
use Rattle.calls.specs.Outcome.{refused, given, ◌then◌, of_judgement, told}
use Rattle.calls.specs.Checks.{problem_of, certificate_of}
use Rattle.calls.specs.Check.{refused_check, accepted_check, check_for, check_verdict}
use Rattle.calls.specs.Pair.{refused_pair, accepted_pair, pair_sides, pair_for, pair_verdict}
use Rattle.calls.specs.Promises.{Reads, Within, SplitsAt, DiffersAt, BothHold, SecondSplits, SecondDiffers, WrongSides}
use Rattle.calls.proofs.Outcomes.{Refuses, Gives, given_refuses, if_refuses, then_refuses, given_gives, if_gives, then_gives, told_by}
use Rattle.calls.proofs.Refusing.{ProblemRefused, CertificateRefused, Seven, seven_of, problem_by, told_within, told_large, certificate_refuses, certificate_gives}

-- a certificate that is accepted is given
pub accepted_given : (stream : ℕ) (p : Problem) (t : List ℕ) (c : Certificate) → J.Accepted p t c → certificate_of stream p t ≡ given c
accepted_given stream p t c a = ap (of_judgement stream) (accepted_judge p t c a)

-- ---- the check
-- what is told of a judgement
abbrev pub check_by : Problem → J.Judgement → CheckVerdict
check_by p j = told refused_check (of_judgement 1 j then λ c. given (accepted_check c.header (closing p).rounds p.rule))

-- what a refusal of the check says
pub record CheckRefused (short : Bool) (s t : List ℕ) (r : Refusal) : Type 0 where
  pub least : 1 ≤ r.number
  pub most : r.number ≤ 9
  pub stream : r.stream ≤ 1
  pub key : (r.number ≡ 9 → ⊥) → r.key ≡ 0
  pub seven : Seven s r
  pub eight : r.number ≡ 8 → (r.stream ≡ 1) × Reads s (λ p. SplitsAt p t r.place)
  pub nine : r.number ≡ 9 → (r.stream ≡ 1) × Reads s (λ p. DiffersAt p t r.key)

module _ (short : Bool) (s t : List ℕ) where
  check_unread : (r : Refusal) → ProblemRefused short s r → CheckRefused short s t r
  check_unread r b = record {
    least = b.least;
    most = omega (arith, b.most);
    stream = omega (arith, b.stream);
    key = λ _. b.key;
    seven = seven_of short s r b;
    eight = λ h. absurd (omega (arith, b.most));
    nine = λ h. absurd (omega (arith, b.most));
  }

  check_refused_lem : (p : Problem) → Within short s p → (r : Refusal) → CertificateRefused 1 p t r → CheckRefused short s t r
  check_refused_lem p w r b = record {
    least = b.least;
    most = b.most;
    stream = omega (arith, b.stream_is);
    key = b.key;
    seven = λ h. absurd (b.other h);
    eight = λ h. (b.stream_is, record { problem = p; read = w.read; holds = b.eight h });
    nine = λ h. (b.stream_is, record { problem = p; read = w.read; holds = b.nine h });
  }

  pub check_by_lem : (P : CheckVerdict → Type 0) → ((r : Refusal) → CheckRefused short s t r → P (refused_check r))
      → ((p : Problem) → Within short s p → (c : Certificate) → J.Accepted p t c
      → P (accepted_check c.header (closing p).rounds p.rule))
      → P (check_verdict short s t)
  unfolding check_verdict
  check_by_lem P refuses accepts =
      problem_by short s (λ o. P (told refused_check (o then λ p. check_for p t))) (λ r b. refuses r (check_unread r b)) (λ p w.
      let l = read_limits s p w.read in
      told_by P refused_check (check_for p t)
      (then_refuses (record { by = λ r e. refuses r (check_refused_lem p w r ((certificate_refuses 1 p t l).by r e)) }) (record { by = λ c e. given_refuses }))
      (then_gives (record { by = λ c e. given_gives (accepts p w c ((certificate_gives 1 p t l).by c e)) })))

  -- by what became of the problem
  pub check_unless : {r : Refusal} → problem_of short s ≡ refused r → check_verdict short s t ≡ refused_check r
  unfolding check_verdict
  check_unless e = rw e

  pub check_judged : {p : Problem} → problem_of short s ≡ given p → check_verdict short s t ≡ check_by p (J.judge p t)
  unfolding check_verdict
  check_judged e = rw e

  -- a problem that is too large meets 7, whatever the certificate
  pub check_large : (p : Problem) → short ≡ false → read_problem s ≡ Stream.given p → too_large p ≡ true
      → check_verdict short s t ≡ refused_check (problem_refusal 7 0)
  unfolding check_verdict
  check_large = told_large short s refused_check (λ p. check_for p t)

  -- for one within its limits the certificate decides
  pub check_decided : (p : Problem) → Within short s p → check_verdict short s t ≡ told refused_check (check_for p t)
  unfolding check_verdict
  check_decided = told_within short s refused_check (λ p. check_for p t)

  pub check_accepted_by : (p : Problem) (c : Certificate) → Within short s p → J.Accepted p t c
      → check_verdict short s t ≡ accepted_check c.header (closing p).rounds p.rule
  check_accepted_by p c w a = check_decided p w ∙ rw (accepted_judge p t c a)

-- ---- the pair
-- what a refusal of the pair says
pub record PairRefused (short : Bool) (s low high : List ℕ) (r : Refusal) : Type 0 where
  pub least : 1 ≤ r.number
  pub most : r.number ≤ 10
  pub stream : r.stream ≤ 2
  pub key : (r.number ≡ 9 → ⊥) → r.key ≡ 0
  pub seven : Seven s r
  pub eight : r.number ≡ 8
      → ((r.stream ≡ 1) × Reads s (λ p. SplitsAt p low r.place))
      ⊎ ((r.stream ≡ 2) × Reads s (λ p. SecondSplits p low high r.place))
  pub nine : r.number ≡ 9
      → ((r.stream ≡ 1) × Reads s (λ p. DiffersAt p low r.key))
      ⊎ ((r.stream ≡ 2) × Reads s (λ p. SecondDiffers p low high r.key))
  pub ten : r.number ≡ 10 → (r.place ≡ 0) × Reads s (λ p. WrongSides p low high r.stream)

not_true : (b : Bool) → not b ≡ true → b ≡ false
not_true true e = clash (cc)
not_true false e = refl

not_false : (b : Bool) → not b ≡ false → b ≡ true
not_false true e = refl
not_false false e = clash (cc)

module _ (short : Bool) (s low high : List ℕ) where
  pair_unread : (r : Refusal) → ProblemRefused short s r → PairRefused short s low high r
  pair_unread r b = record {
    least = b.least;
    most = omega (arith, b.most);
    stream = omega (arith, b.stream);
    key = λ _. b.key;
    seven = seven_of short s r b;
    eight = λ h. absurd (omega (arith, b.most));
    nine = λ h. absurd (omega (arith, b.most));
    ten = λ h. absurd (omega (arith, b.most));
  }

  module _ (p : Problem) (w : Within short s p) where
    first_refused : (r : Refusal) → CertificateRefused 1 p low r → PairRefused short s low high r
    first_refused r b = record {
      least = b.least;
      most = omega (arith, b.most);
      stream = omega (arith, b.stream_is);
      key = b.key;
      seven = λ h. absurd (b.other h);
      eight = λ h. inl (b.stream_is, record { problem = p; read = w.read; holds = b.eight h });
      nine = λ h. inl (b.stream_is, record { problem = p; read = w.read; holds = b.nine h });
      ten = λ h. absurd (omega (arith, b.most));
    }

    module _ (c : Certificate) (a : J.Accepted p low c) where
      second_refused : (r : Refusal) → CertificateRefused 2 p high r → PairRefused short s low high r
      second_refused r b = record {
        least = b.least;
        most = omega (arith, b.most);
        stream = omega (arith, b.stream_is);
        key = b.key;
        seven = λ h. absurd (b.other h);
        eight = λ h. inr (b.stream_is, record { problem = p; read = w.read; holds = record { first = c; accepted = a; second = b.eight h } });
        nine = λ h. inr (b.stream_is, record { problem = p; read = w.read; holds = record { first = c; accepted = a; second = b.nine h } });
        ten = λ h. absurd (omega (arith, b.most));
      }

      module _ (d : Certificate) (b : J.Accepted p high d) where
        wrong_side : (i : ℕ) → i ≤ 2
            → ((i ≡ 1) × (c.header.side ≡ 0 → ⊥)) ⊎ ((i ≡ 2) × ((c.header.side ≡ 0) × (d.header.side ≡ 1 → ⊥)))
            → PairRefused short s low high (certificate_refusal i 10 0 0)
        wrong_side i most wrong = record {
          least = omega arith;
          most = omega arith;
          stream = most;
          key = λ _. refl;
          seven = λ h. absurd (omega arith);
          eight = λ h. absurd (omega arith);
          nine = λ h. absurd (omega arith);
          ten = λ h. (
            refl,
            record { problem = p; read = w.read; holds = record { first = c; second = d; low_accepted = a; high_accepted = b; wrong = wrong } },
          );
        }

        sides_refuse : {P : Refusal → Type 0} → ((r : Refusal) → PairRefused short s low high r → P r)
            → Refuses P (pair_sides c.header d.header (closing p).rounds p.rule)
        unfolding pair_sides
        sides_refuse refuses =
            if_refuses (not (eqb c.header.side 0)) _ (λ x. refuses _ (wrong_side 1 (omega arith) (inl (refl, eqb-false _ _ (not_true _ x)))))
            (λ x.
            if_refuses (not (eqb d.header.side 1)) _
            (λ y. refuses _ (wrong_side 2 (omega arith) (inr (refl, (eqb-true _ _ (not_false _ x), eqb-false _ _ (not_true _ y))))))
            (λ _. given_refuses))

        sides_give : {P : PairVerdict → Type 0}
            → (BothHold p low high c d → P (accepted_pair c.header d.header (closing p).rounds p.rule))
            → Gives P (pair_sides c.header d.header (closing p).rounds p.rule)
        unfolding pair_sides
        sides_give accepts =
            if_gives (not (eqb c.header.side 0)) _ (λ x.
            if_gives (not (eqb d.header.side 1)) _ (λ y.
            given_gives (accepts (record { first = a; second = b; lower = eqb-true _ _ (not_false _ x); upper = eqb-true _ _ (not_false _ y) }))))

  pub pair_by_lem : (P : PairVerdict → Type 0) → ((r : Refusal) → PairRefused short s low high r → P (refused_pair r))
      → ((p : Problem) → Within short s p → (c d : Certificate) → BothHold p low high c d
      → P (accepted_pair c.header d.header (closing p).rounds p.rule))
      → P (pair_verdict short s low high)
  unfolding pair_verdict
  pair_by_lem P refuses accepts =
      problem_by short s (λ o. P (told refused_pair (o then λ p. pair_for p low high))) (λ r b. refuses r (pair_unread r b)) (λ p w.
      let l = read_limits s p w.read in
      told_by P refused_pair (pair_for p low high)
      (then_refuses (record { by = λ r e. refuses r (first_refused p w r ((certificate_refuses 1 p low l).by r e)) })
      (record {
        by = λ c e.
            let a = (certificate_gives 1 p low l).by c e in
            then_refuses (record { by = λ r f. refuses r (second_refused p w c a r ((certificate_refuses 2 p high l).by r f)) })
            (record { by = λ d f. sides_refuse p w c a d ((certificate_gives 2 p high l).by d f) refuses });
      }))
      (then_gives (record {
        by = λ c e.
            then_gives (record {
              by = λ d f.
                  sides_give p w c ((certificate_gives 1 p low l).by c e) d ((certificate_gives 2 p high l).by d f) (accepts p w c d);
            });
      })))

  -- a problem that is too large meets 7, whatever the certificates
  pub pair_large : (p : Problem) → short ≡ false → read_problem s ≡ Stream.given p → too_large p ≡ true
      → pair_verdict short s low high ≡ refused_pair (problem_refusal 7 0)
  unfolding pair_verdict
  pair_large = told_large short s refused_pair (λ p. pair_for p low high)

  -- for one within its limits the certificates decide
  pub pair_decided : (p : Problem) → Within short s p → pair_verdict short s low high ≡ told refused_pair (pair_for p low high)
  unfolding pair_verdict
  pair_decided = told_within short s refused_pair (λ p. pair_for p low high)

  pub pair_accepted_by : (p : Problem) (c d : Certificate) → Within short s p → BothHold p low high c d
      → pair_verdict short s low high ≡ accepted_pair c.header d.header (closing p).rounds p.rule
  unfolding pair_sides
  pair_accepted_by p c d w b =
      pair_decided p w
      ∙ rw (accepted_judge p low c b.first, accepted_judge p high d b.second, pair_sides, eq-eqb c.header.side 0 b.lower, eq-eqb d.header.side 1 b.upper)
