-- What a check comes to: a refusal with its four fields, or a thing. A call is a sequence of checks, and the first that
-- refuses ends it.
use Rattle.std.specs.Prelude.{Bool, cond, ℕ}
use Rattle.format.specs.Commands as Stream
use Rattle.accepting.specs.Judgement as J
use Rattle.format.specs.CertificateRules.{Certificate}
use Rattle.calls.specs.declared.Refusal.{Refusal}
use Rattle.calls.specs.Refusals.{certificate_refusal}

pub data Outcome (A : Type 0) : Type 0 where
  refused : Refusal → Outcome A
  given : A → Outcome A

infixl 10 ◌then◌
-- what comes next, of the thing that was given
abbrev pub ◌then◌ : {A B : Type 0} → Outcome A → (A → Outcome B) → Outcome B
refused r then next = refused r
given a then next = next a

-- a check: the refusal where it fails, and else what comes next
abbrev pub refuse_if : {A : Type 0} → Bool → Refusal → Outcome A → Outcome A
refuse_if fails r next = cond fails (refused r) next

-- "A refusal .. returns number, stream (0 problem, 1 first certificate, 2 second), place and key": of what a stream
-- with this number gives, and of what becomes of its certificate
abbrev pub of_stream : {A : Type 0} → ℕ → Stream.Outcome A → Outcome A
of_stream stream (Stream.refused number place) = refused (certificate_refusal stream number place 0)
of_stream stream (Stream.given a) = given a

abbrev pub of_judgement : ℕ → J.Judgement → Outcome Certificate
of_judgement stream (J.refused number place key) = refused (certificate_refusal stream number place key)
of_judgement stream (J.accepted c) = given c

-- what a call returns is told of its outcome: refuse makes a verdict of a refusal, in which "all other fields are 0"
abbrev pub told : {A : Type 0} → (Refusal → A) → Outcome A → A
told refuse (refused r) = refuse r
told refuse (given v) = v
