-- `answer_record`: by the kind.
use borrow.Author.Tests.{eq-eqb, ne_eqb}
use Rattle.std.proofs.Common.{◌≡◌, refl, ◌∙◌, List, [], ℕ}
use Rattle.replay.specs.Records.{blocks_answer, check_answer, pair_answer, symmetries_answer, adjusted_answer, record_answer}
use Rattle.replay.proofs.answer_record.Goals as goal

module _ (kind : ℕ) (problem first second : List ℕ) where
  of_blocks : kind ≡ 0x62 → blocks_answer problem ≡ record_answer kind problem first second
  unfolding record_answer
  of_blocks e = rw (eq-eqb kind 0x62 e) refl

  module _ (b : kind ≡ 0x62 → ⊥) where
    of-check : kind ≡ 0x63 → check_answer problem first ≡ record_answer kind problem first second
    unfolding record_answer
    of-check e = rw (ne_eqb kind 0x62 b, eq-eqb kind 0x63 e) refl

    module _ (c : kind ≡ 0x63 → ⊥) where
      of_pair : kind ≡ 0x70 → pair_answer problem first second ≡ record_answer kind problem first second
      unfolding record_answer
      of_pair e = rw (ne_eqb kind 0x62 b, ne_eqb kind 0x63 c, eq-eqb kind 0x70 e) refl

      module _ (p : kind ≡ 0x70 → ⊥) where
        of-symmetries : kind ≡ 0x73 → symmetries_answer problem ≡ record_answer kind problem first second
        unfolding record_answer
        of-symmetries e = rw (ne_eqb kind 0x62 b, ne_eqb kind 0x63 c, ne_eqb kind 0x70 p, eq-eqb kind 0x73 e) refl

        module _ (s : kind ≡ 0x73 → ⊥) where
          of-adjusted : kind ≡ 0x61 → adjusted_answer problem first second ≡ record_answer kind problem first second
          unfolding record_answer
          of-adjusted e = rw (ne_eqb kind 0x62 b, ne_eqb kind 0x63 c, ne_eqb kind 0x70 p, ne_eqb kind 0x73 s, eq-eqb kind 0x61 e) refl

          of_none : (kind ≡ 0x61 → ⊥) → [] ≡ record_answer kind problem first second
          unfolding record_answer
          of_none a = rw (ne_eqb kind 0x62 b, ne_eqb kind 0x63 c, ne_eqb kind 0x70 p, ne_eqb kind 0x73 s, ne_eqb kind 0x61 a) refl

pub returns-then-kind-eq98 : goal.returns-then-kind-eq98
returns-then-kind-eq98 c =
    let s = c.args in
    c.answer_blocks.ensures ∙ of_blocks s.kind s.problem.now s.first.now s.second.now c.if-kind-eq98.true

pub returns-then-kind-eq99 : goal.returns-then-kind-eq99
returns-then-kind-eq99 c =
    let s = c.args in
    c.answer_check.ensures ∙ of-check s.kind s.problem.now s.first.now s.second.now
    c.if-kind-eq98.false c.if-kind-eq99.true

pub returns-then-kind-eq112 : goal.returns-then-kind-eq112
returns-then-kind-eq112 c =
    let s = c.args in
    c.answer_pair.ensures ∙ of_pair s.kind s.problem.now s.first.now s.second.now
    c.if-kind-eq98.false c.if-kind-eq99.false c.if-kind-eq112.true

pub returns-then-kind-eq115 : goal.returns-then-kind-eq115
returns-then-kind-eq115 c =
    let s = c.args in
    c.answer_symmetries.ensures ∙ of-symmetries s.kind s.problem.now s.first.now s.second.now
    c.if-kind-eq98.false c.if-kind-eq99.false c.if-kind-eq112.false c.if-kind-eq115.true

pub returns-then-kind-eq97 : goal.returns-then-kind-eq97
returns-then-kind-eq97 c =
    let s = c.args in
    c.answer_adjusted.ensures ∙ of-adjusted s.kind s.problem.now s.first.now s.second.now
    c.if-kind-eq98.false c.if-kind-eq99.false c.if-kind-eq112.false c.if-kind-eq115.false c.if-kind-eq97.true

pub returns : goal.returns
returns c =
    let s = c.args in
    of_none s.kind s.problem.now s.first.now s.second.now
    c.if-kind-eq98.false c.if-kind-eq99.false c.if-kind-eq112.false c.if-kind-eq115.false c.if-kind-eq97.false
