-- What the calls promise between two streams that differ in the joining rule, or in the sparse order. s is a problem
-- stream, with what a call returns and leaves for it, and t the same where no less is joined: under rule 1, or at a
-- larger order; short is true where something lent is too short.
use Rattle.std.specs.Prelude.{◌≡◌, Bool, List, ◌++◌, ◌⊎◌, ℕ, ◌≤◌, ◌<◌}
use Rattle.format.specs.ProblemLimits.{most_order}
use Rattle.format.specs.ProblemRule.{ruled, unruled}
use Rattle.format.specs.ProblemOrder.{Beginning, ordered}
use Rattle.joining_rule.specs.Bytes.{block_at}
use Rattle.calls.specs.declared.Refusal.{Refusal}
use Rattle.calls.specs.declared.CheckVerdict.{CheckVerdict}
use Rattle.calls.specs.declared.PairVerdict.{PairVerdict}
use Rattle.calls.specs.Refusals.{no_refusal, problem_refusal}
use Rattle.calls.specs.Blocks.{blocks_verdict, bytes_left}
use Rattle.calls.specs.Check.{check_verdict}
use Rattle.calls.specs.Pair.{pair_verdict}

-- "what is accepted under 2 is accepted under 1": the same stream under rule 1, with the operand of 08 exchanged, or
-- with the 08 left out
pub data UnderOne : List ℕ → List ℕ → Type 0 where
  exchanged : (n : ℕ) (rest : List ℕ) → UnderOne (ruled n 2 rest) (ruled n 1 rest)
  without : (n : ℕ) (rest : List ℕ) → UnderOne (ruled n 2 rest) (unruled n rest)

-- "accepted at every larger k and at full closure": the same stream with the operand of 09 exchanged for one that is no
-- smaller, or with the 09 left out; b is what stands before it
pub data AtLarger : List ℕ → List ℕ → Type 0 where
  larger : (b : List ℕ) (k k' : ℕ) (rest : List ℕ) → Beginning b → k ≤ k' → k' ≤ most_order
      → AtLarger (ordered b k rest) (ordered b k' rest)
  full : (b : List ℕ) (k : ℕ) (rest : List ℕ) → Beginning b → AtLarger (ordered b k rest) (b ++ rest)

-- the refusal is g; or there is none, and P holds
abbrev pub Unless : Refusal → Refusal → Type 0 → Type 0
Unless g f P = (f ≡ g) ⊎ ((f ≡ no_refusal) × P)

-- "unless refusal 7 applies there", "or meets refusal 7"
abbrev pub UnlessSeven : Refusal → Type 0 → Type 0
UnlessSeven f P = Unless (problem_refusal 7 0) f P

-- ---- the blocks
-- the blocks that the bytes a tell lie inside those that the bytes b tell: what has one number in a has one in b
abbrev pub BlocksInside : List ℕ → List ℕ → Type 0
BlocksInside a b =
    (j i k : ℕ) → j < 9 → i < 64 → k < 64 → block_at a j i ≡ block_at a j k → block_at b j i ≡ block_at b j k

-- the blocks of s lie inside those of t; and where 7 applies to s it applies to t
pub record BlocksKept (R : List ℕ → List ℕ → Type 0) (short : Bool) (s out : List ℕ) (number : ℕ) (bytes : List ℕ)
    : Type 0 where
  pub inside : (t : List ℕ) → R s t → number ≡ 0
      → UnlessSeven (blocks_verdict short t).refusal (BlocksInside bytes (bytes_left short t out))
  pub seven : (t : List ℕ) → R s t → number ≡ 7 → (blocks_verdict short t).refusal ≡ problem_refusal 7 0

-- "Blocks of rule 2 lie inside those of rule 1"
abbrev pub BlocksUnderOne : Bool → List ℕ → List ℕ → ℕ → List ℕ → Type 0
BlocksUnderOne short s out number bytes = BlocksKept UnderOne short s out number bytes

abbrev pub BlocksAtLarger : Bool → List ℕ → List ℕ → ℕ → List ℕ → Type 0
BlocksAtLarger short s out number bytes = BlocksKept AtLarger short s out number bytes

-- ---- every call: what is accepted with s is accepted with t, unless a refusal g is given there. v is the call's
-- verdict with s, and `of t` that with t in its place; `refusal` is a verdict's refusal, and `same w v` says what w
-- returns as v does
abbrev pub KeptUnless : {A : Type 0} → Refusal → (A → Refusal) → (A → A → Type 0) → (List ℕ → A)
    → (List ℕ → List ℕ → Type 0) → List ℕ → A → Type 0
KeptUnless g refusal same of R s v =
    (t : List ℕ) → R s t → (refusal v).number ≡ 0 → Unless g (refusal (of t)) (same (of t) v)

-- 7 of stream 0
abbrev pub Kept : {A : Type 0} → (A → Refusal) → (A → A → Type 0) → (List ℕ → A) → (List ℕ → List ℕ → Type 0)
    → List ℕ → A → Type 0
Kept refusal same of R s v = KeptUnless (problem_refusal 7 0) refusal same of R s v

-- ---- the check: with the same side and bound
abbrev pub SameBound : CheckVerdict → CheckVerdict → Type 0
SameBound w v = (w.side ≡ v.side) × (w.bound ≡ v.bound)

abbrev pub CheckKept : (List ℕ → List ℕ → Type 0) → Bool → List ℕ → List ℕ → CheckVerdict → Type 0
CheckKept R short s certificate v =
    Kept (λ w. w.refusal) SameBound (λ t. check_verdict short t certificate) R s v

abbrev pub CheckUnderOne : Bool → List ℕ → List ℕ → CheckVerdict → Type 0
CheckUnderOne short s certificate v = CheckKept UnderOne short s certificate v

abbrev pub CheckAtLarger : Bool → List ℕ → List ℕ → CheckVerdict → Type 0
CheckAtLarger short s certificate v = CheckKept AtLarger short s certificate v

-- ---- the pair: with both bounds and the gap, or its mark
abbrev pub SameBounds : PairVerdict → PairVerdict → Type 0
SameBounds w v = (w.lower ≡ v.lower) × ((w.upper ≡ v.upper) × ((w.gap ≡ v.gap) × (w.empty ≡ v.empty)))

abbrev pub PairKept : (List ℕ → List ℕ → Type 0) → Bool → List ℕ → List ℕ → List ℕ → PairVerdict → Type 0
PairKept R short s low high v =
    Kept (λ w. w.refusal) SameBounds (λ t. pair_verdict short t low high) R s v

abbrev pub PairUnderOne : Bool → List ℕ → List ℕ → List ℕ → PairVerdict → Type 0
PairUnderOne short s low high v = PairKept UnderOne short s low high v

abbrev pub PairAtLarger : Bool → List ℕ → List ℕ → List ℕ → PairVerdict → Type 0
PairAtLarger short s low high v = PairKept AtLarger short s low high v
