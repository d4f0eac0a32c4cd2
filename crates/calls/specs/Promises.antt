-- What the calls promise, in the buyer's terms. s is the problem stream, and t, low and high are certificate streams;
-- number, blocks, rounds and rule are what the call returns, and bytes the 576 bytes at exit; short is true where
-- something lent is too short.
use Rattle.std.specs.Prelude.{◌≡◌, Bool, true, false, List, [], ◌⊎◌, ℕ, ◌+◌, ◌^◌, ◌≤◌, ◌<◌, pos, length, get_or}
use Rattle.counting.specs.Counting.{listed, sum_to}
use Rattle.format.specs.Commands.{given}
use Rattle.format.specs.ProblemRules.{Problem, read_problem}
use Rattle.format.specs.ProblemCounts.{member_commands, bases_named}
use Rattle.format.specs.ProblemRule.{rule_named}
use Rattle.format.specs.ProblemOrder.{order_named}
use Rattle.format.specs.ProblemBases.{basis_of}
use Rattle.joining_rule.specs.Sets.{different}
use Rattle.joining_rule.specs.Bytes.{block_at}
use Rattle.joining_rule.specs.Meaning.{Closed, Least, Lowest, FullClosure, RoundsDone}
use Rattle.joining_rule.specs.Joining.{bases_of, start_set, closing, reached_support, most_keys, too_large}
use Rattle.calls.specs.Fractions.{gap_of, is_negative, unless_negative}
use Rattle.calls.specs.declared.Fraction.{Fraction}
use Rattle.format.specs.CertificateRules.{Certificate, read_certificate}
use Rattle.accepting.specs.Identity.{KeepsBlocks, Identity, claim, squares}
use Rattle.accepting.specs.Judgement as J
use Rattle.polynomial.specs.Point.{Point}
use Rattle.accepting.specs.Bounds.{Allowed, BoundedBelow, BoundedAbove, WithinGap}
use Rattle.calls.specs.Check.{bound_of}
use Rattle.calls.specs.declared.Refusal.{Refusal}
use Rattle.calls.specs.declared.CheckVerdict.{CheckVerdict}
use Rattle.calls.specs.declared.PairVerdict.{PairVerdict}
use Rattle.calls.specs.declared.GapWindow.{GapWindow}
use Rattle.calls.specs.Window.{push_verdict}
use Rattle.joining_rule.specs.Rounds.{start, after, counted_keys}

-- ---- every call
-- the number is 0, where nothing is refused, or one of the refusals 1 to last of document 01's ten. The last of the
-- blocks call is 7, of the check 9 and of the pair 10: "1; the problem by commands, each checked 3, 2, 4, 5, 6; 7; the
-- first certificate by commands likewise; 8 by rows; 9; the second certificate the same; 10"
abbrev pub NumberedTo : ℕ → ℕ → Type 0
NumberedTo last number = number ≤ last

-- P holds of the problem that the stream gives, where nothing is refused
abbrev pub WhereAccepted : List ℕ → ℕ → (Problem → Type 0) → Type 0
WhereAccepted s number P = (p : Problem) → read_problem s ≡ given p → number ≡ 0 → P p

-- "Each verdict of the blocks call, the check and the pair says the rule used ..; refusals say 0": the rule that the
-- stream names
pub record RuleUsed (s : List ℕ) (number rule : ℕ) : Type 0 where
  pub named : number ≡ 0 → rule ≡ rule_named s
  pub refused : 0 < number → rule ≡ 0

-- ---- the blocks
-- P holds of the problem where the closure is full besides, as it is without 09: "with it, the blocks reported and used
-- are those after the last round, in place of the least ones"
abbrev pub WhereFull : List ℕ → ℕ → (Problem → Type 0) → Type 0
WhereFull s number P =
    WhereAccepted s number (λ p. FullClosure p.rule (order_named s) (bases_of p) (start_set p) → P p)

-- they contain the start and are closed under the joining rule's steps
abbrev pub BlocksClosed : List ℕ → ℕ → List ℕ → Type 0
BlocksClosed s number bytes =
    WhereFull s number (λ p. Closed p.rule (bases_of p) (start_set p) (block_at bytes) (reached_support p))

-- they are the least such
abbrev pub BlocksLeast : List ℕ → ℕ → List ℕ → Type 0
BlocksLeast s number bytes =
    WhereFull s number (λ p. Least p.rule (bases_of p) (start_set p) (block_at bytes) (reached_support p))

-- and in every case they are those that the rule has after the rounds that are reported
abbrev pub BlocksAfter : List ℕ → ℕ → List ℕ → ℕ → Type 0
BlocksAfter s number bytes rounds =
    WhereAccepted s number
    (λ p.
    (j i : ℕ) → j < 9 → i < length (basis_of p j)
    → block_at bytes j i
    ≡ get_or (get_or (after p.rule (bases_of p) (start (bases_of p) (start_set p)) rounds).labels j []) i 0)

-- "A block's number is its lowest index"
abbrev pub BlocksLowest : List ℕ → ℕ → List ℕ → Type 0
BlocksLowest s number bytes = WhereAccepted s number (λ p. Lowest (bases_of p) (block_at bytes))

-- "the number of blocks": of every basis, how many different block numbers the bytes tell of its indices
abbrev pub BlocksCounted : List ℕ → ℕ → List ℕ → ℕ → Type 0
BlocksCounted s number bytes blocks =
    WhereAccepted s number
    (λ p. blocks ≡ sum_to 9 (λ j. different (listed (length (basis_of p j)) (block_at bytes j))))

-- the rounds are exactly those that the joining rule takes, or k where 09 names a smaller one
abbrev pub RoundsTaken : List ℕ → ℕ → ℕ → Type 0
RoundsTaken s number rounds =
    WhereAccepted s number (λ p. RoundsDone p.rule (order_named s) (bases_of p) (start_set p) rounds)

-- "at most N − B + 2": N the number of 05 commands, B the number of different j that they name
abbrev pub FewRounds : List ℕ → ℕ → ℕ → Type 0
FewRounds s number rounds = WhereAccepted s number (λ p. rounds + bases_named s ≤ member_commands s + 2)

-- ---- bounds and gap
-- "at every rational point where all constraints are at least 0, p/q ≤ value ≤ P/Q"; such a point "is from here on one
-- where the inequalities are at least 0 and the equalities are 0"
abbrev pub HoldsBelow : List ℕ → ℕ → Fraction → Type 0
HoldsBelow s number f = WhereAccepted s number (λ p. BoundedBelow p f.num f.den)

abbrev pub HoldsAbove : List ℕ → ℕ → Fraction → Type 0
HoldsAbove s number f = WhereAccepted s number (λ p. BoundedAbove p f.num f.den)

-- "any two such points have values no further apart than the gap", unless it is marked as empty: "the third demand then
-- has no allowed points to compare"
abbrev pub HoldsGap : List ℕ → ℕ → Bool → Fraction → Type 0
HoldsGap s number empty f = WhereAccepted s number (λ p. empty ≡ false → WithinGap p f.num f.den)

-- ---- refusal 9: "identity false", where the stream gives a certificate whose rows keep to the blocks
pub record IdentityFalse (p : Problem) (t : List ℕ) (c : Certificate) : Type 0 where
  pub read : read_certificate p t ≡ given c
  pub blocks : KeepsBlocks p c.rows
  pub differs : Identity p c → ⊥

-- "key is the smallest that differs"
pub record DiffersAt (p : Problem) (t : List ℕ) (key : ℕ) : Type 0 where
  pub certificate : Certificate
  pub identity : IdentityFalse p t certificate
  pub smallest : J.Smallest (claim p certificate.header) (squares p certificate.rows) key

-- the stream gives a problem, and P holds of it
pub record Reads (s : List ℕ) (P : Problem → Type 0) : Type 0 where
  pub problem : Problem
  pub read : read_problem s ≡ given problem
  pub holds : P problem

-- the stream gives a problem within its limits, and work tables have their full length
pub record Within (short : Bool) (s : List ℕ) (p : Problem) : Type 0 where
  pub long : short ≡ false
  pub read : read_problem s ≡ given p
  pub few : too_large p ≡ false

-- ---- refusal 7: "closed S with zero above 2,048"; "The limit of 2,048 counts the closed S with the zero exponent and
-- all in-block products"; at an order it "counts the S reached"
abbrev pub AboveLimit : Problem → Type 0
AboveLimit p = most_keys < length (counted_keys (bases_of p) (closing p).state)

-- with tables that are long enough it is given exactly there, at "0, stream 0"
pub record SevenExactly (short : Bool) (s : List ℕ) (f : Refusal) : Type 0 where
  pub only : f.number ≡ 7 → (f.stream ≡ 0) × ((f.place ≡ 0) × Reads s AboveLimit)
  pub always : (p : Problem) → short ≡ false → read_problem s ≡ given p → AboveLimit p → f.number ≡ 7

-- ---- refusal 8: "a row in two blocks"
-- at an offset of the stream stands an entry, "12 i(u8) .." or "15 i(u8) ..", with an index
pub record EntryAt (t : List ℕ) (at index : ℕ) : Type 0 where
  pub command : (get_or t at 0 ≡ 0x12) ⊎ (get_or t at 0 ≡ 0x15)
  pub index_is : get_or t (at + 1) 0 ≡ index

-- the stream gives a certificate, and the place is that of the "first entry outside the row's first block", in the
-- first such row
pub record SplitsAt (p : Problem) (t : List ℕ) (place : ℕ) : Type 0 where
  pub certificate : Certificate
  pub read : read_certificate p t ≡ given certificate
  pub split : J.SplitAt p certificate.rows place
  pub entry : EntryAt t place split.outside.index

-- ---- the check
-- what an accepted check states: the streams give a problem and a certificate that is accepted, and side and bound are
-- the certificate's
pub record CheckStated (s t : List ℕ) (v : CheckVerdict) : Type 0 where
  pub problem : Problem
  pub read : read_problem s ≡ given problem
  pub certificate : Certificate
  pub accepted : J.Accepted problem t certificate
  pub side : v.side ≡ certificate.header.side
  pub p : v.bound.num ≡ certificate.header.p
  pub q : v.bound.den ≡ certificate.header.q

-- nothing else is accepted; and for a problem within its limits and full-length work tables, "a certificate that reads
-- by its layouts is accepted exactly when its rows keep to those blocks and its weighted squares equal the polynomial
-- identity, coefficient by coefficient"
pub record AcceptedExactly (short : Bool) (s t : List ℕ) (v : CheckVerdict) : Type 0 where
  pub only : v.refusal.number ≡ 0 → CheckStated s t v
  pub always : (p : Problem) (c : Certificate) → Within short s p → read_certificate p t ≡ given c
      → KeepsBlocks p c.rows → Identity p c → v.refusal.number ≡ 0

-- refusal 8 is given exactly where a row does not keep to its block
pub record CheckSplits (short : Bool) (s t : List ℕ) (f : Refusal) : Type 0 where
  pub only : f.number ≡ 8 → (f.stream ≡ 1) × Reads s (λ p. SplitsAt p t f.place)
  pub always : (p : Problem) (c : Certificate) → Within short s p → read_certificate p t ≡ given c
      → (KeepsBlocks p c.rows → ⊥) → f.number ≡ 8

-- refusal 9 is given exactly where the identity is false, with the smallest key that differs
pub record CheckDiffers (short : Bool) (s t : List ℕ) (f : Refusal) : Type 0 where
  pub only : f.number ≡ 9 → (f.stream ≡ 1) × Reads s (λ p. DiffersAt p t f.key)
  pub always : (p : Problem) (c : Certificate) → Within short s p → IdentityFalse p t c → f.number ≡ 9

-- an accepted certificate's bound holds by its side: "side 0 lower, 1 upper"
pub record HoldsBySide (s : List ℕ) (v : CheckVerdict) : Type 0 where
  pub sides : v.side ≤ 1
  pub lower : v.side ≡ 0 → HoldsBelow s v.refusal.number v.bound
  pub upper : v.side ≡ 1 → HoldsAbove s v.refusal.number v.bound

-- ---- the pair
-- both certificates are accepted, "the first with side 0 and the second with side 1"
pub record BothHold (p : Problem) (low high : List ℕ) (c d : Certificate) : Type 0 where
  pub first : J.Accepted p low c
  pub second : J.Accepted p high d
  pub lower : c.header.side ≡ 0
  pub upper : d.header.side ≡ 1

-- "the bounds reported are the p/q and P/Q that the certificates state, and the gap is document 01's"; "The pair now
-- marks a negative gap as "empty", with 0 in both gap fields in place of document 01's gap"
pub record Stated (s low high : List ℕ) (v : PairVerdict) : Type 0 where
  pub problem : Problem
  pub read : read_problem s ≡ given problem
  pub first : Certificate
  pub second : Certificate
  pub hold : BothHold problem low high first second
  pub lower : v.lower ≡ bound_of first.header
  pub upper : v.upper ≡ bound_of second.header
  pub gap : v.gap ≡ unless_negative (gap_of (bound_of first.header) (bound_of second.header))
  pub empty : v.empty ≡ is_negative (gap_of (bound_of first.header) (bound_of second.header))

-- the pair accepts only what states its bounds, and "for a problem within its limits and full-length work tables it
-- accepts exactly when both certificates are accepted, the first with side 0 and the second with side 1"
pub record PairExactly (short : Bool) (s low high : List ℕ) (v : PairVerdict) : Type 0 where
  pub only : v.refusal.number ≡ 0 → Stated s low high v
  pub always : (p : Problem) (c d : Certificate) → Within short s p → BothHold p low high c d
      → v.refusal.number ≡ 0

-- where the gap is marked as empty, nothing is refused, and "no rational point meets all the conditions" of the problem
-- that the stream gives, inequalities or equalities
pub record NoPoints (s : List ℕ) (v : PairVerdict) : Type 0 where
  pub accepted : v.empty ≡ true → v.refusal.number ≡ 0
  pub points : v.empty ≡ true → Reads s (λ p. (a : Point) → Allowed p a → ⊥)

-- the second certificate differs, after the first was accepted
pub record SecondDiffers (p : Problem) (low high : List ℕ) (key : ℕ) : Type 0 where
  pub first : Certificate
  pub accepted : J.Accepted p low first
  pub second : DiffersAt p high key

-- refusal 9 is given exactly where the first identity is false, or where the first certificate is accepted and the
-- second identity is false
pub record PairDiffers (short : Bool) (s low high : List ℕ) (f : Refusal) : Type 0 where
  pub only : f.number ≡ 9
      → ((f.stream ≡ 1) × Reads s (λ p. DiffersAt p low f.key))
      ⊎ ((f.stream ≡ 2) × Reads s (λ p. SecondDiffers p low high f.key))
  pub first : (p : Problem) (c : Certificate) → Within short s p → IdentityFalse p low c
      → (f.number ≡ 9) × (f.stream ≡ 1)
  pub second : (p : Problem) (c d : Certificate) → Within short s p → J.Accepted p low c → IdentityFalse p high d
      → (f.number ≡ 9) × (f.stream ≡ 2)

-- a row of the second certificate is in two blocks, after the first was accepted
pub record SecondSplits (p : Problem) (low high : List ℕ) (place : ℕ) : Type 0 where
  pub first : Certificate
  pub accepted : J.Accepted p low first
  pub second : SplitsAt p high place

-- refusal 8 is given exactly where a row of the first certificate does not keep to its block, or where the first is
-- accepted and a row of the second does not
pub record PairSplits (short : Bool) (s low high : List ℕ) (f : Refusal) : Type 0 where
  pub only : f.number ≡ 8
      → ((f.stream ≡ 1) × Reads s (λ p. SplitsAt p low f.place))
      ⊎ ((f.stream ≡ 2) × Reads s (λ p. SecondSplits p low high f.place))
  pub first : (p : Problem) (c : Certificate) → Within short s p → read_certificate p low ≡ given c
      → (KeepsBlocks p c.rows → ⊥) → (f.number ≡ 8) × (f.stream ≡ 1)
  pub second : (p : Problem) (c d : Certificate) → Within short s p → J.Accepted p low c
      → read_certificate p high ≡ given d → (KeepsBlocks p d.rows → ⊥) → (f.number ≡ 8) × (f.stream ≡ 2)

-- ---- refusal 10: "in a pair, first side not 0 or second not 1", where both certificates are accepted; the stream is
-- "the first wrong stream"
pub record WrongSides (p : Problem) (low high : List ℕ) (stream : ℕ) : Type 0 where
  pub first : Certificate
  pub second : Certificate
  pub low_accepted : J.Accepted p low first
  pub high_accepted : J.Accepted p high second
  pub wrong : ((stream ≡ 1) × (first.header.side ≡ 0 → ⊥))
      ⊎ ((stream ≡ 2) × ((first.header.side ≡ 0) × (second.header.side ≡ 1 → ⊥)))

-- it is given exactly there, at place 0
pub record TenExactly (short : Bool) (s low high : List ℕ) (f : Refusal) : Type 0 where
  pub only : f.number ≡ 10 → (f.place ≡ 0) × Reads s (λ p. WrongSides p low high f.stream)
  pub always : (p : Problem) (stream : ℕ) → Within short s p → WrongSides p low high stream
      → (f.number ≡ 10) × (f.stream ≡ stream)

-- ---- between requests 06 and 11: a gap that is reported without the mark never meets refusal 14. Its numerator is at
-- least 0 and below 2^48, its denominator at least 1 and below 2^32; so a push to any state is not refused
pub record Pushable (f : Fraction) : Type 0 where
  pub size : ℕ
  pub num : f.num ≡ pos size
  pub small : size < 2 ^ 48
  pub least : 1 ≤ f.den
  pub most : f.den < 2 ^ 32
  pub push : (w : GapWindow) → (push_verdict w f).refusal.number ≡ 0

abbrev pub GapPushable : PairVerdict → Type 0
GapPushable v = v.refusal.number ≡ 0 → v.empty ≡ false → Pushable v.gap
