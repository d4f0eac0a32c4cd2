-- The calls on a stream, and on the same under rule 1 or at a larger order: the problems, and how the calls end.
use mathlib.Core.Path.{◌≡◌, refl, sym, ap, ◌∙◌}
use mathlib.Core.Bool.{Bool, true, false}
use mathlib.Core.List.{List, [], ◌++◌}
use mathlib.Core.Logic.{◌⊎◌, inl, inr}
use Prim.Native.Nat.{ℕ, ◌+◌, ◌*◌, ◌≤◌, ◌<◌}
use native.Mathlib.Omega.{arith}
use lib.ListN.{length, get_or, get_or-append, get_or-eq_default}
use Rattle.counting.proofs.Cases.{lt_or_le, default_any}
use Rattle.format.specs.Commands.{given}
use Rattle.format.specs.Operands.{number}
use Rattle.format.specs.ProblemRules.{Problem, with_rule, with_order, read_problem}
use Rattle.format.specs.ProblemBases.{basis_of}
use Rattle.format.specs.ProblemRule.{rule_named}
use Rattle.format.proofs.ProblemRule.{read_rule}
use Rattle.format.proofs.ProblemLimits.{read_limits}
use Rattle.format.proofs.Alike.{alike_basis}
use Rattle.format.proofs.Exchanged.{given_exchanged, given_left_out, given_positive, order_read, given_order_exchanged, given_order_left_out}
use Rattle.joining_rule.specs.Bytes.{block_bytes, block_at}
use Rattle.joining_rule.specs.Joining.{bases_of, start_set, closing, too_large}
use Rattle.joining_rule.proofs.Rounds.{Shaped, AllNumbered}
use Rattle.joining_rule.proofs.Closing.{closing_shaped, closing_numbered}
use Rattle.joining_rule.proofs.Bytes.{bytes_long, bytes_from}
use Rattle.joining_rule.proofs.Rules.{JoinsMore, more_rule, more_order, more_without, problem_below}
use Rattle.calls.specs.Promises.{Reads, Within}
use Rattle.calls.specs.Rules.{UnderOne, exchanged, without, AtLarger, larger, full, BlocksInside}

-- ---- t gives a problem that joins no less than p
pub record Leads (p : Problem) (t : List ℕ) : Type 0 where
  pub problem : Problem
  pub read : read_problem t ≡ given problem
  pub variables : problem.variables ≡ p.variables
  pub more : JoinsMore p problem

-- so of every problem that s gives
abbrev pub AllLead : List ℕ → List ℕ → Type 0
AllLead s t = (p : Problem) → read_problem s ≡ given p → Leads p t

-- under rule 1
two_named : {s t : List ℕ} → UnderOne s t → rule_named s ≡ 2
unfolding rule_named number
two_named (exchanged n rest) = refl
two_named (without n rest) = refl

one_read : {s t : List ℕ} → UnderOne s t → (p : Problem) → read_problem s ≡ given p → read_problem t ≡ given (with_rule p 1)
one_read (exchanged n rest) p read = given_exchanged n 2 1 rest refl refl p read
one_read (without n rest) p read = given_left_out n 2 rest refl p read

pub under_leads : (s t : List ℕ) → UnderOne s t → AllLead s t
under_leads s t u p read =
    record {
      problem = with_rule p 1;
      read = one_read u p read;
      variables = refl;
      more = more_rule p (read_rule s p read ∙ two_named u);
    }

-- at a larger order
pub larger_leads : (s t : List ℕ) → AtLarger s t → AllLead s t
larger_leads _ _ (larger b k k' rest beginning h most) p read =
    let e : p.order ≡ k = order_read beginning k rest p read in
    let some : 1 ≤ k = given_positive beginning k rest p read in
    record {
      problem = with_order p k';
      read = given_order_exchanged beginning k rest p read k' (omega arith) most;
      variables = refl;
      more = more_order p k' (omega arith) (omega arith);
    }
larger_leads _ _ (full b k rest beginning) p read = record {
  problem = with_order p 0;
  read = given_order_left_out beginning k rest p read;
  variables = refl;
  more = more_without p (read_limits _ p read).order;
}

-- ---- how a call ends on t, where it refuses nothing on s
-- both problems are within their limits
pub record BothWithin (short : Bool) (s t : List ℕ) : Type 0 where
  pub problem : Problem
  pub other : Problem
  pub first : Within short s problem
  pub second : Within short t other
  pub variables : other.variables ≡ problem.variables
  pub more : JoinsMore problem other

-- the problem on t is too large, or both are within their limits
pub data Under (short : Bool) (s t : List ℕ) : Type 0 where
  large : (q : Problem) → short ≡ false → read_problem t ≡ given q → too_large q ≡ true → Under short s t
  both : BothWithin short s t → Under short s t

pub under : (short : Bool) (s t : List ℕ) → AllLead s t → Reads s (Within short s) → Under short s t
under short s t leads r = go (too_large q) refl
  where
    w : Within short s r.problem
    w = r.holds

    k : Leads r.problem t
    k = leads r.problem w.read

    q : Problem
    q = k.problem

    go : (l : Bool) → too_large q ≡ l → Under short s t
    go true e = large q w.long k.read e
    go false e =
        both (record {
          problem = r.problem;
          other = q;
          first = w;
          second = record { long = w.long; read = k.read; few = e };
          variables = k.variables;
          more = k.more;
        })

-- ---- blocks inside others, told by the bytes
-- of one basis, with 255 at places that are no index: those are no block's number, and the same places in both
module _ (l l' : List ℕ) (n : ℕ) (long : length l ≡ n) (long' : length l' ≡ n) (low : (x : ℕ) → x < n → get_or l x 0 ≤ x)
    (within : (x y : ℕ) → x < n → y < n → get_or l x 0 ≡ get_or l y 0 → get_or l' x 0 ≡ get_or l' y 0) where
  at_index : (m : List ℕ) → length m ≡ n → (x : ℕ) → x < n → get_or m x 255 ≡ get_or m x 0
  at_index m e x h = default_any m x 255 0 (omega arith)

  at_none : (m : List ℕ) → length m ≡ n → (x : ℕ) → n ≤ x → get_or m x 255 ≡ 255
  at_none m e x h = get_or-eq_default m 255 (omega arith)

  places_inside : (x y : ℕ) → x < 64 → y < 64 → get_or l x 255 ≡ get_or l y 255 → get_or l' x 255 ≡ get_or l' y 255
  places_inside x y a b e = go (lt_or_le x n) (lt_or_le y n)
    where
      go : (x < n) ⊎ (n ≤ x) → (y < n) ⊎ (n ≤ y) → get_or l' x 255 ≡ get_or l' y 255
      go (inl h) (inl k) =
          at_index l' long' x h ∙ within x y h k (sym (at_index l long x h) ∙ e ∙ at_index l long y k) ∙ sym (at_index l' long' y k)
      go (inl h) (inr k) = absurd (omega (arith, low x h, at_index l long x h, at_none l long y k))
      go (inr h) (inl k) = absurd (omega (arith, low y k, at_index l long y k, at_none l long x h))
      go (inr h) (inr k) = at_none l' long' x h ∙ sym (at_none l' long' y k)

byte_any : (L : List (List ℕ)) (rest : List ℕ) (j i : ℕ) → j < 9 → i < 64 → block_at (block_bytes L ++ rest) j i ≡ get_or (get_or L j []) i 255
byte_any L rest j i h b =
    get_or-append (block_bytes L) rest 0 (64 * j + i) (omega (arith, bytes_long L))
    ∙ default_any (block_bytes L) (64 * j + i) 0 255 (omega (arith, bytes_long L))
    ∙ bytes_from L j i h b

pub bytes_inside : (p q : Problem) → JoinsMore p q → (rest : List ℕ)
    → BlocksInside (block_bytes (closing p).state.labels ++ rest) (block_bytes (closing q).state.labels ++ rest)
bytes_inside p q more rest j i k h a b e =
    let L = (closing p).state.labels in
    let L' = (closing q).state.labels in
    byte_any L' rest j i h a
    ∙ places_inside (get_or L j []) (get_or L' j []) (length (basis_of p j)) ((shaped p).long j h) ((shaped q).long j h ∙ ap length (alike_basis p q more.alike j))
    (λ x c. ((numbered p).at j h).lowest x (rw ((shaped p).long j h) c))
    (λ x y c d. (problem_below p q more).blocks j x y h c d)
    i k a b (sym (byte_any L rest j i h a) ∙ e ∙ byte_any L rest j k h b)
    ∙ sym (byte_any L' rest j k h b)
  where
    shaped : (q : Problem) → Shaped (bases_of q) (closing q).state.labels
    shaped q = unfold closing in closing_shaped q.rule _ (bases_of q) (start_set q)

    numbered : (q : Problem) → AllNumbered (bases_of q) (closing q).state.labels
    numbered q = unfold closing in closing_numbered q.rule _ (bases_of q) (start_set q)
