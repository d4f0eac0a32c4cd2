-- The orders in which the commands of a problem may stand.
use Rattle.std.specs.Prelude.{◌≡◌, Bool, true, false, cond, List, [], ◌∷◌, ℕ, suc, ◌≤◌, eqb, leb}
use Rattle.format.specs.Commands.{given}
use Rattle.format.specs.declared.problem.Instruction.{Instruction}
use Rattle.format.specs.declared.problem.Instruction.TheVariants as I
use Rattle.format.specs.ProblemRules.{Problem, read_problem}
use Rattle.written.specs.ProblemWritten.{in_stream}

-- ---- the head: "01 ..: First, and only first", "08 .. stands directly after 01 and only there", "09 k(u8), from 1 to
-- 255, stands directly after 01 or 08"
pub data Head : List Instruction → Type 0 where
  plain : (n : ℕ) → Head (I.Variables n ∷ [])
  ruled : (n r : ℕ) → Head (I.Variables n ∷ I.Rule r ∷ [])
  ordered : (n k : ℕ) → 1 ≤ k → Head (I.Variables n ∷ I.Order k ∷ [])
  both : (n r k : ℕ) → 1 ≤ k → Head (I.Variables n ∷ I.Rule r ∷ I.Order k ∷ [])

-- ---- the body: whether a command may stand behind n conditions begun. 04 "needs a 03 or 07 before it", and 05's "j is
-- 0 or a constraint already begun"
abbrev pub may_stand : ℕ → Instruction → Bool
may_stand n (I.Variables m) = false
may_stand n (I.Objective k c) = true
may_stand n I.Inequality = true
may_stand n (I.Term k c) = leb 1 n
may_stand n (I.Member j k) = leb j n
may_stand n I.End = false
may_stand n I.Equality = true
may_stand n (I.Rule r) = false
may_stand n (I.Order k) = false

-- how many conditions are begun after it
abbrev pub begun : ℕ → Instruction → ℕ
begun n (I.Variables m) = n
begun n (I.Objective k c) = n
begun n I.Inequality = suc n
begun n (I.Term k c) = n
begun n (I.Member j k) = n
begun n I.End = n
begun n I.Equality = suc n
begun n (I.Rule r) = n
begun n (I.Order k) = n

unfoldable pub InPlace : ℕ → List Instruction → Type 0
InPlace n [] = Unit {0}
InPlace n (x ∷ xs) = (may_stand n x ≡ true) × InPlace (begun n x) xs

-- ---- another order of a body's commands: each in its place, and those that add to one list in their order
-- the list that a command adds to: 0 is the objective, 1 the conditions with their terms, and 2 + j is basis j. Of the
-- other commands a body has none
abbrev pub part_of : Instruction → ℕ
part_of (I.Variables n) = 0
part_of (I.Objective k c) = 0
part_of I.Inequality = 1
part_of (I.Term k c) = 1
part_of (I.Member j k) = suc (suc j)
part_of I.End = 0
part_of I.Equality = 1
part_of (I.Rule r) = 0
part_of (I.Order k) = 0

unfoldable pub of_part : ℕ → List Instruction → List Instruction
of_part q [] = []
of_part q (x ∷ xs) = cond (eqb (part_of x) q) (x ∷ of_part q xs) (of_part q xs)

pub record OtherOrder (xs ys : List Instruction) : Type 0 where
  pub places : InPlace 0 ys
  pub parts : (q : ℕ) → of_part q ys ≡ of_part q xs

-- ---- what is promised of a stream that gives a problem: it is its commands, a head, a body and the end, and every
-- other order of the body's commands gives the same problem
pub record AnyOrder (s : List ℕ) (p : Problem) : Type 0 where
  pub head : List Instruction
  pub body : List Instruction
  pub headed : Head head
  pub places : InPlace 0 body
  pub is : s ≡ in_stream head body
  pub others : (ys : List Instruction) → OtherOrder body ys → read_problem (in_stream head ys) ≡ given p
