-- A command of the problem stream where it was written: the reader finds it again, with its operands, and takes it if
-- the checks pass.
use mathlib.Core.Path.{◌≡◌, refl, sym, ap, ap₂, ◌∙◌}
use mathlib.Core.Bool.{true}
use mathlib.Core.List.{List, [], ◌∷◌, ◌++◌}
use Prim.Native.Nat.{ℕ, ◌+◌, ◌^◌, ◌≤◌, ◌<◌}
use native.Mathlib.Omega.{arith}
use lib.Dec.{lit<}
use lib.ListN.{length, get_or, length-append}
use borrow.Author.Tests.{le-leb, lt-ltb}
use Rattle.format.specs.Commands.{Outcome, refused, given, first_refusal}
use Rattle.format.specs.Layouts.{E, u8, i16, i32}
use Rattle.format.specs.declared.problem.Command.{Command}
use Rattle.format.specs.declared.problem.Command.TheVariants as C
use Rattle.format.specs.declared.problem.Instruction.{Instruction}
use Rattle.format.specs.declared.problem.Instruction.TheVariants as I
use Rattle.format.specs.ProblemLayout.{problem_command, problem_size, problem_decoded}
use Rattle.format.specs.ProblemRules.{Problem, problem_placed, problem_operands_fit, problem_repeated, problem_full, problem_applied, problem_command_at, problem_instruction_at, problem_refusal_at, problem_next, problem_language}
use Rattle.format.proofs.ProblemChecks.{end_byte}
use Rattle.format.proofs.Run.{Left, left_next, left_given, left_refused}
use Rattle.written.specs.Bytes.{u, i}
use Rattle.written.specs.Legal.{OfBits}
use Rattle.written.specs.ProblemWritten.{problem_bytes}
use Rattle.written.proofs.Operands.{first_byte, unsigned_is, signed_is, command_length}

abbrev pub command_of : Instruction → Command
command_of (I.Variables n) = C.Variables
command_of (I.Objective k c) = C.Objective
command_of I.Inequality = C.Inequality
command_of (I.Term k c) = C.Term
command_of (I.Member j k) = C.Member
command_of I.End = C.End
command_of I.Equality = C.Equality
command_of (I.Rule r) = C.Rule
command_of (I.Order k) = C.Order

-- operands that have their widths
abbrev pub Sized : Instruction → Type 0
Sized (I.Variables n) = n < 256
Sized (I.Objective k c) = (k < 256 ^ 8) × OfBits 32 c
Sized I.Inequality = Unit {0}
Sized (I.Term k c) = (k < 256 ^ 8) × OfBits 16 c
Sized (I.Member j k) = (j < 256) × (k < 256 ^ 8)
Sized I.End = Unit {0}
Sized I.Equality = Unit {0}
Sized (I.Rule r) = r < 256
Sized (I.Order k) = k < 256

-- ---- what the reader finds
module _ (front back : List ℕ) where
  abbrev stream : Instruction → List ℕ
  stream x = front ++ (problem_bytes x ++ back)

  pub command_is : (x : Instruction) → problem_command_at (stream x) (length front) ≡ command_of x
  unfolding problem_bytes problem_command
  command_is (I.Variables n) = rw (first_byte 1 (u8 ∷ []) (u n ∷ []) front back)
  command_is (I.Objective k c) = rw (first_byte 2 (E ∷ i32 ∷ []) (u k ∷ i c ∷ []) front back)
  command_is I.Inequality = rw (first_byte 3 [] [] front back)
  command_is (I.Term k c) = rw (first_byte 4 (E ∷ i16 ∷ []) (u k ∷ i c ∷ []) front back)
  command_is (I.Member j k) = rw (first_byte 5 (u8 ∷ E ∷ []) (u j ∷ u k ∷ []) front back)
  command_is I.End = rw (first_byte 6 [] [] front back)
  command_is I.Equality = rw (first_byte 7 [] [] front back)
  command_is (I.Rule r) = rw (first_byte 8 (u8 ∷ []) (u r ∷ []) front back)
  command_is (I.Order k) = rw (first_byte 9 (u8 ∷ []) (u k ∷ []) front back)

  decoded_is : (x : Instruction) → Sized x → problem_decoded (command_of x) (stream x) (length front) ≡ x
  unfolding problem_bytes
  decoded_is (I.Variables n) h =
      ap I.Variables (unsigned_is 1 (u8 ∷ []) (u n ∷ []) front back refl 0 (lit< tt) n refl h)
  decoded_is (I.Objective k c) h =
      ap₂ I.Objective
      (unsigned_is 2 (E ∷ i32 ∷ []) (u k ∷ i c ∷ []) front back refl 0 (lit< tt) k refl h.0)
      (signed_is 2 (E ∷ i32 ∷ []) (u k ∷ i c ∷ []) front back refl 1 (lit< tt) 31 refl refl c refl h.1)
  decoded_is I.Inequality h = refl
  decoded_is (I.Term k c) h =
      ap₂ I.Term
      (unsigned_is 4 (E ∷ i16 ∷ []) (u k ∷ i c ∷ []) front back refl 0 (lit< tt) k refl h.0)
      (signed_is 4 (E ∷ i16 ∷ []) (u k ∷ i c ∷ []) front back refl 1 (lit< tt) 15 refl refl c refl h.1)
  decoded_is (I.Member j k) h =
      ap₂ I.Member
      (unsigned_is 5 (u8 ∷ E ∷ []) (u j ∷ u k ∷ []) front back refl 0 (lit< tt) j refl h.0)
      (unsigned_is 5 (u8 ∷ E ∷ []) (u j ∷ u k ∷ []) front back refl 1 (lit< tt) k refl h.1)
  decoded_is I.End h = refl
  decoded_is I.Equality h = refl
  decoded_is (I.Rule r) h = ap I.Rule (unsigned_is 8 (u8 ∷ []) (u r ∷ []) front back refl 0 (lit< tt) r refl h)
  decoded_is (I.Order k) h = ap I.Order (unsigned_is 9 (u8 ∷ []) (u k ∷ []) front back refl 0 (lit< tt) k refl h)

pub bytes_length : (x : Instruction) → length (problem_bytes x) ≡ problem_size (command_of x)
unfolding problem_bytes
bytes_length (I.Variables n) = command_length 1 (u8 ∷ []) (u n ∷ []) refl
bytes_length (I.Objective k c) = command_length 2 (E ∷ i32 ∷ []) (u k ∷ i c ∷ []) refl
bytes_length I.Inequality = command_length 3 [] [] refl
bytes_length (I.Term k c) = command_length 4 (E ∷ i16 ∷ []) (u k ∷ i c ∷ []) refl
bytes_length (I.Member j k) = command_length 5 (u8 ∷ E ∷ []) (u j ∷ u k ∷ []) refl
bytes_length I.End = command_length 6 [] [] refl
bytes_length I.Equality = command_length 7 [] [] refl
bytes_length (I.Rule r) = command_length 8 (u8 ∷ []) (u r ∷ []) refl
bytes_length (I.Order k) = command_length 9 (u8 ∷ []) (u k ∷ []) refl

size_positive : (x : Instruction) → 1 ≤ problem_size (command_of x)
size_positive (I.Variables n) = omega arith
size_positive (I.Objective k c) = omega arith
size_positive I.Inequality = omega arith
size_positive (I.Term k c) = omega arith
size_positive (I.Member j k) = omega arith
size_positive I.End = omega arith
size_positive I.Equality = omega arith
size_positive (I.Rule r) = omega arith
size_positive (I.Order k) = omega arith

pub bytes_some : (x : Instruction) → 1 ≤ length (problem_bytes x)
bytes_some x = omega (arith, bytes_length x, size_positive x)

-- ---- one command of a stream
-- the number of the refusal that it meets, or 0
unfoldable pub refusal_of : Problem → List ℕ → ℕ → Instruction → ℕ
refusal_of p s at x =
    first_refusal (problem_placed p s at (command_of x)) true (problem_operands_fit p x) (problem_repeated p x)
    (problem_full p x)

module _ (s front back : List ℕ) (x : Instruction) (is : s ≡ front ++ (problem_bytes x ++ back)) (sized : Sized x) where
  abbrev at : ℕ
  at = length front

  here : problem_command_at s at ≡ command_of x
  here = rw is (command_is front back x)

  instruction_is : problem_instruction_at s at ≡ x
  instruction_is = rw here (rw is (decoded_is front back x sized))

  inside : at + problem_size (command_of x) ≤ length s
  inside =
      let n = length-append front (problem_bytes x ++ back) in
      let m = length-append (problem_bytes x) back in
      rw is (omega (arith, bytes_length x))

  pub refusal_is : (p : Problem) → problem_refusal_at p s at ≡ refusal_of p s at x
  unfolding problem_refusal_at refusal_of
  refusal_is p = rw (instruction_is, here, le-leb (at + problem_size (command_of x)) (length s) inside)

  module _ (o : Outcome Problem) (p : Problem) (left : Left problem_language s o p at) where
    some : at < length s
    some = omega (arith, inside, size_positive x)

    pub written_refused : 0 < refusal_of p s at x → refused (refusal_of p s at x) at ≡ o
    written_refused v =
        let e = refusal_is p in
        rw e at (left_refused problem_language s o p at left some (rw e v))

    pub written_next : (command_of x ≡ C.End → ⊥) → refusal_of p s at x ≡ 0
        → Left problem_language s o (problem_applied p x) (length (front ++ problem_bytes x))
    unfolding problem_next
    written_next goes v =
        let k : 1 ≤ problem_size (problem_command_at s at) = rw here (size_positive x) in
        let no : get_or s at 0 ≡ 6 → ⊥ = (λ e. goes (sym here ∙ (unfold problem_command in rw e))) in
        let n = left_next problem_language s o p at left some (refusal_is p ∙ v) no k in
        rw (length-append front (problem_bytes x)) (rw (instruction_is, here, ← bytes_length x) at n)

-- the end command, behind a command
pub written_end : (s front : List ℕ) → s ≡ front ++ (problem_bytes I.End ++ []) → 0 < length front
    → (o : Outcome Problem) (p : Problem) → Left problem_language s o p (length front) → given p ≡ o
written_end s front is b o p l =
    let e : get_or s (length front) 0 ≡ 6 = end_byte _ (here s front [] I.End is tt) in
    let v : refusal_of p s (length front) I.End ≡ 0 = unfold refusal_of first_refusal in rw (lt-ltb 0 (length front) b) in
    let n = ap length is ∙ length-append front (problem_bytes I.End ++ []) in
    let m = length-append (problem_bytes I.End) [] in
    let d = bytes_length I.End in
    left_given problem_language s o p (length front) l (omega arith) (refusal_is s front [] I.End is tt p ∙ v) e
    (omega arith)
