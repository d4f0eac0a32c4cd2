-- A command of the certificate stream where it was written: the reader finds it again, with its operands, and takes it
-- if the checks pass.
use mathlib.Core.Path.{◌≡◌, refl, sym, ap, ap₂, ◌∙◌}
use mathlib.Core.Bool.{true}
use mathlib.Core.List.{List, [], ◌∷◌, ◌++◌}
use Prim.Native.Nat.{ℕ, ◌+◌, ◌^◌, ◌≤◌, ◌<◌}
use native.Mathlib.Omega.{arith}
use lib.Dec.{lit<}
use lib.ListN.{length, get_or, length-append}
use borrow.Author.Tests.{le-leb, lt-ltb, eqb-true}
use Rattle.counting.proofs.Cases.{clash}
use Rattle.format.specs.Commands.{Outcome, refused, given, first_refusal}
use Rattle.format.specs.Layouts.{u8, u16, i16, i32}
use Rattle.format.specs.declared.certificate.Command.{Command}
use Rattle.format.specs.declared.certificate.Command.TheVariants as C
use Rattle.format.specs.declared.certificate.Instruction.{Instruction}
use Rattle.format.specs.declared.certificate.Instruction.TheVariants as I
use Rattle.format.specs.CertificateLayout.{certificate_command, certificate_size, certificate_decoded}
use Rattle.format.specs.ProblemRules.{Problem}
use Rattle.format.specs.CertificateRules.{Certificate, certificate_placed, certificate_operands_fit, certificate_repeated, certificate_full, certificate_applied, certificate_command_at, certificate_instruction_at, certificate_refusal_at, certificate_next, certificate_language}
use Rattle.format.proofs.Lengths.{certificate_byte}
use Rattle.format.proofs.Run.{Left, left_next, left_given, left_refused}
use Rattle.written.specs.Bytes.{u, i}
use Rattle.written.specs.Legal.{OfBits}
use Rattle.written.specs.CertificateWritten.{certificate_bytes}
use Rattle.written.proofs.Operands.{first_byte, unsigned_is, signed_is, command_length}

abbrev pub command_of : Instruction → Command
command_of (I.Header side d p q) = C.Header
command_of (I.Row j w) = C.Row
command_of (I.Entry n l) = C.Entry
command_of I.End = C.End
command_of (I.EqualityRow j w) = C.EqualityRow
command_of (I.WideEntry n l) = C.WideEntry

-- operands that have their widths
abbrev pub Sized : Instruction → Type 0
Sized (I.Header side d p q) = (side < 256) × (d < 2 ^ 16) × OfBits 32 p × (q < 2 ^ 16)
Sized (I.Row j w) = (j < 256) × (w < 2 ^ 16)
Sized (I.Entry n l) = (n < 256) × OfBits 16 l
Sized I.End = Unit {0}
Sized (I.EqualityRow j w) = (j < 256) × OfBits 16 w
Sized (I.WideEntry n l) = (n < 256) × OfBits 32 l

-- ---- what the reader finds
module _ (front back : List ℕ) where
  abbrev stream : Instruction → List ℕ
  stream x = front ++ (certificate_bytes x ++ back)

  command_is : (x : Instruction) → certificate_command_at (stream x) (length front) ≡ command_of x
  unfolding certificate_bytes certificate_command
  command_is (I.Header side d p q) =
      rw (first_byte 0x10 (u8 ∷ u16 ∷ i32 ∷ u16 ∷ []) (u side ∷ u d ∷ i p ∷ u q ∷ []) front back)
  command_is (I.Row j w) = rw (first_byte 0x11 (u8 ∷ u16 ∷ []) (u j ∷ u w ∷ []) front back)
  command_is (I.Entry n l) = rw (first_byte 0x12 (u8 ∷ i16 ∷ []) (u n ∷ i l ∷ []) front back)
  command_is I.End = rw (first_byte 0x13 [] [] front back)
  command_is (I.EqualityRow j w) = rw (first_byte 0x14 (u8 ∷ i16 ∷ []) (u j ∷ i w ∷ []) front back)
  command_is (I.WideEntry n l) = rw (first_byte 0x15 (u8 ∷ i32 ∷ []) (u n ∷ i l ∷ []) front back)

  decoded_is : (x : Instruction) → Sized x → certificate_decoded (command_of x) (stream x) (length front) ≡ x
  unfolding certificate_bytes
  decoded_is (I.Header side d p q) h =
      let ws = u8 ∷ u16 ∷ i32 ∷ u16 ∷ [] in
      let os = u side ∷ u d ∷ i p ∷ u q ∷ [] in
      let a = unsigned_is 0x10 ws os front back refl 0 (lit< tt) side refl h.0 in
      let b = unsigned_is 0x10 ws os front back refl 1 (lit< tt) d refl h.1 in
      let c = signed_is 0x10 ws os front back refl 2 (lit< tt) 31 refl refl p refl h.2 in
      let e = unsigned_is 0x10 ws os front back refl 3 (lit< tt) q refl h.3 in
      cc (a, b, c, e)
  decoded_is (I.Row j w) h =
      ap₂ I.Row
      (unsigned_is 0x11 (u8 ∷ u16 ∷ []) (u j ∷ u w ∷ []) front back refl 0 (lit< tt) j refl h.0)
      (unsigned_is 0x11 (u8 ∷ u16 ∷ []) (u j ∷ u w ∷ []) front back refl 1 (lit< tt) w refl h.1)
  decoded_is (I.Entry n l) h =
      ap₂ I.Entry
      (unsigned_is 0x12 (u8 ∷ i16 ∷ []) (u n ∷ i l ∷ []) front back refl 0 (lit< tt) n refl h.0)
      (signed_is 0x12 (u8 ∷ i16 ∷ []) (u n ∷ i l ∷ []) front back refl 1 (lit< tt) 15 refl refl l refl h.1)
  decoded_is I.End h = refl
  decoded_is (I.EqualityRow j w) h =
      ap₂ I.EqualityRow
      (unsigned_is 0x14 (u8 ∷ i16 ∷ []) (u j ∷ i w ∷ []) front back refl 0 (lit< tt) j refl h.0)
      (signed_is 0x14 (u8 ∷ i16 ∷ []) (u j ∷ i w ∷ []) front back refl 1 (lit< tt) 15 refl refl w refl h.1)
  decoded_is (I.WideEntry n l) h =
      ap₂ I.WideEntry
      (unsigned_is 0x15 (u8 ∷ i32 ∷ []) (u n ∷ i l ∷ []) front back refl 0 (lit< tt) n refl h.0)
      (signed_is 0x15 (u8 ∷ i32 ∷ []) (u n ∷ i l ∷ []) front back refl 1 (lit< tt) 31 refl refl l refl h.1)

pub bytes_length : (x : Instruction) → length (certificate_bytes x) ≡ certificate_size (command_of x)
unfolding certificate_bytes
bytes_length (I.Header side d p q) =
    command_length 0x10 (u8 ∷ u16 ∷ i32 ∷ u16 ∷ []) (u side ∷ u d ∷ i p ∷ u q ∷ []) refl
bytes_length (I.Row j w) = command_length 0x11 (u8 ∷ u16 ∷ []) (u j ∷ u w ∷ []) refl
bytes_length (I.Entry n l) = command_length 0x12 (u8 ∷ i16 ∷ []) (u n ∷ i l ∷ []) refl
bytes_length I.End = command_length 0x13 [] [] refl
bytes_length (I.EqualityRow j w) = command_length 0x14 (u8 ∷ i16 ∷ []) (u j ∷ i w ∷ []) refl
bytes_length (I.WideEntry n l) = command_length 0x15 (u8 ∷ i32 ∷ []) (u n ∷ i l ∷ []) refl

size_positive : (x : Instruction) → 1 ≤ certificate_size (command_of x)
size_positive (I.Header side d p q) = omega arith
size_positive (I.Row j w) = omega arith
size_positive (I.Entry n l) = omega arith
size_positive I.End = omega arith
size_positive (I.EqualityRow j w) = omega arith
size_positive (I.WideEntry n l) = omega arith

pub bytes_some : (x : Instruction) → 1 ≤ length (certificate_bytes x)
bytes_some x = omega (arith, bytes_length x, size_positive x)

-- ---- one command of a stream
-- the number of the refusal that it meets, or 0
unfoldable pub refusal_of : Problem → Certificate → ℕ → Instruction → ℕ
refusal_of p c at x =
    first_refusal (certificate_placed c at (command_of x)) true (certificate_operands_fit p c x) (certificate_repeated c x)
    (certificate_full c x)

module _ (p : Problem) (s front back : List ℕ) (x : Instruction) (is : s ≡ front ++ (certificate_bytes x ++ back))
    (sized : Sized x) where
  abbrev at : ℕ
  at = length front

  here : certificate_command_at s at ≡ command_of x
  here = rw is (command_is front back x)

  instruction_is : certificate_instruction_at s at ≡ x
  instruction_is = rw here (rw is (decoded_is front back x sized))

  inside : at + certificate_size (command_of x) ≤ length s
  inside =
      let n = length-append front (certificate_bytes x ++ back) in
      let m = length-append (certificate_bytes x) back in
      rw is (omega (arith, bytes_length x))

  pub refusal_is : (c : Certificate) → certificate_refusal_at p c s at ≡ refusal_of p c at x
  unfolding certificate_refusal_at refusal_of
  refusal_is c = rw (instruction_is, here, le-leb (at + certificate_size (command_of x)) (length s) inside)

  module _ (o : Outcome Certificate) (c : Certificate) (left : Left (certificate_language p) s o c at) where
    some : at < length s
    some = omega (arith, inside, size_positive x)

    pub written_refused : 0 < refusal_of p c at x → refused (refusal_of p c at x) at ≡ o
    written_refused v =
        let e = refusal_is c in
        rw e at (left_refused (certificate_language p) s o c at left some (rw e v))

    pub written_next : (command_of x ≡ C.End → ⊥) → refusal_of p c at x ≡ 0
        → Left (certificate_language p) s o (certificate_applied c x at) (length (front ++ certificate_bytes x))
    unfolding certificate_next
    written_next goes v =
        let k : 1 ≤ certificate_size (certificate_command_at s at) = rw here (size_positive x) in
        let no : get_or s at 0 ≡ 0x13 → ⊥ = (λ e. goes (sym here ∙ (unfold certificate_command in rw e))) in
        let n = left_next (certificate_language p) s o c at left some (refusal_is c ∙ v) no k in
        rw (length-append front (certificate_bytes x)) (rw (instruction_is, here, ← bytes_length x) at n)

-- the end command, behind a command
end_byte : (b : ℕ) → certificate_command b ≡ C.End → b ≡ 0x13
end_byte b h = eqb-true b 0x13 (certificate_byte C.End b h (λ e. clash (cc)))

pub written_end : (p : Problem) (s front : List ℕ) → s ≡ front ++ (certificate_bytes I.End ++ []) → 0 < length front
    → (o : Outcome Certificate) (c : Certificate) → Left (certificate_language p) s o c (length front) → given c ≡ o
written_end p s front is b o c l =
    let e : get_or s (length front) 0 ≡ 0x13 = end_byte _ (here p s front [] I.End is tt) in
    let v : refusal_of p c (length front) I.End ≡ 0 = unfold refusal_of first_refusal in rw (lt-ltb 0 (length front) b) in
    let n = ap length is ∙ length-append front (certificate_bytes I.End ++ []) in
    let m = length-append (certificate_bytes I.End) [] in
    let d = bytes_length I.End in
    left_given (certificate_language p) s o c (length front) l (omega arith)
    (refusal_is p s front [] I.End is tt c ∙ v) e (omega arith)
