-- The operand of 08 or of 09 exchanged, and the command left out: the same problem but for the rule or the order, or the
-- same refusal.
use mathlib.Core.Path.{◌≡◌, refl, sym, ap, ◌∙◌}
use mathlib.Core.Logic.{⊎_elim}
use mathlib.Core.List.{List, [], ◌∷◌, ◌++◌}
use mathlib.Core.Bool.{Bool, true, false, cond, not, ◌&&◌}
use Prim.Native.Nat.{ℕ, suc, ◌+◌, ◌-◌, ◌*◌, ◌≤◌, ◌<◌}
use native.Mathlib.Omega.{arith}
use lib.ListN.{length, get_or, length-append}
use lib.Seq.{get_or-append_seam, get_or-append-add}
use lib.Dec.{eqb, leb}
use borrow.Author.Tests.{le-leb, leb-true, eqb-true, eq-eqb, ne_eqb}
use Rattle.counting.proofs.Cases.{clash, and_left, lt_or_le}
use Rattle.counting.proofs.Listed.{same_or_not}
use Rattle.format.specs.Commands.{Outcome, refused, given, first_refusal}
use Rattle.format.specs.Operands.{number}
use Rattle.format.specs.declared.problem.Command.{Command}
use Rattle.format.specs.declared.problem.Command.TheVariants as C
use Rattle.format.specs.ProblemLayout.{problem_command}
use Rattle.format.specs.ProblemLimits.{most_variables, latest_rule, most_order}
use Rattle.format.specs.ProblemRules.{Problem, no_problem, with_rule, with_order, order_place, problem_placed, problem_operands_fit, problem_applied, problem_command_at, problem_instruction_at, problem_refusal_at, problem_next, problem_language, read_problem}
use Rattle.format.specs.ProblemRule.{ruled, unruled}
use Rattle.format.specs.ProblemOrder.{order_named, Beginning, after_variables, after_rule, ordered}
use Rattle.format.proofs.ProblemRule.{rule_command, rule_byte, order_command, order_byte, read_order}
use Rattle.format.proofs.Differing.{rule_changes, order_changes, changed, Agree, Places, agrees}
use Rattle.format.proofs.Run.{passes, Left, left_start, left_refused, left_next}

-- operands that keep their rule
abbrev pub IsNumber : ℕ → Type 0
IsNumber n = (leb 1 n && leb n most_variables) ≡ true

abbrev pub IsRule : ℕ → Type 0
IsRule r = (leb 1 r && leb r latest_rule) ≡ true

abbrev pub IsOrder : ℕ → Type 0
IsOrder k = (leb 1 k && leb k most_order) ≡ true

is_order : (k : ℕ) → 1 ≤ k → k ≤ most_order → IsOrder k
is_order k h m = rw (le-leb 1 k h, le-leb k most_order m)

-- an operand of one byte is the byte
one_byte : (s : List ℕ) (at : ℕ) → number 1 s at ≡ get_or s at 0
unfolding number
one_byte s at = omega arith

-- a byte other than 0 stands there
nonempty : {x : ℕ} (l : List ℕ) → get_or l 0 0 ≡ suc x → 0 < length l
nonempty [] e = absurd (omega arith)
nonempty (y ∷ l) e = omega arith

-- ---- the bytes behind a beginning b and a command of two bytes
behind : (b l : List ℕ) (x : ℕ) → length b ≤ x → get_or (b ++ l) x 0 ≡ get_or l (x - length b) 0
behind b l x h = let e : length b + (x - length b) ≡ x = omega arith in rw e at (get_or-append-add b l (x - length b) 0)

module _ (b : List ℕ) (some : 2 ≤ length b) (c x : ℕ) (rest : List ℕ) where
  abbrev from : ℕ
  from = length b + 2

  abbrev stream : List ℕ
  stream = b ++ (c ∷ x ∷ rest)

  stream_long : length stream ≡ from + length rest
  stream_long = omega (arith, length-append b (c ∷ x ∷ rest))

  behind_both : (z : ℕ) → from ≤ z → get_or stream z 0 ≡ get_or rest (z - from) 0
  behind_both z h =
      let e : z - length b - 2 ≡ z - from = omega arith in
      behind b (c ∷ x ∷ rest) z (omega arith) ∙ behind (c ∷ x ∷ []) rest (z - length b) (omega arith) ∙ rw e

  first_behind : get_or stream from 0 ≡ get_or rest 0 0
  first_behind = let e : from - from ≡ 0 = omega arith in rw e at (behind_both from (omega arith))

  agree_left_out : Agree stream (b ++ rest) from 2
  agree_left_out = record {
    low = omega arith;
    long = omega (arith, stream_long, length-append b rest);
    bytes = λ z h.
        let e : z - 2 - length b ≡ z - from = omega arith in
        behind_both z h ∙ sym (rw e at (behind b rest (z - 2) (omega arith)));
  }

  -- the byte at an offset is not the first behind, where that is another
  not_first : (byte at : ℕ) → (get_or rest 0 0 ≡ byte → ⊥) → get_or stream at 0 ≡ byte → at ≡ from → ⊥
  not_first byte at away e z = away (sym first_behind ∙ rw z at e)

agree_exchanged : (b : List ℕ) → 2 ≤ length b → (c x y : ℕ) (rest : List ℕ) → Agree (b ++ (c ∷ x ∷ rest)) (b ++ (c ∷ y ∷ rest)) (length b + 2) 0
agree_exchanged b some c x y rest = record {
  low = omega arith;
  long = omega (arith, stream_long b some c x rest, stream_long b some c y rest);
  bytes = λ z h. let e : z - 0 ≡ z = omega arith in rw e (behind_both b some c x rest z h ∙ sym (behind_both b some c y rest z h));
}

-- ---- check 3 behind the command
places_exchanged : (s t : List ℕ) (from : ℕ) (c : Command) → order_place t ≡ order_place s
    → ((p : Problem) (at : ℕ) → from ≤ at → problem_placed p s at c ≡ true → ⊥) → Places s t from 0 c
places_exchanged s t from c same over = record {
  rule = λ p at h e. let z : at - 0 ≡ at = omega arith in rw z;
  order = λ p at h e. let z : at - 0 ≡ at = omega arith in rw (z, same);
  over = over;
}

-- where no 08 stands behind the first, none does two bytes earlier; and a 09 stands directly after 01 then
module _ (n r : ℕ) (rest : List ℕ) (away : get_or rest 0 0 ≡ 8 → ⊥) where
  rule_places : Places (ruled n r rest) (unruled n rest) 4 2 C.Rule
  unfolding order_place
  rule_places = record { rule = λ p. rule; order = λ p. order; over = λ p at h q. omega (arith, eqb-true at 2 q) }
    where
      rule : (at : ℕ) → 4 ≤ at → problem_command_at (ruled n r rest) at ≡ C.Rule → eqb (at - 2) 2 ≡ eqb at 2
      rule at h e =
          let d : at ≡ 4 → ⊥ = (λ z. away (rule_byte _ (rw z at e))) in
          ne_eqb (at - 2) 2 (λ z. d (omega arith)) ∙ sym (ne_eqb at 2 (λ z. omega arith))

      order : (at : ℕ) → 4 ≤ at → problem_command_at (ruled n r rest) at ≡ C.Order
          → eqb (at - 2) (cond (eqb (get_or rest 0 0) 8) 4 2) ≡ eqb at 4
      order at h e =
          rw (ne_eqb (get_or rest 0 0) 8 away)
          (⊎_elim
          (λ z. eq-eqb (at - 2) 2 (omega arith) ∙ sym (eq-eqb at 4 z))
          (λ d. ne_eqb (at - 2) 2 (λ z. d (omega arith)) ∙ sym (ne_eqb at 4 d))
          (same_or_not at 4))

-- ---- 01 n
-- what it gives
abbrev numbered : ℕ → Problem
numbered n = record { variables = n; rule = 1; order = 0; objective = []; conditions = []; bases = no_problem.bases }

module _ (n : ℕ) (tail : List ℕ) where
  first_refusal_lem : problem_refusal_at no_problem (unruled n tail) 0 ≡ cond (leb 1 n && leb n 8) 0 4
  unfolding problem_refusal_at first_refusal problem_command number
  first_refusal_lem =
      let e : n + 256 * 0 ≡ n = omega arith in
      rw (le-leb 2 (length (unruled n tail)) (omega arith), e) (go (leb 1 n && leb n 8))
    where
      go : (b : Bool) → ◌≡◌ {A = ℕ} (cond (not b) 4 0) (cond b 0 4)
      go true = refl
      go false = refl

  first_left : IsNumber n → Left problem_language (unruled n tail) (read_problem (unruled n tail)) (numbered n) 2
  unfolding read_problem problem_next problem_applied problem_command number
  first_left h =
      let e : n + 256 * 0 ≡ n = omega arith in
      let v : problem_refusal_at no_problem (unruled n tail) 0 ≡ 0 = first_refusal_lem ∙ rw h in
      rw e at (left_next problem_language (unruled n tail) _ no_problem 0 (left_start problem_language (unruled n tail) no_problem) (omega arith) v (λ u. omega arith) (omega arith))

  first_not : (leb 1 n && leb n 8) ≡ false → refused 4 0 ≡ read_problem (unruled n tail)
  unfolding read_problem
  first_not h =
      let v : problem_refusal_at no_problem (unruled n tail) 0 ≡ 4 = first_refusal_lem ∙ rw h in
      rw v at (left_refused problem_language (unruled n tail) _ no_problem 0 (left_start problem_language (unruled n tail) no_problem) (omega arith) (rw v (omega arith)))

  first_given : (p : Problem) → read_problem (unruled n tail) ≡ given p → IsNumber n
  first_given p read = go (leb 1 n && leb n 8) refl
    where
      go : (b : Bool) → (leb 1 n && leb n 8) ≡ b → b ≡ true
      go true e = refl
      go false e = let f = first_not e in clash (cc)

-- ---- an 08 and a 09, where they may stand
module _ (s : List ℕ) (o : Outcome Problem) (a : Problem) (at x : ℕ) (left : Left problem_language s o a at) (long : at + 2 ≤ length s) (byte : get_or s (at + 1) 0 ≡ x) where
  operand : number 1 s (at + 1) ≡ x
  operand = one_byte s (at + 1) ∙ byte

  rule_left : get_or s at 0 ≡ 8 → at ≡ 2 → IsRule x → Left problem_language s o (with_rule a x) (at + 2)
  unfolding problem_refusal_at first_refusal problem_next problem_applied
  rule_left b z ok =
      let k = rule_command (get_or s at 0) b in
      let v : problem_refusal_at a s at ≡ 0 = rw (problem_refusal_at, k, eq-eqb at 2 z, le-leb (at + 2) (length s) long, operand, ok) in
      rw (k, operand) at (left_next problem_language s o a at left (omega arith) v (λ u. omega arith) (rw k (omega arith)))

  order_left : get_or s at 0 ≡ 9 → at ≡ order_place s → IsOrder x → Left problem_language s o (with_order a x) (at + 2)
  unfolding problem_refusal_at first_refusal problem_next problem_applied
  order_left b z ok =
      let k = order_command (get_or s at 0) b in
      let v : problem_refusal_at a s at ≡ 0 = rw (problem_refusal_at, k, eq-eqb at (order_place s) z, le-leb (at + 2) (length s) long, operand, ok) in
      rw (k, operand) at (left_next problem_language s o a at left (omega arith) v (λ u. omega arith) (rw k (omega arith)))

-- a stream that gives a problem has no command that is refused
module _ (s : List ℕ) (p a : Problem) (at : ℕ) (read : read_problem s ≡ given p) (left : Left problem_language s (read_problem s) a at) (inside : at < length s) where
  given_passes : problem_refusal_at a s at ≡ 0
  given_passes = ⊎_elim
      (λ v. let f = left_refused problem_language s _ a at left inside v in clash (cc))
      (λ z. omega arith)
      (lt_or_le 0 (problem_refusal_at a s at))

  given_placed : problem_placed a s at (problem_command_at s at) ≡ true
  unfolding problem_refusal_at
  given_placed = (passes _ _ _ _ _ given_passes).placed

  given_fits : problem_operands_fit a (problem_instruction_at s at) ≡ true
  unfolding problem_refusal_at
  given_fits = (passes _ _ _ _ _ given_passes).allowed

-- ---- the operand of 08 exchanged: the same problem but for the rule, or the same refusal
second_left : (n r : ℕ) (rest : List ℕ) → IsNumber n → IsRule r → Left problem_language (ruled n r rest) (read_problem (ruled n r rest)) (with_rule (numbered n) r) 4
second_left n r rest e ok =
    rule_left (ruled n r rest) _ (numbered n) 2 r (first_left n (0x08 ∷ r ∷ rest) e) (omega arith) refl refl refl ok

pub exchanged : (n r r' : ℕ) (rest : List ℕ) → IsRule r → IsRule r'
    → read_problem (ruled n r' rest) ≡ changed (λ p. with_rule p r') 0 (read_problem (ruled n r rest))
unfolding order_place
exchanged n r r' rest ok ok' = go (leb 1 n && leb n 8) refl
  where
    go : (b : Bool) → (leb 1 n && leb n 8) ≡ b
        → read_problem (ruled n r' rest) ≡ changed (λ p. with_rule p r') 0 (read_problem (ruled n r rest))
    go true e =
        agrees (ruled n r rest) (ruled n r' rest) 4 0 (agree_exchanged (0x01 ∷ n ∷ []) (omega arith) 0x08 r r' rest) C.Rule _ (rule_changes r')
        (places_exchanged (ruled n r rest) (ruled n r' rest) 4 C.Rule refl (λ p at h q. omega (arith, eqb-true at 2 q))) _ _
        (length (ruled n r rest)) (with_rule (numbered n) r) 4 (omega arith) (omega arith)
        (second_left n r rest e ok) (second_left n r' rest e ok')
    go false e = rw (← first_not n (0x08 ∷ r ∷ rest) e, ← first_not n (0x08 ∷ r' ∷ rest) e)

pub given_exchanged : (n r r' : ℕ) (rest : List ℕ) → IsRule r → IsRule r' → (p : Problem) → read_problem (ruled n r rest) ≡ given p
    → read_problem (ruled n r' rest) ≡ given (with_rule p r')
given_exchanged n r r' rest ok ok' p read = exchanged n r r' rest ok ok' ∙ ap (changed (λ p. with_rule p r') 0) read

-- ---- the 08 left out: the same problem under rule 1, or the same refusal, 2 bytes earlier. Where another 08 stands
-- behind the first, that one is refused, and the stream without the first may be read
module _ (n r : ℕ) (rest : List ℕ) (ok : IsRule r) where
  pub left_out : (get_or rest 0 0 ≡ 8 → ⊥) → read_problem (unruled n rest) ≡ changed (λ p. with_rule p 1) 2 (read_problem (ruled n r rest))
  left_out away = go (leb 1 n && leb n 8) refl
    where
      go : (b : Bool) → (leb 1 n && leb n 8) ≡ b
          → read_problem (unruled n rest) ≡ changed (λ p. with_rule p 1) 2 (read_problem (ruled n r rest))
      go true e =
          agrees (ruled n r rest) (unruled n rest) 4 2 (agree_left_out (0x01 ∷ n ∷ []) (omega arith) 0x08 r rest) C.Rule _ (rule_changes 1)
          (rule_places n r rest away) _ _
          (length (ruled n r rest)) (with_rule (numbered n) r) 4 (omega arith) (omega arith)
          (second_left n r rest e ok) (first_left n rest e)
      go false e = rw (← first_not n (0x08 ∷ r ∷ rest) e, ← first_not n rest e)

  -- a second 08 is misplaced, so a problem that is read has none
  pub given_left_out : (p : Problem) → read_problem (ruled n r rest) ≡ given p → read_problem (unruled n rest) ≡ given (with_rule p 1)
  given_left_out p read = left_out no_second ∙ ap (changed (λ p. with_rule p 1) 2) read
    where
      no_second : get_or rest 0 0 ≡ 8 → ⊥
      no_second e =
          let q = given_placed (ruled n r rest) p _ 4 read (second_left n r rest (first_given n (0x08 ∷ r ∷ rest) p read) ok) (omega (arith, nonempty rest e)) in
          let k : problem_command_at (ruled n r rest) 4 ≡ C.Rule = rule_command (get_or rest 0 0) e in
          omega (arith, eqb-true 4 2 (rw k at q))

-- ---- the same of 09, directly after 01 or after 08: b is the beginning
-- what is read of a beginning, whatever stands behind it. It has no order
pub record Begun (b : List ℕ) : Type 0 where
  pub problem : Problem
  pub unordered : with_order problem 0 ≡ problem
  pub left : (rest : List ℕ) → Left problem_language (b ++ rest) (read_problem (b ++ rest)) problem (length b)

pub variables_begun : (n : ℕ) → IsNumber n → Begun (0x01 ∷ n ∷ [])
variables_begun n e = record { problem = numbered n; unordered = refl; left = λ rest. first_left n rest e }

pub rule_begun : (n r : ℕ) → IsNumber n → IsRule r → Begun (0x01 ∷ n ∷ 0x08 ∷ r ∷ [])
rule_begun n r e ok = record { problem = with_rule (numbered n) r; unordered = refl; left = λ rest. second_left n r rest e ok }

begun_long : {b : List ℕ} → Beginning b → 2 ≤ length b
begun_long (after_variables n) = omega arith
begun_long (after_rule n r) = omega arith

-- 09 stands behind the beginning
order_place_lem : {b : List ℕ} → Beginning b → (k : ℕ) (rest : List ℕ) → order_place (ordered b k rest) ≡ length b
unfolding order_place
order_place_lem (after_variables n) k rest = refl
order_place_lem (after_rule n r) k rest = refl

-- where what stands there is neither 08 nor 09, a 09 would stand there too
other_place : {b : List ℕ} → Beginning b → (rest : List ℕ) → (get_or rest 0 0 ≡ 8 → ⊥) → order_place (b ++ rest) ≡ length b
unfolding order_place
other_place (after_variables n) rest away = rw (ne_eqb (get_or rest 0 0) 8 away)
other_place (after_rule n r) rest away = refl

module _ (b : List ℕ) (beginning : Beginning b) where
  some : 2 ≤ length b
  some = begun_long beginning

  over : (k : ℕ) (rest : List ℕ) (p : Problem) (at : ℕ) → length b + 2 ≤ at → problem_placed p (ordered b k rest) at C.Order ≡ true → ⊥
  over k rest p at h q = omega (arith, eqb-true at _ q, order_place_lem beginning k rest)

  module _ (k : ℕ) (rest : List ℕ) (eight : get_or rest 0 0 ≡ 8 → ⊥) (nine : get_or rest 0 0 ≡ 9 → ⊥) where
    order_places : Places (ordered b k rest) (b ++ rest) (length b + 2) 2 C.Order
    order_places = record { rule = λ p. rule; order = λ p. order; over = over k rest }
      where
        apart : (byte at : ℕ) → (get_or rest 0 0 ≡ byte → ⊥) → get_or (ordered b k rest) at 0 ≡ byte → at ≡ length b + 2 → ⊥
        apart = not_first b some 0x09 k rest

        rule : (at : ℕ) → length b + 2 ≤ at → problem_command_at (ordered b k rest) at ≡ C.Rule → eqb (at - 2) 2 ≡ eqb at 2
        rule at h e =
            let d : at ≡ length b + 2 → ⊥ = apart 8 at eight (rule_byte _ e) in
            ne_eqb (at - 2) 2 (λ z. d (omega (arith, some))) ∙ sym (ne_eqb at 2 (λ z. omega (arith, some)))

        order : (at : ℕ) → length b + 2 ≤ at → problem_command_at (ordered b k rest) at ≡ C.Order
            → eqb (at - 2) (order_place (b ++ rest)) ≡ eqb at (order_place (ordered b k rest))
        order at h e =
            let d : at ≡ length b + 2 → ⊥ = apart 9 at nine (order_byte _ e) in
            rw (other_place beginning rest eight, order_place_lem beginning k rest)
            (ne_eqb (at - 2) (length b) (λ z. d (omega arith)) ∙ sym (ne_eqb at (length b) (λ z. omega arith)))

  module _ (begun : Begun b) where
    ordered_left : (k : ℕ) (rest : List ℕ) → IsOrder k → Left problem_language (ordered b k rest) (read_problem (ordered b k rest)) (with_order begun.problem k) (length b + 2)
    ordered_left k rest ok =
        order_left (ordered b k rest) _ begun.problem (length b) k (begun.left (0x09 ∷ k ∷ rest)) (omega (arith, stream_long b some 0x09 k rest))
        (get_or-append-add b (0x09 ∷ k ∷ rest) 1 0) (get_or-append_seam b 0x09 (k ∷ rest) 0) (sym (order_place_lem beginning k rest)) ok

    pub order_exchanged : (k k' : ℕ) (rest : List ℕ) → IsOrder k → IsOrder k'
        → read_problem (ordered b k' rest) ≡ changed (λ p. with_order p k') 0 (read_problem (ordered b k rest))
    order_exchanged k k' rest ok ok' =
        agrees (ordered b k rest) (ordered b k' rest) (length b + 2) 0 (agree_exchanged b some 0x09 k k' rest) C.Order _ (order_changes k')
        (places_exchanged (ordered b k rest) (ordered b k' rest) (length b + 2) C.Order (order_place_lem beginning k' rest ∙ sym (order_place_lem beginning k rest)) (over k rest)) _ _
        (length (ordered b k rest)) (with_order begun.problem k) (length b + 2) (omega arith) (omega arith)
        (ordered_left k rest ok) (let z : length b + 2 - 0 ≡ length b + 2 = omega arith in rw z (ordered_left k' rest ok'))

    pub order_left_out : (k : ℕ) (rest : List ℕ) → IsOrder k → (get_or rest 0 0 ≡ 8 → ⊥) → (get_or rest 0 0 ≡ 9 → ⊥)
        → read_problem (b ++ rest) ≡ changed (λ p. with_order p 0) 2 (read_problem (ordered b k rest))
    order_left_out k rest ok eight nine =
        agrees (ordered b k rest) (b ++ rest) (length b + 2) 2 (agree_left_out b some 0x09 k rest) C.Order _ (order_changes 0)
        (order_places k rest eight nine) _ _
        (length (ordered b k rest)) (with_order begun.problem k) (length b + 2) (omega arith) (omega arith)
        (ordered_left k rest ok) (let z : length b + 2 - 2 ≡ length b = omega arith in rw (z, begun.unordered) (begun.left rest))

-- ---- streams that give a problem: their operands keep the rules, and neither 08 nor 09 stands behind a 09
given_begun : {b : List ℕ} → Beginning b → (rest : List ℕ) (p : Problem) → read_problem (b ++ rest) ≡ given p → Begun b
given_begun (after_variables n) rest p read = variables_begun n (first_given n rest p read)
given_begun (after_rule n r) rest p read = rule_begun n r e ok
  where
    e : IsNumber n
    e = first_given n (0x08 ∷ r ∷ rest) p read

    ok : IsRule r
    ok =
        let k : problem_command_at (ruled n r rest) 2 ≡ C.Rule = rule_command 8 refl in
        rw (k, one_byte (ruled n r rest) 3) at (given_fits (ruled n r rest) p (numbered n) 2 read (first_left n (0x08 ∷ r ∷ rest) e) (omega arith))

module _ {b : List ℕ} (beginning : Beginning b) (k : ℕ) (rest : List ℕ) (p : Problem) (read : read_problem (ordered b k rest) ≡ given p) where
  abbrev begun : Begun b
  begun = given_begun beginning (0x09 ∷ k ∷ rest) p read

  given_order : IsOrder k
  given_order =
      let c : problem_command_at (ordered b k rest) (length b) ≡ C.Order = order_command _ (get_or-append_seam b 0x09 (k ∷ rest) 0) in
      rw (c, one_byte (ordered b k rest) (length b + 1), get_or-append-add b (0x09 ∷ k ∷ rest) 1 0)
      at (given_fits (ordered b k rest) p begun.problem (length b) read (begun.left (0x09 ∷ k ∷ rest)) (omega (arith, stream_long b (begun_long beginning) 0x09 k rest)))

  -- the order of the problem is k, and k is not 0
  pub given_positive : 1 ≤ k
  given_positive = leb-true 1 k (and_left (leb 1 k) (leb k most_order) given_order)

  pub order_read : p.order ≡ k
  unfolding order_named
  order_read =
      read_order (ordered b k rest) p read
      ∙ rw (order_place_lem beginning k rest, get_or-append_seam b 0x09 (k ∷ rest) 0) (one_byte (ordered b k rest) (length b + 1) ∙ get_or-append-add b (0x09 ∷ k ∷ rest) 1 0)

  behind_order : (byte : ℕ) → get_or rest 0 0 ≡ suc byte
      → problem_placed (with_order begun.problem k) (ordered b k rest) (length b + 2) (problem_command (suc byte)) ≡ true
  behind_order byte e =
      rw (first_behind b (begun_long beginning) 0x09 k rest ∙ e)
      at (given_placed (ordered b k rest) p _ (length b + 2) read (ordered_left b beginning begun k rest given_order) (omega (arith, stream_long b (begun_long beginning) 0x09 k rest, nonempty rest e)))

  no_eight : get_or rest 0 0 ≡ 8 → ⊥
  no_eight e = omega (arith, begun_long beginning, eqb-true (length b + 2) 2 (rw (rule_command 8 refl) at (behind_order 7 e)))

  no_nine : get_or rest 0 0 ≡ 9 → ⊥
  no_nine e = over b beginning k rest p (length b + 2) (omega arith) (rw (order_command 9 refl) at (behind_order 8 e))

  pub given_order_exchanged : (k' : ℕ) → 1 ≤ k' → k' ≤ most_order → read_problem (ordered b k' rest) ≡ given (with_order p k')
  given_order_exchanged k' some most = order_exchanged b beginning begun k k' rest given_order (is_order k' some most) ∙ ap (changed (λ p. with_order p k') 0) read

  pub given_order_left_out : read_problem (b ++ rest) ≡ given (with_order p 0)
  given_order_left_out = order_left_out b beginning begun k rest given_order no_eight no_nine ∙ ap (changed (λ p. with_order p 0) 2) read
