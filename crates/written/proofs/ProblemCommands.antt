-- Every problem stream that reads is its commands, as they are written: head, body and end, each in its place.
use mathlib.Core.Path.{◌≡◌, refl, sym, ap, ◌∙◌}
use mathlib.Core.Bool.{true}
use mathlib.Core.List.{List, [], ◌∷◌, ◌++◌, append_assoc, flat_map}
use Prim.Native.Nat.{ℕ, zero, suc, ◌+◌, ◌≤◌, ◌<◌}
use native.Mathlib.Omega.{arith}
use lib.Dec.{leb, ltb}
use lib.ListN.{length, get_or, take, drop, take-append-drop, drop_of_length-le}
use lib.Seq.{drop-drop}
use borrow.Author.Tests.{le-leb, leb-true, ltb-true, eqb-true, ne_eqb}
use Rattle.counting.specs.Counting.{Bounded}
use Rattle.counting.proofs.Cases.{clash, and_left, and_right}
use Rattle.format.specs.Commands.{refused, given, first_refusal, run, read_whole}
use Rattle.format.specs.Layouts.{E, u8, i16, i32}
use Rattle.format.specs.Operands.{number}
use Rattle.format.specs.declared.problem.Command.{Command}
use Rattle.format.specs.declared.problem.Command.TheVariants as C
use Rattle.format.specs.declared.problem.Instruction.{Instruction}
use Rattle.format.specs.declared.problem.Instruction.TheVariants as I
use Rattle.format.specs.ProblemLayout.{problem_command, problem_size, problem_decoded}
use Rattle.format.specs.ProblemRules.{Problem, no_problem, order_place, problem_placed, problem_operands_fit, problem_repeated, problem_full, problem_applied, problem_command_at, problem_instruction_at, problem_refusal_at, problem_next, problem_language, read_problem}
use Rattle.format.proofs.Lengths.{problem_byte}
use Rattle.format.proofs.Numbers.{number_low}
use Rattle.format.proofs.ProblemChecks.{placed_size, end_byte}
use Rattle.format.proofs.ProblemLimits.{place_positive}
use Rattle.format.proofs.Meets.{Meets, past, stopped, extra, finished, taken, meets}
use Rattle.format.proofs.Run.{Passes, passes, Left, left_start, left_next}
use Rattle.written.specs.Bytes.{operand_number, operand_bytes, command_bytes}
use Rattle.written.specs.ProblemWritten.{problem_bytes, problem_stream, in_stream}
use Rattle.written.specs.CommandOrder.{Head, plain, ruled, ordered, both, may_stand, InPlace}
use Rattle.written.proofs.Operands.{unsigned_signed, OperandsAt, command_of_lem}
use Rattle.written.proofs.ProblemSteps.{command_of, command_is, bytes_length, bytes_some}
use Rattle.written.proofs.ProblemReading.{after, after_append, conditions_begun}
use Rattle.written.proofs.ProblemOrders.{place_second, place_third}

-- ---- the bytes of a command that is read
module _ (s : List ℕ) (bounded : Bounded 255 s) (at : ℕ) where
  decoded_bytes : (k : Command) → problem_command_at s at ≡ k → (k ≡ C.Unknown → ⊥) → at + problem_size k ≤ length s
      → problem_bytes (problem_decoded k s at) ≡ take (problem_size k) (drop at s)
  unfolding problem_bytes OperandsAt operand_number
  decoded_bytes C.Variables e h n =
      command_of_lem s bounded 1 (u8 ∷ []) _ at (eqb-true _ 1 (problem_byte C.Variables _ e h)) (refl, tt) n
  decoded_bytes C.Objective e h n =
      command_of_lem s bounded 2 (E ∷ i32 ∷ []) _ at (eqb-true _ 2 (problem_byte C.Objective _ e h))
      (refl, (unsigned_signed 31 _ (number_low s bounded 4 (at + 9)) ∙ ap (number 4 s) (omega arith), tt)) n
  decoded_bytes C.Inequality e h n =
      command_of_lem s bounded 3 [] _ at (eqb-true _ 3 (problem_byte C.Inequality _ e h)) tt n
  decoded_bytes C.Term e h n =
      command_of_lem s bounded 4 (E ∷ i16 ∷ []) _ at (eqb-true _ 4 (problem_byte C.Term _ e h))
      (refl, (unsigned_signed 15 _ (number_low s bounded 2 (at + 9)) ∙ ap (number 2 s) (omega arith), tt)) n
  decoded_bytes C.Member e h n =
      command_of_lem s bounded 5 (u8 ∷ E ∷ []) _ at (eqb-true _ 5 (problem_byte C.Member _ e h))
      (refl, (ap (number 8 s) (omega arith), tt)) n
  decoded_bytes C.End e h n = command_of_lem s bounded 6 [] _ at (eqb-true _ 6 (problem_byte C.End _ e h)) tt n
  decoded_bytes C.Unknown e h n = absurd (h refl)
  decoded_bytes C.Equality e h n =
      command_of_lem s bounded 7 [] _ at (eqb-true _ 7 (problem_byte C.Equality _ e h)) tt n
  decoded_bytes C.Rule e h n =
      command_of_lem s bounded 8 (u8 ∷ []) _ at (eqb-true _ 8 (problem_byte C.Rule _ e h)) (refl, tt) n
  decoded_bytes C.Order e h n =
      command_of_lem s bounded 9 (u8 ∷ []) _ at (eqb-true _ 9 (problem_byte C.Order _ e h)) (refl, tt) n

  decoded_command : (k : Command) → (k ≡ C.Unknown → ⊥) → command_of (problem_decoded k s at) ≡ k
  decoded_command C.Variables h = refl
  decoded_command C.Objective h = refl
  decoded_command C.Inequality h = refl
  decoded_command C.Term h = refl
  decoded_command C.Member h = refl
  decoded_command C.End h = refl
  decoded_command C.Unknown h = absurd (h refl)
  decoded_command C.Equality h = refl
  decoded_command C.Rule h = refl
  decoded_command C.Order h = refl

-- ---- the commands from an offset on, up to the end: each stands where it may, and its operands keep their rules
unfoldable pub Chain : List ℕ → Problem → ℕ → List Instruction → Type 0
Chain s p at [] = Unit {0}
Chain s p at (x ∷ xs) =
    (problem_placed p s at (command_of x) ≡ true) × (problem_operands_fit p x ≡ true) × (command_of x ≡ C.End → ⊥)
    × Chain s (problem_applied p x) (at + length (problem_bytes x)) xs

record Rest (s : List ℕ) (p : Problem) (at : ℕ) (q : Problem) : Type 0 where
  commands : List Instruction
  chain : Chain s p at commands
  is : drop at s ≡ problem_stream (commands ++ (I.End ∷ []))
  gives : after p commands ≡ q

module _ (s : List ℕ) (bounded : Bounded 255 s) (q : Problem) (read : read_problem s ≡ given q) where
  -- one command that is not refused
  module _ (p : Problem) (at : ℕ) (v : problem_refusal_at p s at ≡ 0) where
    abbrev k : Command
    k = problem_command_at s at

    abbrev x : Instruction
    x = problem_instruction_at s at

    passed : Passes (problem_placed p s at k) (leb (at + problem_size k) (length s)) (problem_operands_fit p x)
        (problem_repeated p x) (problem_full p x)
    unfolding problem_refusal_at
    passed = passes _ _ _ _ _ v

    known : k ≡ C.Unknown → ⊥
    known e = let h : problem_placed p s at C.Unknown ≡ true = rw e at passed.placed in clash (cc)

    whole : at + problem_size k ≤ length s
    whole = leb-true _ _ passed.whole

    some : 1 ≤ problem_size k
    some = placed_size p s at k passed.placed

    bytes_here : drop at s ≡ problem_bytes (problem_instruction_at s at) ++ drop (at + problem_size k) s
    bytes_here =
        sym (take-append-drop (problem_size k) (drop at s))
        ∙ rw (drop-drop (problem_size k) at s, decoded_bytes s bounded at k refl known whole)

    same_size : length (problem_bytes (problem_instruction_at s at)) ≡ problem_size k
    same_size = bytes_length (problem_instruction_at s at) ∙ ap problem_size (decoded_command s bounded at k known)

    more : (get_or s at 0 ≡ 6 → ⊥) → Rest s (problem_next p s at) (at + problem_size k) q → Rest s p at q
    unfolding Chain problem_next after problem_stream flat_map
    more goes r =
        let c = decoded_command s bounded at k known in
        record {
          commands = x ∷ r.commands;
          chain = (
            rw c passed.placed,
            passed.allowed,
            (λ e. goes (end_byte (get_or s at 0) (sym c ∙ e))),
            rw same_size r.chain,
          );
          is = bytes_here ∙ rw r.is;
          gives = r.gives;
        }

    -- the end command, with nothing behind it
    last : get_or s at 0 ≡ 6 → length s ≤ at + 1 → p ≡ q → Rest s p at q
    unfolding Chain after problem_stream flat_map
    last e n g =
        let c : k ≡ C.End = unfold problem_command in rw e in
        let x : problem_instruction_at s at ≡ I.End = rw c in
        record {
          commands = [];
          chain = tt;
          is = bytes_here ∙ rw (x, c, drop_of_length-le s {i = at + 1} n);
          gives = g;
        }

  rest_from : (f : ℕ) (p : Problem) (at : ℕ) → length s ≤ at + f → Left problem_language s (read_problem s) p at
      → Rest s p at q
  rest_from zero p at n l = go (meets problem_language s _ p at l)
    where
      go : Meets problem_language s (read_problem s) p at → Rest s p at q
      go (past h f) = clash (cc)
      go (stopped h v f) = clash (cc)
      go (extra h v b m f) = clash (cc)
      go (finished h v b m f) = absurd (omega arith)
      go (taken h v b) = absurd (omega arith)
  rest_from (suc f) p at n l =
      go (meets problem_language s _ p at l)
      (λ v h b.
      rest_from f _ _ (omega (arith, some p at v)) (left_next problem_language s _ p at l h v b (some p at v)))
    where
      go : Meets problem_language s (read_problem s) p at
          → (problem_refusal_at p s at ≡ 0 → at < length s → (get_or s at 0 ≡ 6 → ⊥)
          → Rest s (problem_next p s at) (at + problem_size (problem_command_at s at)) q)
          → Rest s p at q
      go (past h f) next = clash (cc)
      go (stopped h v f) next = clash (cc)
      go (extra h v b m f) next = clash (cc)
      go (finished h v b m f) next = last p at v b m (cc)
      go (taken h v b) next = more p at v b (next v h b)

  all_commands : Rest s no_problem 0 q
  unfolding read_problem
  all_commands = rest_from (length s) no_problem 0 (omega arith) (left_start problem_language s no_problem)

-- ---- each in its place
module _ (s : List ℕ) (p : Problem) (at : ℕ) where
  stands : (x : Instruction) → problem_placed p s at (command_of x) ≡ true → problem_operands_fit p x ≡ true → 0 < at
      → (command_of x ≡ C.End → ⊥) → (command_of x ≡ C.Rule → ⊥) → (command_of x ≡ C.Order → ⊥)
      → may_stand (length p.conditions) x ≡ true
  stands (I.Variables n) h f b e r o = absurd (omega (arith, eqb-true at 0 h))
  stands (I.Objective k c) h f b e r o = refl
  stands I.Inequality h f b e r o = refl
  stands (I.Term k c) h f b e r o = le-leb 1 (length p.conditions) (ltb-true 0 _ (and_right (ltb 0 at) _ h))
  stands (I.Member j k) h f b e r o = and_left (leb j (length p.conditions)) _ f
  stands I.End h f b e r o = absurd (e refl)
  stands I.Equality h f b e r o = refl
  stands (I.Rule n) h f b e r o = absurd (r refl)
  stands (I.Order k) h f b e r o = absurd (o refl)

body_in_place : (s : List ℕ) (p : Problem) (at : ℕ) (xs : List Instruction) → 2 < at → order_place s < at
    → Chain s p at xs → InPlace (length p.conditions) xs
unfolding Chain InPlace
body_in_place s p at [] b o h = tt
body_in_place s p at (x ∷ xs) b o h =
    let to = at + length (problem_bytes x) in
    let next = body_in_place s (problem_applied p x) to xs (omega arith) (omega arith) h.3 in
    (stands s p at x h.0 h.1 (omega arith) h.2 rule order, rw (conditions_begun p x) at next)
  where
    rule : command_of x ≡ C.Rule → ⊥
    rule e = let q : problem_placed p s at C.Rule ≡ true = rw e at h.0 in omega (arith, eqb-true at 2 q)

    order : command_of x ≡ C.Order → ⊥
    order e =
        let q : problem_placed p s at C.Order ≡ true = rw e at h.0 in omega (arith, eqb-true at (order_place s) q)

-- the first of a body, where neither an 08 nor a 09 stands
first_in_place : (s : List ℕ) (p : Problem) (at : ℕ) (x : Instruction) (xs : List Instruction) → 2 ≤ at
    → order_place s ≤ at → (command_of x ≡ C.Rule → ⊥) → (command_of x ≡ C.Order → ⊥) → Chain s p at (x ∷ xs)
    → InPlace (length p.conditions) (x ∷ xs)
unfolding Chain InPlace
first_in_place s p at x xs b o r n h =
    let z = bytes_some x in
    let to = at + length (problem_bytes x) in
    let next = body_in_place s (problem_applied p x) to xs (omega arith) (omega arith) h.3 in
    (stands s p at x h.0 h.1 (omega arith) h.2 r n, rw (conditions_begun p x) at next)

-- ---- the head and the body
record Split (xs : List Instruction) : Type 0 where
  head : List Instruction
  body : List Instruction
  headed : Head head
  places : InPlace 0 body
  is : xs ≡ head ++ body

data View : Instruction → Type 0 where
  rule : (r : ℕ) → View (I.Rule r)
  order : (k : ℕ) → View (I.Order k)
  other : (x : Instruction) → (command_of x ≡ C.Rule → ⊥) → (command_of x ≡ C.Order → ⊥) → View x

view : (x : Instruction) → View x
view (I.Variables n) = other (I.Variables n) (λ e. clash (cc)) (λ e. clash (cc))
view (I.Objective k c) = other (I.Objective k c) (λ e. clash (cc)) (λ e. clash (cc))
view I.Inequality = other I.Inequality (λ e. clash (cc)) (λ e. clash (cc))
view (I.Term k c) = other (I.Term k c) (λ e. clash (cc)) (λ e. clash (cc))
view (I.Member j k) = other (I.Member j k) (λ e. clash (cc)) (λ e. clash (cc))
view I.End = other I.End (λ e. clash (cc)) (λ e. clash (cc))
view I.Equality = other I.Equality (λ e. clash (cc)) (λ e. clash (cc))
view (I.Rule r) = rule r
view (I.Order k) = order k

-- where no 08 stands behind 01, a 09 would
not_rule : (s : List ℕ) → (get_or s 2 0 ≡ 8 → ⊥) → order_place s ≡ 2
unfolding order_place
not_rule s h = rw (ne_eqb (get_or s 2 0) 8 h)

module _ (s : List ℕ) (n : ℕ) where
  other_place : (x : Instruction) (back : List ℕ) → (command_of x ≡ C.Rule → ⊥)
      → s ≡ problem_bytes (I.Variables n) ++ (problem_bytes x ++ back) → order_place s ≡ 2
  other_place x back h e =
      let two = bytes_length (I.Variables n) in
      let c : problem_command_at s 2 ≡ command_of x =
      rw e (rw two at (command_is (problem_bytes (I.Variables n)) back x)) in
      not_rule s (λ z. h (sym c ∙ (unfold problem_command in rw z)))

  abbrev first : Problem
  first = problem_applied no_problem (I.Variables n)

  -- behind 01 and 08
  third : (r : ℕ) (xs : List Instruction) → order_place s ≡ 4 → Chain s (problem_applied first (I.Rule r)) 4 xs
      → Split (I.Variables n ∷ I.Rule r ∷ xs)
  unfolding problem_applied Chain InPlace
  third r [] o h = record { head = _; body = []; headed = ruled n r; places = tt; is = refl }
  third r (x ∷ xs) o h = go x (view x) h
    where
      go : (x : Instruction) → View x → Chain s (problem_applied first (I.Rule r)) 4 (x ∷ xs)
          → Split (I.Variables n ∷ I.Rule r ∷ x ∷ xs)
      go x (rule m) h = absurd (omega (arith, eqb-true 4 2 h.0))
      go x (order k) h =
          let some = leb-true 1 k (and_left (leb 1 k) (leb k 255) h.1) in
          let z : 4 + length (problem_bytes (I.Order k)) ≡ 6 = omega (arith, bytes_length (I.Order k)) in
          record {
            head = _;
            body = xs;
            headed = both n r k some;
            places = body_in_place s _ 6 xs (omega arith) (omega arith) (rw z at h.3);
            is = refl;
          }
      go x (other _ a b) h =
          record {
            head = _;
            body = x ∷ xs;
            headed = ruled n r;
            places = first_in_place s _ 4 x xs (omega arith) (omega arith) a b h;
            is = refl;
          }

  -- behind 01
  second : (xs : List Instruction) → s ≡ problem_stream (I.Variables n ∷ (xs ++ (I.End ∷ []))) → Chain s first 2 xs
      → Split (I.Variables n ∷ xs)
  unfolding problem_applied Chain InPlace problem_stream flat_map
  second [] e h = record { head = _; body = []; headed = plain n; places = tt; is = refl }
  second (x ∷ xs) e h = go x (view x) e h
    where
      back : List ℕ
      back = flat_map problem_bytes (xs ++ (I.End ∷ []))

      go : (x : Instruction) → View x → s ≡ problem_bytes (I.Variables n) ++ (problem_bytes x ++ back)
          → Chain s first 2 (x ∷ xs) → Split (I.Variables n ∷ x ∷ xs)
      go x (rule r) e h =
          let z : 2 + length (problem_bytes (I.Rule r)) ≡ 4 = omega (arith, bytes_length (I.Rule r)) in
          third r xs (rw e (place_third n back r)) (rw z at h.3)
      go x (order k) e h =
          let some = leb-true 1 k (and_left (leb 1 k) (leb k 255) h.1) in
          let z : 2 + length (problem_bytes (I.Order k)) ≡ 4 = omega (arith, bytes_length (I.Order k)) in
          let o : order_place s ≡ 2 = rw e (place_second n back k) in
          record {
            head = _;
            body = xs;
            headed = ordered n k some;
            places = body_in_place s _ 4 xs (omega arith) (omega arith) (rw z at h.3);
            is = refl;
          }
      go x (other _ a b) e h =
          let o = other_place x back a e in
          record {
            head = _;
            body = x ∷ xs;
            headed = plain n;
            places = first_in_place s _ 2 x xs (omega arith) (omega arith) a b h;
            is = refl;
          }

-- ---- every stream that reads
pub record ReadAs (s : List ℕ) (p : Problem) : Type 0 where
  pub head : List Instruction
  pub body : List Instruction
  pub headed : Head head
  pub places : InPlace 0 body
  pub is : s ≡ in_stream head body
  pub gives : after (after no_problem head) body ≡ p

-- the first command is 01
begins_with : (s : List ℕ) (xs : List Instruction) → s ≡ problem_stream (xs ++ (I.End ∷ [])) → Chain s no_problem 0 xs
    → (xs ≡ [] → ⊥) → Split xs
unfolding Chain
begins_with s [] e h some = absurd (some refl)
begins_with s (I.Variables n ∷ xs) e h some =
    let z : 0 + length (problem_bytes (I.Variables n)) ≡ 2 = omega (arith, bytes_length (I.Variables n)) in
    second s n xs e (rw z at h.3)
begins_with s (I.Objective k c ∷ xs) e h some = clash (cc h.0)
begins_with s (I.Inequality ∷ xs) e h some = clash (cc h.0)
begins_with s (I.Term k c ∷ xs) e h some = clash (cc h.0)
begins_with s (I.Member j k ∷ xs) e h some = clash (cc h.0)
begins_with s (I.End ∷ xs) e h some = clash (cc h.0)
begins_with s (I.Equality ∷ xs) e h some = clash (cc h.0)
begins_with s (I.Rule r ∷ xs) e h some = clash (cc h.0)
begins_with s (I.Order k ∷ xs) e h some = absurd (omega (arith, eqb-true 0 (order_place s) h.0, place_positive s))

-- and the end does not stand alone
alone : read_problem (problem_stream (I.End ∷ [])) ≡ refused 3 0
unfolding problem_stream flat_map problem_bytes command_bytes operand_bytes read_problem read_whole run problem_refusal_at first_refusal problem_command
alone = refl

as_split : (s : List ℕ) (p : Problem) (xs : List Instruction) → Split xs → s ≡ problem_stream (xs ++ (I.End ∷ []))
    → after no_problem xs ≡ p → ReadAs s p
unfolding in_stream
as_split s p xs k e g =
    let i = k.is in
    record {
      head = k.head;
      body = k.body;
      headed = k.headed;
      places = k.places;
      is =
          e ∙ ap (λ (l : List Instruction). problem_stream (l ++ (I.End ∷ []))) i
          ∙ ap problem_stream (append_assoc k.head k.body (I.End ∷ []));
      gives = sym (after_append no_problem k.head k.body) ∙ ap (after no_problem) (sym i) ∙ g;
    }

never_given : (p : Problem) → given p ≡ refused 3 0 → ⊥
never_given p h = clash (cc)

module _ (s : List ℕ) (bounded : Bounded 255 s) (p : Problem) (read : read_problem s ≡ given p) where
  pub read_as : ReadAs s p
  read_as =
      let r = all_commands s bounded p read in
      let some : r.commands ≡ [] → ⊥ =
      (λ e.
      let only = r.is ∙ ap (λ (xs : List Instruction). problem_stream (xs ++ (I.End ∷ []))) e in
      never_given p (sym read ∙ ap read_problem only ∙ alone)) in
      as_split s p r.commands (begins_with s r.commands r.is r.chain some) r.is r.gives
