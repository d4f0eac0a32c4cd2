-- N and B, counted from the commands of a stream, are the number of the monomials of all bases and of the bases that have one.
use mathlib.Core.Path.{◌≡◌, refl, ap, sym, ◌∙◌}
use mathlib.Core.List.{List, [], ◌∷◌, ◌++◌}
use mathlib.Core.Bool.{Bool, true, false, cond, ◌&&◌, ◌||◌}
use Prim.Native.Nat.{ℕ, ◌+◌, ◌<◌}
use native.Mathlib.Omega.{arith}
use lib.ListN.{length, get_or, set, length-append}
use lib.Seq.{get_or-set_same, get_or-set_other}
use lib.Dec.{eqb, leb, ltb}
use borrow.Author.Tests.{leb-true, ltb-true, eqb-true, eqb-false, lt-ltb}
use Rattle.counting.proofs.Cases.{clash, and_left}
use Rattle.counting.specs.Counting.{sum_to}
use Rattle.counting.proofs.Sums.{sum_to_same, sum_to_add, sum_to_none, sum_to_one}
use Rattle.format.specs.Commands.{given, commands}
use Rattle.format.specs.Operands.{number}
use Rattle.format.proofs.Run.{Passes, passes, read_induction}
use Rattle.format.specs.declared.problem.Command.{Command}
use Rattle.format.specs.declared.problem.Command.TheVariants as C
use Rattle.format.specs.ProblemLayout.{problem_command, problem_decoded}
use Rattle.format.specs.ProblemRules.{Problem, no_problem, append_at, problem_placed, fitting, problem_operands_fit, problem_repeated, problem_full, problem_applied, problem_command_at, problem_refusal_at, problem_next, problem_language, read_problem}
use Rattle.format.specs.ProblemCounts.{count_if, any_of, is_member, names, member_commands, bases_named}
use Rattle.format.proofs.Lengths.{problem_byte}
use Rattle.format.proofs.ProblemLimits.{Kept, kept_next, kept_start, nothing_basis}

-- the length of basis j
abbrev size_of : Problem → ℕ → ℕ
size_of p j = length (get_or p.bases j [])

-- ---- which byte is an 05
abbrev is_member_command : Command → Bool
is_member_command C.Variables = false
is_member_command C.Objective = false
is_member_command C.Inequality = false
is_member_command C.Term = false
is_member_command C.Member = true
is_member_command C.End = false
is_member_command C.Unknown = false
is_member_command C.Equality = false
is_member_command C.Rule = false
is_member_command C.Order = false

member_byte : (b : ℕ) → eqb b 5 ≡ is_member_command (problem_command b)
member_byte b = go (eqb b 5) refl (problem_command b) refl
  where
    go : (t : Bool) → eqb b 5 ≡ t → (k : Command) → problem_command b ≡ k → t ≡ is_member_command k
    go true e k h = rw (sym h ∙ ap problem_command (eqb-true b 5 e)) (unfold problem_command in refl)
    go false e C.Member h = let m = problem_byte C.Member b h (λ u. clash (cc)) in clash (cc)
    go false e C.Variables h = refl
    go false e C.Objective h = refl
    go false e C.Inequality h = refl
    go false e C.Term h = refl
    go false e C.End h = refl
    go false e C.Unknown h = refl
    go false e C.Equality h = refl
    go false e C.Rule h = refl
    go false e C.Order h = refl

-- ---- one command
module _ (p : Problem) (s : List ℕ) (at : ℕ) (kept : Kept p at) where
  -- a basis grows by one where the command names it
  member_grows : (ls : List (List ℕ)) (i j k : ℕ) → i < length ls → length (get_or (append_at ls i k) j []) ≡ length (get_or ls j []) + cond (eqb i j) 1 0
  unfolding append_at
  member_grows ls i j k h = go (eqb i j) refl
    where
      go : (b : Bool) → eqb i j ≡ b → length (get_or (set ls i (get_or ls i [] ++ (k ∷ []))) j []) ≡ length (get_or ls j []) + cond b 1 0
      go true e = let q : i ≡ j = eqb-true i j e in rw (← q, get_or-set_same ls i (get_or ls i [] ++ (k ∷ [])) [] h) (length-append (get_or ls i []) (k ∷ []))
      go false e = rw (get_or-set_other ls i j (get_or ls i [] ++ (k ∷ [])) [] (λ q. eqb-false i j e (sym q))) (omega arith)

  -- the basis that an 05 names is one of the nine
  named_low : (w r f : Bool) → Passes (problem_placed p s at C.Member) w (problem_operands_fit p (problem_decoded C.Member s at)) r f → number 1 s (at + 1) < 9
  named_low w r f c =
      let q = kept.later (ltb-true 0 at c.placed) in
      let low = leb (number 1 s (at + 1)) (length p.conditions) in
      let fits = fitting p.variables 8 (number 8 s (at + 2)) in
      let b = leb-true _ (length p.conditions) (and_left low fits c.allowed) in
      omega (arith, q.conditions)

  record Step (k : Command) : Type 0 where
    grows : (j : ℕ) → size_of (problem_applied p (problem_decoded k s at)) j ≡ size_of p j + cond (is_member_command k && eqb (number 1 s (at + 1)) j) 1 0
    named : is_member_command k ≡ true → number 1 s (at + 1) < 9

  same_step : (k : Command) → (problem_applied p (problem_decoded k s at)).bases ≡ p.bases → is_member_command k ≡ false → Step k
  same_step k e m = record {
    grows = λ j. rw (e, m) (omega arith);
    named = λ h. clash (cc);
  }

  step : (k : Command) (w : Bool) → Passes (problem_placed p s at k) w (problem_operands_fit p (problem_decoded k s at)) (problem_repeated p (problem_decoded k s at)) (problem_full p (problem_decoded k s at)) → Step k
  unfolding problem_applied
  step C.Variables w c = same_step C.Variables refl refl
  step C.Objective w c = same_step C.Objective refl refl
  step C.Inequality w c = same_step C.Inequality refl refl
  step C.Term w c = same_step C.Term refl refl
  step C.Member w c =
      let h = named_low w _ _ c in
      let q = kept.later (ltb-true 0 at c.placed) in
      record { grows = λ j. member_grows p.bases _ j _ (omega (arith, q.bases)); named = λ _. h }
  step C.End w c = same_step C.End refl refl
  step C.Unknown w c = same_step C.Unknown refl refl
  step C.Equality w c = same_step C.Equality refl refl
  step C.Rule w c = same_step C.Rule refl refl
  step C.Order w c = same_step C.Order refl refl

  step_at_lem : problem_refusal_at p s at ≡ 0 → Step (problem_command_at s at)
  unfolding problem_refusal_at
  step_at_lem h = step (problem_command_at s at) _ (passes _ _ _ _ _ h)

  pub next_grows : problem_refusal_at p s at ≡ 0 → (j : ℕ) → size_of (problem_next p s at) j ≡ size_of p j + cond (names s j at) 1 0
  unfolding problem_next
  next_grows h j = rw (member_byte (get_or s at 0)) ((step_at_lem h).grows j)

  pub next_named : problem_refusal_at p s at ≡ 0 → is_member s at ≡ true → number 1 s (at + 1) < 9
  next_named h e = (step_at_lem h).named (sym (member_byte (get_or s at 0)) ∙ e)

-- each 05 names one j
one_named : (s : List ℕ) (at : ℕ) → (is_member s at ≡ true → number 1 s (at + 1) < 9) → cond (is_member s at) 1 0 ≡ sum_to 9 (λ j. cond (names s j at) 1 0)
one_named s at h = go (is_member s at) refl
  where
    go : (b : Bool) → is_member s at ≡ b → cond b 1 0 ≡ sum_to 9 (λ j. cond (b && eqb (number 1 s (at + 1)) j) 1 0)
    go true e = sym (sum_to_one 9 (number 1 s (at + 1)) (h e))
    go false e = sym (sum_to_none 9 (λ j. 0) (λ i b. refl))

-- ---- the whole stream
record Counted (s : List ℕ) (a : Problem) (cs : List ℕ) (b : Problem) : Type 0 where
  sizes : (j : ℕ) → size_of b j ≡ size_of a j + count_if (names s j) cs
  total : count_if (is_member s) cs ≡ sum_to 9 (λ j. count_if (names s j) cs)

counted_end : (s : List ℕ) (a : Problem) (at : ℕ) → get_or s at 0 ≡ 6 → Counted s a (at ∷ []) a
unfolding count_if
counted_end s a at e = record { sizes = λ j. rw e (omega arith); total = rw e (sym (sum_to_none 9 _ (λ i b. refl))) }

counted_more : (s : List ℕ) (a b : Problem) (at : ℕ) (cs : List ℕ) → Kept a at → problem_refusal_at a s at ≡ 0 → Counted s (problem_next a s at) cs b → Counted s a (at ∷ cs) b
unfolding count_if
counted_more s a b at cs k v c = record {
  sizes = λ j. c.sizes j ∙ omega (arith, next_grows a s at k v j);
  total =
      ap (λ (x : ℕ). x + count_if (is_member s) cs) (one_named s at (next_named a s at k v))
      ∙ ap (λ (x : ℕ). sum_to 9 (λ j. cond (names s j at) 1 0) + x) c.total
      ∙ sym (sum_to_add 9 (λ j. cond (names s j at) 1 0) (λ j. count_if (names s j) cs));
}

module _ (s : List ℕ) (p : Problem) (h : read_problem s ≡ given p) where
  counted : Counted s no_problem (commands problem_language s) p
  unfolding read_problem
  counted =
      read_induction problem_language s (λ a at cs b. Kept a at → Counted s a cs b)
      (λ a at t e k. counted_end s a at e)
      (λ a b at cs t e f k. counted_more s a b at cs k t.passed (f (kept_next a s at k t.passed)))
      no_problem p h kept_start

  basis_size : (j : ℕ) → size_of p j ≡ count_if (names s j) (commands problem_language s)
  basis_size j = counted.sizes j ∙ omega (arith, ap length (nothing_basis j))

  -- N is the number of the monomials of all bases
  pub count_members : member_commands s ≡ sum_to 9 (λ j. length (get_or p.bases j []))
  unfolding member_commands
  count_members = counted.total ∙ sum_to_same 9 _ _ (λ j b. sym (basis_size j))

  -- B is the number of the bases that have one
  any_count : (test : ℕ → Bool) (cs : List ℕ) → ltb 0 (count_if test cs) ≡ any_of test cs
  unfolding count_if any_of
  any_count test [] = refl
  any_count test (x ∷ cs) = go (test x) (any_count test cs)
    where
      go : (b : Bool) → ltb 0 (count_if test cs) ≡ any_of test cs → ltb 0 (cond b 1 0 + count_if test cs) ≡ (b || any_of test cs)
      go true e = lt-ltb 0 (1 + count_if test cs) (omega arith)
      go false e = let z : 0 + count_if test cs ≡ count_if test cs = omega arith in rw z e

  pub count_named : bases_named s ≡ sum_to 9 (λ j. cond (ltb 0 (length (get_or p.bases j []))) 1 0)
  unfolding bases_named
  count_named = sum_to_same 9 _ _ (λ j b. ap (λ (t : Bool). cond t 1 0) (sym (any_count (names s j) (commands problem_language s)) ∙ ap (ltb 0) (sym (basis_size j))))
