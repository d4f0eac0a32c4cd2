-- Two streams that agree from an offset on, behind a command that sets the joining rule or the sparse order: from there
-- the second gives what the first gives, but for what that command sets.
use mathlib.Core.Path.{◌≡◌, refl, sym, ap, ap₂, ◌∙◌}
use mathlib.Core.Logic.{⊎_elim}
use mathlib.Core.List.{List}
use mathlib.Core.Bool.{true}
use Prim.Native.Nat.{ℕ, zero, suc, ◌+◌, ◌-◌, ◌≤◌, ◌<◌}
use native.Mathlib.Omega.{arith}
use lib.ListN.{length, get_or}
use lib.Dec.{leb, ltb}
use borrow.Author.Tests.{le-leb, lt-leb, lt-ltb, ne_eqb}
use Rattle.counting.proofs.Cases.{lt_or_le}
use Rattle.counting.proofs.Listed.{same_or_not}
use Rattle.format.specs.Commands.{Outcome, refused, given, Language}
use Rattle.format.specs.Operands.{number, signed}
use Rattle.format.specs.declared.problem.Command.{Command}
use Rattle.format.specs.declared.problem.Command.TheVariants as C
use Rattle.format.specs.declared.problem.Instruction.{Instruction}
use Rattle.format.specs.declared.problem.Instruction.TheVariants as I
use Rattle.format.specs.ProblemLayout.{problem_size, problem_decoded}
use Rattle.format.specs.ProblemRules.{Problem, with_rule, with_order, problem_placed, problem_operands_fit, problem_repeated, problem_full, problem_applied, problem_command_at, problem_refusal_at, problem_next, problem_language}
use Rattle.format.proofs.ProblemLimits.{taken_size}
use Rattle.format.proofs.Run.{passes, Left, left_end, left_refused, left_extra, left_given, left_next}

-- ---- a rule and an order change neither what the checks say nor what other commands do
-- the checks 4, 5 and 6 say the same of two problems
pub record SameChecks (p q : Problem) (i : Instruction) : Type 0 where
  pub allowed : problem_operands_fit p i ≡ problem_operands_fit q i
  pub repeated : problem_repeated p i ≡ problem_repeated q i
  pub full : problem_full p i ≡ problem_full q i

same_checks : (p : Problem) (r k : ℕ) (i : Instruction) → SameChecks (with_order (with_rule p r) k) p i
same_checks p r k (I.Variables n) = record { allowed = refl; repeated = refl; full = refl }
same_checks p r k (I.Objective e c) = record { allowed = refl; repeated = refl; full = refl }
same_checks p r k I.Inequality = record { allowed = refl; repeated = refl; full = refl }
same_checks p r k (I.Term e c) = record { allowed = refl; repeated = refl; full = refl }
same_checks p r k (I.Member j e) = record { allowed = refl; repeated = refl; full = refl }
same_checks p r k I.End = record { allowed = refl; repeated = refl; full = refl }
same_checks p r k I.Equality = record { allowed = refl; repeated = refl; full = refl }
same_checks p r k (I.Rule x) = record { allowed = refl; repeated = refl; full = refl }
same_checks p r k (I.Order x) = record { allowed = refl; repeated = refl; full = refl }

-- f changes what command c sets, and nothing else
pub record Changes (c : Command) (f : Problem → Problem) : Type 0 where
  pub conditions : (p : Problem) → (f p).conditions ≡ p.conditions
  pub checks : (p : Problem) (i : Instruction) → SameChecks (f p) p i
  pub applied : (p : Problem) (s : List ℕ) (at : ℕ) (k : Command) → (k ≡ c → ⊥)
      → problem_applied (f p) (problem_decoded k s at) ≡ f (problem_applied p (problem_decoded k s at))

pub rule_changes : (r : ℕ) → Changes C.Rule (λ p. with_rule p r)
unfolding problem_applied
rule_changes r = record { conditions = λ p. refl; checks = λ p. same_checks p r p.order; applied = others }
  where
    others : (p : Problem) (s : List ℕ) (at : ℕ) (k : Command) → (k ≡ C.Rule → ⊥)
        → problem_applied (with_rule p r) (problem_decoded k s at) ≡ with_rule (problem_applied p (problem_decoded k s at)) r
    others p s at C.Variables h = refl
    others p s at C.Objective h = refl
    others p s at C.Inequality h = refl
    others p s at C.Term h = refl
    others p s at C.Member h = refl
    others p s at C.End h = refl
    others p s at C.Unknown h = refl
    others p s at C.Equality h = refl
    others p s at C.Rule h = absurd (h refl)
    others p s at C.Order h = refl

pub order_changes : (k : ℕ) → Changes C.Order (λ p. with_order p k)
unfolding problem_applied
order_changes o = record { conditions = λ p. refl; checks = λ p. same_checks p p.rule o; applied = others }
  where
    others : (p : Problem) (s : List ℕ) (at : ℕ) (k : Command) → (k ≡ C.Order → ⊥)
        → problem_applied (with_order p o) (problem_decoded k s at) ≡ with_order (problem_applied p (problem_decoded k s at)) o
    others p s at C.Variables h = refl
    others p s at C.Objective h = refl
    others p s at C.Inequality h = refl
    others p s at C.Term h = refl
    others p s at C.Member h = refl
    others p s at C.End h = refl
    others p s at C.Unknown h = refl
    others p s at C.Equality h = refl
    others p s at C.Rule h = refl
    others p s at C.Order h = absurd (h refl)

-- what a stream gives, changed by f and with places d lower
abbrev pub changed : (Problem → Problem) → ℕ → Outcome Problem → Outcome Problem
changed f d (refused number place) = refused number (place - d)
changed f d (given p) = given (f p)

-- ---- two streams with the same bytes from an offset on, which stand d lower in the second
pub record Agree (s t : List ℕ) (from d : ℕ) : Type 0 where
  pub low : d + 2 ≤ from
  pub long : length s ≡ length t + d
  pub bytes : (x : ℕ) → from ≤ x → get_or s x 0 ≡ get_or t (x - d) 0

-- check 3 at these offsets: 08 and 09 may stand in the second where they may in the first; and c may not stand in the
-- first any more
pub record Places (s t : List ℕ) (from d : ℕ) (c : Command) : Type 0 where
  pub rule : (p : Problem) (at : ℕ) → from ≤ at → problem_command_at s at ≡ C.Rule
      → problem_placed p t (at - d) C.Rule ≡ problem_placed p s at C.Rule
  pub order : (p : Problem) (at : ℕ) → from ≤ at → problem_command_at s at ≡ C.Order
      → problem_placed p t (at - d) C.Order ≡ problem_placed p s at C.Order
  pub over : (p : Problem) (at : ℕ) → from ≤ at → problem_placed p s at c ≡ true → ⊥

module _ (s t : List ℕ) (from d : ℕ) (agree : Agree s t from d) where
  number_agrees : (w x : ℕ) → from ≤ x → number w s x ≡ number w t (x - d)
  unfolding number
  number_agrees zero x h = refl
  number_agrees (suc w) x h =
      let e : x - d + 1 ≡ x + 1 - d = omega (arith, agree.low) in
      rw (e, agree.bytes x h, number_agrees w (x + 1) (omega arith))

  module _ (at : ℕ) (h : from ≤ at) where
    operand : (w x : ℕ) → number w s (at + x) ≡ number w t (at - d + x)
    operand w x =
        let e : at - d + x ≡ at + x - d = omega (arith, agree.low) in
        rw e (number_agrees w (at + x) (omega arith))

    decoded_agrees : (k : Command) → problem_decoded k s at ≡ problem_decoded k t (at - d)
    decoded_agrees C.Variables = ap I.Variables (operand 1 1)
    decoded_agrees C.Objective = ap₂ I.Objective (operand 8 1) (ap (signed 31) (operand 4 9))
    decoded_agrees C.Inequality = refl
    decoded_agrees C.Term = ap₂ I.Term (operand 8 1) (ap (signed 15) (operand 2 9))
    decoded_agrees C.Member = ap₂ I.Member (operand 1 1) (operand 8 2)
    decoded_agrees C.End = refl
    decoded_agrees C.Unknown = refl
    decoded_agrees C.Equality = refl
    decoded_agrees C.Rule = ap I.Rule (operand 1 1)
    decoded_agrees C.Order = ap I.Order (operand 1 1)

    -- check 2
    whole_agrees : (n : ℕ) → leb (at - d + n) (length t) ≡ leb (at + n) (length s)
    whole_agrees n =
        ⊎_elim
        (λ b. lt-leb (at - d + n) (length t) (omega (arith, agree.low, agree.long)) ∙ sym (lt-leb (at + n) (length s) b))
        (λ b. le-leb (at - d + n) (length t) (omega (arith, agree.low, agree.long)) ∙ sym (le-leb (at + n) (length s) b))
        (lt_or_le (length s) (at + n))

  module _ (c : Command) (f : Problem → Problem) (changes : Changes c f) (places : Places s t from d c) where
    module _ (at : ℕ) (h : from ≤ at) (p : Problem) where
      -- check 3
      placed_agrees : problem_placed (f p) t (at - d) (problem_command_at s at) ≡ problem_placed p s at (problem_command_at s at)
      placed_agrees = go (problem_command_at s at) refl
        where
          later : ltb 0 (at - d) ≡ ltb 0 at
          later = lt-ltb 0 (at - d) (omega (arith, agree.low)) ∙ sym (lt-ltb 0 at (omega (arith, agree.low)))

          go : (k : Command) → problem_command_at s at ≡ k → problem_placed (f p) t (at - d) k ≡ problem_placed p s at k
          go C.Variables e =
              ne_eqb (at - d) 0 (λ q. omega (arith, agree.low)) ∙ sym (ne_eqb at 0 (λ q. omega (arith, agree.low)))
          go C.Objective e = later
          go C.Inequality e = later
          go C.Term e = rw (later, changes.conditions p)
          go C.Member e = later
          go C.End e = later
          go C.Unknown e = refl
          go C.Equality e = later
          go C.Rule e = places.rule p at h e
          go C.Order e = places.order p at h e

      refusal_agrees : problem_refusal_at (f p) t (at - d) ≡ problem_refusal_at p s at
      unfolding problem_refusal_at
      refusal_agrees =
          let k = problem_command_at s at in
          let same = changes.checks p (problem_decoded k s at) in
          rw (← agree.bytes at h, ← decoded_agrees at h k, placed_agrees, whole_agrees at h (problem_size k), same.allowed, same.repeated, same.full)

      next_agrees : problem_refusal_at p s at ≡ 0 → problem_next (f p) t (at - d) ≡ f (problem_next p s at)
      unfolding problem_refusal_at problem_next
      next_agrees v =
          let k = problem_command_at s at in
          rw (← agree.bytes at h, ← decoded_agrees at h k) (changes.applied p s at k (λ e. late (passes _ _ _ _ _ v).placed e))
        where
          late : problem_placed p s at (problem_command_at s at) ≡ true → problem_command_at s at ≡ c → ⊥
          late q e = places.over p at h (rw e at q)

    -- ---- from there on the second gives what the first gives
    module _ (o o' : Outcome Problem) where
      abbrev l : Language Problem
      l = problem_language

      at_end : (a : Problem) (at : ℕ) → length s ≤ at → Left l s o a at → Left l t o' (f a) (at - d) → o' ≡ changed f d o
      at_end a at b x y =
          let e : length s - d ≡ length t = omega (arith, agree.long) in
          rw (← left_end l s o a at x b) (sym (left_end l t o' (f a) (at - d) y (omega (arith, agree.long))) ∙ rw e)

      module _ (a : Problem) (at : ℕ) (h : from ≤ at) (x : Left l s o a at) (y : Left l t o' (f a) (at - d)) (i : at < length s) where
        i' : at - d < length t
        i' = omega (arith, agree.low, agree.long)

        same_refusal : problem_refusal_at (f a) t (at - d) ≡ problem_refusal_at a s at
        same_refusal = refusal_agrees at h a

        at_refused : 0 < problem_refusal_at a s at → o' ≡ changed f d o
        at_refused v =
            rw (← left_refused l s o a at x i v) (sym (left_refused l t o' (f a) (at - d) y i' (rw same_refusal v)) ∙ rw same_refusal)

        module _ (v : problem_refusal_at a s at ≡ 0) where
          v' : problem_refusal_at (f a) t (at - d) ≡ 0
          v' = same_refusal ∙ v

          same_byte : get_or t (at - d) 0 ≡ get_or s at 0
          same_byte = sym (agree.bytes at h)

          at_ending : get_or s at 0 ≡ 6 → o' ≡ changed f d o
          at_ending b = ⊎_elim extra last (lt_or_le (at + 1) (length s))
            where
              extra : at + 1 < length s → o' ≡ changed f d o
              extra m =
                  let e : at + 1 - d ≡ at - d + 1 = omega (arith, agree.low) in
                  rw (← left_extra l s o a at x i v b m)
                  (sym (left_extra l t o' (f a) (at - d) y i' v' (same_byte ∙ b) (omega (arith, agree.low, agree.long))) ∙ rw e)

              last : length s ≤ at + 1 → o' ≡ changed f d o
              last m =
                  rw (← left_given l s o a at x i v b m)
                  (sym (left_given l t o' (f a) (at - d) y i' v' (same_byte ∙ b) (omega (arith, agree.low, agree.long))))

          next_left : (get_or s at 0 ≡ 6 → ⊥) → Left l s o (problem_next a s at) (at + problem_size (problem_command_at s at))
          next_left b = left_next l s o a at x i v b (taken_size a s at v)

          next_left' : (get_or s at 0 ≡ 6 → ⊥)
              → Left l t o' (f (problem_next a s at)) (at + problem_size (problem_command_at s at) - d)
          next_left' b =
              let n = problem_size (problem_command_at s at) in
              let e : at + n - d ≡ at - d + n = omega (arith, agree.low) in
              let w = left_next l t o' (f a) (at - d) y i' v' (λ q. b (sym same_byte ∙ q)) (taken_size (f a) t (at - d) v') in
              rw e (rw (next_agrees at h a v, same_byte) at w)

        -- by cases; `more` is what holds where the command passes and is not the end
        inside : ((v : problem_refusal_at a s at ≡ 0) → (get_or s at 0 ≡ 6 → ⊥) → o' ≡ changed f d o) → o' ≡ changed f d o
        inside more = ⊎_elim at_refused (λ z. passed (omega arith)) (lt_or_le 0 (problem_refusal_at a s at))
          where
            passed : problem_refusal_at a s at ≡ 0 → o' ≡ changed f d o
            passed v = ⊎_elim (at_ending v) (more v) (same_or_not (get_or s at 0) 6)

      pub agrees : (left : ℕ) (a : Problem) (at : ℕ) → from ≤ at → length s ≤ at + left → Left l s o a at → Left l t o' (f a) (at - d) → o' ≡ changed f d o
      agrees zero a at h b x y = at_end a at (omega arith) x y
      agrees (suc left) a at h b x y =
          ⊎_elim
          (λ i.
          inside a at h x y i
          (λ v n. agrees left _ (at + problem_size (problem_command_at s at)) (omega arith) (omega (arith, taken_size a s at v)) (next_left a at h x y i v n) (next_left' a at h x y i v n)))
          (λ i. at_end a at i x y)
          (lt_or_le at (length s))
