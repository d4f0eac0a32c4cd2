-- One command of the reading loop: what it stores is what the definition says, and the loop's invariant goes on.
use mathlib.Core.Path.{◌≡◌, refl, sym, ◌∙◌}
use mathlib.Core.List.{List, [], ◌∷◌}
use mathlib.Core.Bool.{Bool, true, false, cond}
use Prim.Native.Nat.{ℕ, ◌+◌, ◌*◌, ◌^◌, ◌≤◌, ◌<◌, zero-le}
use native.Mathlib.Omega.{arith}
use lib.Dec.{eqb, leb, ltb}
use lib.IntN.{ℤ, pos}
use lib.ListN.{length, drop, set, get_or, length-drop}
use lib.Seq.{paste}
use borrow.Author.Tests.{le-leb, lt-leb, leb-true, ltb-true, eqb-true, eqb-false}
use Rattle.counting.specs.Counting.{Bounded}
use Rattle.counting.proofs.Cases.{clash, and_left, and_right}
use Rattle.format.specs.Commands.{first_refusal, refused}
use Rattle.format.proofs.Run.{Left, left_start, left_end, left_refused, left_extra, left_given, left_next}
use Rattle.polynomial.specs.Monomial.{degree, within, among}
use Rattle.polynomial.specs.Terms.{Term, term, keys_of}
use Rattle.polynomial.proofs.Monomials.{key_low}
use Rattle.format.specs.declared.problem.Command.{Command}
use Rattle.format.specs.declared.problem.Command.TheVariants as C
use Rattle.format.specs.declared.problem.Instruction.{Instruction}
use Rattle.format.specs.declared.problem.Instruction.TheVariants as I
use Rattle.format.specs.declared.problem.Kind.{Kind}
use Rattle.format.specs.ProblemLayout.{problem_command, problem_decoded}
use Rattle.format.specs.ProblemRules.{Problem, last_condition, problem_placed, fitting, nonzero, problem_applied, problem_command_at, problem_refusal_at, problem_next, problem_language, no_problem, read_problem}
use Rattle.format.specs.ProblemBases.{basis_of}
use Rattle.flat.specs.TermArrays.{terms_in, FilledTerms}
use Rattle.flat.specs.Flat.{exponents_at, coefficients_at, kind_at, kind_number, FlatLimits, FlatZero}
use Rattle.flat.proofs.TermArrays.{terms_length, terms_keys}
use Rattle.flat.proofs.Flat.{basis_long}
use Rattle.problem_commands.specs.Checks.{late, late_in}
use Rattle.problem_storing.specs.Stores.{terms, no_terms, beginning, stored_if, term_stored_if}
use Rattle.problem_reader.specs.Steps.{Held, Stepped}
use Rattle.problem_reader.specs.Storing.{ReadFlat}
use Rattle.problem_storing.specs.declared.Polynomial.{Polynomial}
use Rattle.std.proofs.Common.{Ok, Err}
use Rattle.faults.specs.Numbers.{fault_number}
use Rattle.faults.specs.declared.Misread.{Misread}
use Rattle.faults.specs.declared.Fault.{Fault}
use Rattle.faults.specs.declared.Fault.TheVariants as F
use Rattle.problem_commands.proofs.Checks.{Passes, passes_size, passes_end, passes_on, space}
use Rattle.problem_reader.proofs.Problems.{condition_last, same_terms_lem, begins_on, begins_applied, begins_late}
use Rattle.problem_reader.proofs.Coefficients.{passed_small}
use Rattle.problem_reader.proofs.Held.{held_variables, held_rule, held_order, held_member, held_objective, held_term, held_condition, held_end, held_start}

abbrev pub misread : Fault → ℕ → Misread
misread f at = record { fault = f; place = at }

-- no fault has the number 0
pub numbered : (f : Fault) → 0 < fault_number f
numbered F.Cut = omega arith
numbered F.Misplaced = omega arith
numbered F.Unfit = omega arith
numbered F.Repeated = omega arith
numbered F.Excess = omega arith

-- what the loop of `read` keeps. s is the stream; keys, coefficients, sizes, v, last and n hold what was read of the
-- commands before the one at hand (Held.antt), and at is the offset of the command at hand
pub record Going (s keys : List ℕ) (coefficients : List ℤ) (sizes : List ℕ) (v : ℕ) (last : Polynomial) (n at : ℕ) : Type 0 where
  pub problem : Problem
  pub held : Held problem keys coefficients sizes v last n
  pub reached : at ≤ length s
  -- from the command at hand on the definition gives what it gives for the whole stream
  pub left : Left problem_language s (read_problem s) problem at

-- a refusal
refusal : (s keys : List ℕ) (coefficients : List ℤ) (sizes : List ℕ) (f : Fault) (at : ℕ) → FlatLimits keys coefficients sizes → read_problem s ≡ refused (fault_number f) at
    → ReadFlat s (Err (misread f at)) keys coefficients sizes
refusal s keys coefficients sizes f at l e = record { limits = l; gives = tt; refuses = e }

module _ {s keys : List ℕ} {coefficients : List ℤ} {sizes : List ℕ} {v : ℕ} {last : Polynomial} {n at : ℕ} (g : Going s keys coefficients sizes v last n at) where
  abbrev here : Problem
  here = g.problem

  -- the stream has no end command
  pub ended : length s ≤ at → ReadFlat s (Err (misread F.Cut at)) keys coefficients sizes
  ended h =
      let r = g.reached in
      let e : at ≡ length s = omega arith in
      refusal s keys coefficients sizes F.Cut at g.held.limits (rw e (sym (left_end problem_language s _ _ at g.left h)))

  module _ (h : at < length s) where
    refusing : (keys' : List ℕ) (coefficients' : List ℤ) (sizes' : List ℕ) → FlatLimits keys' coefficients' sizes' → (f : Fault) → problem_refusal_at here s at ≡ fault_number f
        → ReadFlat s (Err (misread f at)) keys' coefficients' sizes'
    refusing keys' coefficients' sizes' l f e =
        refusal s keys' coefficients' sizes' f at l (rw e at (sym (left_refused problem_language s _ _ at g.left h (rw e (numbered f)))))

    pub first_refusing : (f : Fault) → problem_refusal_at here s at ≡ fault_number f → ReadFlat s (Err (misread f at)) keys coefficients sizes
    first_refusing = refusing keys coefficients sizes g.held.limits

    -- past the arm of a command
    module _ {i : Instruction} {after : ℕ} (t : Passes here s at i after) {keys' : List ℕ} {coefficients' : List ℤ} {sizes' : List ℕ} {v' : ℕ} {last' : Polynomial} {n' : ℕ} where
      pub late_refusing : (f : Fault) → Stepped here i keys' coefficients' sizes' v' last' n' (fault_number f) → ReadFlat s (Err (misread f at)) keys' coefficients' sizes'
      late_refusing f q = refusing keys' coefficients' sizes' q.limits f (t.decides ∙ sym q.decided)

      pub going_on : Stepped here i keys' coefficients' sizes' v' last' n' 0 → Going s keys' coefficients' sizes' v' last' n' after
      unfolding problem_next
      going_on q =
          record {
            problem = problem_applied here i;
            held = q.held refl;
            reached = t.whole;
            left =
                rw (t.step, ← t.instruction)
                (left_next problem_language s _ _ at g.left h (t.decides ∙ sym q.decided) (λ b. q.on (passes_on _ s at i after t b)) (passes_size _ s at i after t));
          }

    -- the end command
    module _ {after : ℕ} (t : Passes here s at I.End after) where
      last_byte : after ≡ at + 1
      unfolding problem_command
      last_byte = rw (passes_end _ s at I.End after t refl) at t.step

      none : problem_refusal_at here s at ≡ 0
      unfolding first_refusal
      none = t.decides

      pub extra : after < length s → ReadFlat s (Err (misread F.Cut after)) keys coefficients sizes
      extra m =
          refusal s keys coefficients sizes F.Cut after g.held.limits
          (rw last_byte (sym (left_extra problem_language s _ _ at g.left h none (passes_end _ s at I.End after t refl) (rw last_byte at m))))

      pub complete : length s ≤ after → (keys' : List ℕ) (coefficients' : List ℤ) (sizes' : List ℕ) → keys' ≡ paste keys (exponents_at n) last.keys last.count → coefficients' ≡ paste coefficients (coefficients_at n) last.coefficients last.count
          → sizes' ≡ set sizes (9 + n) last.count → ReadFlat s (Ok tt) keys' coefficients' (set sizes' 19 n)
      complete m keys' coefficients' sizes' x y z =
          let f = held_end g.held in
          rw (x, y, z)
          (record {
            limits = f.limits;
            gives = record { problem = here; read = sym (left_given problem_language s _ _ at g.left h none (passes_end _ s at I.End after t refl) (rw last_byte at m)); flat = f };
            refuses = tt;
          })

-- before the first command
pub starting : (s keys : List ℕ) (coefficients : List ℤ) (sizes : List ℕ) (one : Polynomial) → FlatZero keys coefficients sizes
    → FilledTerms 16 32 (2 ^ 15) one.keys one.coefficients one.count → terms one ≡ term 0 (pos 1) ∷ [] → Going s keys coefficients (set sizes 29 1) 0 one 0 0
unfolding read_problem
starting s keys coefficients sizes one z f e =
    record { problem = no_problem; held = held_start keys coefficients sizes one z f e; reached = zero-le; left = left_start problem_language s no_problem }

-- ---- what the arm of each command leaves
-- a 04 stands after a 03 or a 07
term_placed : (p : Problem) (s : List ℕ) (at : ℕ) (w : Command) (k : ℕ) (c : ℤ) → problem_placed p s at w ≡ true → problem_decoded w s at ≡ I.Term k c → 0 < length p.conditions
term_placed p s at C.Variables k c h e = clash (cc)
term_placed p s at C.Objective k c h e = clash (cc)
term_placed p s at C.Inequality k c h e = clash (cc)
term_placed p s at C.Term k c h e = ltb-true 0 (length p.conditions) (and_right (ltb 0 at) (ltb 0 (length p.conditions)) h)
term_placed p s at C.Member k c h e = clash (cc)
term_placed p s at C.End k c h e = clash (cc)
term_placed p s at C.Unknown k c h e = clash (cc)
term_placed p s at C.Equality k c h e = clash (cc)
term_placed p s at C.Rule k c h e = clash (cc)
term_placed p s at C.Order k c h e = clash (cc)

-- a monomial that is allowed has a key that is low enough
fitting_low : (n d k : ℕ) → n ≤ 8 → fitting n d k ≡ true → k ≤ d * 2 ^ 56
unfolding fitting
fitting_low n d k h e =
    key_low n d k h (leb-true (degree k) d (and_left (leb (degree k) d) (within n k) e)) (and_right (leb (degree k) d) (within n k) e)

-- the checks 5 and 6 of the keys in an array are those of the terms that it holds
terms_room : (n most k : ℕ) (keys : List ℕ) (coefficients : List ℤ) (ts : List Term) → n ≤ length keys → terms_in n keys coefficients ≡ ts
    → late_in keys 0 n k most ≡ first_refusal true true true (among k (keys_of ts)) (leb most (length ts))
terms_room n most k keys coefficients ts h e = rw (← e, terms_keys n keys coefficients h, terms_length n keys coefficients)

module _ {p : Problem} {keys : List ℕ} {coefficients : List ℤ} {sizes : List ℕ} {v : ℕ} {last : Polynomial} {n : ℕ} (held : Held p keys coefficients sizes v last n) where
  -- a monomial that passed the first checks
  low : (d k : ℕ) → fitting p.variables d k ≡ true → k ≤ d * 2 ^ 56
  low d k e = let u = held.variables in let w = held.variables_low in fitting_low p.variables d k (omega arith) e

  -- a condition of a kind
  pub stepped_full : (k : Kind) → 8 ≤ n → Stepped p (beginning k) keys coefficients sizes v last n 6
  unfolding first_refusal
  stepped_full k h =
      record { decided = rw (begins_late p k, held.count, le-leb 8 n h); limits = held.limits; held = λ z. absurd (omega arith); on = begins_on k }

  pub stepped_begun : (k : Kind) (w : ℕ) → w ≡ kind_number k → n < 8 → (r : ℕ) → r ≡ 0 → (keys' : List ℕ) (coefficients' : List ℤ) (last' : Polynomial)
      → keys' ≡ paste keys (exponents_at n) last.keys last.count → coefficients' ≡ paste coefficients (coefficients_at n) last.coefficients last.count → last' ≡ no_terms
      → Stepped p (beginning k) keys' coefficients' (set (set sizes (9 + n) last.count) (kind_at (n + 1)) w) v last' (n + 1) r
  unfolding first_refusal
  stepped_begun k w u h r z keys' coefficients' last' x y e =
      let m = held_condition held k h in
      rw (u, x, y, e)
      (record { decided = rw (begins_late p k, held.count, lt-leb 8 n h) z; limits = m.limits; held = λ _. rw (begins_applied p k) m; on = begins_on k })

  module _ {s : List ℕ} {at after : ℕ} where
    pub stepped_variables : {m : ℕ} → Passes p s at (I.Variables m) after → (r : ℕ) → r ≡ 0 → Stepped p (I.Variables m) keys coefficients sizes m last n r
    unfolding first_refusal
    stepped_variables {m} t r z =
        record { decided = z; limits = held.limits; held = λ _. held_variables held m (leb-true m 8 (and_right (leb 1 m) (leb m 8) t.operands)); on = λ e. clash (cc) }

    pub stepped_rule : {m : ℕ} → Passes p s at (I.Rule m) after → (r : ℕ) → r ≡ 0 → Stepped p (I.Rule m) keys coefficients (set sizes 29 m) v last n r
    unfolding first_refusal
    stepped_rule {m} t r z =
        let k = held_rule held m (leb-true m 2 (and_right (leb 1 m) (leb m 2) t.operands)) in
        record { decided = z; limits = k.limits; held = λ _. k; on = λ e. clash (cc) }

    pub stepped_order : {m : ℕ} → Passes p s at (I.Order m) after → (r : ℕ) → r ≡ 0 → Stepped p (I.Order m) keys coefficients (set sizes 30 m) v last n r
    unfolding first_refusal
    stepped_order {m} t r z =
        let k = held_order held m (leb-true m 255 (and_right (leb 1 m) (leb m 255) t.operands)) in
        record { decided = z; limits = k.limits; held = λ _. k; on = λ e. clash (cc) }

    module _ {k : ℕ} {c : ℤ} (t : Passes p s at (I.Objective k c) after) where
      objective_room : late_in keys 864 (get_or sizes 18 0) k 256 ≡ late p (I.Objective k c)
      objective_room =
          let b = held.limits.sizes_low 18 in
          let l = held.limits.keys_length in
          terms_room (get_or sizes 18 0) 256 k (drop 864 keys) (drop 288 coefficients) p.objective (rw (length-drop 864 keys) (omega arith)) held.objective

      pub stepped_objective : Bounded 255 s → (r : ℕ) (keys' : List ℕ) (coefficients' : List ℤ) (sizes' : List ℕ) → r ≡ late_in keys 864 (get_or sizes 18 0) k 256
          → keys' ≡ stored_if r keys (864 + get_or sizes 18 0) k → coefficients' ≡ stored_if r coefficients (288 + get_or sizes 18 0) c → sizes' ≡ stored_if r sizes 18 (get_or sizes 18 0 + 1)
          → Stepped p (I.Objective k c) keys' coefficients' sizes' v last n r
      stepped_objective bytes r keys' coefficients' sizes' e = go (eqb r 0) refl
        where
          go : (b : Bool) → eqb r 0 ≡ b → keys' ≡ cond b (set keys (864 + get_or sizes 18 0) k) keys → coefficients' ≡ cond b (set coefficients (288 + get_or sizes 18 0) c) coefficients → sizes' ≡ cond b (set sizes 18 (get_or sizes 18 0 + 1)) sizes
              → Stepped p (I.Objective k c) keys' coefficients' sizes' v last n r
          go true q x y z =
              let f = space keys 864 (get_or sizes 18 0) k 256 (sym e ∙ eqb-true r 0 q) in
              let m = held_objective held k c f (low 32 k (and_left (fitting p.variables 32 k) (nonzero c) t.operands)) (passed_small s bytes t) in
              rw (x, y, z) (record { decided = e ∙ objective_room; limits = m.limits; held = λ _. m; on = λ e. clash (cc) })
          go false q x y z = rw (x, y, z) (record { decided = e ∙ objective_room; limits = held.limits; held = λ z. absurd (eqb-false r 0 q z); on = λ e. clash (cc) })

    module _ {k : ℕ} {c : ℤ} (t : Passes p s at (I.Term k c) after) where
      begun : 0 < n
      begun = rw held.count at (term_placed p s at (problem_command_at s at) k c t.stands t.instruction)

      latest : terms last ≡ (last_condition p.conditions).terms
      latest = held.latest ∙ same_terms_lem (condition_last p n held.count begun)

      term_room : late_in last.keys 0 last.count k 32 ≡ late p (I.Term k c)
      term_room = let f = held.filled in terms_room last.count 32 k last.keys last.coefficients (last_condition p.conditions).terms (omega arith) latest

      pub stepped_term : Bounded 255 s → (r : ℕ) (last' : Polynomial) → r ≡ late_in last.keys 0 last.count k 32 → last' ≡ term_stored_if r last k c
          → Stepped p (I.Term k c) keys coefficients sizes v last' n r
      stepped_term bytes r last' e = go (eqb r 0) refl
        where
          go : (b : Bool) → eqb r 0 ≡ b → last' ≡ cond b (record { keys = set last.keys last.count k; coefficients = set last.coefficients last.count c; count = last.count + 1 }) last
              → Stepped p (I.Term k c) keys coefficients sizes v last' n r
          go true q x =
              let f = space last.keys 0 last.count k 32 (sym e ∙ eqb-true r 0 q) in
              let m = held_term held k c begun f (low 16 k (and_left (fitting p.variables 16 k) (nonzero c) t.operands)) (passed_small s bytes t) in
              rw x (record { decided = e ∙ term_room; limits = held.limits; held = λ _. m; on = λ e. clash (cc) })
          go false q x = rw x (record { decided = e ∙ term_room; limits = held.limits; held = λ z. absurd (eqb-false r 0 q z); on = λ e. clash (cc) })

    module _ {j k : ℕ} (t : Passes p s at (I.Member j k) after) where
      pub named : j < 9
      named =
          let e = held.count in
          let u = held.count_low in
          omega (arith, leb-true j (length p.conditions) (and_left (leb j (length p.conditions)) (fitting p.variables 8 k) t.operands))

      member_room : late_in keys (64 * j) (get_or sizes j 0) k 64 ≡ late p (I.Member j k)
      unfolding basis_of
      member_room =
          rw (← held.bases j named, basis_long held.limits j named)

      pub stepped_member : (r : ℕ) (keys' sizes' : List ℕ) → r ≡ late_in keys (64 * j) (get_or sizes j 0) k 64 → keys' ≡ stored_if r keys (64 * j + get_or sizes j 0) k → sizes' ≡ stored_if r sizes j (get_or sizes j 0 + 1)
          → Stepped p (I.Member j k) keys' coefficients sizes' v last n r
      stepped_member r keys' sizes' e = go (eqb r 0) refl
        where
          go : (b : Bool) → eqb r 0 ≡ b → keys' ≡ cond b (set keys (64 * j + get_or sizes j 0) k) keys → sizes' ≡ cond b (set sizes j (get_or sizes j 0 + 1)) sizes → Stepped p (I.Member j k) keys' coefficients sizes' v last n r
          go true q x z =
              let f = space keys (64 * j) (get_or sizes j 0) k 64 (sym e ∙ eqb-true r 0 q) in
              let m = held_member held j k named f (low 8 k (and_right (leb j (length p.conditions)) (fitting p.variables 8 k) t.operands)) in
              rw (x, z) (record { decided = e ∙ member_room; limits = m.limits; held = λ _. m; on = λ e. clash (cc) })
          go false q x z = rw (x, z) (record { decided = e ∙ member_room; limits = held.limits; held = λ z. absurd (eqb-false r 0 q z); on = λ e. clash (cc) })
