-- Every legal problem is read as it was written.
use mathlib.Core.Path.{◌≡◌, refl, ap, ◌∙◌}
use mathlib.Core.Bool.{Bool, true, false, cond}
use mathlib.Core.List.{List, [], ◌∷◌, ◌++◌, map, append-nil, append_assoc}
use mathlib.Core.Logic.{⊎_elim}
use Prim.Native.Nat.{ℕ, zero, suc, ◌+◌, ◌-◌, ◌≤◌, ◌<◌}
use native.Mathlib.Omega.{arith}
use lib.Dec.{eqb}
use lib.ListN.{length, get_or, replicate, length-append}
use lib.Seq.{get_or_at, set_at}
use borrow.Author.Tests.{le-leb, eqb-true}
use Rattle.counting.proofs.Cases.{clash, lt_or_le}
use Rattle.polynomial.specs.Terms.{Term}
use Rattle.format.specs.Commands.{given}
use Rattle.format.specs.declared.problem.Instruction.{Instruction}
use Rattle.format.specs.declared.problem.Instruction.TheVariants as I
use Rattle.format.specs.declared.problem.Kind.{Kind}
use Rattle.format.specs.declared.problem.Kind.TheVariants as K
use Rattle.format.specs.ProblemRules.{Condition, Problem, no_problem, no_condition, append_at, problem_applied, read_problem}
use Rattle.written.specs.Legal.{Legal}
use Rattle.written.specs.ProblemWritten.{rule_commands, order_commands, head_commands, objective_commands, begins, term_commands, condition_commands, basis_commands, body_commands, encode_problem}
use Rattle.written.specs.CommandOrder.{Head, plain, ruled, ordered, both, InPlace}
use Rattle.written.proofs.ProblemReading.{after, after_append}
use Rattle.written.proofs.ProblemOrders.{reads_in_order}

-- ---- the head
module _ (n r k : ℕ) where
  abbrev headed : List Instruction
  headed = I.Variables n ∷ (rule_commands r ++ order_commands k)

  pub head_is : Head headed
  head_is = go (eqb r 1) (eqb k 0) refl
    where
      named : (x : ℕ) → eqb x 0 ≡ false → 1 ≤ x
      named zero e = clash (cc)
      named (suc x) e = omega arith

      go : (b c : Bool) → eqb k 0 ≡ c → Head (I.Variables n ∷ (cond b [] (I.Rule r ∷ []) ++ cond c [] (I.Order k ∷ [])))
      go true true e = plain n
      go true false e = ordered n k (named k e)
      go false true e = ruled n r
      go false false e = both n r k (named k e)

-- a problem by its parts
abbrev made : ℕ → ℕ → ℕ → List Term → List Condition → List (List ℕ) → Problem
made n r k ts gs bs = record { variables = n; rule = r; order = k; objective = ts; conditions = gs; bases = bs }

head_after : (n r k : ℕ) → after no_problem (headed n r k) ≡ made n r k [] [] no_problem.bases
unfolding after problem_applied
head_after n r k = go (eqb r 1) refl (eqb k 0) refl
  where
    go : (b : Bool) → eqb r 1 ≡ b → (c : Bool) → eqb k 0 ≡ c
        → after no_problem (I.Variables n ∷ (cond b [] (I.Rule r ∷ []) ++ cond c [] (I.Order k ∷ [])))
        ≡ made n r k [] [] no_problem.bases
    go true e true f = rw (eqb-true r 1 e, eqb-true k 0 f)
    go true e false f = rw (eqb-true r 1 e)
    go false e true f = rw (eqb-true k 0 f)
    go false e false f = refl

-- ---- what the parts of the body give
module _ (n r k : ℕ) where
  objective_after : (os ts : List Term) (gs : List Condition) (bs : List (List ℕ))
      → after (made n r k os gs bs) (objective_commands ts) ≡ made n r k (os ++ ts) gs bs
  unfolding after problem_applied objective_commands
  objective_after os [] gs bs = rw (append-nil os)
  objective_after os (t ∷ ts) gs bs = objective_after (os ++ (t ∷ [])) ts gs bs ∙ rw (append_assoc os (t ∷ []) ts)

  module _ (os : List Term) (bs : List (List ℕ)) where
    term_applied : (gs : List Condition) (kind : Kind) (ds : List Term) (t : Term)
        → problem_applied (made n r k os (gs ++ (record { kind = kind; terms = ds } ∷ [])) bs)
        (I.Term t.key t.coefficient)
        ≡ made n r k os (gs ++ (record { kind = kind; terms = ds ++ (t ∷ []) } ∷ [])) bs
    unfolding problem_applied
    term_applied gs kind ds t =
        let g : Condition = record { kind = kind; terms = ds } in
        let e = length-append gs (g ∷ []) in
        let more : Condition = record { kind = kind; terms = ds ++ (t ∷ []) } in
        let last : length (gs ++ (g ∷ [])) - 1 ≡ length gs = omega arith in
        rw (last, get_or_at gs g [] no_condition (length gs) refl, set_at gs g [] more (length gs) refl)

    terms_after : (gs : List Condition) (kind : Kind) (ds ts : List Term)
        → after (made n r k os (gs ++ (record { kind = kind; terms = ds } ∷ [])) bs) (term_commands ts)
        ≡ made n r k os (gs ++ (record { kind = kind; terms = ds ++ ts } ∷ [])) bs
    unfolding after term_commands
    terms_after gs kind ds [] = rw (append-nil ds)
    terms_after gs kind ds (t ∷ ts) =
        ap (λ (q : Problem). after q (term_commands ts)) (term_applied gs kind ds t)
        ∙ terms_after gs kind (ds ++ (t ∷ [])) ts ∙ rw (append_assoc ds (t ∷ []) ts)

    condition_after : (gs : List Condition) (kind : Kind) (ts : List Term)
        → after (made n r k os gs bs) (begins kind ∷ term_commands ts)
        ≡ made n r k os (gs ++ (record { kind = kind; terms = ts } ∷ [])) bs
    unfolding after problem_applied
    condition_after gs K.Inequality ts = terms_after gs K.Inequality [] ts
    condition_after gs K.Equality ts = terms_after gs K.Equality [] ts

    conditions_after : (gs hs : List Condition)
        → after (made n r k os gs bs) (condition_commands hs) ≡ made n r k os (gs ++ hs) bs
    unfolding condition_commands
    conditions_after gs [] = rw (append-nil gs) (unfold after in refl)
    conditions_after gs (h ∷ hs) =
        after_append (made n r k os gs bs) (begins h.kind ∷ term_commands h.terms) (condition_commands hs)
        ∙ rw (condition_after gs h.kind h.terms)
        (conditions_after (gs ++ (h ∷ [])) hs ∙ rw (append_assoc gs (h ∷ []) hs))

  module _ (os : List Term) (gs : List Condition) where
    member_applied : (done : List (List ℕ)) (ks : List ℕ) (rest : List (List ℕ)) (j : ℕ) → length done ≡ j → (m : ℕ)
        → problem_applied (made n r k os gs (done ++ (ks ∷ rest))) (I.Member j m)
        ≡ made n r k os gs (done ++ ((ks ++ (m ∷ [])) ∷ rest))
    unfolding problem_applied append_at
    member_applied done ks rest j e m = rw (get_or_at done ks rest [] j e, set_at done ks rest (ks ++ (m ∷ [])) j e)

    members_after : (done : List (List ℕ)) (ks : List ℕ) (rest : List (List ℕ)) (j : ℕ) → length done ≡ j
        → (ms : List ℕ) → after (made n r k os gs (done ++ (ks ∷ rest))) (map (I.Member j) ms)
        ≡ made n r k os gs (done ++ ((ks ++ ms) ∷ rest))
    unfolding after
    members_after done ks rest j e [] = rw (append-nil ks)
    members_after done ks rest j e (m ∷ ms) =
        ap (λ (q : Problem). after q (map (I.Member j) ms)) (member_applied done ks rest j e m)
        ∙ members_after done (ks ++ (m ∷ [])) rest j e ms ∙ rw (append_assoc ks (m ∷ []) ms)

    bases_after : (done bs : List (List ℕ)) (j : ℕ) → length done ≡ j
        → after (made n r k os gs (done ++ replicate (length bs) [])) (basis_commands j bs)
        ≡ made n r k os gs (done ++ bs)
    unfolding basis_commands
    bases_after done [] j e = unfold after in refl
    bases_after done (b ∷ bs) j e =
        let rest = replicate {A = List ℕ} (length bs) [] in
        after_append (made n r k os gs (done ++ ([] ∷ rest))) (map (I.Member j) b) (basis_commands (suc j) bs)
        ∙ rw (members_after done [] rest j e b, ← append_assoc done (b ∷ []) rest)
        (bases_after (done ++ (b ∷ [])) bs (suc j) (length-append done (b ∷ []) ∙ omega arith)
        ∙ rw (append_assoc done (b ∷ []) bs))

body_after : (p : Problem) → length p.bases ≡ 9
    → after (made p.variables p.rule p.order [] [] no_problem.bases) (body_commands p) ≡ p
body_after p nine =
    let os = objective_commands p.objective in
    let gs = condition_commands p.conditions in
    let empty : no_problem.bases ≡ replicate (length p.bases) [] = rw nine in
    let n = p.variables in
    let r = p.rule in
    let k = p.order in
    after_append _ os (gs ++ basis_commands 0 p.bases)
    ∙ rw (objective_after n r k [] p.objective [] no_problem.bases)
    (after_append _ gs (basis_commands 0 p.bases)
    ∙ rw (conditions_after n r k p.objective no_problem.bases [] p.conditions, empty)
    (bases_after n r k p.objective p.conditions [] p.bases 0 refl))

-- ---- each command is in its place
objective_placed : (n : ℕ) (ts : List Term) (rest : List Instruction) → InPlace n rest
    → InPlace n (objective_commands ts ++ rest)
unfolding InPlace objective_commands
objective_placed n [] rest h = h
objective_placed n (t ∷ ts) rest h = (refl, objective_placed n ts rest h)

terms_placed : (n : ℕ) (ts : List Term) (rest : List Instruction) → 1 ≤ n → InPlace n rest
    → InPlace n (term_commands ts ++ rest)
unfolding InPlace term_commands
terms_placed n [] rest b h = h
terms_placed n (t ∷ ts) rest b h = (le-leb 1 n b, terms_placed n ts rest b h)

begins_placed : (n : ℕ) (kind : Kind) (rest : List Instruction) → InPlace (suc n) rest → InPlace n (begins kind ∷ rest)
unfolding InPlace
begins_placed n K.Inequality rest h = (refl, h)
begins_placed n K.Equality rest h = (refl, h)

conditions_placed : (n : ℕ) (gs : List Condition) (rest : List Instruction) → InPlace (n + length gs) rest
    → InPlace n (condition_commands gs ++ rest)
unfolding condition_commands
conditions_placed n [] rest h = let z : n + 0 ≡ n = omega arith in rw z at h
conditions_placed n (g ∷ gs) rest h =
    let z : n + suc (length gs) ≡ suc n + length gs = omega arith in
    begins_placed n g.kind _
    (rw (append_assoc (term_commands g.terms) (condition_commands gs) rest)
    (terms_placed (suc n) g.terms _ (omega arith) (conditions_placed (suc n) gs rest (rw z at h))))

members_placed : (n j : ℕ) (ms : List ℕ) (rest : List Instruction) → (n < j → ms ≡ []) → InPlace n rest
    → InPlace n (map (I.Member j) ms ++ rest)
unfolding InPlace
members_placed n j [] rest e h = h
members_placed n j (m ∷ ms) rest e h =
    ⊎_elim
    (λ b. absurd (omega (arith, ap length (e b))))
    (λ b. (le-leb j n b, members_placed n j ms rest (λ c. absurd (omega arith)) h))
    (lt_or_le n j)

bases_placed : (n j : ℕ) (bs : List (List ℕ)) → ((x : ℕ) → n < j + x → get_or bs x [] ≡ [])
    → InPlace n (basis_commands j bs)
unfolding basis_commands
bases_placed n j [] e = unfold InPlace in tt
bases_placed n j (b ∷ bs) e =
    members_placed n j b (basis_commands (suc j) bs) (λ h. e 0 (omega arith))
    (bases_placed n (suc j) bs (λ x h. e (suc x) (omega arith)))

pub body_placed : (p : Problem) → Legal p → InPlace 0 (body_commands p)
body_placed p l =
    let z : 0 + length p.conditions ≡ length p.conditions = omega arith in
    objective_placed 0 p.objective _
    (conditions_placed 0 p.conditions _
    (rw z (bases_placed (length p.conditions) 0 p.bases (λ x h. l.begun x (omega arith)))))

-- ---- the law
pub problem_commands_lem : (p : Problem) → Legal p → after (after no_problem (head_commands p)) (body_commands p) ≡ p
problem_commands_lem p l =
    rw (head_after p.variables p.rule p.order) (body_after p l.bases)

pub encoded_problem_read : (p : Problem) → Legal p → read_problem (encode_problem p) ≡ given p
unfolding encode_problem
encoded_problem_read p l =
    let e = problem_commands_lem p l in
    let head = head_is p.variables p.rule p.order in
    reads_in_order (head_commands p) (body_commands p) head (body_placed p l) (rw e l) ∙ ap given e
