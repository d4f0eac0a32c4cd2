-- The rounds of the definition, one by one: what they leave is the state after their number of rounds, and after the most
-- that are allowed, and has what the state after every number of rounds has.
use mathlib.Core.Path.{◌≡◌, refl, sym, ap, ◌∙◌}
use mathlib.Core.Logic.{◌⊎◌, inl, inr, ⊎_elim}
use mathlib.Core.Bool.{Bool, true, false, cond}
use mathlib.Core.List.{List}
use Prim.Native.Nat.{ℕ, zero, suc, ◌+◌, ◌-◌, ◌≤◌, ◌<◌, zero-le}
use native.Mathlib.Numerals.{add-one}
use native.Mathlib.Nat.{eq-or-lt_of_le, le_of_suc-le-suc}
use native.Mathlib.Omega.{arith}
use Rattle.counting.proofs.Cases.{clash}
use Rattle.joining_rule.specs.Sets.{In}
use Rattle.joining_rule.proofs.Rising.{Rising}
use Rattle.joining_rule.specs.Rounds.{Bases, State, Closing, start, adding_bases, round, after, same_state, close_from, closing_of}
use Rattle.joining_rule.proofs.Same.{same_state_refl, same_state_true, close_next}
use Rattle.joining_rule.proofs.Products.{AllFull}
use Rattle.joining_rule.proofs.Rounds.{Shaped, AllNumbered, after_keeps, after_in, round_extends, round_full, after_shaped, after_numbered}

-- ---- the rounds of the definition, one by one

module _ (rule : ℕ) (g : Bases) (s : State) where
  -- round k + 1 changes a block, or S
  abbrev pub Moves : ℕ → Type 0
  Moves k = after rule g s (suc k) ≡ after rule g s k → ⊥

  -- o is what at most m rounds after the first c leave. Each round before the last changes something. The last changes nothing;
  -- or it is number m + c and changes something, and no more are allowed.
  pub record Ran (m c : ℕ) (o : Closing) : Type 0 where
    pub upto : o.rounds ≤ m + c
    pub state : o.state ≡ after rule g s o.rounds
    pub moves : (k : ℕ) → k + 1 < o.rounds → Moves k
    pub ended : ((0 < o.rounds) × (after rule g s o.rounds ≡ after rule g s (o.rounds - 1))) ⊎ ((o.rounds ≡ m + c) × ((k : ℕ) → k < o.rounds → Moves k))

  next : (c : ℕ) → after rule g s (c + 1) ≡ round rule g (after rule g s c)
  unfolding after
  next c = rw (add-one c)

  -- a round that the test does not find the same changes something
  changes : (c : ℕ) → same_state (after rule g s c) (round rule g (after rule g s c)) ≡ false → (k : ℕ) → k ≡ c → Moves k
  unfolding after
  changes c e k q w =
      let u : round rule g (after rule g s c) ≡ after rule g s c = rw q at w in
      let t : same_state (after rule g s c) (round rule g (after rule g s c)) ≡ true = rw (u, same_state_refl (after rule g s c)) in
      clash (cc)

  -- the definition's rounds, where the first c all change something
  pub ran : (m c : ℕ) → ((k : ℕ) → k < c → Moves k) → Ran m c (close_from rule g m (after rule g s c) c)
  unfolding close_from
  ran zero c h = record { upto = omega arith; state = refl; moves = λ k b. h k (omega arith); ended = inr (omega arith, h) }
  ran (suc m) c h = rw (close_next rule g m (after rule g s c) c) (go (same_state (after rule g s c) (round rule g (after rule g s c))) refl (ran m (c + 1)))
    where
      go : (b : Bool) → same_state (after rule g s c) (round rule g (after rule g s c)) ≡ b
          → (((k : ℕ) → k < c + 1 → Moves k) → Ran m (c + 1) (close_from rule g m (after rule g s (c + 1)) (c + 1)))
          → Ran (suc m) c (cond b (record { state = round rule g (after rule g s c); rounds = c + 1 }) (close_from rule g m (round rule g (after rule g s c)) (c + 1)))
      go true e f =
          let z : c + 1 - 1 ≡ c = omega arith in
          record { upto = omega arith; state = sym (next c); moves = λ k b. h k (omega arith); ended = inl (omega arith, rw z (next c ∙ sym (same_state_true _ _ e))) }
      go false e f =
          let r : Ran m (c + 1) (close_from rule g m (round rule g (after rule g s c)) (c + 1)) =
          rw (next c) at (f (λ k b. ⊎_elim (λ q. changes c e k q) (λ l. h k l) (eq-or-lt_of_le {n = k} {m = c} (omega arith)))) in
          record { upto = omega (arith, r.upto); state = r.state; moves = r.moves; ended = ⊎_elim (λ w. inl w) (λ w. inr (omega (arith, w.0), w.1)) r.ended }

  -- after a round that changes nothing, none changes anything
  pub still_later : (k : ℕ) → after rule g s (suc k) ≡ after rule g s k → (m : ℕ) → k ≤ m → after rule g s m ≡ after rule g s k
  unfolding after
  still_later k e zero h = let z : k ≡ 0 = omega arith in rw z
  still_later k e (suc m) h =
      ⊎_elim
      (λ z. rw z)
      (λ l. ap (round rule g) (still_later k e m (le_of_suc-le-suc l)) ∙ e)
      (eq-or-lt_of_le {n = k} {m = suc m} h)

module _ (rule : ℕ) (g : Bases) (S₀ : List ℕ) where
  start_support : (start g S₀).support ≡ S₀
  unfolding start
  start_support = refl

  -- S stays in order
  pub after_rising : Rising S₀ → (k : ℕ) → Rising (after rule g (start g S₀) k).support
  after_rising rising k = after_keeps rule g (λ s. Rising s.support) (λ s r. (round_extends rule g s).rising r) (start g S₀) (rw start_support rising) k

module _ (rule most : ℕ) (g : Bases) (S₀ : List ℕ) where
  abbrev o : Closing
  o = closing_of rule most g S₀

  pub closing_ran : Ran rule g (start g S₀) most 0 o
  unfolding closing_of after
  closing_ran = ran rule g (start g S₀) most 0 (λ k b. absurd (omega arith))

  -- the closing's state is the state after its number of rounds
  pub closing_state : o.state ≡ after rule g (start g S₀) o.rounds
  closing_state = closing_ran.state

  -- and after the most rounds: those that were not made would change nothing
  pub closing_after : o.state ≡ after rule g (start g S₀) most
  closing_after =
      closing_state
      ∙ ⊎_elim
      (λ e.
      let r = o.rounds - 1 in
      let z : o.rounds ≡ suc r = omega (arith, e.0) in
      let w : after rule g (start g S₀) (suc r) ≡ after rule g (start g S₀) r = ap (after rule g (start g S₀)) (sym z) ∙ e.1 in
      e.1 ∙ sym (still_later rule g (start g S₀) r w most (omega (arith, closing_ran.upto, e.0))))
      (λ e. let z : o.rounds ≡ most = omega (arith, e.0) in rw z)
      closing_ran.ended

  -- what the state after any number of rounds has, the closing's has
  pub closing_has : (P : State → Type 0) → ((k : ℕ) → P (after rule g (start g S₀) k)) → P o.state
  closing_has P h = rw closing_state (h o.rounds)

  pub closing_shaped : Shaped g o.state.labels
  closing_shaped = closing_has (λ s. Shaped g s.labels) (after_shaped rule g S₀)

  pub closing_numbered : AllNumbered g o.state.labels
  closing_numbered = closing_has (λ s. AllNumbered g s.labels) (after_numbered rule g S₀)

  -- where a round is made, S has every sum of two monomials in one block, of the bases that add
  pub closing_full : 0 < most → AllFull (adding_bases rule) g o.state
  unfolding after
  closing_full b =
      let z : most ≡ suc (most - 1) = omega arith in
      rw (closing_after, z) (round_full rule g (after rule g (start g S₀) (most - 1)))

  -- S has all that it had after any of the rounds, and so all of S₀
  pub closing_in : (x k : ℕ) → k ≤ o.rounds → In x (after rule g (start g S₀) k).support → In x o.state.support
  closing_in x k h m = rw closing_state (after_in rule g x (start g S₀) k o.rounds h m)

  pub closing_starts : (x : ℕ) → In x S₀ → In x o.state.support
  unfolding after
  closing_starts x m = closing_in x 0 zero-le (rw (start_support rule g S₀) m)

  pub closing_rising : Rising S₀ → Rising o.state.support
  closing_rising rising = closing_has (λ s. Rising s.support) (after_rising rule g S₀ rising)
