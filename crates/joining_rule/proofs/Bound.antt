-- The rounds end: with N monomials in B bases there are at most N − B + 2, 578 rounds are always enough, and the number of
-- rounds is that of the first that changes nothing, or the most that are allowed where that is smaller.
use mathlib.Core.Path.{◌≡◌, refl, sym, ap, ◌∙◌}
use mathlib.Core.Logic.{⊎_elim}
use mathlib.Core.Bool.{Bool, true, false}
use mathlib.Core.List.{List}
use Prim.Native.Nat.{ℕ, zero, suc, ◌+◌, ◌-◌, ◌≤◌, ◌<◌, min}
use native.Mathlib.Nat.{eq-or-lt_of_le}
use native.Mathlib.Omega.{arith}
use lib.ListN.{length}
use lib.Dec.{ltb}
use borrow.Author.Tests.{ltb-true, ltb-false, eq-eqb, ne_eqb}
use Rattle.counting.specs.Counting.{sum_to}
use Rattle.counting.proofs.Cases.{lt_or_le}
use Rattle.counting.proofs.Sums.{sum_to_le}
use Rattle.joining_rule.specs.Rounds.{Bases, start, round, after, enough_rounds, most_rounds, closing_of, blocks_in}
use Rattle.joining_rule.specs.Meaning.{TakesRounds, FullClosure, without, reached, RoundsDone}
use Rattle.joining_rule.proofs.Rising.{Rising}
use Rattle.joining_rule.proofs.Rounds.{monomials, nonempty, AllNumbered, round_extends, round_numbered, round_fewer, round_blocks, round_full, round_still, nonempty_few, start_numbered, start_blocks, after_numbered}
use Rattle.joining_rule.proofs.Closing.{Moves, still_later, closing_ran, closing_after, after_rising}

-- there is only one number of rounds
pub takes_once : (rule : ℕ) (g : Bases) (S₀ : List ℕ) (r r' : ℕ) → TakesRounds rule g S₀ r → TakesRounds rule g S₀ r' → r ≡ r'
takes_once rule g S₀ r r' t t' = go (ltb r r') refl (ltb r' r) refl
  where
    go : (b : Bool) → ltb r r' ≡ b → (d : Bool) → ltb r' r ≡ d → r ≡ r'
    go true e d f = absurd (t'.first r t.some (ltb-true r r' e) t.still)
    go false e true f = absurd (t.first r' t'.some (ltb-true r' r f) t'.still)
    go false e false f = omega (arith, ltb-false r r' e, ltb-false r' r f)

-- the most rounds at an order: enough of them at 0, else as many
pub most_none : (k : ℕ) → k ≡ 0 → most_rounds k ≡ enough_rounds
unfolding most_rounds
most_none k e = rw (eq-eqb k 0 e)

pub most_some : (k : ℕ) → 0 < k → most_rounds k ≡ k
unfolding most_rounds
most_some k h = rw (ne_eqb k 0 (λ e. omega arith))

pub most_positive : (k : ℕ) → 0 < most_rounds k
most_positive k =
    ⊎_elim (λ e. omega (arith, most_none k (sym e))) (λ b. omega (arith, most_some k b)) (eq-or-lt_of_le {n = 0} {m = k} (omega arith))

-- ---- at most `most` rounds, where the rule takes r
module _ (rule most : ℕ) (g : Bases) (S₀ : List ℕ) where
  -- the last of them is the first that changes nothing, or they are as many as are allowed
  ended_takes : 0 < (closing_of rule most g S₀).rounds
      → after rule g (start g S₀) (closing_of rule most g S₀).rounds ≡ after rule g (start g S₀) ((closing_of rule most g S₀).rounds - 1)
      → TakesRounds rule g S₀ (closing_of rule most g S₀).rounds
  ended_takes some still = record { some = some; still = still; first = first }
    where
      first : (k : ℕ) → 1 ≤ k → k < (closing_of rule most g S₀).rounds → after rule g (start g S₀) k ≡ after rule g (start g S₀) (k - 1) → ⊥
      first k a b e =
          let z : k ≡ suc (k - 1) = omega arith in
          (closing_ran rule most g S₀).moves (k - 1) (omega arith) (ap (after rule g (start g S₀)) (sym z) ∙ e)

  module _ (r : ℕ) (takes : TakesRounds rule g S₀ r) where
    -- round r changes nothing
    takes_still : after rule g (start g S₀) (suc (r - 1)) ≡ after rule g (start g S₀) (r - 1)
    takes_still = let z : r ≡ suc (r - 1) = omega (arith, takes.some) in ap (after rule g (start g S₀)) (sym z) ∙ takes.still

    -- "those done": the smaller number
    pub rounds_done : (closing_of rule most g S₀).rounds ≡ min most r
    rounds_done =
        ⊎_elim
        (λ e. omega (arith, takes_once rule g S₀ _ r (ended_takes e.0 e.1) takes, (closing_ran rule most g S₀).upto))
        (λ e.
        ⊎_elim
        (λ b. omega (arith, e.0))
        (λ b. absurd (e.1 (r - 1) (omega (arith, e.0, takes.some)) takes_still))
        (lt_or_le most r))
        (closing_ran rule most g S₀).ended

    -- where no more than one round is left out, which would change nothing, a further round changes nothing
    pub takes_settled : r ≤ most + 1 → round rule g (closing_of rule most g S₀).state ≡ (closing_of rule most g S₀).state
    unfolding after
    takes_settled h =
        let e : (m : ℕ) → r - 1 ≤ m → after rule g (start g S₀) m ≡ after rule g (start g S₀) (r - 1) = still_later rule g (start g S₀) (r - 1) takes_still in
        rw (closing_after rule most g S₀) (e (suc most) (omega arith) ∙ sym (e most (omega arith)))

module _ (rule : ℕ) (g : Bases) (S₀ : List ℕ) (rising : Rising S₀) where
  -- After the first round S has every sum of a pair in one block, so a round that changes something joins two blocks.
  fewer : (k : ℕ) → Moves rule g (start g S₀) (suc k) → blocks_in (after rule g (start g S₀) (suc (suc k))).labels < blocks_in (after rule g (start g S₀) (suc k)).labels
  unfolding after
  fewer k m =
      let s = round rule g (after rule g (start g S₀) k) in
      let n : AllNumbered g s.labels = round_numbered rule g _ (after_numbered rule g S₀ k) in
      ⊎_elim
      (λ e. absurd (m (round_still rule g s ((round_extends rule g _).rising (after_rising rule g S₀ rising k)) (round_full rule g (after rule g (start g S₀) k)) (round_blocks rule g s n e))))
      (λ l. l)
      (eq-or-lt_of_le (round_fewer rule g s n))

  -- There are N blocks at the start. Where the first round and k more all change something, at most N − k are left.
  blocks_left : (k : ℕ) → ((i : ℕ) → i < suc k → Moves rule g (start g S₀) i) → blocks_in (after rule g (start g S₀) (suc k)).labels + k ≤ monomials g
  unfolding after
  blocks_left zero h = omega (arith, round_fewer rule g (start g S₀) (start_numbered g S₀), start_blocks g S₀)
  blocks_left (suc k) h = omega (arith, fewer k (h (suc k) (omega arith)), blocks_left k (λ i b. h i (omega arith)))

  -- At most N − B + 2 rounds: B blocks are always left, one for each basis that has a monomial.
  module _ (most : ℕ) where
    abbrev made : ℕ
    made = (closing_of rule most g S₀).rounds

    pub few_rounds : made + nonempty g ≤ monomials g + 2
    few_rounds = go (ltb made 2) refl
      where
        go : (b : Bool) → ltb made 2 ≡ b → made + nonempty g ≤ monomials g + 2
        go true e = omega (arith, ltb-true made 2 e, nonempty_few g (start g S₀).labels (start_numbered g S₀), start_blocks g S₀)
        go false e =
            let b : 2 ≤ made = ltb-false made 2 e in
            omega (
              arith,
              blocks_left (made - 2) (λ i l. (closing_ran rule most g S₀).moves i (omega arith)),
              nonempty_few g (after rule g (start g S₀) (suc (made - 2))).labels (after_numbered rule g S₀ (suc (made - 2))),
            )

  module _ (sizes : (j : ℕ) → length (g.basis j) ≤ 64) where
    monomials_few : monomials g ≤ 576
    unfolding monomials sum_to
    monomials_few = sum_to_le 9 (λ j. length (g.basis j)) (λ _. 64) (λ j _. sizes j)

    pub rounds_fit : (most : ℕ) → (closing_of rule most g S₀).rounds ≤ enough_rounds
    rounds_fit most = omega (arith, few_rounds most, monomials_few)

    -- "Rounds repeat until one changes neither a block nor S; that one counts too": the number of rounds is that round's
    pub full_rounds : TakesRounds rule g S₀ (closing_of rule enough_rounds g S₀).rounds
    full_rounds =
        ⊎_elim
        (λ e. ended_takes rule enough_rounds g S₀ e.0 e.1)
        (λ e. absurd (omega (arith, e.0, blocks_left 577 (λ i b. e.1 i (omega (arith, e.0))), monomials_few)))
        (closing_ran rule enough_rounds g S₀).ended

    -- ---- at an order k
    module _ (k : ℕ) where
      pub order_done : RoundsDone rule k g S₀ (closing_of rule (most_rounds k) g S₀).rounds
      order_done = record {
        full = (closing_of rule enough_rounds g S₀).rounds;
        takes = full_rounds;
        all = λ e. rw (most_none k e);
        smaller = λ h. rw (most_some k h) (rounds_done rule k g S₀ _ full_rounds);
      }

      -- where the closure is full, a further round leaves the closing's state as it is
      pub full_settled : FullClosure rule k g S₀ → round rule g (closing_of rule (most_rounds k) g S₀).state ≡ (closing_of rule (most_rounds k) g S₀).state
      full_settled (without e) = takes_settled rule _ g S₀ _ full_rounds (rw (most_none k e) (omega (arith, rounds_fit enough_rounds)))
      full_settled (reached r takes h) = takes_settled rule _ g S₀ r takes (⊎_elim few many (eq-or-lt_of_le {n = 0} {m = k} (omega arith)))
        where
          few : 0 ≡ k → r ≤ most_rounds k + 1
          few e = rw (most_none k (sym e)) (omega arith)

          many : 0 < k → r ≤ most_rounds k + 1
          many b = rw (most_some k b) h
