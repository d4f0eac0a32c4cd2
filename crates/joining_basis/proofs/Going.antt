-- The loops that join: what holds before each turn, and how a turn keeps it. The pairs P are those of the turns so far.
use Rattle.std.proofs.Common.{◌≡◌, ℕ, ◌<◌, ◌≤◌, ◌⊎◌, List, length, take, sym, ap, ◌∙◌, take-take}
use Rattle.key_set.proofs.Keys.{keys_first}
use Rattle.round_laws.specs.Joins.{Has, Among, Parts}
use Rattle.joining_blocks.specs.Standing.{Standing, looked_at, Ready, Grew}
use Rattle.joining_blocks.proofs.Grew.{grew_same, grew_more, grew_then, grew_over}

-- s is at the loop's beginning, s' before a turn
pub record Going (T B : List ℕ) (P : ℕ → ℕ → Type 0) (s s' : Standing) : Type 0 where
  pub grew : Grew T B P s s'
  pub fits : s'.reach.len ≤ 2048

module _ (T B : List ℕ) (P : ℕ → ℕ → Type 0) (s : Standing) where
  pub going_start : Ready T B s → Has P (length B) s.labels → Going T B P s s
  going_start r h =
      record { grew = grew_same T B P s r h; fits = r.basis.support.few }

  module _ (s' : Standing) (g : Going T B P s s') where
    pub going_ready : Ready T B s'
    going_ready = (g.grew.fits g.fits).ready

    -- a turn that joins nothing
    pub going_on : (R : ℕ → ℕ → Type 0) → Among P R (length B) → (Has P (length B) s'.labels → Has R (length B) s'.labels) → Going T B R s s'
    going_on R p h = record { grew = grew_more T B P R s s' g.grew p (λ _. h); fits = g.fits }

    -- a turn that joins by the pairs Q, and is not given up
    pub going_then : (Q R : ℕ → ℕ → Type 0) (s'' : Standing) → Ready T B s → Grew T B Q s' s'' → s''.reach.len ≤ 2048 → Parts P Q R (length B) → Going T B R s s''
    going_then Q R s'' r h b c = record { grew = grew_then T B P Q R s s' s'' r g.fits g.grew h c; fits = b }

    -- a turn after which the loop ends
    pub going_over : (Q R W : ℕ → ℕ → Type 0) (s'' : Standing) → Ready T B s → Grew T B Q s' s'' → Parts P Q R (length B) → Among R W (length B) → (s''.reach.blocks ≡ 1) ⊎ (2048 < s''.reach.len) → Grew T B W s s''
    going_over Q R W s'' r h c p o = grew_over T B R W s s'' (grew_then T B P Q R s s' s'' r g.fits g.grew h c) p o

    -- what the joining looks at stays
    pub going_looked : Ready T B s → looked_at s' ≡ looked_at s
    going_looked r =
        let u = g.grew.same.until in
        rw u
        (keys_first s.reach.until s'.table s.table
        (sym (take-take s.reach.until s.reach.len s'.table r.until)
        ∙ ap (take s.reach.until) (g.grew.stored.first g.fits)
        ∙ take-take s.reach.until s.reach.len s.table r.until))
