-- The loop that joins by the members that came last: its turns. It is at the member at place m of the table.
use Rattle.std.proofs.Common.{◌≡◌, ℕ, ◌+◌, ◌-◌, ◌<◌, ◌≤◌, ◌⊎◌, List, [], ◌∷◌, length, get_or, take, drop, sym, ap, ◌∙◌, ⊎_elim, arith, length-drop, length-take-le, get_or-drop, take_all, get_or-take}
use Rattle.round_laws.specs.Joins.{WithSum, Through, SomeOf, Recent}
use Rattle.round_laws.specs.Fits.{Fitting}
use Rattle.round_laws.proofs.Fresh.{some_start, some_turn, some_before, through_some, some_through}
use Rattle.round_laws.proofs.Fits.{sums_through, through_sums}
use Rattle.joining_blocks.specs.Standing.{Standing, looked_at, latest, Ready, Grew}
use Rattle.joining_blocks.proofs.Grew.{grew_more, grew_as}
use Rattle.joining_basis.proofs.Going.{Going, going_start, going_then, going_over}

module _ (T B : List ℕ) (a : Standing) where
  abbrev since : ℕ
  since = a.reach.since

  abbrev until : ℕ
  until = a.reach.until

  abbrev F : List ℕ
  F = latest a.table since until

  -- what a member links
  abbrev By : ℕ → ℕ → ℕ → Type 0
  By x = Through T B (x ∷ [])

  pub record ToMember (a' : Standing) (m : ℕ) : Type 0 where
    pub from : since ≤ m
    pub upto : m ≤ until
    pub going : Going T B (SomeOf By (take (m - since) F)) a a'

  module _ (r : Ready T B a) where
    pub members_start : ToMember a since
    members_start =
        let z : since - since ≡ 0 = omega arith in
        record { from = omega arith; upto = r.since; going = rw z (going_start T B (SomeOf By (take 0 F)) a r (some_start By (length B) F a.labels)) }

    low : until ≤ length a.table
    low = omega (arith, r.until, r.basis.support.few, r.basis.support.room)

    long : length F ≡ until - since
    long = length-take-le (until - since) (drop since a.table) (omega (arith, low, length-drop since a.table))

    module _ (a' : Standing) (m : ℕ) (w : ToMember a' m) where
      -- the members stand where they stood
      module _ (b : m < until) where
        abbrev i : ℕ
        i = m - since

        first : get_or a'.table m 0 ≡ get_or a.table m 0
        first =
            let h : m < a.reach.len = omega (arith, r.until) in
            sym (get_or-take a.reach.len a'.table m 0 h)
            ∙ ap (λ (l : List ℕ). get_or l m 0) (w.going.grew.stored.first w.going.fits)
            ∙ get_or-take a.reach.len a.table m 0 h

        member : get_or F i 0 ≡ get_or a'.table m 0
        member =
            let e : since + i ≡ m = omega (arith, w.from) in
            get_or-take (until - since) (drop since a.table) i 0 (omega (arith, w.from))
            ∙ get_or-drop since a.table i 0
            ∙ ap (λ (p : ℕ). get_or a.table p 0) e
            ∙ sym first

        inside : i < length F
        inside = omega (arith, long, w.from)

        -- a turn: the joining by the sums that the member leads to
        module _ (sums : List ℕ) (f : Fitting T B (get_or a'.table m 0) sums) (a'' : Standing) (g : Grew T B (SomeOf (WithSum B) sums) a' a'') where
          turn : Grew T B (By (get_or F i 0)) a' a''
          turn =
              rw member
              (grew_more T B (SomeOf (WithSum B) sums) (By (get_or a'.table m 0)) a' a'' g (sums_through T B _ sums f) (λ _ j. through_sums T B _ sums f a''.labels j))

          pub members_turn : a''.reach.len ≤ 2048 → ToMember a'' (m + 1)
          members_turn c =
              let e : m + 1 - since ≡ i + 1 = omega (arith, w.from) in
              record {
                from = omega (arith, w.from);
                upto = omega arith;
                going = rw e (going_then T B (SomeOf By (take i F)) a a' w.going (By (get_or F i 0)) (SomeOf By (take (i + 1) F)) a'' r turn c (some_turn By (length B) F i inside));
              }

          -- ended early
          pub members_over : (a''.reach.blocks ≡ 1) ⊎ (2048 < a''.reach.len) → Grew T B (Through T B F) a a''
          members_over o =
              going_over T B (SomeOf By (take i F)) a a' w.going (By (get_or F i 0)) (SomeOf By (take (i + 1) F)) (Through T B F) a'' r turn
              (some_turn By (length B) F i inside)
              (λ x y hx hy p. some_through (length B) T B F x y hx hy (some_before By (length B) F (i + 1) x y hx hy p))
              o

      pub members_end : until ≤ m → Grew T B (Through T B F) a a'
      members_end b =
          let g : Grew T B (SomeOf By F) a a' = rw (take_all (m - since) F (omega (arith, long))) at w.going.grew in
          grew_as T B (SomeOf By F) (Through T B F) a a' g (some_through (length B) T B F) (through_some (length B) T B F)

  -- all else that is linked was in one block before
  pub members_all : Recent (looked_at a) T B a.labels F → (a' : Standing) → Grew T B (Through T B F) a a' → Grew T B (Through T B (looked_at a)) a a'
  members_all c a' g =
      grew_more T B (Through T B F) (Through T B (looked_at a)) a a' g
      (λ x y _ _ p. record { t = p.t; exponent = p.exponent; hits = c.members _ p.hits })
      (λ b j.
      record {
        at = λ x y hx hy p.
            ⊎_elim
            (λ w. (g.fits b).joins.keeps.at x y hx hy w)
            (λ w. j.at x y hx hy (record { t = p.t; exponent = p.exponent; hits = w }))
            (c.at x y p.t hx hy p.exponent p.hits);
      })
