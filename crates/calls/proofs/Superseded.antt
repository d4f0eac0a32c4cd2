-- The clauses of the call on two certificates, from its equations.
use mathlib.Core.Path.{◌≡◌, refl, sym, ap, ◌∙◌}
use mathlib.Core.Bool.{Bool, true, false, cond}
use mathlib.Core.List.{List, [], ◌∷◌}
use mathlib.Core.Logic.{inl, inr}
use Prim.Native.Nat.{ℕ, suc, ◌≤◌, ◌<◌}
use native.Mathlib.Omega.{arith}
use lib.Dec.{eqb}
use lib.IntN.{ℤ, pos, negsuc, ◌*ℤ◌}
use lib.ListN.{length}
use lib.Signed.{lt_z}
use borrow.Author.Tests.{eqb-true, eqb-false, ltb-true, le-ltb}
use Rattle.counting.proofs.Cases.{clash, never}
use Rattle.format.specs.Commands.{given, run, read_whole}
use Rattle.format.specs.ProblemRules.{Problem}
use Rattle.format.proofs.ProblemLimits.{read_limits}
use Rattle.format.specs.CertificateRules.{Certificate, read_certificate}
use Rattle.format.proofs.CertificateLimits.{read_sound}
use Rattle.accepting.specs.Judgement as J
use Rattle.accepting.proofs.Accepted.{accepted_below, accepted_above}
use Rattle.calls.specs.declared.CheckVerdict.{CheckVerdict}
use Rattle.calls.specs.declared.Fraction.{Fraction}
use Rattle.calls.specs.declared.Refusal.{Refusal}
use Rattle.calls.specs.declared.Chosen.{Chosen}
use Rattle.calls.specs.declared.Chosen.TheVariants as Chosen
use Rattle.calls.specs.declared.SupersedingVerdict.{SupersedingVerdict}
use Rattle.calls.specs.Fractions.{is_less}
use Rattle.calls.specs.Refusals.{no_refusal, certificate_refusal}
use Rattle.calls.specs.Check.{bound_of, check_verdict}
use Rattle.calls.specs.Promises.{Reads, Within}
use Rattle.calls.specs.Superseding.{is_tighter, comes_back, none_back, tighter_of, is_accepted}
use Rattle.calls.specs.Superseding.{superseding_of, superseding_verdict, part_of}
use Rattle.calls.specs.Superseding.{ZeroExactly, HoldingPart, HoldsBack, BothAccepted, AsTight}
use Rattle.calls.specs.Superseding.{Tightest, TighterBack}
use Rattle.calls.specs.Superseding.{AloneBack, FirstRefusal, SidesDiffer, ElevenExactly}
use Rattle.calls.specs.Superseding.{SupersedingNumbered, ChosenZeros, PartZeros}
use Rattle.calls.proofs.Zeros.{none_zeros, certificate_zeros}
use Rattle.calls.proofs.Refusing.{reads_at}
use Rattle.calls.proofs.Checking.{Checked, given_once, check_found, check_clauses, check_zeros}

-- ---- how two verdicts of the check are decided on
abbrev pub Passed : CheckVerdict → Type 0
Passed a = a.refusal.number ≡ 0

-- whether the second bound is tighter
abbrev pub outdone : CheckVerdict → CheckVerdict → Bool
outdone a b = is_tighter a.side b.bound a.bound

abbrev pub eleven_back : SupersedingVerdict
eleven_back = none_back (certificate_refusal 2 11 0 0)

pub data Decided (a b : CheckVerdict) (v : SupersedingVerdict) : Type 0 where
  first_tighter : Passed a → Passed b → a.side ≡ b.side → outdone a b ≡ false → v ≡ comes_back Chosen.First
      → Decided a b v
  second_tighter : Passed a → Passed b → a.side ≡ b.side → outdone a b ≡ true → v ≡ comes_back Chosen.Second
      → Decided a b v
  sides_differ : Passed a → Passed b → (a.side ≡ b.side → ⊥) → v ≡ eleven_back → Decided a b v
  first_alone : Passed a → (Passed b → ⊥) → v ≡ comes_back Chosen.First → Decided a b v
  second_alone : (Passed a → ⊥) → Passed b → v ≡ comes_back Chosen.Second → Decided a b v
  neither : (Passed a → ⊥) → (Passed b → ⊥) → v ≡ none_back a.refusal → Decided a b v

module _ (a b : CheckVerdict) where
  both : (x y : Bool) → Passed a → Passed b → eqb a.side b.side ≡ x → outdone a b ≡ y
      → Decided a b (cond x (cond y (comes_back Chosen.Second) (comes_back Chosen.First)) eleven_back)
  both true true h k e f = second_tighter h k (eqb-true _ _ e) f refl
  both true false h k e f = first_tighter h k (eqb-true _ _ e) f refl
  both false y h k e f = sides_differ h k (eqb-false _ _ e) refl

  decided : Decided a b (superseding_of a b)
  unfolding superseding_of tighter_of
  decided = go (is_accepted a) (is_accepted b) refl refl
    where
      go : (x y : Bool) → is_accepted a ≡ x → is_accepted b ≡ y
          → Decided a b
          (cond x (cond y (tighter_of a b) (comes_back Chosen.First))
          (cond y (comes_back Chosen.Second) (none_back a.refusal)))
      go true true e f = both (eqb a.side b.side) (outdone a b) (eqb-true _ _ e) (eqb-true _ _ f) refl refl
      go true false e f = first_alone (eqb-true _ _ e) (eqb-false _ _ f) refl
      go false true e f = second_alone (eqb-false _ _ e) (eqb-true _ _ f) refl
      go false false e f = neither (eqb-false _ _ e) (eqb-false _ _ f) refl

-- ---- one certificate, and what the check says of it
nonempty : (p : Problem) (t : List ℕ) (c : Certificate) → read_certificate p t ≡ given c → 0 < length t
unfolding read_certificate read_whole run
nonempty p [] c e = clash (cc)
nonempty p (x ∷ t) c e = omega arith

module _ (short : Bool) (s t : List ℕ) where
  abbrev said : CheckVerdict
  said = check_verdict short s t

  found : Passed said → Reads s (λ p. Checked p t said)
  found h = check_found short s t said refl h

  -- where the verdict is of no refusal, what the certificate states
  pub record States (c : Certificate) : Type 0 where
    pub number : Passed said
    pub side : said.side ≡ c.header.side
    pub bound : said.bound ≡ bound_of c.header

  module _ (p : Problem) (w : Within short s p) where
    pub accepted_states : (c : Certificate) → J.Accepted p t c → States c
    accepted_states c a =
        let exactly = (check_clauses short s t said refl).1.0 in
        let z = exactly.always p c w a.read a.blocks a.identity in
        let k = reads_at s (λ q. Checked q t said) (found z) p w.read in
        let e : k.certificate ≡ c = given_once p t k.certificate c k.accepted.read a.read in
        record {
          number = z;
          side = ap (λ (v : CheckVerdict). v.side) k.verdict ∙ ap (λ (d : Certificate). d.header.side) e;
          bound =
              ap (λ (v : CheckVerdict). v.bound) k.verdict ∙ ap (λ (d : Certificate). bound_of d.header) e;
        }

  holding : Passed said → Reads s (λ p. HoldingPart p t)
  holding h =
      let r = found h in
      let p = r.problem in
      let c = r.holds.certificate in
      let a = r.holds.accepted in
      let l = read_limits s p r.read in
      record {
        problem = p;
        read = r.read;
        holds =
            record {
              certificate = c;
              accepted = a;
              sides = (read_sound p t c a.read).side;
              lower = accepted_below p l t c a;
              upper = accepted_above p l t c a;
            };
      }

  pub unrefused : Passed said → said.refusal ≡ no_refusal
  unrefused h = ap (λ (v : CheckVerdict). v.refusal) (found h).holds.verdict

  long : Passed said → 0 < length t
  long h = let r = found h in nonempty r.problem t r.holds.certificate r.holds.accepted.read

-- ---- two bounds of one side
-- of two numbers, not both are less than the other, and none is less than itself
not_both : (x y : ℤ) → lt_z x y ≡ true → lt_z y x ≡ false
not_both (pos m) (pos n) h = le-ltb n m (omega (arith, ltb-true m n h))
not_both (pos m) (negsuc n) h = clash (cc)
not_both (negsuc m) (pos n) h = refl
not_both (negsuc m) (negsuc n) h = le-ltb m n (omega (arith, ltb-true n m h))

not_itself : (x : ℤ) → lt_z x x ≡ false
not_itself (pos m) = le-ltb m m (omega arith)
not_itself (negsuc m) = le-ltb m m (omega arith)

module _ (side : ℕ) (f g : Fraction) where
  pub as_tight_itself : AsTight side f f
  as_tight_itself =
      let h = not_itself (f.num *ℤ pos f.den) in
      record { lower = λ z. h; upper = λ z. h }

  -- where g is not tighter than f
  pub kept : is_tighter side g f ≡ false → AsTight side f g
  unfolding is_tighter
  kept h = record { lower = λ z. rw z at h; upper = λ z. rw z at h }

  -- where it is
  pub outdoes : is_tighter side g f ≡ true → AsTight side g f
  unfolding is_tighter
  outdoes h = record {
    lower = λ z. not_both (f.num *ℤ pos g.den) (g.num *ℤ pos f.den) (rw z at h);
    upper = λ z. not_both (g.num *ℤ pos f.den) (f.num *ℤ pos g.den) (rw z at h);
  }

  -- of two equal bounds none is tighter
  not_tighter : is_less f g ≡ false → is_less g f ≡ false → is_tighter side g f ≡ false
  unfolding is_tighter
  not_tighter h k = go (eqb side 0)
    where
      go : (x : Bool) → cond x (is_less f g) (is_less g f) ≡ false
      go true = h
      go false = k

module _ (short : Bool) (s first second : List ℕ) (v : SupersedingVerdict)
    (is : v ≡ superseding_verdict short s first second) where
  abbrev a : CheckVerdict
  a = check_verdict short s first

  abbrev b : CheckVerdict
  b = check_verdict short s second

  abbrev part : List ℕ
  part = part_of v.chosen first second

  pub ended : Decided a b v
  unfolding superseding_verdict
  ended = rw is (decided a b)

  pub number_is : (w : SupersedingVerdict) → v ≡ w → v.refusal.number ≡ w.refusal.number
  number_is w e = ap (λ (x : SupersedingVerdict). x.refusal.number) e

  pub part_is : (w : SupersedingVerdict) → v ≡ w → part ≡ part_of w.chosen first second
  part_is w e = ap (λ (x : SupersedingVerdict). part_of x.chosen first second) e

  check_most : (t : List ℕ) → (check_verdict short s t).refusal.number ≤ 9
  check_most t = (check_clauses short s t _ refl).0

  pub numbered : SupersedingNumbered v.refusal.number
  numbered = go ended
    where
      go : Decided a b v → SupersedingNumbered v.refusal.number
      go (first_tighter h k i f e) = inl (omega (arith, number_is _ e))
      go (second_tighter h k i f e) = inl (omega (arith, number_is _ e))
      go (sides_differ h k i e) = inr (number_is _ e)
      go (first_alone h k e) = inl (omega (arith, number_is _ e))
      go (second_alone h k e) = inl (omega (arith, number_is _ e))
      go (neither h k e) = inl (omega (arith, number_is _ e, check_most first))

  -- ---- the zeros
  pub chosen_zeros : ChosenZeros v.refusal v.chosen
  chosen_zeros = go ended
    where
      back : (c : Chosen) → ChosenZeros no_refusal c
      back c = record { refusal = none_zeros; none = λ h. absurd (omega arith) }

      go : Decided a b v → ChosenZeros v.refusal v.chosen
      go (first_tighter h k i f e) = rw e (back Chosen.First)
      go (second_tighter h k i f e) = rw e (back Chosen.Second)
      go (sides_differ h k i e) =
          rw e (record { refusal = certificate_zeros 2 11 0 0 (omega arith) (λ _. refl); none = λ h. refl })
      go (first_alone h k e) = rw e (back Chosen.First)
      go (second_alone h k e) = rw e (back Chosen.Second)
      go (neither h k e) = rw e (record { refusal = (check_zeros short s first a refl).refusal; none = λ h. refl })

  pub part_zeros : PartZeros v.refusal part
  part_zeros = record {
    refusal = chosen_zeros.refusal;
    empty = λ h. ap (λ (c : Chosen). part_of c first second) (chosen_zeros.none h);
  }

  pub zero_exactly : ZeroExactly part v.refusal
  zero_exactly = record { only = λ z. only z ended; always = λ l. always l ended }
    where
      only : v.refusal.number ≡ 0 → Decided a b v → 0 < length part
      only z (first_tighter h k i f e) = rw (part_is _ e) (long short s first h)
      only z (second_tighter h k i f e) = rw (part_is _ e) (long short s second k)
      only z (sides_differ h k i e) = absurd (omega (arith, number_is _ e))
      only z (first_alone h k e) = rw (part_is _ e) (long short s first h)
      only z (second_alone h k e) = rw (part_is _ e) (long short s second k)
      only z (neither h k e) = absurd (h (sym (number_is _ e) ∙ z))

      always : 0 < length part → Decided a b v → v.refusal ≡ no_refusal
      always l (first_tighter h k i f e) = rw e refl
      always l (second_tighter h k i f e) = rw e refl
      always l (sides_differ h k i e) = absurd (omega (arith, ap length (part_is _ e)))
      always l (first_alone h k e) = rw e refl
      always l (second_alone h k e) = rw e refl
      always l (neither h k e) = absurd (omega (arith, ap length (part_is _ e)))

  pub holds_back : HoldsBack s part
  holds_back l = go ended
    where
      go : Decided a b v → Reads s (λ p. HoldingPart p part)
      go (first_tighter h k i f e) = rw (part_is _ e) (holding short s first h)
      go (second_tighter h k i f e) = rw (part_is _ e) (holding short s second k)
      go (sides_differ h k i e) = absurd (omega (arith, ap length (part_is _ e)))
      go (first_alone h k e) = rw (part_is _ e) (holding short s first h)
      go (second_alone h k e) = rw (part_is _ e) (holding short s second k)
      go (neither h k e) = absurd (omega (arith, ap length (part_is _ e)))

  -- ---- both accepted with one side
  module _ (p : Problem) (c d : Certificate) (w : Within short s p) (both : BothAccepted p first second c d) where
    abbrev x : States short s first c
    x = accepted_states short s first p w c both.one

    abbrev y : States short s second d
    y = accepted_states short s second p w d both.other

    -- what is compared are the bounds that the certificates state
    outdone_is : outdone a b ≡ is_tighter c.header.side (bound_of d.header) (bound_of c.header)
    outdone_is = rw (x.side, x.bound, y.bound)

    tightest : c.header.side ≡ d.header.side → Tightest p part c d
    tightest same = go ended
      where
        go : Decided a b v → Tightest p part c d
        go (first_tighter h k i f e) =
            let g = bound_of d.header in
            rw (part_is _ e)
            (record {
              certificate = c;
              accepted = both.one;
              side = refl;
              one = as_tight_itself _ _ g;
              other = kept _ _ _ (sym outdone_is ∙ f);
            })
        go (second_tighter h k i f e) =
            let g = bound_of c.header in
            rw (part_is _ e)
            (record {
              certificate = d;
              accepted = both.other;
              side = sym same;
              one = outdoes _ _ _ (sym outdone_is ∙ f);
              other = as_tight_itself _ _ g;
            })
        go (sides_differ h k i e) = absurd (i (x.side ∙ same ∙ sym y.side))
        go (first_alone h k e) = absurd (k y.number)
        go (second_alone h k e) = absurd (h x.number)
        go (neither h k e) = absurd (h x.number)

    equal : c.header.side ≡ d.header.side → is_less (bound_of c.header) (bound_of d.header) ≡ false
        → is_less (bound_of d.header) (bound_of c.header) ≡ false → part ≡ first
    equal same no_less no_more = go ended
      where
        go : Decided a b v → part ≡ first
        go (first_tighter h k i f e) = part_is _ e
        go (second_tighter h k i f e) = never (sym (not_tighter _ _ _ no_less no_more) ∙ sym outdone_is ∙ f)
        go (sides_differ h k i e) = absurd (i (x.side ∙ same ∙ sym y.side))
        go (first_alone h k e) = absurd (k y.number)
        go (second_alone h k e) = absurd (h x.number)
        go (neither h k e) = absurd (h x.number)

  pub tighter_back : TighterBack short s first second part
  tighter_back = record { tightest = tightest; equal = equal }

  -- ---- one of them accepted
  module _ (p : Problem) (w : Within short s p) where
    -- a certificate that the check does not refuse is accepted for this problem
    accepted_for : (t : List ℕ) → Passed (check_verdict short s t) → ((c : Certificate) → J.Accepted p t c → ⊥) → ⊥
    accepted_for t h none =
        let k = reads_at s (λ q. Checked q t (check_verdict short s t)) (found short s t h) p w.read in
        none k.certificate k.accepted

    alone_first : (c : Certificate) → J.Accepted p first c → ((d : Certificate) → J.Accepted p second d → ⊥)
        → part ≡ first
    alone_first c one none = go ended
      where
        go : Decided a b v → part ≡ first
        go (first_tighter h k i f e) = part_is _ e
        go (second_tighter h k i f e) = absurd (accepted_for second k none)
        go (sides_differ h k i e) = absurd (accepted_for second k none)
        go (first_alone h k e) = part_is _ e
        go (second_alone h k e) = absurd (accepted_for second k none)
        go (neither h k e) = absurd (h (accepted_states short s first p w c one).number)

    alone_second : (d : Certificate) → J.Accepted p second d → ((c : Certificate) → J.Accepted p first c → ⊥)
        → part ≡ second
    alone_second d other none = go ended
      where
        go : Decided a b v → part ≡ second
        go (first_tighter h k i f e) = absurd (accepted_for first h none)
        go (second_tighter h k i f e) = part_is _ e
        go (sides_differ h k i e) = absurd (accepted_for first h none)
        go (first_alone h k e) = absurd (accepted_for first h none)
        go (second_alone h k e) = part_is _ e
        go (neither h k e) = absurd (k (accepted_states short s second p w d other).number)

  pub alone_back : AloneBack short s first second part
  alone_back = record { one = λ p c w. alone_first p w c; other = λ p d w. alone_second p w d }

  -- ---- refusals
  pub first_refusal_lem : FirstRefusal short s first v.refusal
  first_refusal_lem nonzero others = go ended
    where
      go : Decided a b v → v.refusal ≡ a.refusal
      go (first_tighter h k i f e) = absurd (nonzero (number_is _ e))
      go (second_tighter h k i f e) = absurd (nonzero (number_is _ e))
      go (sides_differ h k i e) = absurd (others (number_is _ e))
      go (first_alone h k e) = absurd (nonzero (number_is _ e))
      go (second_alone h k e) = absurd (nonzero (number_is _ e))
      go (neither h k e) = rw e refl

  pub eleven : ElevenExactly short s first second v.refusal
  eleven = record { only = λ h. only h ended; always = λ p w d. always p w d ended }
    where
      differ : Passed a → Passed b → (a.side ≡ b.side → ⊥) → Reads s (λ p. SidesDiffer p first second)
      differ h k i =
          let r = found short s first h in
          let m = r.holds in
          let n = reads_at s (λ q. Checked q second b) (found short s second k) r.problem r.read in
          let e = ap (λ (u : CheckVerdict). u.side) m.verdict in
          let f = ap (λ (u : CheckVerdict). u.side) n.verdict in
          record {
            problem = r.problem;
            read = r.read;
            holds =
                record {
                  one = m.certificate;
                  other = n.certificate;
                  both = record { one = m.accepted; other = n.accepted };
                  differ = λ same. i (e ∙ same ∙ sym f);
                };
          }

      -- equal sides in the verdicts are equal sides of the certificates
      sides : (p : Problem) → Within short s p → (d : SidesDiffer p first second) → a.side ≡ b.side
          → d.one.header.side ≡ d.other.header.side
      sides p w d i =
          let x = accepted_states short s first p w d.one d.both.one in
          let y = accepted_states short s second p w d.other d.both.other in
          sym x.side ∙ i ∙ y.side

      first_passed : (p : Problem) → Within short s p → SidesDiffer p first second → Passed a
      first_passed p w d = (accepted_states short s first p w d.one d.both.one).number

      second_passed : (p : Problem) → Within short s p → SidesDiffer p first second → Passed b
      second_passed p w d = (accepted_states short s second p w d.other d.both.other).number

      only : v.refusal.number ≡ 11 → Decided a b v
          → (v.refusal ≡ certificate_refusal 2 11 0 0) × Reads s (λ p. SidesDiffer p first second)
      only n (first_tighter h k i f e) = absurd (omega (arith, number_is _ e))
      only n (second_tighter h k i f e) = absurd (omega (arith, number_is _ e))
      only n (sides_differ h k i e) = (rw e refl, differ h k i)
      only n (first_alone h k e) = absurd (omega (arith, number_is _ e))
      only n (second_alone h k e) = absurd (omega (arith, number_is _ e))
      only n (neither h k e) = absurd (omega (arith, number_is _ e, check_most first))

      always : (p : Problem) → Within short s p → SidesDiffer p first second → Decided a b v
          → v.refusal.number ≡ 11
      always p w d (first_tighter h k i f e) = absurd (d.differ (sides p w d i))
      always p w d (second_tighter h k i f e) = absurd (d.differ (sides p w d i))
      always p w d (sides_differ h k i e) = number_is _ e
      always p w d (first_alone h k e) = absurd (k (second_passed p w d))
      always p w d (second_alone h k e) = absurd (h (first_passed p w d))
      always p w d (neither h k e) = absurd (h (first_passed p w d))
