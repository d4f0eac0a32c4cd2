-- Request 02 of document 02, "The certificate that supersedes": which of two certificates for one problem comes back,
-- and what the four lent numbers receive, for all inputs; then what the call promises.
use Rattle.std.specs.Prelude.{◌≡◌, Bool, false, cond, List, [], ◌⊎◌, ℕ, ◌≤◌, ◌<◌, eqb, length, take}
use Rattle.format.specs.ProblemRules.{Problem}
use Rattle.format.specs.CertificateRules.{Certificate}
use Rattle.accepting.specs.Judgement as J
use Rattle.accepting.specs.Bounds.{BoundedBelow, BoundedAbove}
use Rattle.calls.specs.Fractions.{is_less}
use Rattle.calls.specs.Refusals.{no_refusal, problem_refusal, certificate_refusal}
use Rattle.calls.specs.Check.{bound_of, check_verdict}
use Rattle.calls.specs.Promises.{Reads, Within}
use Rattle.calls.specs.Rules.{SameBound}
use Rattle.calls.specs.Zeros.{RefusalZeros}
use Rattle.calls.specs.declared.Fraction.{Fraction}
use Rattle.calls.specs.declared.Refusal.{Refusal}
use Rattle.calls.specs.declared.CheckVerdict.{CheckVerdict}
use Rattle.calls.specs.declared.Chosen.{Chosen}
use Rattle.calls.specs.declared.Chosen.TheVariants as Chosen
use Rattle.calls.specs.declared.SupersedingVerdict.{SupersedingVerdict}

-- ---- "hands back the bytes of the tighter one: the larger lower bound or the smaller upper bound, the first when
-- equal". Whether f is tighter than g, both of one side
unfoldable pub is_tighter : ℕ → Fraction → Fraction → Bool
is_tighter side f g = cond (eqb side 0) (is_less g f) (is_less f g)

-- "all four are 0 when a certificate comes back"
abbrev pub comes_back : Chosen → SupersedingVerdict
comes_back c = record { refusal = no_refusal; chosen = c }

-- a refusal comes "with an empty part of the first"
abbrev pub none_back : Refusal → SupersedingVerdict
none_back r = record { refusal = r; chosen = Chosen.Neither }

-- both are accepted; "11 when both are accepted and their sides differ, last in order, stream 2 and place 0"
unfoldable pub tighter_of : CheckVerdict → CheckVerdict → SupersedingVerdict
tighter_of a b =
    cond (eqb a.side b.side)
    (cond (is_tighter a.side b.bound a.bound) (comes_back Chosen.Second) (comes_back Chosen.First))
    (none_back (certificate_refusal 2 11 0 0))

abbrev pub is_accepted : CheckVerdict → Bool
is_accepted a = eqb a.refusal.number 0

-- "If only one is accepted, that one comes back. If neither is, the first one's refusal comes"
unfoldable pub superseding_of : CheckVerdict → CheckVerdict → SupersedingVerdict
superseding_of a b =
    cond (is_accepted a)
    (cond (is_accepted b) (tighter_of a b) (comes_back Chosen.First))
    (cond (is_accepted b) (comes_back Chosen.Second) (none_back a.refusal))

-- by what the check says of each by itself; so refusal 1, those of the problem and 7 are the first one's
unfoldable pub superseding_verdict : Bool → List ℕ → List ℕ → List ℕ → SupersedingVerdict
superseding_verdict short s first second = superseding_of (check_verdict short s first) (check_verdict short s second)

-- what comes back: the bytes of the one chosen, or "an empty part of the first"
abbrev pub part_of : Chosen → List ℕ → List ℕ → List ℕ
part_of Chosen.First first second = first
part_of Chosen.Second first second = second
part_of Chosen.Neither first second = take 0 first

-- the same as a stream's number: "stream (0 problem, 1 first certificate, 2 second)", 0 for neither
abbrev pub stream_of : Chosen → ℕ
stream_of Chosen.First = 1
stream_of Chosen.Second = 2
stream_of Chosen.Neither = 0

-- "Four numbers, each lent singly, receive the refusal's number, stream, place and key"
abbrev pub refusal_in : ℕ → ℕ → ℕ → ℕ → Refusal
refusal_in number stream place key = record { number = number; stream = stream; place = place; key = key }

-- ---- what the call promises. s is the problem stream, first and second are the certificates, part is what comes back,
-- and f what the four numbers hold at exit; short is true where a work table is too short
-- the number is 0, one of the check's 1 to 9, or 11: "the first one's refusal comes", and "11 when both are accepted
-- and their sides differ". The pair's 10 is never given
abbrev pub SupersedingNumbered : ℕ → Type 0
SupersedingNumbered number = (number ≤ 9) ⊎ (number ≡ 11)

-- "all four are 0 when a certificate comes back", and only then; an accepted certificate is not empty
pub record ZeroExactly (part : List ℕ) (f : Refusal) : Type 0 where
  pub only : f.number ≡ 0 → 0 < length part
  pub always : 0 < length part → f ≡ no_refusal

-- with a refusal nothing comes back: neither certificate is chosen, and the part is empty
pub record ChosenZeros (f : Refusal) (chosen : Chosen) : Type 0 where
  pub refusal : RefusalZeros f
  pub none : 0 < f.number → chosen ≡ Chosen.Neither

pub record PartZeros (f : Refusal) (part : List ℕ) : Type 0 where
  pub refusal : RefusalZeros f
  pub empty : 0 < f.number → part ≡ []

-- a part that gives a certificate accepted for the problem, whose bound holds at every allowed point by its side:
-- "side 0 lower, 1 upper"
pub record HoldingPart (p : Problem) (part : List ℕ) : Type 0 where
  pub certificate : Certificate
  pub accepted : J.Accepted p part certificate
  pub sides : certificate.header.side ≤ 1
  pub lower : certificate.header.side ≡ 0 → BoundedBelow p certificate.header.p certificate.header.q
  pub upper : certificate.header.side ≡ 1 → BoundedAbove p certificate.header.p certificate.header.q

-- what comes back, where it is not empty, is such a part
abbrev pub HoldsBack : List ℕ → List ℕ → Type 0
HoldsBack s part = 0 < length part → Reads s (λ p. HoldingPart p part)

-- the two streams give certificates that are both accepted
pub record BothAccepted (p : Problem) (first second : List ℕ) (c d : Certificate) : Type 0 where
  pub one : J.Accepted p first c
  pub other : J.Accepted p second d

-- a bound f of this side is at least as tight as g: not the smaller lower bound, nor the larger upper bound
pub record AsTight (side : ℕ) (f g : Fraction) : Type 0 where
  pub lower : side ≡ 0 → is_less f g ≡ false
  pub upper : side ≡ 1 → is_less g f ≡ false

-- of two certificates of one side, the one that the part gives is at least as tight as both
pub record Tightest (p : Problem) (part : List ℕ) (c d : Certificate) : Type 0 where
  pub certificate : Certificate
  pub accepted : J.Accepted p part certificate
  pub side : certificate.header.side ≡ c.header.side
  pub one : AsTight c.header.side (bound_of certificate.header) (bound_of c.header)
  pub other : AsTight c.header.side (bound_of certificate.header) (bound_of d.header)

-- "the bytes of the tighter one .., the first when equal", where both are accepted with one side
pub record TighterBack (short : Bool) (s first second part : List ℕ) : Type 0 where
  pub tightest : (p : Problem) (c d : Certificate) → Within short s p → BothAccepted p first second c d
      → c.header.side ≡ d.header.side → Tightest p part c d
  pub equal : (p : Problem) (c d : Certificate) → Within short s p → BothAccepted p first second c d
      → c.header.side ≡ d.header.side → is_less (bound_of c.header) (bound_of d.header) ≡ false
      → is_less (bound_of d.header) (bound_of c.header) ≡ false → part ≡ first

-- "If only one is accepted, that one comes back"
pub record AloneBack (short : Bool) (s first second part : List ℕ) : Type 0 where
  pub one : (p : Problem) (c : Certificate) → Within short s p → J.Accepted p first c
      → ((d : Certificate) → J.Accepted p second d → ⊥) → part ≡ first
  pub other : (p : Problem) (d : Certificate) → Within short s p → J.Accepted p second d
      → ((c : Certificate) → J.Accepted p first c → ⊥) → part ≡ second

-- "If neither is, the first one's refusal comes": every other refusal is the check's of the first
abbrev pub FirstRefusal : Bool → List ℕ → List ℕ → Refusal → Type 0
FirstRefusal short s first f =
    (f.number ≡ 0 → ⊥) → (f.number ≡ 11 → ⊥) → f ≡ (check_verdict short s first).refusal

-- both are accepted and their sides differ
pub record SidesDiffer (p : Problem) (first second : List ℕ) : Type 0 where
  pub one : Certificate
  pub other : Certificate
  pub both : BothAccepted p first second one other
  pub differ : one.header.side ≡ other.header.side → ⊥

-- refusal 11 is given exactly there, "stream 2 and place 0"
pub record ElevenExactly (short : Bool) (s first second : List ℕ) (f : Refusal) : Type 0 where
  pub only : f.number ≡ 11 → (f ≡ certificate_refusal 2 11 0 0) × Reads s (λ p. SidesDiffer p first second)
  pub always : (p : Problem) → Within short s p → SidesDiffer p first second → f.number ≡ 11

-- ---- between two streams that differ in the joining rule, or in the sparse order (Rules.antt has the relations R): s,
-- and t in its place. Each certificate that is accepted with s is accepted with t, or 7 applies to the problem there;
-- but the other one may be accepted with t alone, and then the two are compared there
module _ (short : Bool) (t first second : List ℕ) where
  abbrev pub decided_with : SupersedingVerdict
  decided_with = superseding_verdict short t first second

  -- a is what the check says with s of what came back there: with t what comes back is accepted, of the same side, and
  -- at least as tight
  abbrev pub AsTightBack : CheckVerdict → Type 0
  AsTightBack a =
      let b = check_verdict short t (part_of decided_with.chosen first second) in
      (b.refusal ≡ no_refusal) × ((b.side ≡ a.side) × AsTight a.side b.bound a.bound)

-- with t the check accepts the part that came back with s, with the same side and bound; and the call hands back what
-- is as tight, unless the other certificate is accepted there with the other side, where it gives 11
pub record BackKept (short : Bool) (s t first second part : List ℕ) : Type 0 where
  pub accepted : (check_verdict short t part).refusal ≡ no_refusal
  pub same : SameBound (check_verdict short t part) (check_verdict short s part)
  pub back : ((decided_with short t first second).refusal ≡ certificate_refusal 2 11 0 0)
      ⊎ (((decided_with short t first second).refusal ≡ no_refusal)
      × AsTightBack short t first second (check_verdict short s part))

pub record TighterWith (short : Bool) (s t first second part : List ℕ) (f : Refusal) : Type 0 where
  pub one : f.number ≡ 0
      → ((decided_with short t first second).refusal ≡ problem_refusal 7 0) ⊎ BackKept short s t first second part
  -- where both are accepted with s, the same part comes back, or 11 as before
  pub both : (check_verdict short s first).refusal.number ≡ 0 → (check_verdict short s second).refusal.number ≡ 0
      → ((decided_with short t first second).refusal ≡ problem_refusal 7 0)
      ⊎ (((decided_with short t first second).refusal ≡ f)
      × (part_of (decided_with short t first second).chosen first second ≡ part))

abbrev pub TighterKept : (List ℕ → List ℕ → Type 0) → Bool → List ℕ → List ℕ → List ℕ → List ℕ → Refusal → Type 0
TighterKept R short s first second part f = (t : List ℕ) → R s t → TighterWith short s t first second part f
