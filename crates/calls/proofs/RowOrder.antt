-- The order of a certificate's rows has no effect on acceptance, in any call. One law: a certificate with its rows in
-- another order is judged alike, and what is told of a verdict that accepts is told of that verdict alone.
use mathlib.Core.Path.{◌≡◌, refl, sym, ap, ap₂, ◌∙◌}
use mathlib.Core.Bool.{Bool, true, false, cond, ◌&&◌}
use mathlib.Core.List.{List, [], ◌∷◌}
use mathlib.Core.Logic.{◌⊎◌, inl, inr, ⊎_elim}
use Prim.Native.Nat.{ℕ, ◌*◌, ◌≤◌, ◌<◌}
use native.Mathlib.Omega.{arith}
use lib.Dec.{eqb, ltb}
use lib.ListN.{length}
use borrow.Author.Tests.{eq-eqb, ne_eqb, eqb-true, eqb-false, ltb-false}
use Rattle.counting.proofs.Cases.{clash}
use Rattle.counting.proofs.Listed.{same_or_not}
use Rattle.format.specs.ProblemRules.{Problem}
use Rattle.format.specs.CertificateRules.{Certificate}
use Rattle.format.specs.declared.certificate.Header.{Header}
use Rattle.format.specs.RowOrder.{OtherOrder}
use Rattle.format.proofs.RowOrder.{other_back}
use Rattle.joining_rule.specs.Joining.{closing}
use Rattle.accepting.specs.Judgement as J
use Rattle.accepting.proofs.RowOrder.{order_accepted}
use Rattle.calls.specs.declared.CheckVerdict.{CheckVerdict}
use Rattle.calls.specs.declared.PairVerdict.{PairVerdict}
use Rattle.calls.specs.Check.{accepted_check, check_verdict}
use Rattle.calls.specs.Pair.{accepted_pair, pair_verdict}
use Rattle.calls.specs.RowOrder.{Rearranged, Alike, check_number, pair_number}
use Rattle.calls.proofs.Endings.{check_by_lem, check_accepted_by, pair_by_lem, pair_accepted_by}

-- ---- verdicts that are alike
module _ {A : Type 0} (number : A → ℕ) where
  pub alike_same : (v : A) → Alike number v v
  alike_same v = record { accepted = λ h. refl; back = λ h. refl }

  pub alike_then : {u v w : A} → Alike number u v → Alike number v w → Alike number u w
  alike_then a b = record {
    accepted = λ h. let e = a.accepted h in b.accepted (ap number e ∙ h) ∙ e;
    back = λ h. let e = b.back h in a.back (ap number e ∙ h) ∙ e;
  }

  -- the law: what is told of a verdict, and accepts only where that does, is alike
  pub alike_told : {B : Type 0} (told : A → B) (count : B → ℕ) → ((v : A) → count (told v) ≡ 0 → number v ≡ 0)
      → {v w : A} → Alike number v w → Alike count (told v) (told w)
  alike_told told count only {v} {w} a = record {
    accepted = λ h. ap told (a.accepted (only v h));
    back = λ h. ap told (a.back (only w h));
  }

  -- both accept, or neither does
  pub alike_number : {v w : A} → Alike number v w → (number v ≡ 0 → number w ≡ 0) × (number w ≡ 0 → number v ≡ 0)
  alike_number a = (λ h. ap number (a.accepted h) ∙ h, λ h. ap number (a.back h) ∙ h)

-- ---- one certificate: what is judged of the other order
pub rearranged_back : {t u : List ℕ} → Rearranged t u → Rearranged u t
rearranged_back (inl e) = inl (sym e)
rearranged_back (inr o) = inr (other_back o)

record AcceptedAlike (p : Problem) (u : List ℕ) (c : Certificate) : Type 0 where
  other : Certificate
  accepted : J.Accepted p u other
  header : other.header ≡ c.header

accepted_alike : (p : Problem) {t u : List ℕ} → Rearranged t u → (c : Certificate) → J.Accepted p t c → AcceptedAlike p u c
accepted_alike p (inl e) c a = record { other = c; accepted = rw e a; header = refl }
accepted_alike p (inr o) c a = let k = order_accepted o c a in record { other = k.other; accepted = k.accepted; header = k.header }

module _ (short : Bool) (s : List ℕ) where
  -- ---- the check
  check_order : {t u : List ℕ} → Rearranged t u → check_number (check_verdict short s t) ≡ 0
      → check_verdict short s u ≡ check_verdict short s t
  check_order {t} {u} o =
      check_by_lem short s t (λ v. check_number v ≡ 0 → check_verdict short s u ≡ v) (λ r b h. absurd (omega (arith, b.least))) (λ p w c a h.
      let k = accepted_alike p o c a in
      check_accepted_by short s u p k.other w k.accepted
      ∙ ap (λ (x : Header). accepted_check x (closing p).rounds p.rule) k.header)

  pub check_alike : {t u : List ℕ} → Rearranged t u
      → Alike check_number (check_verdict short s t) (check_verdict short s u)
  check_alike o = record { accepted = check_order o; back = check_order (rearranged_back o) }

  -- ---- the pair: the rows of either certificate
  pair_order : {low low' high high' : List ℕ} → Rearranged low low' → Rearranged high high'
      → pair_number (pair_verdict short s low high) ≡ 0 → pair_verdict short s low' high' ≡ pair_verdict short s low high
  pair_order {low} {low'} {high} {high'} o u =
      pair_by_lem short s low high (λ v. pair_number v ≡ 0 → pair_verdict short s low' high' ≡ v) (λ r b h. absurd (omega (arith, b.least))) (λ p w c d b h.
      let k = accepted_alike p o c b.first in
      let m = accepted_alike p u d b.second in
      pair_accepted_by short s low' high' p k.other m.other w (record {
        first = k.accepted;
        second = m.accepted;
        lower = ap (λ (x : Header). x.side) k.header ∙ b.lower;
        upper = ap (λ (x : Header). x.side) m.header ∙ b.upper;
      })
      ∙ ap₂ (λ (x y : Header). accepted_pair x y (closing p).rounds p.rule) k.header m.header)

  pub pair_alike : {low low' high high' : List ℕ} → Rearranged low low' → Rearranged high high'
      → Alike pair_number (pair_verdict short s low high) (pair_verdict short s low' high')
  pair_alike o u = record { accepted = pair_order o u; back = pair_order (rearranged_back o) (rearranged_back u) }
