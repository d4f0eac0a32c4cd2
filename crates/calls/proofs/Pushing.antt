-- Between requests 06 and 11: a gap that an accepting pair reports without the mark never meets refusal 14, because p
-- has 32 bits and q has 16.
use mathlib.Core.Path.{◌≡◌, refl, sym, ap, ◌∙◌}
use mathlib.Core.Bool.{Bool, true, false}
use mathlib.Core.List.{List}
use Prim.Native.Nat.{ℕ, ◌*◌, ◌^◌, ◌≤◌, ◌<◌}
use native.Mathlib.Nat.{mul-le-mul}
use native.Mathlib.Omega.{arith}
use lib.Dec.{eqb, leb}
use lib.IntN.{ℤ, pos, negsuc, neg_ℤ, nat_abs, ◌*ℤ◌}
use lib.Signed.{lt_z, le_z}
use borrow.Author.Tests.{le-ltb, lt-leb, ne_eqb}
use Rattle.counting.specs.Counting.{Bounded}
use Rattle.counting.proofs.Cases.{clash}
use Rattle.integers.proofs.Ranges.{abs_sum, abs_neg, abs_mul_le}
use Rattle.format.specs.CertificateRules.{Certificate}
use Rattle.format.specs.declared.certificate.Header.{Header}
use Rattle.format.proofs.HeaderRange.{Ranged, read_ranged}
use Rattle.format.proofs.CertificateLimits.{read_sound}
use Rattle.calls.specs.declared.Fraction.{Fraction}
use Rattle.calls.specs.declared.PairVerdict.{PairVerdict}
use Rattle.calls.specs.Fractions.{gap_of, is_negative, unless_negative}
use Rattle.calls.specs.Check.{bound_of}
use Rattle.calls.specs.Pair.{pair_verdict}
use Rattle.calls.specs.Window.{numerator_limit, denominator_limit, is_refused, push_verdict}
use Rattle.calls.specs.Promises.{Stated, Pushable, GapPushable}
use Rattle.calls.specs.RowOrder.{PairAnyOrder}
use Rattle.calls.proofs.RowOrder.{pair_alike}
use Rattle.calls.proofs.Pairing.{PairClauses, pair_exactly, pair_clauses_and}

-- what a push asks of a gap
record Sized (f : Fraction) : Type 0 where
  num : nat_abs f.num < 2 ^ 48
  least : 1 ≤ f.den
  most : f.den < 2 ^ 32

-- a gap that is not below 0
pushable : (f : Fraction) (z : ℤ) → f.num ≡ z → Sized f → is_negative f ≡ false → Pushable f
unfolding push_verdict is_refused
pushable f (pos n) e s h = record {
  size = n;
  num = e;
  small = let k = ap nat_abs e in omega (arith, s.num);
  least = s.least;
  most = s.most;
  push = λ w.
      let k = ap nat_abs e in
      let small : n < numerator_limit = omega (arith, s.num) in
      let few : f.den < denominator_limit = omega (arith, s.most) in
      rw (e, le-ltb n 0 (omega arith), lt-leb numerator_limit n small, ne_eqb f.den 0 (λ z. omega (arith, s.least)), lt-leb denominator_limit f.den few) refl;
}
pushable f (negsuc n) e s h = clash (let k : is_negative f ≡ true = rw e refl in cc)

-- "(P × q − p × Q)/(Q × q)" of what two headers state
module _ (t u : Header) (a : Ranged t) (b : Ranged u) (p : 1 ≤ t.q) (q : 1 ≤ u.q) where
  abbrev gap : Fraction
  gap = gap_of (bound_of t) (bound_of u)

  product : (x : ℤ) (d : ℕ) → nat_abs x ≤ 2 ^ 31 → d < 2 ^ 16 → nat_abs (x *ℤ pos d) ≤ 2 ^ 31 * 65535
  product x d h k = abs_mul_le x (pos d) (2 ^ 31) 65535 h (omega arith)

  sized : Sized gap
  sized = record {
    num = omega (arith, abs_sum (u.p *ℤ pos t.q) (neg_ℤ (t.p *ℤ pos u.q)), abs_neg (t.p *ℤ pos u.q), product u.p t.q b.p a.q, product t.p u.q a.p b.q);
    least = mul-le-mul {m₁ = 1} q p;
    most = let h : u.q * t.q ≤ 65535 * 65535 = mul-le-mul {n₂ = 65535} {m₂ = 65535} (omega (arith, b.q)) (omega (arith, a.q)) in omega arith;
  }

-- of a pair of byte streams
module _ (short : Bool) (s low high : List ℕ) (low-bytes : Bounded 255 low) (high-bytes : Bounded 255 high) (v : PairVerdict)
    (is : v ≡ pair_verdict short s low high) where
  gap_pushable : GapPushable v
  gap_pushable h e = rw (k.gap, z) (pushable g g.num refl size z)
    where
      k : Stated s low high v
      k = (pair_exactly short s low high v is).only h

      t : Header
      t = k.first.header

      u : Header
      u = k.second.header

      g : Fraction
      g = gap_of (bound_of t) (bound_of u)

      z : is_negative g ≡ false
      z = sym k.empty ∙ e

      size : Sized g
      size =
          let c = k.hold.first.read in
          let d = k.hold.second.read in
          sized t u (read_ranged low low-bytes k.problem k.first c) (read_ranged high high-bytes k.problem k.second d)
          (read_sound k.problem low k.first c).q (read_sound k.problem high k.second d).q

  -- with the clauses that streams of any numbers have
  pub byte_clauses : PairClauses short s low high v is (GapPushable v × PairAnyOrder short s low high v)
  byte_clauses =
      pair_clauses_and short s low high v is (gap_pushable, λ low' high' o u. rw is (pair_alike short s o u))
