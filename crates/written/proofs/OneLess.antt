-- A list within a limit, without its last element: it is within the limit, and that element was new and had room. So a
-- problem within the limits was so before its last command, and the command passed the checks.
use mathlib.Core.Path.{◌≡◌, refl, sym, ap}
use mathlib.Core.Bool.{Bool, true, false, cond, ◌&&◌}
use mathlib.Core.List.{List, [], ◌∷◌, ◌++◌}
use Prim.Native.Nat.{ℕ, zero, suc, ◌*◌, ◌^◌, ◌≤◌, ◌<◌}
use native.Mathlib.Omega.{arith}
use lib.Dec.{eqb, leb}
use lib.IntN.{ℤ, pos, negsuc}
use lib.ListN.{length, get_or, set, length-append}
use borrow.Author.Tests.{le-leb, lt-leb, lt-ltb, ne_eqb, eqb-false}
use Rattle.counting.proofs.Cases.{clash}
use Rattle.polynomial.specs.Monomial.{degree, among}
use Rattle.polynomial.specs.Terms.{Term, term, keys_of}
use Rattle.polynomial.proofs.Monomials.{key_low}
use Rattle.format.specs.All.{All}
use Rattle.format.specs.ProblemRules.{nonzero, fitting}
use Rattle.format.proofs.WithinLimits.{Distinct, Monomials}
use Rattle.format.proofs.ProblemLimits.{length_keys}
use Rattle.written.specs.Legal.{OfBits, Polynomial}

-- ---- lists
module _ {A : Type 0} (P : A → Type 0) where
  pub all_less : (l : List A) (a : A) → All P (l ++ (a ∷ [])) → All P l × P a
  unfolding All
  all_less [] a h = (tt, h.0)
  all_less (x ∷ l) a h = let k = all_less l a h.1 in ((h.0, k.0), k.1)

  -- an element that was exchanged
  pub all_unset : (l : List A) (n : ℕ) (a d : A) → n < length l → All P (set l n a) → P a × (P (get_or l n d) → All P l)
  unfolding All
  all_unset [] n a d b h = absurd (omega arith)
  all_unset (x ∷ l) zero a d b h = (h.0, λ p. (p, h.1))
  all_unset (x ∷ l) (suc n) a d b h =
      let k = all_unset l n a d (omega arith) h.1 in (k.0, λ p. (h.0, k.1 p))

among_less : (k x : ℕ) (ks : List ℕ) → among k (ks ++ (x ∷ [])) ≡ false → (among k ks ≡ false) × (x ≡ k → ⊥)
unfolding among
among_less k x [] h = (refl, go (eqb x k) refl h)
  where
    go : (b : Bool) → eqb x k ≡ b → cond b true false ≡ false → x ≡ k → ⊥
    go true e h = clash (cc)
    go false e h = eqb-false x k e
among_less k x (y ∷ ks) h = go (among_less k x ks) (eqb y k) h
  where
    go : (among k (ks ++ (x ∷ [])) ≡ false → (among k ks ≡ false) × (x ≡ k → ⊥)) → (b : Bool)
        → cond b true (among k (ks ++ (x ∷ []))) ≡ false → (cond b true (among k ks) ≡ false) × (x ≡ k → ⊥)
    go f true h = clash (cc)
    go f false h = f h

distinct_less : (ks : List ℕ) (x : ℕ) → Distinct (ks ++ (x ∷ [])) → Distinct ks × (among x ks ≡ false)
unfolding Distinct among
distinct_less [] x h = (tt, refl)
distinct_less (y ∷ ks) x h =
    let a = among_less y x ks h.0 in
    let d = distinct_less ks x h.1 in
    ((a.0, d.0), rw (ne_eqb y x (λ e. a.1 (sym e))) d.1)

-- ---- monomials
pub record LastMonomial (n d most : ℕ) (ks : List ℕ) (k : ℕ) : Type 0 where
  pub before : Monomials n d most ks
  pub fits : fitting n d k ≡ true
  pub new : among k ks ≡ false
  pub room : leb most (length ks) ≡ false
  pub low : k ≤ d * 2 ^ 56

pub monomials_less : (n d most : ℕ) (ks : List ℕ) (k : ℕ) → n ≤ 8 → Monomials n d most (ks ++ (k ∷ []))
    → LastMonomial n d most ks k
unfolding fitting
monomials_less n d most ks k b m =
    let l = length-append ks (k ∷ []) in
    let ds = all_less _ ks k m.degrees in
    let vs = all_less _ ks k m.variables in
    let dist = distinct_less ks k m.distinct in
    let c = m.count in
    record {
      before = record { count = omega arith; degrees = ds.0; variables = vs.0; distinct = dist.0 };
      fits = rw (le-leb (degree k) d ds.1) vs.1;
      new = dist.1;
      room = lt-leb most (length ks) (omega arith);
      low = key_low n d k b ds.1 vs.1;
    }

-- ---- terms
keys_less : (ts : List Term) (t : Term) → keys_of (ts ++ (t ∷ [])) ≡ keys_of ts ++ (t.key ∷ [])
unfolding keys_of
keys_less [] t = refl
keys_less (x ∷ ts) t = ap (λ (l : List ℕ). x.key ∷ l) (keys_less ts t)

pub not_nonzero : (c : ℤ) → (c ≡ pos 0 → ⊥) → nonzero c ≡ true
not_nonzero (pos zero) h = absurd (h refl)
not_nonzero (pos (suc n)) h = lt-ltb 0 (suc n) (omega arith)
not_nonzero (negsuc n) h = refl

pub record LastTerm (n d most b : ℕ) (ts : List Term) (k : ℕ) (c : ℤ) : Type 0 where
  pub before : Polynomial n d most b ts
  pub fits : (fitting n d k && nonzero c) ≡ true
  pub new : among k (keys_of ts) ≡ false
  pub room : leb most (length ts) ≡ false
  pub low : k ≤ d * 2 ^ 56
  pub bits : OfBits b c

pub terms_less : (n d most b : ℕ) (ts : List Term) (k : ℕ) (c : ℤ) → n ≤ 8
    → Polynomial n d most b (ts ++ (term k c ∷ [])) → LastTerm n d most b ts k c
terms_less n d most b ts k c h p =
    let m = monomials_less n d most (keys_of ts) k h (rw (keys_less ts (term k c)) at p.terms.monomials) in
    let z = all_less _ ts (term k c) p.terms.nonzero in
    let w = all_less _ ts (term k c) p.coefficients in
    record {
      before = record { terms = record { monomials = m.before; nonzero = z.0 }; coefficients = w.0 };
      fits = rw m.fits (not_nonzero c z.1);
      new = m.new;
      room = rw (length_keys ts) at m.room;
      low = m.low;
      bits = w.1;
    }
