-- The claim, taken away: its coefficient at a key, from the factors.
use mathlib.Core.Path.{◌≡◌, sym}
use mathlib.Core.List.{List, [], ◌∷◌, ◌++◌}
use Prim.Native.Nat.{ℕ}
use lib.IntN.{ℤ, pos, neg_ℤ, ◌+ℤ◌, ◌*ℤ◌, +ℤ_idr, neg_ℤ-+ℤ}
use Rattle.integers.proofs.Ring.{negℤ-*ℤ, *ℤ_assoc, *ℤ-+ℤ}
use Rattle.polynomial.specs.Terms.{Term, term}
use Rattle.polynomial.specs.Algebra.{sum, match, coefficient, scale}
use Rattle.polynomial.proofs.Sums.{sum_append, sum_scale}
use Rattle.format.specs.declared.certificate.Header.{Header}
use Rattle.accepting.specs.Identity.{turned, claim_of}
use Rattle.identity_sums.specs.declared.Negated.{Negated}
use Rattle.identity_sums.specs.Tables.{Negates}

ring : (d a b s m : ℤ) → neg_ℤ (d *ℤ a) *ℤ s +ℤ neg_ℤ (d *ℤ b) *ℤ m ≡ neg_ℤ (d *ℤ (a *ℤ s +ℤ (b *ℤ m +ℤ pos 0)))
ring d a b s m =
    rw (negℤ-*ℤ (d *ℤ a) s, *ℤ_assoc d a s, negℤ-*ℤ (d *ℤ b) m, *ℤ_assoc d b m, +ℤ_idr (b *ℤ m), *ℤ-+ℤ d (a *ℤ s) (b *ℤ m)) (sym (neg_ℤ-+ℤ (d *ℤ (a *ℤ s)) (d *ℤ (b *ℤ m))))

pub claim_sum : (h : Header) (P : List Term) (r : Negated) → Negates h.side h.scale h.p h.q r → (k : ℕ)
    → r.objective *ℤ sum (match k) P +ℤ r.constant *ℤ match k 0 ≡ neg_ℤ (coefficient k (claim_of P h))
unfolding claim_of coefficient
claim_sum h P r n k =
    let A = turned h.side (pos h.q) in
    let B = turned h.side (neg_ℤ h.p) in
    rw (n.objective, n.constant, sum_scale (match k) (pos h.scale) (scale A P ++ (term 0 B ∷ [])), sum_append (match k) (scale A P) (term 0 B ∷ []), sum_scale (match k) A P)
    (ring (pos h.scale) A B (sum (match k) P) (match k 0))
