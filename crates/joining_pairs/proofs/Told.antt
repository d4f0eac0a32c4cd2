-- The places where it is told what was done with a sum: each pair has its own, and no pair stands there.
use mathlib.Core.Path.{◌≡◌, ◌∙◌}
use mathlib.Core.Bool.{true}
use mathlib.Core.List.{List}
use Prim.Native.Nat.{ℕ, ◌+◌, ◌*◌, ◌≤◌, ◌<◌}
use native.Mathlib.Omega.{arith}
use lib.ListN.{length, get_or, set, length-set}
use lib.Seq.{get_or-set_other}
use Rattle.hash_chain.proofs.Chain.{chain_set}
use Rattle.joining_pairs.specs.Pairs.{pair_at, sum_divisor, told_at, meets, AllPairs, Slots}
use Rattle.joining_pairs.proofs.Places.{pair_order, meets_pair}

module _ (B : List ℕ) (few : length B ≤ 64) (p : ℕ) (e : pair_at B p ≡ true) where
  pub told_low : told_at p < 6144
  told_low = let o = pair_order B p e in omega (arith, o.0, o.1)

  told_once : (q : ℕ) → pair_at B q ≡ true → told_at q ≡ told_at p → q ≡ p
  told_once q f g =
      let o = pair_order B p e in
      let w = pair_order B q f in
      omega (arith, o.0, o.1, w.0, w.1)

  -- v is told of the pair at p
  module _ (pairs : List ℕ) (v : ℕ) where
    pub told_rest : (q : ℕ) → 6144 ≤ q → get_or (set pairs (told_at p) v) q 0 ≡ get_or pairs q 0
    told_rest q h = get_or-set_other pairs (told_at p) q v 0 (λ f. omega (arith, told_low))

    pub told_other : (q : ℕ) → pair_at B q ≡ true → (q ≡ p → ⊥) → get_or (set pairs (told_at p) v) (told_at q) 0 ≡ get_or pairs (told_at q) 0
    told_other q f d = get_or-set_other pairs (told_at p) (told_at q) v 0 (λ g. d (told_once q f g))

    pub told_index : AllPairs B pairs → AllPairs B (set pairs (told_at p) v)
    told_index a = record {
      remainders = record {
        long = length-set pairs (told_at p) v ∙ a.remainders.long;
        at = λ i h. told_rest (6176 + i) (omega arith) ∙ a.remainders.at i h;
      };
      chain = chain_set 2048 sum_divisor (meets B) (omega arith) (64 * length B) pairs a.chain (told_at p) v (omega arith)
          (λ h q b m g.
          let o = pair_order B p e in
          let w = pair_order B q (meets_pair B h q m) in
          omega (arith, o.0, o.1, w.0, w.1));
    }

    pub told_slots : (T : List ℕ) → Slots T pairs → Slots T (set pairs (told_at p) v)
    told_slots T a = record { long = length-set pairs (told_at p) v ∙ a.long; at = λ i h. told_rest (6144 + i) (omega arith) ∙ a.at i h }
