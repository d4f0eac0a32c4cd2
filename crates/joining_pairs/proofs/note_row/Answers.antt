-- `note_row`: one more pair of index i.
use Rattle.std.proofs.Common.{◌≡◌, ◌+◌, ◌*◌, ◌^◌, ◌<◌, get_or, arith}
use Rattle.round_laws.proofs.Fits.{bits_next, bits_to}
use Rattle.joining_pairs.proofs.Pairs.{index_to, beside_same, beside_then}
use Rattle.joining_pairs.proofs.note_row.Goals as goal

pub loop-k-init : goal.loop-k-init
loop-k-init c =
    let p = c.requires in
    let few = p.0.few in
    record {
      index = index_to _ _ _ (omega arith) _ (λ q l u o w. omega arith) p.1;
      sums = bits_to _ _ _ _ (λ x y o w u. omega arith) p.2;
      beside = beside_same _ _;
    }

pub loop-k-preserved : goal.loop-k-preserved
loop-k-preserved c =
    let keys = c.requires.0.keys in
    let b = c.args.basis.now in
    let i = c.args.i in
    let k = c.loop-k.k in
    let v = c.note_pair-bits.ensures in
    let low : get_or b i 0 + get_or b k 0 < 2 ^ 61 = omega (arith, keys i, keys k) in
    let e : 64 * i + k + 1 ≡ 64 * i + (k + 1) = omega arith in
    record {
      index = rw e at v.1;
      sums = rw v.0 (rw e at (bits_next _ c.requires.0.few _ _ _ (omega arith) low c.loop-k.invariant.sums));
      beside = beside_then _ _ _ _ c.loop-k.invariant.beside v.2;
    }

pub returns : goal.returns
returns c =
    let few = c.requires.0.few in
    let v = c.loop-k.invariant in (
      index_to _ _ _ (omega arith) _ (λ q l u o w. omega arith) v.index,
      bits_to _ _ _ _ (λ x y o w u. omega arith) v.sums,
      v.beside,
    )
