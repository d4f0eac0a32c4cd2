-- Laws of masks that are listed at the front of zeros.
use mathlib.Core.Path.{◌≡◌, refl, sym, ◌∙◌}
use mathlib.Core.Bool.{Bool, true, false}
use mathlib.Core.List.{List, [], ◌∷◌, ◌++◌, append_assoc}
use Prim.Native.Nat.{ℕ, suc, ◌+◌, ◌-◌, ◌<◌}
use native.Mathlib.Omega.{arith}
use lib.ListN.{length, drop, set, replicate, length-append}
use lib.Seq.{set_at}
use Rattle.calls.specs.Symmetries.{passing, mask_bytes}
use Rattle.calls.proofs.Masks.{passing_taken, passing_left}

-- one more in the place of a zero
in_place : (m rest xs : List ℕ) (n v : ℕ) → length m ≡ n → n < 256 → xs ≡ m ++ (replicate (256 - n) 0 ++ rest)
    → set xs n v ≡ (m ++ (v ∷ [])) ++ (replicate (256 - (n + 1)) 0 ++ rest)
in_place m rest xs n v h g e =
    let k : 256 - n ≡ suc (256 - (n + 1)) = omega arith in
    rw (e, k) (set_at m 0 (replicate (256 - (n + 1)) 0 ++ rest) v n h ∙ sym (append_assoc m (v ∷ []) (replicate (256 - (n + 1)) 0 ++ rest)))

-- the numbers below r that pass the test, zeros behind them up to 256, and then what stays
pub record Written (test : ℕ → Bool) (r count : ℕ) (out rest : List ℕ) : Type 0 where
  pub counted : length (passing test r) ≡ count
  pub bytes : out ≡ passing test r ++ (replicate (256 - count) 0 ++ rest)

module _ (test : ℕ → Bool) where
  pub written_start : (r : ℕ) → r ≡ 0 → (out rest : List ℕ) → out ≡ replicate 256 0 ++ rest → Written test r 0 out rest
  unfolding passing
  written_start r z out rest e = rw z (record { counted = refl; bytes = e })

  module _ (r count : ℕ) (out rest : List ℕ) (w : Written test r count out rest) where
    pub written_taken : true ≡ test r → count < 256 → Written test (r + 1) (count + 1) (set out count r) rest
    written_taken e h =
        let l = length-append (passing test r) (r ∷ []) in
        record {
          counted = rw (passing_taken test r (sym e)) (omega (arith, w.counted));
          bytes = rw (passing_taken test r (sym e)) (in_place (passing test r) rest out count r w.counted h w.bytes);
        }

    pub written_left : false ≡ test r → Written test (r + 1) count out rest
    written_left e = record {
      counted = rw (passing_left test r (sym e)) w.counted;
      bytes = rw (passing_left test r (sym e)) w.bytes;
    }

  pub written_done : (r count : ℕ) (out lent : List ℕ) → Written test r count out (drop 256 lent) → out ≡ mask_bytes (passing test r) lent
  unfolding mask_bytes
  written_done r count out lent w = rw w.counted w.bytes
