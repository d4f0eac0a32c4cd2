-- Texts that grow: one more byte, and one text after another.
use native.Mathlib.Omega.{arith}
use native.Mathlib.Numerals.{add-one}
use mathlib.Core.Path.{sym, ap, ◌∙◌}
use mathlib.Core.List.{List, [], ◌∷◌, ◌++◌, append_assoc, append-nil}
use Prim.Native.Nat.{ℕ, ◌+◌, ◌<◌}
use lib.ListN.{length, take, set, length-append}
use lib.Seq.{take-suc-set}
use Rattle.text.specs.Appending.{Appended}

-- nothing is appended yet
pub appended_none : (a : List ℕ) (at : ℕ) → Appended a at [] a at
appended_none a at = record { ends = omega arith; bytes = sym (append-nil (take at a)) }

pub appended_byte :
    {a s b : List ℕ} {at e : ℕ} (x : ℕ) → Appended a at s b e → e < length b
    → Appended a at (s ++ (x ∷ [])) (set b e x) (e + 1)
appended_byte {a} {s} {b} {at} {e} x p h = record {
  ends = simp length-append (omega (arith, p.ends));
  bytes =
      rw (add-one, take-suc-set)
      (ap (λ (l : List ℕ). l ++ (x ∷ [])) p.bytes ∙ append_assoc (take at a) s (x ∷ []));
}

pub appended_text :
    {a s b t d : List ℕ} {at e f : ℕ} → Appended a at s b e → Appended b e t d f → Appended a at (s ++ t) d f
appended_text {a} {s} {b} {t} {d} {at} p q = record {
  ends = simp length-append (omega (arith, p.ends, q.ends));
  bytes = q.bytes ∙ ap (λ (l : List ℕ). l ++ t) p.bytes ∙ append_assoc (take at a) s t;
}
