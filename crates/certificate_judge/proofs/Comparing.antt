-- What the comparison asks, from two cleared tables, and what it leaves of them.
use mathlib.Core.Path.{◌≡◌, sym, ap, ◌∙◌}
use mathlib.Core.List.{List, ◌++◌}
use Prim.Native.Nat.{ℕ, ◌+◌, ◌-◌, ◌≤◌, ◌<◌}
use native.Mathlib.Omega.{arith}
use lib.IntN.{ℤ, pos}
use lib.ListN.{length, get_or, drop, replicate, length-replicate, get_or-replicate, get_or-append}
use lib.Seq.{drop-drop, drop_at}
use Rattle.key_set.specs.Table.{Holds}
use Rattle.identity_check.specs.Compare.{Zeroed, Untouched}

-- ---- a table whose first n numbers are cleared
module _ (t t' : List ℤ) (n : ℕ) (cleared : t' ≡ replicate n (pos 0) ++ drop n t) where
  cleared_at : (q : ℕ) → q < n → get_or t' q (pos 0) ≡ pos 0
  cleared_at q h =
      rw cleared
      (get_or-append (replicate n (pos 0)) (drop n t) (pos 0) q (omega (arith, h, length-replicate n (pos 0))) ∙ get_or-replicate n q (pos 0) (pos 0) h)

  cleared_rest : n ≤ 2048 → drop 2048 t' ≡ drop 2048 t
  cleared_rest few =
      let e : n + (2048 - n) ≡ 2048 = omega arith in
      rw (cleared, sym e)
      (sym (drop-drop (2048 - n) n (replicate n (pos 0) ++ drop n t))
      ∙ ap (drop (2048 - n)) (drop_at (replicate n (pos 0)) (drop n t) n (length-replicate n (pos 0)))
      ∙ drop-drop (2048 - n) n t)

  -- and what a comparison leaves of it
  pub cleared_untouched : {t'' : List ℤ} → n ≤ 2048 → length t' ≡ length t → Untouched t' t'' → Untouched t t''
  cleared_untouched few l u = record { long = u.long ∙ l; rest = u.rest ∙ cleared_rest few }

-- ---- what the comparison asks of both
pub zeroed : {table : List ℕ} {n : ℕ} → Holds table n → (h h' l l' : List ℤ) → 2048 ≤ length h' → 2048 ≤ length l'
    → h' ≡ replicate n (pos 0) ++ drop n h → l' ≡ replicate n (pos 0) ++ drop n l → Zeroed table n h' l'
zeroed {n = n} holds h h' l l' a b e f =
    record { support = holds; in_hi = a; in_lo = b; hi_zero = cleared_at h h' n e; lo_zero = cleared_at l l' n f }
