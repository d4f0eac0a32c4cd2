-- What a call leaves of a lent table from place 2,048 on.
use mathlib.Core.Path.{◌≡◌, sym, ap, ◌∙◌}
use mathlib.Core.List.{List}
use Prim.Native.Nat.{ℕ, ◌+◌, ◌-◌, ◌≤◌}
use native.Mathlib.Omega.{arith}
use lib.IntN.{ℤ, pos}
use lib.ListN.{length, get_or, length-drop}
use lib.Seq.{get_or-drop, ext_get_or}
use Rattle.wide_sums.specs.Sums.{Near, Shrunk}
use Rattle.identity_check.specs.Compare.{Untouched}

rest_untouched : {n : ℕ} {t₀ t₁ : List ℤ} → n ≤ 2048 → length t₁ ≡ length t₀ → ((q : ℕ) → n ≤ q → get_or t₁ q (pos 0) ≡ get_or t₀ q (pos 0)) → Untouched t₀ t₁
rest_untouched {t₀ = t₀} {t₁ = t₁} few long same =
    record {
      long = long;
      rest = ext_get_or (pos 0) _ _ (length-drop 2048 t₁ ∙ ap (λ (n : ℕ). n - 2048) long ∙ sym (length-drop 2048 t₀))
          (λ q b. get_or-drop 2048 t₁ q (pos 0) ∙ same (2048 + q) (omega arith) ∙ sym (get_or-drop 2048 t₀ q (pos 0)));
    }

pub near_untouched : {n c : ℕ} {t₀ t₁ : List ℤ} → n ≤ 2048 → Near n c t₀ t₁ → Untouched t₀ t₁
near_untouched few h = rest_untouched few h.long h.rest

pub shrunk_untouched : {n c : ℕ} {t₀ t₁ : List ℤ} → n ≤ 2048 → Shrunk n c t₀ t₁ → Untouched t₀ t₁
shrunk_untouched few h = rest_untouched few h.long h.rest

pub untouched_then : {t₀ t₁ t₂ : List ℤ} → Untouched t₀ t₁ → Untouched t₁ t₂ → Untouched t₀ t₂
untouched_then x y = record { long = y.long ∙ x.long; rest = y.rest ∙ x.rest }
