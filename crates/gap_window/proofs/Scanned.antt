-- The widest as far as the gaps are scanned, from the oldest on; and the array with a new gap.
use Rattle.std.proofs.Common.{◌≡◌, refl, sym, ◌∙◌, List, [], ◌∷◌, ◌++◌, ℕ, zero, suc, ◌≤◌, ◌<◌, length, get_or, take, map, reverse, Bor, min, arith}
use Rattle.std.proofs.lemmas.List.{reverse-append, ext_get_or, get_or-take, length-take-le}
use Rattle.counting.specs.Counting.{listed}
use Rattle.counting.proofs.Listed.{listed_length, listed_at, listed_take}
use Rattle.calls.specs.Fractions.{none}
use Rattle.calls.specs.declared.Fraction.{Fraction}
use Rattle.calls.specs.declared.GapWindow.{GapWindow}
use Rattle.calls.specs.declared.AgedGap.{AgedGap}
use Rattle.calls.specs.Window.{wider_of, widest_of, held}

-- the gaps scanned so far, the newest first
abbrev pub scanned : List (Bor Fraction) → List Fraction
scanned l = reverse (map (λ (x : Bor Fraction). x.now) l)

map_push : (l : List (Bor Fraction)) (x : Bor Fraction) → map (λ (y : Bor Fraction). y.now) (l ++ (x ∷ [])) ≡ map (λ (y : Bor Fraction). y.now) l ++ (x.now ∷ [])
map_push [] x = refl
map_push (y ∷ l) x = rw (map_push l x)

pub scanned_more : (l : List (Bor Fraction)) (x : Bor Fraction) → scanned (l ++ (x ∷ [])) ≡ x.now ∷ scanned l
scanned_more l x = rw (map_push l x) (reverse-append (map (λ (y : Bor Fraction). y.now) l) (x.now ∷ []))

pub widest_more : (l : List (Bor Fraction)) (x : Bor Fraction) (w : AgedGap) → w ≡ widest_of (scanned l) → widest_of (scanned (l ++ (x ∷ []))) ≡ wider_of x.now w
unfolding widest_of
widest_more l x w e = rw (scanned_more l x, ← e)

pub scanned_done : (w : GapWindow) → w.count ≤ 32 → length w.gaps ≡ 32 → take w.count w.gaps ≡ held w
unfolding held
scanned_done w h l =
    let m : min 32 w.count ≡ w.count = omega arith in
    rw m (sym (listed_take w.count w.gaps none (omega arith)))

-- ---- the gap of each age, with x before those of an array
pub newest_first : (x : Fraction) (gaps : List Fraction) → length gaps ≡ 32 → x ∷ take 31 gaps ≡ listed 32 (λ age. get_or (x ∷ gaps) age none)
newest_first x gaps h =
    let t = length-take-le 31 gaps (omega arith) in
    ext_get_or none (x ∷ take 31 gaps) (listed 32 (λ age. get_or (x ∷ gaps) age none)) (omega (arith, t, listed_length 32 (λ age. get_or (x ∷ gaps) age none)))
    (λ i b. at i (omega (arith, t)) ∙ sym (listed_at 32 (λ age. get_or (x ∷ gaps) age none) i none (omega (arith, t))))
  where
    at : (i : ℕ) → i < 32 → get_or (x ∷ take 31 gaps) i none ≡ get_or (x ∷ gaps) i none
    at zero b = refl
    at (suc i) b = get_or-take 31 gaps i none (omega arith)

abbrev pub window_of : List Fraction → ℕ → GapWindow
window_of gaps count = record { gaps = gaps; count = count }
