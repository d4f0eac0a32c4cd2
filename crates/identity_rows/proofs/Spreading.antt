-- The table of sums, spread over the compared keys entry by entry.
use mathlib.Core.Path.{◌≡◌, refl, sym, ap, ◌∙◌}
use mathlib.Core.Bool.{cond}
use mathlib.Core.List.{List}
use mathlib.Core.Logic.{⊎_elim}
use Prim.Native.Nat.{ℕ, zero, suc, ◌+◌, ◌-◌, ◌*◌, ◌/◌, ◌%◌, ◌≤◌, ◌<◌}
use native.Mathlib.Nat.{eq-or-lt_of_le}
use native.Mathlib.Numerals.{add-one}
use native.Mathlib.Omega.{arith}
use borrow.Author.Tests.{le-leb}
use lib.Dec.{leb}
use lib.IntN.{ℤ, pos, ◌*ℤ◌}
use lib.ListN.{length, get_or, set, length-set}
use lib.Seq.{get_or-set_same, get_or-set_other}
use Rattle.counting.specs.Counting.{listed}
use Rattle.counting.proofs.Cases.{lt_or_le}
use Rattle.polynomial.specs.Terms.{Term, term}
use Rattle.polynomial.specs.Algebra.{sum}
use Rattle.row_outer.specs.Frame.{share, spread_at, Framed, Next, Entered}
use Rattle.row_outer.proofs.Prefixes.{sum_none, sum_more}
use Rattle.row_outer.proofs.Frames.{rest_none, past_none, between_none, framed_entered}
use Rattle.identity_sums.specs.Tables.{SumsGrown}
use Rattle.identity_rows.specs.Spread.{entry_unit, Spread}
use Rattle.identity_sums.proofs.Growth.{grown_none, grown_same, grown_then}

-- what the places of a table before x give at a key
abbrev before : List ℕ → List Term → List ℤ → ℕ → ℕ → ℤ
before B G g x k = sum (share B G k) (listed x (λ y. term y (get_or g y (pos 0))))

-- ---- how many places before x are on or above the diagonal
unfoldable pub uppers : ℕ → ℕ
uppers zero = 0
uppers (suc x) = uppers x + cond (leb (x / 64) (x % 64)) 1 0

uppers_at : (x : ℕ) → x / 64 ≤ x % 64 → uppers (x + 1) ≡ uppers x + 1
unfolding uppers
uppers_at x h = rw (add-one x, le-leb (x / 64) (x % 64) h)

uppers_more : (x d : ℕ) → uppers x ≤ uppers (x + d)
unfolding uppers
uppers_more x zero = let z : x + zero ≡ x = omega arith in let e = ap uppers z in omega arith
uppers_more x (suc d) = let z : x + suc d ≡ suc (x + d) = omega arith in let e = ap uppers z in omega (arith, uppers_more x d)

uppers_later : {x y : ℕ} → x ≤ y → uppers x ≤ uppers y
uppers_later {x} {y} h = let z : x + (y - x) ≡ y = omega arith in let e = ap uppers z in omega (arith, uppers_more x (y - x))

uppers_all : uppers 4096 ≡ 2080
unfolding uppers
uppers_all = refl

-- ---- the places before x are spread and 0; `spent` of them are on or above the diagonal
pub record Spreading (keys : List ℕ) (n : ℕ) (B : List ℕ) (G : List Term) (g₀ hi₀ lo₀ : List ℤ) (x : ℕ) (g₁ hi₁ lo₁ : List ℤ) : Type 0 where
  pub spent : ℕ
  pub few : spent ≤ uppers x
  pub most : spent ≤ 2080
  pub grown : SumsGrown keys n hi₀ lo₀ (before B G g₀ x) (spent * entry_unit) hi₁ lo₁
  pub behind : (y : ℕ) → y < x → get_or g₁ y (pos 0) ≡ pos 0
  pub ahead : (y : ℕ) → x ≤ y → get_or g₁ y (pos 0) ≡ get_or g₀ y (pos 0)
  pub long : length g₁ ≡ length g₀

module _ {keys : List ℕ} {n : ℕ} {B : List ℕ} {G : List Term} {g₀ hi₀ lo₀ : List ℤ} where
  pub spreading_start : Spreading keys n B G g₀ hi₀ lo₀ 0 g₀ hi₀ lo₀
  spreading_start =
      record {
        spent = 0;
        few = omega arith;
        most = omega arith;
        grown = grown_none (λ q b. sum_none (share B G (get_or keys q 0)) (λ y. term y (get_or g₀ y (pos 0))));
        behind = λ y b. absurd (omega arith);
        ahead = λ y b. refl;
        long = refl;
      }

  module _ {x : ℕ} {g₁ hi₁ lo₁ : List ℤ} (h : Spreading keys n B G g₀ hi₀ lo₀ x g₁ hi₁ lo₁) {c : ℕ} (f : Framed (length B) c g₀) where
    pub spreading_entered : Entered c B x (get_or g₁ x (pos 0))
    spreading_entered = rw (h.ahead x (omega arith)) (framed_entered f x)

    -- there is another place on or above the diagonal
    module _ (b : x < 64 * length B) (w : length B ≤ 64) (u : x / 64 ≤ x % 64) where
      pub spreading_room : h.spent + 1 ≤ 2080
      spreading_room = omega (arith, h.few, uppers_at x u, uppers_later {x = x + 1} {y = 4096} (omega arith), uppers_all)

      pub spreading_more : {hi₂ lo₂ : List ℤ} → SumsGrown keys n hi₁ lo₁ (λ k. get_or g₁ x (pos 0) *ℤ share B G k x) entry_unit hi₂ lo₂
          → Spreading keys n B G g₀ hi₀ lo₀ (x + 1) (set g₁ x (pos 0)) hi₂ lo₂
      spreading_more k =
          let i : x < length g₁ = omega (arith, f.long, h.long) in
          record {
            spent = h.spent + 1;
            few = omega (arith, h.few, uppers_at x u);
            most = spreading_room;
            grown = grown_then h.grown (rw (h.ahead x (omega arith)) at k) (λ k. sum_more (share B G k) (λ y. term y (get_or g₀ y (pos 0))) x) (omega arith);
            behind = λ y l. ⊎_elim (λ e. rw e (get_or-set_same g₁ x (pos 0) (pos 0) i)) (λ d. get_or-set_other g₁ x y (pos 0) (pos 0) (λ e. omega arith) ∙ h.behind y d) (eq-or-lt_of_le {n = y} {m = x} (omega arith));
            ahead = λ y l. get_or-set_other g₁ x y (pos 0) (pos 0) (λ e. omega arith) ∙ h.ahead y (omega arith);
            long = length-set g₁ x (pos 0) ∙ h.long;
          }

    -- past places that are 0
    module _ (y : ℕ) (a : x ≤ y) (o : (z : ℕ) → x ≤ z → z < y → get_or g₀ z (pos 0) ≡ pos 0) where
      before_same : (k : ℕ) → before B G g₀ x k ≡ before B G g₀ y k
      before_same k =
          rest_none (share B G k) (λ y. term y (get_or g₀ y (pos 0))) x (y - x) (λ i l u. o i l (omega arith))
          ∙ ap (λ (z : ℕ). before B G g₀ z k) (omega arith)

      skip : Spreading keys n B G g₀ hi₀ lo₀ y g₁ hi₁ lo₁
      skip =
          record {
            spent = h.spent;
            few = omega (arith, h.few, uppers_later a);
            most = h.most;
            grown = grown_same h.grown before_same (omega arith);
            behind = λ z l. ⊎_elim (h.behind z) (λ q. h.ahead z q ∙ o z q l) (lt_or_le z x);
            ahead = λ z l. h.ahead z (omega arith);
            long = h.long;
          }

    pub spreading_skip : {m w y : ℕ} → m ≡ length B → Next m w y → w + 1 ≡ x → Spreading keys n B G g₀ hi₀ lo₀ y g₁ hi₁ lo₁
    spreading_skip {y = y} e q d = skip y (omega (arith, q.later)) (λ z i b. between_none f (rw e at q) z (omega arith) b)

    pub spreading_end : length B ≤ 64 → 64 * length B ≤ x → Spread keys n (spread_at B G g₀) g₀ hi₀ lo₀ g₁ hi₁ lo₁
    unfolding spread_at
    spreading_end w l =
        let m = h.most in
        record {
          grown = grown_same h.grown (λ k. before_same (x + 4096) (omega arith) (λ z a b. past_none f z (omega arith)) k ∙ sym (whole k)) (omega arith);
          cleared = λ y. ⊎_elim (h.behind y) (λ q. h.ahead y q ∙ past_none f y (omega arith)) (lt_or_le y x);
          long = h.long;
        }
      where
        whole : (k : ℕ) → before B G g₀ 4096 k ≡ before B G g₀ (x + 4096) k
        whole k =
            rest_none (share B G k) (λ y. term y (get_or g₀ y (pos 0))) 4096 x (λ i a b. past_none f i (omega arith))
            ∙ ap (λ (z : ℕ). before B G g₀ z k) (omega arith)
