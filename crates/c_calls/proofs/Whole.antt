-- Whole verdicts in a lent run, one law for all calls: with a run that is too short refusal 1, and nothing is written;
-- with one that is long enough what the call says, by the tables and outputs alone. `of` is the verdict by whether
-- something is too short.
use borrow.Author.Tests.{lt-ltb, le-ltb}
use mathlib.Core.Path.{◌≡◌, refl, sym}
use mathlib.Core.Bool.{Bool, true}
use mathlib.Core.List.{List}
use Prim.Native.Nat.{ℕ, ◌≤◌, ◌<◌}
use lib.ListN.{length, get_or}
use Rattle.calls.specs.Tables.{Tables, TablesLeft}
use Rattle.verdict_numbers.specs.Numbers.{run_short, numbers_left, RunZeros}
use Rattle.verdict_numbers.proofs.RunsOfZeros.{unwritten}

-- refusal 1 changes no table
untouched : {t : Tables} → TablesLeft true t t
untouched = record { keys = refl; high = refl; low = refl }

-- an output beside the tables
pub beside : {N R T P : Type 0} → N × (R × T) → P → N × (R × (P × T))
beside t p = (t.0, (t.1.0, (p, t.1.1)))

module _ (n : ℕ) (run : List ℕ) (others : Bool) where
  by_short : (P : Bool → Type 0) → length run < n → P true → P (run_short n run others)
  by_short P h p = rw (lt-ltb (length run) n h) p

  by_long : (P : Bool → Type 0) → n ≤ length run → P others → P (run_short n run others)
  by_long P h p = rw (le-ltb (length run) n h) p

  -- an output x, which is `of` by whether something is too short
  module _ {A : Type 0} (of : Bool → A) (x : A) where
    pub when_short : length run < n → x ≡ of true → x ≡ of (run_short n run others)
    when_short = by_short (λ (b : Bool). x ≡ of b)

    pub when_long : n ≤ length run → x ≡ of others → x ≡ of (run_short n run others)
    when_long = by_long (λ (b : Bool). x ≡ of b)

  -- f is whether refusal 1 is given, by whether something is too short
  module _ {A : Type 0} (numbers : A → List ℕ) (of : Bool → A) (f : Bool → Bool) (lent : Tables) where
    abbrev pub Told : Bool → ℕ → List ℕ → Tables → Type 0
    Told b r left tables =
        (r ≡ get_or (numbers (of b)) 0 0) × ((left ≡ numbers_left (numbers (of b)) run) × TablesLeft (f b) lent tables)

    pub one_told : length run < n → get_or (numbers (of true)) 0 0 ≡ 1 → f true ≡ true → Told (run_short n run others) 1 run lent
    unfolding numbers_left
    one_told h e g = by_short (λ (b : Bool). Told b 1 run lent) h (sym e, (rw e refl, rw g untouched))

    -- the call's verdict w, its numbers ns, and what is returned and left
    module _ (h : n ≤ length run) (w : A) (e : w ≡ of others) (ns left : List ℕ) (r : ℕ) (tables : Tables) where
      pub told : ns ≡ numbers w → r ≡ get_or ns 0 0 → left ≡ numbers_left ns run → TablesLeft (f others) lent tables
          → Told (run_short n run others) r left tables
      told is number put t = by_long (λ (b : Bool). Told b r left tables) h (rw (is, e) at number, (rw (is, e) at put, t))

    -- and the zeros of the verdict, in what is left
    abbrev pub Whole : Bool → ℕ → List ℕ → Tables → Type 0
    Whole b r left tables =
        (r ≡ get_or (numbers (of b)) 0 0)
        × ((left ≡ numbers_left (numbers (of b)) run) × (TablesLeft (f b) lent tables × RunZeros n r left))

    pub too_short : length run < n → get_or (numbers (of true)) 0 0 ≡ 1 → f true ≡ true → Whole (run_short n run others) 1 run lent
    too_short h e g = let t = one_told h e g in (t.0, (t.1.0, (t.1.1, unwritten n run)))

    pub whole : n ≤ length run → (w : A) → w ≡ of others → (ns left : List ℕ) (r : ℕ) (tables : Tables) → ns ≡ numbers w
        → r ≡ get_or ns 0 0 → left ≡ numbers_left ns run → TablesLeft (f others) lent tables
        → RunZeros n (get_or (numbers w) 0 0) (numbers_left (numbers w) run) → Whole (run_short n run others) r left tables
    whole h w e ns left r tables is number put t z =
        let k = told h w e ns left r tables is number put t in
        (k.0, (k.1.0, (k.1.1, rw (number, put, is) z)))
