-- The records counted one by one.
use native.Mathlib.Omega.{arith}
use mathlib.Core.Path.{◌≡◌, refl, sym, ap, ◌∙◌}
use mathlib.Core.List.{List}
use Prim.Native.Nat.{ℕ, suc, ◌+◌, ◌-◌, ◌≤◌, ◌<◌}
use lib.ListN.{length}
use Rattle.format.specs.Commands.{Outcome, refused, given}
use Rattle.calls.specs.Report.{Runs, record_end, runs_at, with_runs, records_from, records_of}
use Rattle.calls.proofs.Records.{records_over, records_past, records_cut, records_one}
use Rattle.std.specs.Prelude.{Ok, Err}
use Rattle.weekly_report.specs.Steps.{count_outcome, count_from}

with_one : (r : Runs) (done : ℕ) (o : Outcome (List Runs)) → count_from done (with_runs r o) ≡ count_from (done + 1) o
with_one r done (refused number place) = refl
with_one r done (given l) = ap given (omega arith)

-- after some records what is left from an offset on gives the count
pub record Counting (s : List ℕ) (at count : ℕ) : Type 0 where
  pub within : at ≤ length s
  pub few : count ≤ 64
  pub is : count_from 0 (records_of s) ≡ count_from count (records_from (64 - count) s at)

pub counting_none : (s : List ℕ) → Counting s 0 0
unfolding records_of
counting_none s = record { within = omega arith; few = omega arith; is = refl }

module _ (s : List ℕ) (at count : ℕ) (c : Counting s at count) where
  pub counted_past : at < length s → count ≡ 64 → count_outcome (Err at) ≡ count_from 0 (records_of s)
  counted_past h e = sym (c.is ∙ rw e (ap (count_from 64) (records_past s at h)))

  pub counted_cut : at < length s → length s < record_end s at → count_outcome (Err at) ≡ count_from 0 (records_of s)
  counted_cut h k = sym (c.is ∙ ap (count_from count) (records_cut s at h (64 - count) k))

  pub counted_all : length s ≤ at → count_outcome (Ok count) ≡ count_from 0 (records_of s)
  counted_all h =
      sym (c.is ∙ ap (count_from count) (records_over s at (64 - count) h) ∙ ap given (omega arith))

  pub counting_more : at < length s → count < 64 → record_end s at ≤ length s → Counting s (record_end s at) (count + 1)
  counting_more h f k =
      let e : 64 - count ≡ suc (64 - (count + 1)) = omega arith in
      record {
        within = k;
        few = omega arith;
        is =
            c.is
            ∙ rw e (ap (count_from count) (records_one s at h (64 - (count + 1)) k))
            ∙ with_one (runs_at s at) count (records_from (64 - (count + 1)) s (record_end s at));
      }
