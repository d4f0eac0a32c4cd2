-- The records answered one by one: the verdict of each is counted and its bytes are written.
use native.Mathlib.Omega.{arith}
use native.Mathlib.Numerals.{add-one}
use mathlib.Core.Path.{◌≡◌, refl, sym, ap, ◌∙◌}
use mathlib.Core.Bool.{Bool, true, false, cond}
use mathlib.Core.List.{List, [], ◌∷◌, ◌++◌, flat_map}
use Prim.Native.Nat.{ℕ, zero, suc, ◌+◌, ◌-◌, ◌*◌, ◌≤◌, ◌<◌}
use lib.Dec.{ltb}
use borrow.Author.Tests.{ltb-true, ltb-false}
use lib.ListN.{length, get_or, take, drop, length-drop}
use lib.Seq.{take_all}
use borrow.Rule.Slice.PartMut.{mid_of, put_mid}
use Rattle.counting.proofs.Cases.{clash}
use Rattle.format.specs.Commands.{given}
use Rattle.calls.specs.Tables.{Tables, TablesLeft}
use Rattle.calls.specs.declared.PairVerdict.{PairVerdict}
use Rattle.calls.specs.declared.ReportVerdict.{ReportVerdict}
use Rattle.calls.specs.Report.{Runs, record_end, runs_at, records_from, records_of, pair_on, record_bytes}
use Rattle.calls.specs.Report.{record_length, entry, output_left, none_accepted, with_accepted, with_verdict, result_of, no_runs}
use Rattle.calls.proofs.Records.{records_over, Taken, taken}
use Rattle.calls.proofs.Reports.{entry_length}
use Rattle.record_writer.proofs.Written.{next, kept}
use Rattle.work_tables.specs.Tables.{Long, Rest}
use Rattle.work_tables.proofs.Tables.{tables_cleared}
use Rattle.weekly_report.specs.Steps.{Roomy, Answered}
use Rattle.work_tables.proofs.Again.{cleared_long, cleared_rest}

-- after i records, with what is left from an offset on
pub record Answering (s out₀ : List ℕ) (lent : Tables) (out : List ℕ) (now : Tables) (t : ReportVerdict) (at i : ℕ) : Type 0 where
  pub records : List Runs
  pub all : records_of s ≡ given records
  pub room : record_length * length records ≤ length out₀
  pub within : at ≤ length s
  pub some : i ≤ length records
  pub rest : records_from (64 - i) s at ≡ given (drop i records)
  pub written : out ≡ flat_map entry (take i records) ++ drop (record_length * i) out₀
  pub long : length out ≡ length out₀
  pub few : t.accepted ≤ i
  pub result : result_of t (drop i records) ≡ result_of none_accepted records
  pub tables : Long now
  pub past : Rest lent now
  pub cleared : 0 < i → TablesLeft false lent now

pub answering_none : (s out : List ℕ) (lent : Tables) (t : ReportVerdict) → Roomy s out → Long lent → t ≡ none_accepted
    → Answering s out lent out lent t 0 0
unfolding records_of flat_map
answering_none s out lent t r l e = record {
  records = r.records;
  all = r.read;
  room = r.room;
  within = omega arith;
  some = omega arith;
  rest = r.read;
  written = refl;
  long = refl;
  few = rw e (omega arith);
  result = rw e refl;
  tables = l;
  past = record { keys = refl; high = refl; low = refl };
  cleared = λ h. absurd (omega arith);
}

-- what is left starts with a record
module _ {A : Type 0} (l : List A) (i : ℕ) (x : A) (r : List A) (e : drop i l ≡ x ∷ r) where
  one_there : i < length l
  one_there = omega (arith, length-drop i l, ap length e)

drop_next : {A : Type 0} (l : List A) (i : ℕ) (x d : A) (r : List A) → drop i l ≡ x ∷ r
    → (get_or l i d ≡ x) × (drop (suc i) l ≡ r)
drop_next [] zero x d r e = clash (cc)
drop_next [] (suc i) x d r e = clash (cc)
drop_next (y ∷ l) zero x d r e = (cc, cc)
drop_next (y ∷ l) (suc i) x d r e = drop_next l i x d r e

one_more : (t : ReportVerdict) (v : PairVerdict) → (with_verdict t v).accepted ≤ t.accepted + 1
unfolding with_verdict
one_more t v = go (ltb 0 v.refusal.number)
  where
    go : (b : Bool) → (cond b t (with_accepted t v)).accepted ≤ t.accepted + 1
    go true = omega arith
    go false = omega arith

module _ (s out₀ : List ℕ) (lent : Tables) (out : List ℕ) (now : Tables) (t : ReportVerdict) (at i : ℕ)
    (a : Answering s out₀ lent out now t at i) (h : at < length s) where
  one : Taken s at (64 - i) (drop i a.records)
  one = taken (64 - i) s at (drop i a.records) a.rest h

  here : i < length a.records
  here = one_there a.records i (runs_at s at) one.rest one.list_is

  pub one_whole : record_end s at ≤ length s
  one_whole = one.whole

  pub one_few : i < 64
  one_few = omega (arith, one.left_is)

  pub one_room : record_length * i + record_length ≤ length out
  one_room = omega (arith, a.room, a.long, here)

  module _ (v : PairVerdict) (is : v ≡ pair_on (runs_at s at)) (ys : List ℕ)
      (put : ys ≡ record_bytes v ++ drop record_length (mid_of (record_length * i) (length out - record_length * i) out))
      (next-tables : Tables) (left : TablesLeft false now next-tables) (end : ℕ)
      (ends_at : end ≡ record_end s at) where
    runs_are : get_or a.records i no_runs ≡ runs_at s at
    runs_are = (drop_next a.records i (runs_at s at) no_runs one.rest one.list_is).0

    left_are : drop (i + 1) a.records ≡ one.rest
    left_are = rw add-one (drop_next a.records i (runs_at s at) no_runs one.rest one.list_is).1

    abbrev output : List ℕ
    output = put_mid (record_length * i) (length out - record_length * i) out ys

    output_is : output ≡ flat_map entry (take (i + 1) a.records) ++ drop (record_length * (i + 1)) out₀
    output_is =
        next entry record_length entry_length a.records i out₀ out no_runs ys here a.written
        (put ∙ ap (λ (b : List ℕ). b ++ drop record_length (mid_of (record_length * i) (length out - record_length * i) out))
        (ap record_bytes is ∙ ap entry (sym runs_are)))

    result_is : (u : ReportVerdict) → u ≡ with_verdict t v
        → result_of u (drop (i + 1) a.records) ≡ result_of none_accepted a.records
    unfolding result_of
    result_is u e = rw (left_are, e, is) (rw one.list_is at a.result)

    pub answering_more : (u : ReportVerdict) → u ≡ with_verdict t v
        → Answering s out₀ lent output next-tables u end (i + 1)
    answering_more u e =
        let f : 64 - (i + 1) ≡ one.fewer = omega (arith, one.left_is) in
        let c = tables_cleared a.past left in
        record {
          records = a.records;
          all = a.all;
          room = a.room;
          within = omega (arith, ends_at, one_whole);
          some = omega (arith, here);
          rest = rw (ends_at, f, left_are) one.read;
          written = output_is;
          long =
              kept entry record_length entry_length a.records (i + 1) out₀ output (omega (arith, here))
              (omega (arith, one_room, a.long)) output_is;
          few = rw e (omega (arith, one_more t v, a.few));
          result = result_is u e;
          tables = cleared_long a.tables left;
          past = cleared_rest c;
          cleared = λ p. c;
        }

-- ---- when nothing is left
module _ (s out₀ : List ℕ) (lent : Tables) (out : List ℕ) (now : Tables) (t : ReportVerdict) (at i : ℕ)
    (a : Answering s out₀ lent out now t at i) where
  -- no record stands there
  pub at_end : length s < record_end s at → length s ≤ at
  at_end k = go (ltb at (length s)) refl
    where
      go : (b : Bool) → ltb at (length s) ≡ b → length s ≤ at
      go true e = absurd (omega (arith, k, one_whole s out₀ lent out now t at i a (ltb-true at (length s) e)))
      go false e = ltb-false at (length s) e

module _ (s out₀ : List ℕ) (lent : Tables) (out : List ℕ) (now : Tables) (t : ReportVerdict) (at i : ℕ)
    (a : Answering s out₀ lent out now t at i) (h : length s ≤ at) where
  none_left : [] ≡ drop i a.records
  none_left = let e : given [] ≡ given (drop i a.records) = sym (records_over s at (64 - i) h) ∙ a.rest in cc

  all_done : i ≡ length a.records
  all_done = omega (arith, a.some, length-drop i a.records, ap length none_left)

  done_are : (t ≡ result_of none_accepted a.records) × (out ≡ output_left (given a.records) out₀)
  unfolding result_of output_left
  done_are = (
    rw (← none_left) at a.result,
    a.written ∙ rw (all_done, take_all (length a.records) a.records (omega arith)) refl,
  )

  pub answering_done : Answered s out₀ t out
  answering_done l r =
      let e : given l ≡ given a.records = sym r ∙ a.all in
      let f : l ≡ a.records = cc in
      rw f done_are
