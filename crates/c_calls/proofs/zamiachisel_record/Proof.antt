-- `zamiachisel_record`: 1 with nothing written, or the number and the record of the pair's verdict.
use borrow.Author.Rules.{rules}
use native.Mathlib.Omega.{arith}
use mathlib.Core.Path.{◌≡◌, refl, ◌∙◌}
use mathlib.Core.Bool.{false}
use mathlib.Core.List.{List, ◌++◌}
use Prim.Native.Nat.{ℕ, ◌≤◌, ◌<◌}
use lib.ListN.{length, drop}
use borrow.Author.Tests.{lt-ltb, le-ltb}
use Rattle.calls.specs.declared.PairVerdict.{PairVerdict}
use Rattle.calls.specs.Pair.{pair_verdict}
use Rattle.calls.specs.Report.{Runs, three_runs, pair_on, record_bytes, record_length}
use Rattle.calls.specs.BidTool.{tool_number, tool_bytes, OneRecord, AnyOrder, ToolZeros, ToolKept}
use Rattle.calls.specs.Rules.{UnderOne, AtLarger}
use Rattle.calls.proofs.Rules.{under_leads, larger_leads}
use Rattle.calls.proofs.Told.{Bytes}
use Rattle.calls.proofs.BidTools.{one_record, tool_zeros, tool_kept, any_order}
use Rattle.c_calls.proofs.zamiachisel_record.Statement.{statement}
use Rattle.c_calls.proofs.zamiachisel_record.Tie as tie

module _ (out problem low high : List ℕ) where
  abbrev runs : Runs
  runs = three_runs problem low high

  abbrev Promised : ℕ → List ℕ → Type 0
  Promised n left =
      (n ≡ tool_number out runs)
      × ((left ≡ tool_bytes out runs)
      × (OneRecord out runs left n
      × (AnyOrder out runs n
      × (ToolZeros out left × (ToolKept UnderOne out runs left n × ToolKept AtLarger out runs left n)))))

  module _ (bytes : Bytes runs) where
    promised : (n : ℕ) (left : List ℕ) → n ≡ tool_number out runs → left ≡ tool_bytes out runs → Promised n left
    promised n left e f = (
      e,
      (
        f,
        (
          one_record out runs left n e f bytes,
          (
            any_order out runs n e,
            (
              tool_zeros out runs left n e f bytes,
              (tool_kept out runs left n e f UnderOne under_leads, tool_kept out runs left n e f AtLarger larger_leads),
            ),
          ),
        ),
      ),
    )

    short : length out < record_length → Promised 1 out
    unfolding tool_number tool_bytes
    short h =
        promised 1 out (rw (lt-ltb (length out) record_length h) refl) (rw (lt-ltb (length out) record_length h) refl)

    long : record_length ≤ length out → (v : PairVerdict) (n : ℕ) (left : List ℕ)
        → v ≡ pair_verdict false problem low high → n ≡ v.refusal.number
        → left ≡ record_bytes v ++ drop record_length out → Promised n left
    unfolding tool_number tool_bytes pair_on
    long h v n left e k f =
        promised n left (k ∙ rw (le-ltb (length out) record_length h, e) refl)
        (f ∙ rw (le-ltb (length out) record_length h, e) refl)

-- the certificates are bytes
known : (c : tie.After-slice_known-1)
    → let a = c.args in Bytes (three_runs a.problem.now a.low.now a.high.now)
known c = record {
  low = λ i. omega (arith, c.shared_slice_known-2-1.given i);
  high = λ i. omega (arith, c.shared_slice_known-3-1.given i);
}

returns : tie.Need-returns-then-out-lt32
returns c = short _ _ _ _ (known c.before) c.if-out-lt32.true

returns-2 : tie.Need-returns
returns-2 c =
    let p = c in
    let q = p in
    let e = q in
    long _ _ _ _ (known e.before.before.before.before.before.before.before.before.before.before.before.before.before.before) e.if-out-lt32.false _ _ _ q.pair-v.ensures.0 c.number_of.ensures
    p.put_record.ensures

pub zamiachisel_record_spec : {M : Type 1} → statement M
zamiachisel_record_spec =
    tie.close
    (tie.spec
    returns
    (λ c. search rules)
    (λ c. search rules)
    (λ c. search rules)
    (λ c κs. search rules)
    (λ c κs. search rules)
    (λ c κs. search rules)
    (λ c. search rules)
    returns-2)
