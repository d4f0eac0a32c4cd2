-- What the call for the bid tool promises, from its equations.
use native.Mathlib.Omega.{arith}
use mathlib.Core.Path.{◌≡◌, refl, sym, ap, ◌∙◌}
use mathlib.Core.Bool.{false}
use mathlib.Core.List.{List, ◌++◌}
use mathlib.Core.Logic.{◌⊎◌, inl, inr, ⊎_elim}
use Prim.Native.Nat.{ℕ, ◌≤◌, ◌<◌}
use lib.ListN.{length, drop}
use lib.Seq.{drop_at}
use borrow.Author.Tests.{lt-ltb, le-ltb}
use Rattle.counting.proofs.Cases.{lt_or_le}
use Rattle.calls.specs.declared.Refusal.{Refusal}
use Rattle.calls.specs.Report.{Runs, three_runs, pair_on, record_bytes, record_length, with_problem}
use Rattle.calls.specs.BidTool.{tool_number, tool_bytes, OneRecord, ToolZeros, AcceptedAlike, AnyOrder, ToolKept}
use Rattle.calls.specs.RowOrder.{pair_number}
use Rattle.calls.proofs.Rules.{AllLead}
use Rattle.calls.proofs.Pairing.{pair_clauses}
use Rattle.calls.proofs.Reports.{entry_length, record_kept}
use Rattle.calls.proofs.RowOrder.{alike_number, pair_alike}
use Rattle.calls.proofs.Told.{Bytes, pair_told, record_zeros}

pair_number_lem : (r : Runs) → (pair_on r).refusal.number ≤ 10
unfolding pair_on
pair_number_lem r = (pair_clauses false r.problem r.low r.high (pair_on r) refl).0

module _ (out : List ℕ) (r : Runs) where
  too_short : length out < record_length → OneRecord out r out 1
  too_short h = record {
    numbered = omega arith;
    short = λ k. (refl, refl);
    returned = λ k. absurd (omega arith);
    told = λ k. absurd (omega arith);
    past = refl;
  }

  filled : record_length ≤ length out → Bytes r
      → OneRecord out r (record_bytes (pair_on r) ++ drop record_length out) (pair_on r).refusal.number
  filled h b =
      let t = pair_told r b (drop record_length out) in
      record {
        numbered = pair_number_lem r;
        short = λ k. absurd (omega arith);
        returned = λ k. t.refusal;
        told = λ k. t;
        past = drop_at (record_bytes (pair_on r)) (drop record_length out) record_length (entry_length r);
      }

  pub one_record : (left : List ℕ) (n : ℕ) → n ≡ tool_number out r → left ≡ tool_bytes out r → Bytes r
      → OneRecord out r left n
  unfolding tool_number tool_bytes
  one_record left n e f b = go (lt_or_le (length out) record_length)
    where
      go : (length out < record_length) ⊎ (record_length ≤ length out) → OneRecord out r left n
      go (inl h) = rw (e, f, lt-ltb (length out) record_length h) (too_short h)
      go (inr h) = rw (e, f, le-ltb (length out) record_length h) (filled h b)

  pub tool_zeros : (left : List ℕ) (n : ℕ) → n ≡ tool_number out r → left ≡ tool_bytes out r → Bytes r → ToolZeros out left
  tool_zeros left n e f b h = record_zeros r left ((one_record left n e f b).told h)

  pub any_order : (n : ℕ) → n ≡ tool_number out r → AnyOrder out r n
  unfolding tool_number pair_on
  any_order n e low high o u = go (lt_or_le (length out) record_length)
    where
      go : (length out < record_length) ⊎ (record_length ≤ length out)
          → AcceptedAlike n (tool_number out (three_runs r.problem low high))
      go (inl h) = rw (e, lt-ltb (length out) record_length h) (λ z. z, λ z. z)
      go (inr h) = rw (e, le-ltb (length out) record_length h) (alike_number pair_number (pair_alike false r.problem o u))

  -- under rule 1, or at a larger order
  pub tool_kept : (left : List ℕ) (n : ℕ) → n ≡ tool_number out r → left ≡ tool_bytes out r
      → (R : List ℕ → List ℕ → Type 0) → ((s t : List ℕ) → R s t → AllLead s t) → ToolKept R out r left n
  unfolding tool_number tool_bytes
  tool_kept left n e f R leads t u h = go (lt_or_le (length out) record_length)
    where
      other : Runs
      other = with_problem t r

      go : (length out < record_length) ⊎ (record_length ≤ length out)
          → (tool_number out other ≡ 7) ⊎ ((tool_number out other ≡ 0) × (tool_bytes out other ≡ left))
      go (inl k) = absurd (let z = rw (lt-ltb (length out) record_length k) at (sym e ∙ h) in omega arith)
      go (inr k) =
          let b = le-ltb (length out) record_length k in
          let a = rw b at (sym e ∙ h) in
          rw (b, f, b)
          (⊎_elim (λ g. inl (ap (λ (w : Refusal). w.number) g))
          (λ g. inr (ap (λ (w : Refusal). w.number) g.0, ap (λ (l : List ℕ). l ++ drop record_length out) g.1))
          (record_kept r t (leads _ t u) a))
