-- The line of a run of arrivals, as far as it is written.
use native.Mathlib.Omega.{arith}
use native.Mathlib.Numerals.{add-one}
use mathlib.Core.Path.{◌≡◌, refl, sym, ap, ap₂, ◌∙◌}
use mathlib.Core.List.{List, [], ◌∷◌, ◌++◌, append_assoc, append-nil}
use Prim.Native.Nat.{ℕ, ◌+◌, ◌/◌, ◌<◌, ◌≤◌}
use borrow.Author.Tests.{ne_eqb}
use lib.ListN.{length, take, drop, drop_of_length-le}
use lib.Seq.{drop-cons}
use Rattle.counting.specs.Counting.{listed}
use Rattle.counting.proofs.Listed.{listed_length, listed_at}
use Rattle.calls.specs.Fractions.{none}
use Rattle.calls.specs.declared.Fraction.{Fraction}
use Rattle.calls.specs.declared.GapWindow.{GapWindow}
use Rattle.calls.specs.declared.WindowVerdict.{WindowVerdict}
use Rattle.calls.specs.Window.{empty_window, window_after, push_verdict, push_verdicts}
use Rattle.calls.proofs.Windows.{pushes_from_empty}
use Rattle.lines.specs.Lines.{ascii, arrival_word, arrival_words, window_line}
use Rattle.text.specs.Appending.{Appended}
use Rattle.replay.specs.Arrivals.{arrival_at, arrivals_of, window_answer, separator}

-- the first bytes of out, and the outcomes from arrival i on, are the line without its end
abbrev pub Written : List ℕ → List ℕ → ℕ → GapWindow → ℕ → Type 0
Written s out at w i =
    take at out ++ arrival_words (separator i) (push_verdicts w (drop i (arrivals_of s)))
    ≡ ascii "window" ++ arrival_words (ascii " ") (push_verdicts empty_window (arrivals_of s))

module _ (s : List ℕ) where
  arrival_next : (i : ℕ) → i < length s / 16 → drop i (arrivals_of s) ≡ arrival_at s i ∷ drop (i + 1) (arrivals_of s)
  unfolding arrivals_of
  arrival_next i h =
      let n = listed_length (length s / 16) (arrival_at s) in
      drop-cons (listed (length s / 16) (arrival_at s)) i none (omega arith)
      ∙ ap₂ (λ (x : Fraction) (l : List Fraction). x ∷ l) (listed_at (length s / 16) (arrival_at s) i none h)
      (ap (λ (m : ℕ). drop m (listed (length s / 16) (arrival_at s))) (sym (add-one i)))

  arrival_last : (i : ℕ) → length s / 16 ≤ i → drop i (arrivals_of s) ≡ []
  unfolding arrivals_of
  arrival_last i h =
      let l = listed (length s / 16) (arrival_at s) in
      let k : length l ≤ i = omega (arith, listed_length (length s / 16) (arrival_at s)) in drop_of_length-le l k

  pub written_none : {before out : List ℕ} {at : ℕ} → Appended before 0 (ascii "window") out at
      → Written s out at empty_window 0
  written_none p = rw p.bytes refl

  pub written_more : {out after : List ℕ} {at end : ℕ} (w : GapWindow) (i : ℕ) → i < length s / 16
      → Written s out at w i
      → Appended out at (separator i ++ arrival_word (push_verdict w (arrival_at s i))) after end
      → Written s after end (window_after w (arrival_at s i)) (i + 1)
  written_more {out} {after} {at} {end} w i h e p =
      let a = arrival_at s i in
      let word = arrival_word (push_verdict w a) in
      let left = push_verdicts (window_after w a) (drop (i + 1) (arrivals_of s)) in
      let rest = arrival_words (ascii "; ") left in
      let later : separator (i + 1) ≡ ascii "; " = rw (ne_eqb (i + 1) 0 (λ z. omega arith)) refl in
      ap₂ (λ (l k : List ℕ). l ++ k) p.bytes (ap (λ (l : List ℕ). arrival_words l left) later)
      ∙ append_assoc (take at out) (separator i ++ word) rest
      ∙ ap (λ (l : List ℕ). take at out ++ l) (append_assoc (separator i) word rest)
      ∙ (rw (arrival_next i h) at e)

  pub written_done : {out after : List ℕ} {at end : ℕ} (w : GapWindow) (i : ℕ) → length s / 16 ≤ i
      → Written s out at w i → Appended out at (ascii "\n") after end → take end after ≡ window_answer s
  unfolding window_line
  written_done {out} {after} {at} w i h e p =
      let whole = sym (append-nil (take at out)) ∙ (rw (arrival_last i h) at e) in
      p.bytes ∙ ap (λ (l : List ℕ). l ++ ascii "\n") whole
      ∙ append_assoc (ascii "window") (arrival_words (ascii " ") (push_verdicts empty_window (arrivals_of s))) (ascii "\n")
      ∙ ap (λ (l : List WindowVerdict). ascii "window" ++ (arrival_words (ascii " ") l ++ ascii "\n"))
      (pushes_from_empty (arrivals_of s))
