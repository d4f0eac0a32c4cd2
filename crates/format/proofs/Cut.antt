-- A certificate stream that reads is cut into its commands whole, and these are its header, the runs of its rows and
-- its end.
use mathlib.Core.Path.{◌≡◌, refl, sym, ap, ◌∙◌}
use mathlib.Core.Bool.{Bool, true, false, cond, ◌&&◌}
use mathlib.Core.List.{List, [], ◌∷◌, ◌++◌, flatten, append-nil, append_assoc}
use mathlib.Core.Logic.{⊎_elim}
use Prim.Native.Nat.{ℕ, zero, suc, ◌+◌, ◌≤◌, ◌<◌}
use native.Mathlib.Omega.{arith}
use lib.Dec.{eqb, leb, ltb}
use lib.ListN.{length, get_or, take, drop, length-append, length-drop, take-append-drop, drop_of_length-le}
use lib.Seq.{length-take-le, get_or-take, get_or-drop, drop-drop}
use borrow.Author.Tests.{le-leb, lt-ltb, eqb-true, eqb-false, ltb-true}
use Rattle.counting.proofs.Cases.{clash, and_right}
use Rattle.format.specs.All.{All}
use Rattle.format.specs.Commands.{Outcome, refused, given}
use Rattle.format.specs.ProblemRules.{Problem}
use Rattle.format.specs.declared.certificate.Command.{Command}
use Rattle.format.specs.declared.certificate.Command.TheVariants as C
use Rattle.format.specs.CertificateLayout.{certificate_command, certificate_size}
use Rattle.format.specs.CertificateRules.{Certificate, no_certificate, certificate_command_at, certificate_refusal_at, certificate_next, certificate_language, read_certificate}
use Rattle.format.specs.Cut.{command_of, Whole, cut_from, commands_of}
use Rattle.format.proofs.CertificateChecks.{taken_size, taken_whole}
use Rattle.format.proofs.Meets.{Meets, past, stopped, extra, finished, taken, reading_induction}

-- a stream is its commands
pub record Cuts (g : ℕ) (s : List ℕ) : Type 0 where
  pub all : flatten (cut_from g s) ≡ s
  pub whole : All Whole (cut_from g s)

cuts_none : (g : ℕ) → Cuts g []
unfolding flatten cut_from All certificate_command
cuts_none zero = record { all = refl; whole = tt }
cuts_none (suc g) = record { all = refl; whole = tt }

-- one command and the rest
cuts_more : (g : ℕ) (s : List ℕ) → 1 ≤ certificate_size (command_of s) → certificate_size (command_of s) ≤ length s
    → Cuts g (drop (certificate_size (command_of s)) s) → Cuts (suc g) s
unfolding flatten cut_from All
cuts_more g s some inside rest =
    let n = certificate_size (command_of s) in
    let e = get_or-take n s 0 0 some in
    let l = length-take-le n s inside in
    let c : cut_from (suc g) s ≡ take n s ∷ cut_from g (drop n s) = rw (le-leb 1 n some, le-leb n (length s) inside) in
    record {
      all = ap flatten c ∙ rw rest.all (take-append-drop n s);
      whole = rw c (record { some = omega arith; long = l ∙ rw e }, rest.whole);
    }

module _ (p : Problem) (s : List ℕ) (d : Certificate) (read : read_certificate p s ≡ given d) where
  abbrev Rest : ℕ → Type 0
  Rest at = (g : ℕ) → length s ≤ at + g → Cuts g (drop at s)

  -- a command that is not refused, and the rest behind it
  module _ (c : Certificate) (at : ℕ) (h : at < length s) (v : certificate_refusal_at p c s at ≡ 0) where
    byte : get_or (drop at s) 0 0 ≡ get_or s at 0
    byte = let z : at + 0 ≡ at = omega arith in get_or-drop at s 0 0 ∙ rw z

    passed_cuts : ((g : ℕ) → length s ≤ at + 1 + g → Cuts g (drop (at + certificate_size (certificate_command_at s at)) s)) → Rest at
    passed_cuts more zero b = absurd (omega arith)
    passed_cuts more (suc g) b =
        let k = taken_size p c s at v in
        let w = taken_whole p c s at v in
        let n = length-drop at s in
        cuts_more g (drop at s) (rw byte k) (rw byte (omega arith))
        (rw (byte, drop-drop (certificate_size (certificate_command_at s at)) at s) (more g (omega arith)))

  cuts_from : Rest 0
  cuts_from = reading_induction p s (λ c at. Rest at) (λ c at m next. go c at m next)
    where
      go : (c : Certificate) (at : ℕ) → Meets (certificate_language p) s (read_certificate p s) c at
          → (certificate_refusal_at p c s at ≡ 0 → (get_or s at 0 ≡ 0x13 → ⊥) → Rest (at + certificate_size (certificate_command_at s at)))
          → Rest at
      go c at (past h f) next = clash (cc)
      go c at (stopped h v f) next = clash (cc)
      go c at (extra h v b m f) next = clash (cc)
      go c at (finished h v b m f) next =
          passed_cuts c at h v
          (λ g q. rw (drop_of_length-le s {i = at + certificate_size (certificate_command_at s at)} (omega (arith, taken_size p c s at v))) (cuts_none g))
      go c at (taken h v b) next = passed_cuts c at h v (λ g q. next v b g (omega (arith, taken_size p c s at v)))

  pub read_cuts : Cuts (length s) s
  read_cuts = cuts_from (length s) (omega arith)
