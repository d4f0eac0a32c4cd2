-- `check_noted`: the copy has as many bytes as a certificate is read by, so its check is that of the stream with notes
-- removed.
use borrow.Author.Rules.{rules}
use mathlib.Core.Path.{◌≡◌, sym, ◌∙◌}
use mathlib.Core.Bool.{Bool}
use mathlib.Core.List.{List}
use Prim.Native.Nat.{ℕ}
use lib.ListN.{take}
use lib.Seq.{length-take-le}
use Rattle.format.specs.Notes.{without_notes}
use Rattle.format.proofs.Longest.{enough_bytes}
use Rattle.calls.specs.Check.{check_verdict}
use Rattle.calls.proofs.Office.{check_beginning}
use Rattle.office_check.proofs.check_noted.Statement.{statement}
use Rattle.office_check.proofs.check_noted.Tie as tie

copied : (short : Bool) (s t copy : List ℕ) (n : ℕ) → copy ≡ take n (without_notes t) → n ≡ enough_bytes
    → check_verdict short s copy ≡ check_verdict short s (without_notes t)
copied short s t copy n h e = rw (h, e) (check_beginning short s (without_notes t))

slice-aggregate-remove : tie.Need-slice_bounds-remove-end
slice-aggregate-remove c = search rules

remove-requires : tie.Need-remove-len-requires
remove-requires c κs = search rules

array-share-prefix-copy : tie.Need-slice_bounds-copy-end
array-share-prefix-copy c = search rules

slice-aggregate-check : tie.Need-slice_bounds-check-end
slice-aggregate-check c = sym (length-take-le _ _ (array-share-prefix-copy c.before))

check-requires : tie.Need-check-requires
check-requires c κs = search rules

same_length : tie.Need-shape_of-keys
same_length c = search rules

same-length-2 : tie.Need-shape_of-high
same-length-2 c = search rules

same-length-3 : tie.Need-shape_of-low
same-length-3 c = search rules

returns : tie.Need-returns
returns c =
    let l : tie.After-copy-1 = c.before.before.before.before.before.before.before.before.before.before.before in (
      c.check.ensures.0
          ∙ copied _ _ c.args.certificate.now _ _ c.remove-len.ensures.0 (sym (slice-aggregate-remove l)),
      c.check.ensures.1.0,
    )

pub check_noted_spec : {M : Type 1} → statement M
check_noted_spec =
    tie.close
    (tie.spec
    slice-aggregate-remove
    remove-requires
    array-share-prefix-copy
    slice-aggregate-check
    check-requires
    same_length
    same-length-2
    same-length-3
    returns)
