-- `tighter`: the part by what was chosen, and the clauses from the equations.
use borrow.Author.Rules.{rules}
use mathlib.Core.Path.{refl, sym, ◌∙◌}
use Rattle.calls.specs.declared.Chosen.{Chosen}
use Rattle.calls.proofs.SupersedingKept.{left_clauses}
use Rattle.superseding.proofs.Parts.{part_by, not_both}
use Rattle.superseding.proofs.tighter.Statement.{statement}
use Rattle.superseding.proofs.tighter.Tie as tie

abbrev start : tie.After-choose-chosen → tie.Start
start c = c.before.before.before.before.before.before.before.before.before.before.before.before

choose-requires : tie.Need-choose-chosen-requires
choose-requires c κs = search rules

enum_told : tie.Need-enum_told-1
enum_told c = search rules

enum-told-2 : tie.Need-enum_told-in-Second
enum-told-2 c = search rules

enum-told-3 : tie.Need-enum_told-in-Neither
enum-told-3 c = search rules

slice-aggregate-result : tie.Need-slice_bounds-result-end
slice-aggregate-result c = search rules

same_length : tie.Need-shape_of-keys-in-First
same_length c = search rules

same-length-2 : tie.Need-shape_of-high-in-First
same-length-2 c = search rules

same-length-3 : tie.Need-shape_of-low-in-First
same-length-3 c = search rules

returns : tie.Need-returns-in-First
returns c =
    let h = c in
    let a = (start h.before.before.before.before.before).args in
    let k = h.choose-chosen.ensures in
    let e = sym k.0 ∙ c.in-First.is in
    let part = part_by _ Chosen.First _ a.first.now a.second.now e refl in
    let clauses = left_clauses _ a.problem.now a.first.now a.second.now _ _ part k.1.0 in (
      part,
      (
        (
          λ g. refl,
          λ g. not_both _ Chosen.First Chosen.Second e g refl,
          λ g. not_both _ Chosen.First Chosen.Neither e g refl,
        ),
        (k.1.0, (k.1.1.0, clauses)),
      ),
    )

same-length-4 : tie.Need-shape_of-keys-in-Second
same-length-4 c = search rules

same-length-5 : tie.Need-shape_of-high-in-Second
same-length-5 c = search rules

same-length-6 : tie.Need-shape_of-low-in-Second
same-length-6 c = search rules

returns-2 : tie.Need-returns-in-Second
returns-2 c =
    let h = c in
    let a = (start h.before.before.before.before.before).args in
    let k = h.choose-chosen.ensures in
    let e = sym k.0 ∙ c.in-Second.is in
    let part = part_by _ Chosen.Second _ a.first.now a.second.now e refl in
    let clauses = left_clauses _ a.problem.now a.first.now a.second.now _ _ part k.1.0 in (
      part,
      (
        (
          λ g. not_both _ Chosen.Second Chosen.First e g refl,
          λ g. refl,
          λ g. not_both _ Chosen.Second Chosen.Neither e g refl,
        ),
        (k.1.0, (k.1.1.0, clauses)),
      ),
    )

same-length-7 : tie.Need-shape_of-keys-in-Neither
same-length-7 c = search rules

same-length-8 : tie.Need-shape_of-high-in-Neither
same-length-8 c = search rules

same-length-9 : tie.Need-shape_of-low-in-Neither
same-length-9 c = search rules

returns-3 : tie.Need-returns-in-Neither
returns-3 c =
    let h = c in
    let a = (start h.before.before.before.before.before).args in
    let k = h.choose-chosen.ensures in
    let e = sym k.0 ∙ c.in-Neither.is in
    let part = part_by _ Chosen.Neither _ a.first.now a.second.now e refl in
    let clauses = left_clauses _ a.problem.now a.first.now a.second.now _ _ part k.1.0 in (
      part,
      (
        (
          λ g. not_both _ Chosen.Neither Chosen.First e g refl,
          λ g. not_both _ Chosen.Neither Chosen.Second e g refl,
          λ g. refl,
        ),
        (k.1.0, (k.1.1.0, clauses)),
      ),
    )

pub tighter_spec : {M : Type 1} → statement M
tighter_spec =
    tie.close
    (tie.spec
    choose-requires
    enum_told
    enum-told-2
    enum-told-3
    slice-aggregate-result
    same_length
    same-length-2
    same-length-3
    returns
    same-length-4
    same-length-5
    same-length-6
    returns-2
    same-length-7
    same-length-8
    same-length-9
    returns-3)
