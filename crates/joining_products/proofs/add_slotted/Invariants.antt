-- `joining_products::add_slotted`: the exponents from i on are still to be added, and the divisor stays.
use mathlib.Core.Path.{◌≡◌}
use lib.ListN.{drop}
use Rattle.key_set.specs.Table.{first, divisor_in, keys_in}
use Rattle.joining_rule.specs.Extend.{add_terms}
use Rattle.joining_products.proofs.Growing.{Growing}
use Rattle.joining_products.proofs.add_slotted.Given as goal

abbrev pub invariant-loop-i : goal.invariant-loop-i
invariant-loop-i l =
    Growing l.fn.table l.len (add_terms l.exponents l.s (keys_in l.len l.fn.table)) (add_terms (drop l.i l.exponents) l.s) l.n l.table l.index
    × (divisor_in l.index ≡ first)
