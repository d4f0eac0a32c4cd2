-- `is_linked`: the exponents so far give no link, so those that are left tell.
use Rattle.std.proofs.Common.{◌≡◌, drop}
use Rattle.key_set.specs.Table.{keys_in}
use Rattle.joining_rule.specs.Join.{linked}
use Rattle.joining_basis.proofs.is_linked.Given as goal

abbrev pub invariant-loop-t : goal.invariant-loop-t
invariant-loop-t l = linked (keys_in l.until l.table) (drop l.t-index l.exponents) l.s ≡ linked (keys_in l.until l.table) l.exponents l.s
