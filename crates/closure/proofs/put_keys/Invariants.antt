-- `closure::put_keys`: the keys from the index on are still to be put in.
use lib.ListN.{drop}
use Rattle.key_set.specs.Table.{keys_in}
use Rattle.joining_rule.specs.Sets.{insert_all}
use Rattle.joining_rule.specs.Joining.{multiples}
use Rattle.joining_products.proofs.Growing.{Growing}
use Rattle.closure.proofs.put_keys.Given as goal

abbrev pub invariant-loop-key : goal.invariant-loop-key
invariant-loop-key l =
    Growing l.fn.table l.len (insert_all (multiples l.factor l.keys) (keys_in l.len l.fn.table)) (insert_all (multiples l.factor (drop l.key-index l.keys))) l.n l.table l.index
