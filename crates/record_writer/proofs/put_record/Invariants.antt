-- `put_record`: what is written grows by a field a turn, in front of what stays.
use mathlib.Core.List.{flat_map}
use Rattle.std.proofs.Common.{◌≡◌, ◌++◌, ◌*◌, take, drop}
use Rattle.calls.specs.Report.{little_endian}
use Rattle.record_writer.proofs.put_record.Given as goal

abbrev pub invariant-loop-k : goal.invariant-loop-k
invariant-loop-k l = l.part ≡ flat_map (little_endian 4) (take l.k l.fields) ++ drop (4 * l.k) l.initial.part
