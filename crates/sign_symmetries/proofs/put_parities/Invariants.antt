-- `put_parities`: after i turns the parity bytes of the first i keys stand behind the first n bytes.
use Rattle.std.proofs.Common.{◌≡◌, ◌+◌, ◌++◌, length, take, map}
use Rattle.calls.specs.Symmetries.{parity_byte}
use Rattle.sign_symmetries.proofs.put_parities.Given as goal

abbrev pub invariant-loop-i : goal.invariant-loop-i
invariant-loop-i l =
    (length l.bytes ≡ 512) × (take (l.n + l.i) l.bytes ≡ take l.n l.initial.bytes ++ map parity_byte (take l.i l.keys))
