-- `parity_byte`: after i turns the parities of the first i variables are in the byte.
use Rattle.sign_symmetries.proofs.Parity.{Passed}
use Rattle.sign_symmetries.proofs.parity_byte.Given as goal

abbrev pub invariant-loop-i : goal.invariant-loop-i
invariant-loop-i l = Passed l.key l.byte l.place l.rest l._i
