-- `place`: after t turns the places of the first t exponents are noted.
use Rattle.std.proofs.Common.{ℕ, ◌≡◌, ◌<◌, ◌%◌, length, get_or}
use Rattle.key_set.specs.Table.{divisor_in}
use Rattle.identity_sums.proofs.place.Given as goal

abbrev pub invariant-loop-t : goal.invariant-loop-t
invariant-loop-t l =
    (length l.slots ≡ 32)
    × ((i : ℕ) → i < l.t → get_or l.slots i 0 ≡ get_or l.terms.exponents.now i 0 % divisor_in l.index)
