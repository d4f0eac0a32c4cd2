-- The numbers that the table of refusals gives to the faults of a stream.
use Rattle.std.specs.Prelude.{ℕ, Result, Ok, Err}
use Rattle.faults.specs.declared.Fault.{Fault}
use Rattle.faults.specs.declared.Fault.TheVariants.{Cut, Misplaced, Unfit, Repeated, Excess}

abbrev pub fault_number : Fault → ℕ
fault_number Cut = 2
fault_number Misplaced = 3
fault_number Unfit = 4
fault_number Repeated = 5
fault_number Excess = 6

-- the number that a check answers: 0 where it finds no fault
abbrev pub number_in : {A : Type 0} → Result A Fault → ℕ
number_in (Ok a) = 0
number_in (Err f) = fault_number f
