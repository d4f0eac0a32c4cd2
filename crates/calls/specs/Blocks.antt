-- What the blocks call returns and leaves in the 576 bytes, for all inputs.
use Rattle.std.specs.Prelude.{Bool, ◌||◌, List, ◌++◌, ℕ, ltb, length, drop}
use Rattle.format.specs.ProblemRules.{Problem}
use Rattle.joining_rule.specs.Bytes.{block_byte_count, block_bytes}
use Rattle.joining_rule.specs.Joining.{closing, block_total}
use Rattle.calls.specs.Tables.{Tables, tables_short}
use Rattle.calls.specs.Refusals.{no_refusal}
use Rattle.calls.specs.Outcome.{given, ◌then◌, told}
use Rattle.calls.specs.Checks.{problem_of}
use Rattle.calls.specs.declared.Refusal.{Refusal}
use Rattle.calls.specs.declared.BlocksVerdict.{BlocksVerdict}

-- ---- refusal 1: "a lent table or the 576 bytes is too short"
unfoldable pub blocks_short : List ℕ → Tables → Bool
blocks_short out t = ltb (length out) block_byte_count || tables_short t

-- ---- the verdict: "A refusal .. returns number, stream .., place and key; all other fields are 0"
abbrev pub refused_blocks : Refusal → BlocksVerdict
refused_blocks r = record { refusal = r; blocks = 0; rounds = 0; rule = 0 }

-- "the number of blocks", and of rounds; "Each verdict .. says the rule used"
abbrev pub found_blocks : Problem → BlocksVerdict
found_blocks p =
    record { refusal = no_refusal; blocks = block_total p; rounds = (closing p).rounds; rule = p.rule }

-- "Order: 1; the problem by commands ..; 7"
unfoldable pub blocks_verdict : Bool → List ℕ → BlocksVerdict
blocks_verdict short s = told refused_blocks (problem_of short s then λ p. given (found_blocks p))

-- ---- the 576 bytes: "A refusal leaves the 576 bytes untouched", and bytes past them are untouched always
abbrev pub written_bytes : List ℕ → Problem → List ℕ
written_bytes out p = block_bytes (closing p).state.labels ++ drop block_byte_count out

unfoldable pub bytes_left : Bool → List ℕ → List ℕ → List ℕ
bytes_left short s out = told (λ _. out) (problem_of short s then λ p. given (written_bytes out p))
