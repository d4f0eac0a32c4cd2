-- The joining rule that a problem stream names, and streams that differ in it alone.
use Rattle.std.specs.Prelude.{cond, List, ◌∷◌, ℕ, eqb, get_or}
use Rattle.format.specs.declared.problem.Command.TheVariants as C
use Rattle.format.specs.ProblemLayout.{problem_unsigned}

-- "Problem command 08 rule(u8), value 1 or 2, stands directly after 01 and only there; absent means 1". 01 has two
-- bytes
unfoldable pub rule_named : List ℕ → ℕ
rule_named s = cond (eqb (get_or s 2 0) 0x08) (problem_unsigned C.Rule 0 s 2) 1

-- a stream that begins with 01 n and 08 r, and the same with the 08 left out
abbrev pub ruled : ℕ → ℕ → List ℕ → List ℕ
ruled n r rest = 0x01 ∷ n ∷ 0x08 ∷ r ∷ rest

abbrev pub unruled : ℕ → List ℕ → List ℕ
unruled n rest = 0x01 ∷ n ∷ rest
