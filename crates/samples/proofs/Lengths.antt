-- Request 03: the length of a command by its first byte, for every byte in either kind of stream, as the layouts have
-- it, and 0 where the command is unknown there.
use mathlib.Core.Path.{◌≡◌, refl}
use mathlib.Core.List.{◌∷◌, ◌++◌, map}
use lib.ListN.{replicate}
use Rattle.counting.specs.Counting.{listed}
use Rattle.format.specs.ProblemLayout.{problem_command, problem_size}
use Rattle.format.specs.CertificateLayout.{certificate_command, certificate_size}

-- 01 to 09
pub problem_lengths :
    map (λ b. problem_size (problem_command b)) (listed 256 (λ b. b))
    ≡ 0 ∷ 2 ∷ 13 ∷ 1 ∷ 11 ∷ 10 ∷ 1 ∷ 1 ∷ 2 ∷ 2 ∷ replicate 246 0
unfolding listed problem_command
problem_lengths = refl

-- 10 to 15
pub certificate_lengths :
    map (λ b. certificate_size (certificate_command b)) (listed 256 (λ b. b))
    ≡ replicate 16 0 ++ (10 ∷ 4 ∷ 4 ∷ 1 ∷ 4 ∷ 6 ∷ replicate 234 0)
unfolding listed certificate_command
certificate_lengths = refl
