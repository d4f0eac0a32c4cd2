-- A certificate stream cut into its commands: runs of bytes, each as long as its layout says. Where notes are put in,
-- and in what order rows stand, is said of these runs.
use Rattle.std.specs.Prelude.{◌≡◌, cond, ◌&&◌, List, [], ◌∷◌, ℕ, zero, suc, ◌<◌, leb, length, get_or, take, drop}
use Rattle.format.specs.declared.certificate.Command.{Command}
use Rattle.format.specs.CertificateLayout.{certificate_command, certificate_size}

-- the command that the first of some bytes names
abbrev pub command_of : List ℕ → Command
command_of r = certificate_command (get_or r 0 0)

-- a run is one whole command: a layout's byte, and then as many bytes as the layout's operands have
pub record Whole (r : List ℕ) : Type 0 where
  pub some : 0 < length r
  pub long : length r ≡ certificate_size (command_of r)

-- ---- the cut, from the first byte on. It ends at a byte that begins no command, and at a command that is cut short. A
-- command has at least one byte, so the number of commands left is never used up
unfoldable pub cut_from : ℕ → List ℕ → List (List ℕ)
cut_from zero s = []
cut_from (suc left) s =
    let n = certificate_size (command_of s) in
    cond (leb 1 n && leb n (length s)) (take n s ∷ cut_from left (drop n s)) []

unfoldable pub commands_of : List ℕ → List (List ℕ)
commands_of s = cut_from (length s) s
