-- How a stream of commands is read, for both kinds of stream: the order of the checks, the places, the end.
use Rattle.std.specs.Prelude.{Bool, cond, not, List, [], ◌∷◌, ℕ, zero, suc, ◌+◌, eqb, leb, ltb, length, get_or}

-- what a stream gives: a refusal with its number and place, or what was read
pub data Outcome (A : Type 0) : Type 0 where
  refused : ℕ → ℕ → Outcome A
  given : A → Outcome A

-- "by commands, each checked 3, 2, 4, 5, 6": the number of the first check that fails, or 0
unfoldable pub first_refusal : Bool → Bool → Bool → Bool → Bool → ℕ
first_refusal placed whole allowed repeated full =
    cond (not placed) 3 (cond (not whole) 2 (cond (not allowed) 4 (cond repeated 5 (cond full 6 0))))

-- a kind of stream. A is what has been read so far
pub record Language (A : Type 0) : Type 0 where
  -- the number of the refusal that the command at an offset meets, or 0
  pub verdict : A → List ℕ → ℕ → ℕ
  -- what has been read after that command
  pub next : A → List ℕ → ℕ → A
  -- a command's length in bytes, by its first byte
  pub size : ℕ → ℕ
  -- the byte of the end command
  pub ending : ℕ

-- from the command at an offset on. A stream that ends without its end is refused with 2 at its length, a command that
-- fails a check at its own first byte, and bytes after the end command with 2 at the first of them. A command has at
-- least one byte, so the number of commands left is never used up
unfoldable pub run : {A : Type 0} → Language A → ℕ → A → List ℕ → ℕ → Outcome A
run l zero a s at = refused 2 (length s)
run l (suc left) a s at =
    cond (leb (length s) at) (refused 2 (length s))
    (cond (ltb 0 (l.verdict a s at)) (refused (l.verdict a s at) at)
    (cond (eqb (get_or s at 0) l.ending)
    (cond (ltb (at + 1) (length s)) (refused 2 (at + 1)) (given a))
    (run l left (l.next a s at) s (at + l.size (get_or s at 0)))))

unfoldable pub read_whole : {A : Type 0} → Language A → A → List ℕ → Outcome A
read_whole l a s = run l (length s + 1) a s 0

-- the offsets of the commands of a stream, up to its end command
unfoldable pub commands_from : {A : Type 0} → Language A → ℕ → List ℕ → ℕ → List ℕ
commands_from l zero s at = []
commands_from l (suc left) s at =
    cond (leb (length s) at) []
    (cond (eqb (get_or s at 0) l.ending) (at ∷ [])
    (at ∷ commands_from l left s (at + l.size (get_or s at 0))))

unfoldable pub commands : {A : Type 0} → Language A → List ℕ → List ℕ
commands l s = commands_from l (length s + 1) s 0
