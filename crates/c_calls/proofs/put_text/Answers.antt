-- `put_text`: the bytes are copied where they fit.
use Rattle.std.proofs.Common.{◌≡◌, ◌++◌, ◌∙◌, ℕ, List, ◌≤◌, ◌<◌, length, refl, arith}
use borrow.Author.Tests.{lt-ltb, le-ltb}
use lib.ListN.{take, drop}
use Rattle.verdict_numbers.specs.Texts.{text_left}
use Rattle.c_calls.proofs.put_text.Goals as goal

-- a text that fits, and one that does not
module _ (text ns out : List ℕ) (is : ns ≡ text) where
  fits : length ns ≤ length out → (new : List ℕ) → new ≡ ns → new ++ drop (length ns) out ≡ text_left text out
  unfolding text_left
  fits h new k = rw (k, ← is, le-ltb (length out) (length ns) h) refl

  too_long : length out < length ns → out ≡ text_left text out
  unfolding text_left
  too_long h = rw (← is, lt-ltb (length out) (length ns) h) refl

pub returns-then-length-out-clause-bytes : goal.returns-then-length-out-clause-bytes
returns-then-length-out-clause-bytes c =
    fits _ _ _ c.cut-text.ensures (omega arith) _ c.copy_from_slice.ensures.after

pub returns-else-length-out-clause-bytes : goal.returns-else-length-out-clause-bytes
returns-else-length-out-clause-bytes c = too_long _ _ _ c.cut-text.ensures (omega arith)
