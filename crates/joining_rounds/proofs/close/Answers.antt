-- The rounds begin with single blocks.
use Rattle.std.proofs.Common.{◌≡◌, ℕ, ◌≤◌, ◌<◌, List, length, get_or, replicate, arith}
use Rattle.std.proofs.lemmas.List.{length-replicate, get_or-replicate}
use Rattle.joining_bases.specs.Parts.{SingleBlocks}
use Rattle.joining_bases.specs.Nine.{AllSingle}
use Rattle.joining_rounds.proofs.close.Goals as goal

-- no index has one that follows it
links_end : (x : ℕ) → x < 576 → 64 ≤ get_or (replicate 576 255) x 0
links_end x h = rw (get_or-replicate {A = ℕ} 576 x 255 0 h) (omega arith)

single : (sizes labels state : List ℕ) → SingleBlocks sizes labels → (length state ≡ 18) × ((j : ℕ) → j < 9 → get_or state j 0 ≡ get_or sizes j 0) → AllSingle sizes labels (replicate 576 255) state
single sizes labels state b s = record { single = b; links = length-replicate {A = ℕ} 576 255; last = links_end; numbers = s.0; counts = s.1 }

pub run-requires : goal.run-requires
run-requires c =
    let small = c.are_small.ensures.0 c.if-are_small.true in (
      c.requires,
      single _ _ _ c.start_blocks.ensures c.start_state-state.ensures,
      record { room = record { at = λ j h l. absurd (omega (arith, small j h)) }; at = λ j h l. absurd (omega (arith, small j h)) },
    )

pub run_indexed-requires : goal.run_indexed-requires
run_indexed-requires c = (c.requires, single _ _ _ c.start_blocks.ensures c.start_state-state.ensures)
