-- Refusal 8 by the bytes: the block numbers are the 576 of the blocks call, and the rows are those of the stream.
use Rattle.std.specs.Prelude.{◌≡◌, List, ℕ, ◌<◌, length, Option, Some, None}
use Rattle.std.proofs.Math.Option as Document
use Rattle.format.specs.All.{All}
use Rattle.format.specs.CertificateRules.{Entry}
use Rattle.accepting.specs.Judgement.{Judgement, refused, by_blocks}
use Rattle.certificate_rows.specs.Offsets.{basis_at, row_at, RowStands}

-- what each case of the answer says in the document's numbers: refusal 8, "a row in two blocks", at the "first entry
-- outside the row's first block"; or what is judged after it
abbrev pub place_judged : Option ℕ → Judgement → Judgement
place_judged (Some place) j = refused 8 place 0
place_judged None j = j

-- the answer is that of the document to refusal 8, o, whatever is judged after it
pub record SplitTold (r : Option ℕ) (o : Document.Option ℕ) : Type 0 where
  pub tells : (j : Judgement) → place_judged r j ≡ by_blocks o j

-- a row stands between two offsets, and each of its indices has a block number
pub record RowIndexed (s : List ℕ) (from to : ℕ) (labels : List ℕ) : Type 0 where
  pub stands : RowStands s from to
  pub labels_length : length labels ≡ 576
  pub basis : basis_at s from < 9
  pub indices : All (λ (e : Entry). e.index < 64) (row_at s from to).entries
