-- How things stand in the tables of a joining, and that they are the same ones.
use Rattle.std.specs.Prelude.{◌≡◌}
use Rattle.joining_blocks.specs.declared.Reach.{Reach}
use Rattle.joining_blocks.specs.declared.Tables.{Tables}
use Rattle.joining_blocks.specs.Standing.{Standing, standing}

abbrev pub standing_at : Tables → Reach → Standing
standing_at t r = standing t.labels.now t.follow.now t.pairs.now t.table.now t.index.now r

-- the same tables, with what stands in them now
pub record SameTables (t t' : Tables) : Type 0 where
  pub labels : t'.labels.ghost_name ≡ t.labels.ghost_name
  pub follow : t'.follow.ghost_name ≡ t.follow.ghost_name
  pub pairs : t'.pairs.ghost_name ≡ t.pairs.ghost_name
  pub table : t'.table.ghost_name ≡ t.table.ghost_name
  pub index : t'.index.ghost_name ≡ t.index.ghost_name
