-- When all that a backing promised has room, beside an index of its leaves.
use Rattle.std.specs.Prelude.{ℕ, ◌+◌, ◌*◌, ◌≤◌, Option, Some, None, length}
use Rattle.ubifs_base.specs.declared.raw_geometry.RawGeometry.{RawGeometry}
use Rattle.fs_model.specs.declared.space.Grant.{Grant}
use Rattle.fs_model.specs.declared.space.Need.{Need}
use Rattle.fs_model.specs.declared.space.Space.{Space}
use Rattle.fs_model.specs.declared.space.Class.TheVariants.{Removal}
use Rattle.fs_model.specs.Files.{Tree}
use Rattle.fs_model.specs.Proper.{IsProper}
use Rattle.fs_model.specs.Settled.{nothing}
use Rattle.space_sums.specs.Spaces.{HasRoom}

-- how many leaf nodes a tree has
abbrev pub leaf_count : Tree → ℕ
leaf_count tree = length tree.inodes + length tree.blocks + length tree.entries

-- what was granted beside the credits and isn't put yet
abbrev pub granted_need : Option Grant → Need
granted_need None = nothing
granted_need (Some grant) = record { credits = 0; bytes = grant.bytes; nodes = grant.nodes; class = Removal }

-- The files are proper, and all that was granted has room. The weight has a node for each `fanout` leaves, as the lowest level of an index has at least.
pub record IsCovering (geo : RawGeometry) (tree : Tree) (space : Space) (grant : Option Grant) : Type 0 where
  pub proper : IsProper tree
  pub room : HasRoom geo space (granted_need grant)
  pub weighed : leaf_count tree ≤ geo.fanout * space.weight
