-- The space that an image of a tree takes, and what admission says of it.
use Rattle.std.specs.Prelude.{ℕ, ◌≤◌, length}
use Rattle.ubifs_base.specs.Areas.{main_lebs}
use Rattle.ubifs_base.specs.declared.raw_geometry.RawGeometry.{RawGeometry}
use Rattle.fs_model.specs.declared.space.Need.{Need}
use Rattle.fs_model.specs.declared.space.Space.{Space}
use Rattle.fs_model.specs.declared.space.Class.TheVariants.{Ordinary}
use Rattle.fs_model.specs.Cover.{index_lebs, needed, room_for, tree_bytes}
use Rattle.fs_model.specs.Files.{Tree}
use Rattle.image_maker.specs.Leaves.{live_leaves}
use Rattle.plain_backing.specs.FullIndex.{full_index_weight}

-- what the index of a tree's image weighs: each of its nodes is full but for the last of a level
abbrev pub laid_weight : RawGeometry → Tree → ℕ
laid_weight geo tree = full_index_weight geo.fanout (length (live_leaves tree))

-- The space of a volume with an image of this tree alone: its leaves are used, and the index takes the LEBs that its weight asks for. How many LEBs are empty isn't asked.
abbrev pub laid_space : RawGeometry → Tree → Space
laid_space geo tree =
    record { used = tree_bytes tree; held = 0; credits = 0; empty = 0; index = index_lebs geo (laid_weight geo tree); weight = laid_weight geo tree; main = main_lebs geo }

-- asking for nothing, with the reserve of ordinary calls
abbrev pub nothing_more : Need
nothing_more = record { credits = 0; bytes = 0; nodes = 0; class = Ordinary }

-- the two sides of the test that admission makes of it, in bytes
abbrev pub bytes_needed : RawGeometry → Tree → ℕ
bytes_needed geo tree = needed (laid_space geo tree) nothing_more

abbrev pub bytes_of_room : RawGeometry → Tree → ℕ
bytes_of_room geo tree = room_for geo (laid_space geo tree) nothing_more

-- admission takes the tree
pub record IsTreeAdmitted (geo : RawGeometry) (tree : Tree) : Type 0 where
  pub fits : bytes_needed geo tree ≤ bytes_of_room geo tree
