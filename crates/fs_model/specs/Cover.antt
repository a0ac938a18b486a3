-- What a store has room for: the sum that admission tests, so that what was granted can always be written.
use Rattle.std.specs.Prelude.{ℕ, ◌+◌, ◌-◌, ◌*◌, ◌/◌, max, List, length, sum_by}
use Rattle.std.specs.Map.{values_of}
use Rattle.ubifs_base.specs.declared.raw_geometry.RawGeometry.{RawGeometry}
use Rattle.ubifs_base.specs.Geometry.{index_nodes_per_leb, leb_reserve}
use Rattle.fs_model.specs.declared.inode.Inode.{Inode}
use Rattle.fs_model.specs.declared.inode.Entry.{Entry}
use Rattle.fs_model.specs.declared.space.Space.{Space}
use Rattle.fs_model.specs.declared.space.Need.{Need}
use Rattle.fs_model.specs.declared.space.Class.{Class}
use Rattle.fs_model.specs.declared.space.Class.TheVariants.{Ordinary, Removal}
use Rattle.fs_model.specs.Files.{Tree}

-- rounded up to a multiple of 8
abbrev pub round_8 : ℕ → ℕ
round_8 n = (n + 7) / 8 * 8

-- LEBs that an index of this weight takes
abbrev pub index_lebs : RawGeometry → ℕ → ℕ
index_lebs geo weight = (weight + index_nodes_per_leb geo - 1) / index_nodes_per_leb geo

-- LEBs to keep for the index, present and next
abbrev pub index_room : RawGeometry → ℕ → ℕ → ℕ
index_room geo present weight = max (3 * index_lebs geo weight) (present + index_lebs geo weight)

-- LEBs to keep beside the index
abbrev pub reserve : Class → ℕ
reserve Ordinary = 10
reserve Removal = 6

-- bytes of a page's data node and inode node
abbrev pub credit_bytes : ℕ
credit_bytes = 4304

-- what is used, granted and asked for, in bytes
abbrev pub needed : Space → Need → ℕ
needed space need = space.used + space.held + credit_bytes * (space.credits + need.credits) + need.bytes

-- what there is room for, in bytes
abbrev pub room_for : RawGeometry → Space → Need → ℕ
room_for geo space need =
    (space.main - index_room geo space.index (space.weight + 2 * (space.credits + need.credits) + need.nodes) - reserve need.class) * (geo.leb_size - leb_reserve geo)

-- bytes of nodes on the medium, each rounded up to 8
abbrev pub inode_bytes : Inode → ℕ
inode_bytes inode = round_8 (160 + length inode.extra)

abbrev pub block_bytes : List ℕ → ℕ
block_bytes bytes = round_8 (48 + length bytes)

abbrev pub entry_bytes : Entry → ℕ
entry_bytes entry = round_8 (57 + length entry.name)

-- the bytes of a tree's leaf nodes
abbrev pub tree_bytes : Tree → ℕ
tree_bytes tree = sum_by inode_bytes (values_of tree.inodes) + sum_by block_bytes (values_of tree.blocks) + sum_by entry_bytes (values_of tree.entries)
