-- The tree of LEB properties: the lengths of its nodes, and how many there are.
use Rattle.std.specs.Prelude.{ℕ, zero, suc, ◌+◌, ◌-◌, ◌*◌, ◌/◌, ◌^◌, nat_le, if◌then◌else◌}
use Rattle.std.specs.Int.{leading_zeros, w32}
use Rattle.ubifs_base.specs.declared.raw_geometry.RawGeometry.{RawGeometry}
use Rattle.ubifs_base.specs.Areas.{main_first}

-- the number of binary digits of a number of 32 bits
unfoldable pub fls : ℕ → ℕ
fls n = 32 - leading_zeros w32 n

-- a quarter, rounded up
abbrev pub quarter : ℕ → ℕ
quarter n = (n + 3) / 4

-- the bytes that hold so many bits
abbrev pub bytes_for : ℕ → ℕ
bytes_for bits = (bits + 7) / 8

-- the bits of the checksum and the type, with which each node begins
abbrev pub node_head_bits : ℕ
node_head_bits = 16 + 4

-- the bits of a node's number, which the big model has alone
abbrev pub node_number_bits : RawGeometry → ℕ
node_number_bits geo = if geo.big then fls (quarter geo.max_leb_cnt - 1) else 0

-- the bits of a LEB's free or dirty space, a multiple of 8
abbrev pub space_bits : RawGeometry → ℕ
space_bits geo = fls geo.leb_size - 3

-- the bits of a LEB of the properties area, or of the number behind them, which says 'none'
abbrev pub place_lnum_bits : RawGeometry → ℕ
place_lnum_bits geo = fls geo.lpt_lebs

-- the bits of an offset
abbrev pub place_offs_bits : RawGeometry → ℕ
place_offs_bits geo = fls (geo.leb_size - 1)

-- the length of a pnode: four times free, dirty and whether the LEB holds index nodes
abbrev pub pnode_len : RawGeometry → ℕ
pnode_len geo = bytes_for (node_head_bits + node_number_bits geo + 4 * (2 * space_bits geo + 1))

-- the length of an nnode: four places
abbrev pub nnode_len : RawGeometry → ℕ
nnode_len geo = bytes_for (node_head_bits + node_number_bits geo + 4 * (place_lnum_bits geo + place_offs_bits geo))

-- the length of the ltab: free and dirty of each LEB of the properties area
abbrev pub ltab_len : RawGeometry → ℕ
ltab_len geo = bytes_for (node_head_bits + geo.lpt_lebs * (2 * fls geo.leb_size))

-- the number of pnodes: one for four main LEBs that a volume of max_leb_cnt LEBs has
abbrev pub pnode_count : RawGeometry → ℕ
pnode_count geo = quarter (geo.max_leb_cnt - main_first geo)

-- the number of nodes of a level: the pnodes are level 0, and each level above has a quarter, rounded up
abbrev pub level_nodes : ℕ → ℕ → ℕ
level_nodes pnodes zero = pnodes
level_nodes pnodes (suc level) = quarter (level_nodes pnodes level)

-- the least height from the given one on at which 4 ^ height is at least the number of pnodes, as far as so many tries go
unfoldable pub height_from : ℕ → ℕ → ℕ → ℕ
height_from zero height pnodes = height
height_from (suc tries) height pnodes = if nat_le pnodes (4 ^ height) then height else height_from tries (height + 1) pnodes

-- the height of the tree, at least 1: the root is the one node of that level
unfoldable pub tree_height : ℕ → ℕ
tree_height pnodes = height_from 16 1 pnodes

-- the nnodes of the levels from 1 up to this one
abbrev pub nnodes_up_to : ℕ → ℕ → ℕ
nnodes_up_to pnodes zero = 0
nnodes_up_to pnodes (suc level) = nnodes_up_to pnodes level + level_nodes pnodes (suc level)

-- the number of nnodes
abbrev pub nnode_count : RawGeometry → ℕ
nnode_count geo = nnodes_up_to (pnode_count geo) (tree_height (pnode_count geo))

-- the bytes of the whole tree and the ltab
abbrev pub tree_len : RawGeometry → ℕ
tree_len geo = pnode_count geo * pnode_len geo + nnode_count geo * nnode_len geo + ltab_len geo
