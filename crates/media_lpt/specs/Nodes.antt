-- What the nodes of the properties tree say, and in which bits.
use Rattle.std.specs.Prelude.{◌≡◌, ◌⊎◌, ℕ, ◌+◌, ◌-◌, ◌*◌, ◌/◌, ◌%◌, ◌<◌, ◌≤◌, ◌==◌, if◌then◌else◌, List, [], ◌∷◌, length}
use Rattle.std.specs.List.{flat_map, AllByRecursion}
use Rattle.ubifs_base.specs.Areas.{lpt_first, orph_first}
use Rattle.ubifs_base.specs.Properties.{fls, bytes_for, node_head_bits, node_number_bits, space_bits, place_lnum_bits, place_offs_bits}
use Rattle.ubifs_base.specs.declared.raw_geometry.RawGeometry.{RawGeometry}
use Rattle.media_lpt.specs.declared.lprop.Lprop.{Lprop}
use Rattle.media_lpt.specs.declared.pnode.Pnode.{Pnode}
use Rattle.media_lpt.specs.declared.nnode.LptPlace.{LptPlace}
use Rattle.media_lpt.specs.declared.nnode.Nnode.{Nnode}
use Rattle.media_lpt.specs.declared.ltab.LptRow.{LptRow}
use Rattle.media_lpt.specs.Packed.{Field, field, AllFit, IsPacked}

-- free and dirty in units of 8 bytes, and whether the LEB holds index nodes
unfoldable pub lprop_fields : RawGeometry → Lprop → List Field
lprop_fields geo prop = field (space_bits geo) (prop.free / 8) ∷ field (space_bits geo) (prop.dirty / 8) ∷ field 1 (if prop.index then 1 else 0) ∷ []

-- the node's number, which has no bits in the small model, and four LEBs
unfoldable pub pnode_fields : RawGeometry → Pnode → List Field
pnode_fields geo node = field (node_number_bits geo) node.num ∷ flat_map (lprop_fields geo) node.props

-- free and dirty are whole units of 8 bytes
abbrev pub IsInEights : Lprop → Type 0
IsInEights prop = (prop.free % 8 ≡ 0) × (prop.dirty % 8 ≡ 0)

-- what a pnode may say
pub record IsPnode (geo : RawGeometry) (node : Pnode) : Type 0 where
  pub four : length node.props ≡ 4
  pub eights : AllByRecursion IsInEights node.props
  pub fit : AllFit (pnode_fields geo node)

-- These bytes, all of them, are this pnode.
pub record IsPnodeBytes (geo : RawGeometry) (bytes : List ℕ) (node : Pnode) : Type 0 where
  pub is : IsPnode geo node
  pub packed : IsPacked bytes 0 (pnode_fields geo node)

-- a LEB by its place in the properties area; the number behind the last says 'none'
abbrev pub place_value : RawGeometry → LptPlace → ℕ
place_value geo place = if place.lnum == 0 then geo.lpt_lebs else place.lnum - lpt_first geo

-- the LEB and the offset in it
unfoldable pub place_fields : RawGeometry → LptPlace → List Field
place_fields geo place = field (place_lnum_bits geo) (place_value geo place) ∷ field (place_offs_bits geo) place.offs ∷ []

-- the node's number, which has no bits in the small model, and four places
unfoldable pub nnode_fields : RawGeometry → Nnode → List Field
nnode_fields geo node = field (node_number_bits geo) node.num ∷ flat_map (place_fields geo) node.places

-- none, or a LEB of the properties area
abbrev pub IsPlace : RawGeometry → LptPlace → Type 0
IsPlace geo place = (place.lnum ≡ 0) ⊎ ((lpt_first geo ≤ place.lnum) × (place.lnum < orph_first geo))

-- what an nnode may say
pub record IsNnode (geo : RawGeometry) (node : Nnode) : Type 0 where
  pub four : length node.places ≡ 4
  pub places : AllByRecursion (IsPlace geo) node.places
  pub fit : AllFit (nnode_fields geo node)

-- These bytes, all of them, are this nnode.
pub record IsNnodeBytes (geo : RawGeometry) (bytes : List ℕ) (node : Nnode) : Type 0 where
  pub is : IsNnode geo node
  pub packed : IsPacked bytes 1 (nnode_fields geo node)

-- free and dirty
unfoldable pub row_fields : RawGeometry → LptRow → List Field
row_fields geo row = field (fls geo.leb_size) row.free ∷ field (fls geo.leb_size) row.dirty ∷ []

-- a row for each LEB of the properties area
pub record IsLtab (geo : RawGeometry) (rows : List LptRow) : Type 0 where
  pub whole : length rows ≡ geo.lpt_lebs
  pub fit : AllFit (flat_map (row_fields geo) rows)

-- These bytes, all of them, are the ltab of these rows.
pub record IsLtabBytes (geo : RawGeometry) (bytes : List ℕ) (rows : List LptRow) : Type 0 where
  pub is : IsLtab geo rows
  pub packed : IsPacked bytes 2 (flat_map (row_fields geo) rows)

-- the bits of a LEB number
abbrev pub lnum_bits : RawGeometry → ℕ
lnum_bits geo = fls (geo.max_leb_cnt - 1)

-- a LEB number
unfoldable pub lnum_fields : RawGeometry → ℕ → List Field
lnum_fields geo lnum = field (lnum_bits geo) lnum ∷ []

-- the length of the save table
abbrev pub lsave_len : RawGeometry → ℕ
lsave_len geo = bytes_for (node_head_bits + geo.lsave_cnt * lnum_bits geo)

-- as many LEB numbers as the geometry says
pub record IsLsave (geo : RawGeometry) (lnums : List ℕ) : Type 0 where
  pub whole : length lnums ≡ geo.lsave_cnt
  pub fit : AllFit (flat_map (lnum_fields geo) lnums)

-- These bytes, all of them, are the save table of these LEB numbers.
pub record IsLsaveBytes (geo : RawGeometry) (bytes : List ℕ) (lnums : List ℕ) : Type 0 where
  pub is : IsLsave geo lnums
  pub packed : IsPacked bytes 3 (flat_map (lnum_fields geo) lnums)
