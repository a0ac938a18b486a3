-- What is written of a tree of properties, and what a power cut leaves of the one before it.
use Rattle.std.specs.Prelude.{◌≡◌, ◌≢◌, ℕ, zero, suc, ◌+◌, ◌-◌, ◌*◌, ◌/◌, ◌%◌, ◌≤◌, ◌==◌, nat_lt, if◌then◌else◌, List, [], ◌∷◌, length, take, drop, replicate, All}
use Rattle.ubifs_base.specs.Areas.{lpt_first, orph_first, main_lebs}
use Rattle.ubifs_base.specs.Properties.{pnode_len, nnode_len, ltab_len, pnode_count, tree_len}
use Rattle.ubifs_base.specs.declared.raw_geometry.RawGeometry.{RawGeometry}
use Rattle.media_lpt.specs.Nodes.{IsLtabBytes}
use Rattle.media_lpt.specs.declared.lprop.Lprop.{Lprop}
use Rattle.media_lpt.specs.declared.ltab.LptRow.{LptRow}
use Rattle.media_lpt.specs.declared.nnode.LptPlace.{LptPlace}
use Rattle.ubi_volume.specs.Volume.{VolumeState, Only, Leaves, WorksOn, ChangeUnderWay}
use Rattle.lpt_area.specs.Tree.{HasPnode, Row, IsTree, IsTreeIn, root_of, empty_leb, alone}
use Rattle.lpt_area.specs.Laid.{places, fours, past_main}
use Rattle.lpt_area.specs.declared.lpt_at.LptAt.{LptAt}

-- properties that a main LEB can have: free and dirty are multiples of 8, and together at most the LEB
pub record IsLprop (geo : RawGeometry) (prop : Lprop) : Type 0 where
  pub free : prop.free % 8 ≡ 0
  pub dirty : prop.dirty % 8 ≡ 0
  pub room : prop.free + prop.dirty ≤ geo.leb_size

-- such properties for each main LEB
pub record AreProps (geo : RawGeometry) (props : List Lprop) : Type 0 where
  pub count : length props ≡ main_lebs geo
  pub each : All (IsLprop geo) props

-- the LEB of the properties area next behind this one, round the area; of one outside the area, the first
abbrev pub next_lpt : RawGeometry → ℕ → ℕ
next_lpt geo after = if nat_lt after (lpt_first geo) then lpt_first geo else (if nat_lt (after + 1) (orph_first geo) then after + 1 else lpt_first geo)

-- so many bytes, rounded up to whole units
abbrev pub in_units : ℕ → ℕ → ℕ
in_units unit len = (len + (unit - 1)) / unit * unit

-- the ltab's row of the LEB that a tree was written to, whose padding to the unit is dirty
abbrev pub tree_row : RawGeometry → LptRow
tree_row geo = record { free = geo.leb_size - in_units geo.min_io (tree_len geo); dirty = in_units geo.min_io (tree_len geo) - tree_len geo }

-- the ltab's row of any other LEB of the area
abbrev pub empty_row : RawGeometry → LptRow
empty_row geo = record { free = geo.leb_size; dirty = 0 }

-- the rows of so many LEBs from this one on, of which one was written
unfoldable pub rows_from : RawGeometry → ℕ → ℕ → ℕ → List LptRow
rows_from geo lnum zero from = []
rows_from geo lnum (suc n) from = (if from == lnum then tree_row geo else empty_row geo) ∷ rows_from geo lnum n (suc from)

-- the rows of the ltab
abbrev pub ltab_rows : RawGeometry → ℕ → List LptRow
ltab_rows geo lnum = rows_from geo lnum geo.lpt_lebs (lpt_first geo)

-- What stands in the LEB that a tree of these properties was written to: all pnodes in order from its start on, the nnodes,
-- of which the root is the last, the ltab, and unwritten bytes to its end.
pub record IsTreeLeb (geo : RawGeometry) (lpt : ℕ) (props : List Lprop) (leb : List ℕ) (at : LptAt) : Type 0 where
  pub tree : IsTreeIn geo lpt leb (root_of at) props
  pub pnodes : Row (HasPnode geo) (empty_leb geo) (alone lpt leb) (places lpt 0 (pnode_len geo) (pnode_count geo)) (fours past_main (pnode_count geo) props)
  pub ltab : IsLtabBytes geo (take (ltab_len geo) (drop at.ltab_offs leb)) (ltab_rows geo lpt)
  pub blank : drop (tree_len geo) leb ≡ replicate (geo.leb_size - tree_len geo) 255
  pub lnum : at.lnum ≡ lpt
  pub offs : at.offs + nnode_len geo ≡ at.ltab_offs
  pub ltab_lnum : at.ltab_lnum ≡ lpt
  pub ltab_offs : at.ltab_offs + ltab_len geo ≡ tree_len geo
  pub nhead_lnum : at.nhead_lnum ≡ lpt
  pub nhead_offs : at.nhead_offs ≡ in_units geo.min_io (tree_len geo)

-- A tree of these properties was written to the LEB of the area next behind this one, and a cut leaves it.
pub record IsWritten (geo : RawGeometry) (after : ℕ) (props : List Lprop) (new : VolumeState) (at : LptAt) : Type 0 where
  pub leb : IsTreeLeb geo (next_lpt geo after) props (new.holds (next_lpt geo after)) at
  pub written : new.written at.lnum ≡ at.nhead_offs
  pub left : Only (new.holds at.lnum) (new.left_now at.lnum)
  pub tree : IsTree geo new.holds (root_of at) props
  pub other : at.lnum ≢ after

-- a call that at most replaces one LEB as one step
abbrev pub ChangesOne : VolumeState → VolumeState → ℕ → Type 0
ChangesOne old new lnum = (bytes : List ℕ) × WorksOn old new lnum (ChangeUnderWay old lnum bytes)

-- Each tree of which all nodes stand in this LEB stands in what a cut at any moment leaves, where a cut before left
-- nothing else of that LEB than what it holds.
abbrev pub KeepsTrees : RawGeometry → VolumeState → VolumeState → ℕ → Type 0
KeepsTrees geo old new lnum = (root : LptPlace) (props : List Lprop) → IsTreeIn geo lnum (old.holds lnum) root props
    → Only (old.holds lnum) (old.left_now lnum) → Leaves old new (λ left. IsTree geo left root props)
