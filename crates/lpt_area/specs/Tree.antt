-- The tree of LEB properties, as it stands in contents that give each LEB its bytes: which nodes stand where, and what
-- they say of the main LEBs.
use Rattle.std.specs.Prelude.{◌≡◌, ◌≢◌, ◌⊎◌, ℕ, zero, suc, ◌+◌, ◌<◌, ◌≤◌, ◌==◌, if◌then◌else◌, false, List, [], ◌∷◌, ◌++◌, length, take, drop}
use Rattle.ubifs_base.specs.Areas.{lpt_first, orph_first, main_lebs}
use Rattle.ubifs_base.specs.Properties.{quarter, pnode_len, nnode_len, pnode_count, level_nodes, tree_height}
use Rattle.ubifs_base.specs.declared.raw_geometry.RawGeometry.{RawGeometry}
use Rattle.media_lpt.specs.Nodes.{IsPnodeBytes, IsNnodeBytes}
use Rattle.media_lpt.specs.declared.lprop.Lprop.{Lprop}
use Rattle.media_lpt.specs.declared.nnode.LptPlace.{LptPlace}
use Rattle.media_lpt.specs.declared.nnode.Nnode.{Nnode}
use Rattle.media_lpt.specs.declared.pnode.Pnode.{Pnode}
use Rattle.lpt_area.specs.declared.lpt_at.LptAt.{LptAt}

-- the root's place
abbrev pub root_of : LptAt → LptPlace
root_of at = record { lnum = at.lnum; offs = at.offs }

-- no place
abbrev pub no_place : LptPlace
no_place = record { lnum = 0; offs = 0 }

-- an empty LEB
abbrev pub empty_leb : RawGeometry → Lprop
empty_leb geo = record { free = geo.leb_size; dirty = 0; index = false }

-- At this offset of a LEB stands a pnode, whole, that says this of four main LEBs.
pub record HasPnode (geo : RawGeometry) (leb : List ℕ) (offs : ℕ) (four : List Lprop) : Type 0 where
  pub node : Pnode
  pub inside : offs + pnode_len geo ≤ length leb
  pub is : IsPnodeBytes geo (take (pnode_len geo) (drop offs leb)) node
  pub says : four ≡ node.props

-- At this offset of a LEB stands an nnode, whole, that names four places.
pub record HasNnode (geo : RawGeometry) (leb : List ℕ) (offs : ℕ) (four : List LptPlace) : Type 0 where
  pub node : Nnode
  pub inside : offs + nnode_len geo ≤ length leb
  pub is : IsNnodeBytes geo (take (nnode_len geo) (drop offs leb)) node
  pub says : four ≡ node.places

-- A place says these four, by what stands there in its LEB; if it is none, each of the four is the one given for that.
abbrev pub AtPlace : {X : Type 0} → (List ℕ → ℕ → List X → Type 0) → X → List ℕ → LptPlace → List X → Type 0
AtPlace Stands none leb place four = ((place.lnum ≡ 0) × (four ≡ none ∷ none ∷ none ∷ none ∷ [])) ⊎ ((place.lnum ≢ 0) × Stands leb place.offs four)

-- what the places of a row say, from left to right
unfoldable pub Row : {X : Type 0} → (List ℕ → ℕ → List X → Type 0) → X → (ℕ → List ℕ) → List LptPlace → List X → Type 0
Row Stands none holds [] all = all ≡ []
Row {X = X} Stands none holds (place ∷ rest) all = (four : List X) × (more : List X) × AtPlace Stands none (holds place.lnum) place four × Row Stands none holds rest more × (all ≡ four ++ more)

-- the number of nodes of a level that stand over main LEBs
abbrev pub row_len : RawGeometry → ℕ → ℕ
row_len geo level = level_nodes (quarter (main_lebs geo)) level

-- Nodes of this level, of which the pnodes are level 0, stand at these places from left to right, and from there down the
-- tree says these properties. Only nodes over main LEBs are followed.
unfoldable pub IsBelow : RawGeometry → (ℕ → List ℕ) → ℕ → List LptPlace → List Lprop → Type 0
IsBelow geo holds zero places props = (all : List Lprop) × Row (HasPnode geo) (empty_leb geo) holds places all × (props ≡ take (main_lebs geo) all)
IsBelow geo holds (suc level) places props = (all : List LptPlace) × Row (HasNnode geo) no_place holds places all × IsBelow geo holds level (take (row_len geo level) all) props

-- The tree whose root stands at this place of the properties area says these properties, one for each main LEB in order.
pub record IsTree (geo : RawGeometry) (holds : ℕ → List ℕ) (root : LptPlace) (props : List Lprop) : Type 0 where
  pub low : lpt_first geo ≤ root.lnum
  pub high : root.lnum < orph_first geo
  pub below : IsBelow geo holds (tree_height (pnode_count geo)) (root ∷ []) props

-- contents of which this LEB has these bytes, and every other one none
abbrev pub alone : ℕ → List ℕ → ℕ → List ℕ
alone lnum leb k = if k == lnum then leb else []

-- the same of a tree of which each node stands in one LEB, with these bytes
abbrev pub IsTreeIn : RawGeometry → ℕ → List ℕ → LptPlace → List Lprop → Type 0
IsTreeIn geo lnum leb root props = IsTree geo (alone lnum leb) root props
