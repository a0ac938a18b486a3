-- Nodes of one length, laid one behind another, and what the nodes above say of them.
use Rattle.std.specs.Prelude.{◌≡◌, ◌≢◌, ℕ, zero, suc, ◌+◌, ◌*◌, false, List, [], ◌∷◌, ◌++◌, length, take, get_or}
use Rattle.ubifs_base.specs.Properties.{pnode_len, nnode_len, pnode_count, level_nodes, nnodes_up_to}
use Rattle.ubifs_base.specs.declared.raw_geometry.RawGeometry.{RawGeometry}
use Rattle.media_lpt.specs.declared.lprop.Lprop.{Lprop}
use Rattle.media_lpt.specs.declared.nnode.LptPlace.{LptPlace}
use Rattle.lpt_area.specs.Tree.{HasPnode, HasNnode, Row, IsBelow, no_place, empty_leb, row_len, alone}

-- so many places of a LEB, from this offset on, each a node's length behind the one before
unfoldable pub places : ℕ → ℕ → ℕ → ℕ → List LptPlace
places lnum offs len zero = []
places lnum offs len (suc n) = record { lnum = lnum; offs = offs } ∷ places lnum (offs + len) len n

-- so many items of a list, from this one on; past its end each is the one given for that
unfoldable pub items_from : {X : Type 0} → X → ℕ → ℕ → List X → List X
items_from none zero at xs = []
items_from none (suc n) at xs = get_or xs at none ∷ items_from none n (suc at) xs

-- what a pnode says past the main area
abbrev pub past_main : Lprop
past_main = record { free = 0; dirty = 0; index = false }

-- so many fours of a list
abbrev pub fours : {X : Type 0} → X → ℕ → List X → List X
fours none n xs = items_from none (4 * n) 0 xs

-- The first bytes of a buffer are as they were, and so many more are laid behind them.
pub record Grown (old new : List ℕ) (from to : ℕ) : Type 0 where
  pub more : List ℕ
  pub front : take to new ≡ take from old ++ more
  pub size : length new ≡ length old

-- the node that was laid at this offset
pub record IsLaid (IsNode : List ℕ → Type 0) (old new : List ℕ) (from len : ℕ) : Type 0 where
  pub bytes : List ℕ
  pub node : IsNode bytes
  pub long : length bytes ≡ len
  pub front : take (from + len) new ≡ take from old ++ bytes
  pub size : length new ≡ length old

-- so many pnodes are laid from a buffer's start on
abbrev pub ArePnodesLaid : RawGeometry → List Lprop → List ℕ → ℕ → Type 0
ArePnodesLaid geo props out n = (lnum : ℕ) → lnum ≢ 0 → Row (HasPnode geo) (empty_leb geo) (alone lnum (take (n * pnode_len geo) out)) (places lnum 0 (pnode_len geo) n) (fours past_main n props)

-- so many nnodes are laid from this offset on, which name the places of the level below
pub record IsLevelLaid (geo : RawGeometry) (lnum : ℕ) (below : List LptPlace) (old new : List ℕ) (offs len n : ℕ) : Type 0 where
  pub row : Row (HasNnode geo) no_place (alone lnum (take (offs + n * len) new)) (places lnum offs len n) (fours no_place n below)
  pub grown : Grown old new offs (offs + n * len)

-- The levels up to this one are laid behind the pnodes; so many nodes of it stand from this offset on. What the tree says
-- from the pnodes down, it says from there down.
pub record AreLevelsLaid (geo : RawGeometry) (lnum : ℕ) (old new : List ℕ) (offs len n level : ℕ) : Type 0 where
  pub count : n ≡ level_nodes (pnode_count geo) level
  pub end : offs + n * len ≡ pnode_count geo * pnode_len geo + nnodes_up_to (pnode_count geo) level * nnode_len geo
  pub grown : Grown old new (pnode_count geo * pnode_len geo) (offs + n * len)
  pub tree : (props : List Lprop) → IsBelow geo (alone lnum (take (pnode_count geo * pnode_len geo) old)) 0 (take (row_len geo 0) (places lnum 0 (pnode_len geo) (pnode_count geo))) props
      → IsBelow geo (alone lnum (take (offs + n * len) new)) level (take (row_len geo level) (places lnum offs len n)) props
