-- The sums that are made of main LEBs: free and dirty bytes, and those of the committed index.
use Rattle.std.specs.Prelude.{◌≡◌, ◌≢◌, ℕ, ◌+◌, ◌<◌, ◌==◌, List, Some, filter, get_or, length, map, slice_get, IsPermutation}
use Rattle.media_lpt.specs.declared.lprop.Lprop.{Lprop}
use Rattle.media_sys.specs.declared.branch.Branch.{Branch}
use Rattle.index_tree.specs.Shape.{contents as leaves_in}
use Rattle.index_tree.specs.declared.leaf.Leaf.{Leaf}
use Rattle.index_media.specs.PlacedRow.{PlacedRow, all_nodes, branch_to, bytes_taken, plain}

-- these are the leaves of an index from left to right, and the branches to its nodes, in any order
pub record ListsIndex (placed : PlacedRow) (leaves : List Leaf) (nodes : List Branch) : Type 0 where
  pub leaves_are : leaves ≡ leaves_in (plain placed)
  pub nodes_are : IsPermutation (all_nodes placed) nodes

-- the bytes that nodes take of a LEB, each rounded up to 8
abbrev pub node_bytes_in : ℕ → List Branch → ℕ
node_bytes_in lnum branches = bytes_taken (filter (λ (branch : Branch). branch.lnum == lnum) branches)

-- to the sums of LEBs, from the first main LEB on, the bytes were added that these nodes take of each
pub record AreAdded (first : ℕ) (old new : List ℕ) (branches : List Branch) : Type 0 where
  pub len : length new ≡ length old
  pub more : (at : ℕ) → at < length old → get_or new at 0 ≡ get_or old at 0 + node_bytes_in (first + at) branches

-- of each main LEB its free and dirty bytes, and what leaves and nodes take of it
pub record AreSums (first : ℕ) (props : List Lprop) (leaves : List Leaf) (nodes : List Branch) (sums : List ℕ) : Type 0 where
  pub len : length sums ≡ length props
  pub is : (at : ℕ) (prop : Lprop) → slice_get props at ≡ Some prop → get_or sums at 0 ≡ prop.free + prop.dirty + (node_bytes_in (first + at) (map branch_to leaves) + node_bytes_in (first + at) nodes)

-- the sum at this place is another than all bytes of a LEB, and none before it is
pub record IsFirstOther (whole : ℕ) (sums : List ℕ) (at : ℕ) : Type 0 where
  pub inside : at < length sums
  pub other : get_or sums at 0 ≢ whole
  pub before : (k : ℕ) → k < at → get_or sums k 0 ≡ whole
