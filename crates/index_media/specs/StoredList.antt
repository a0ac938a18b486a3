-- The nodes of a stored index in a list, with what each says: each level from left to right, the lowest first.
use Rattle.std.specs.Prelude.{ℕ, zero, suc, ◌-◌, ◌==◌, if◌then◌else◌, List, [], ◌∷◌, ◌++◌, map, length}
use Rattle.index_tree.specs.Listing.{ListedNode, height}
use Rattle.media_sys.specs.Index.{Index}
use Rattle.media_sys.specs.declared.branch.Branch.{Branch}
use Rattle.index_media.specs.PlacedRow.{PlacedRow, ended, leaf_at, node_at, plain, leaf_of, branches_of}

-- a node, and the branch that leads to it
pub record StoredNode : Type 0 where
  pub branch : Branch
  pub said : Index

-- what an index node says, as a listed node: its branches lead to leaves on the lowest level
abbrev pub as_listed : Index → ListedNode
as_listed said = record {
  level = said.level;
  count = length said.branches;
  leaves = if said.level == 0 then map leaf_of said.branches else [];
}

-- the nodes of a level, in a row that has so many levels
abbrev pub level_stored : ℕ → ℕ → PlacedRow → List StoredNode
level_stored level levels ended = []
level_stored level levels (leaf_at x rest) = []
level_stored level levels (node_at branch children rest) =
    (if levels - 1 == level then (record { branch = branch; said = record { level = level; branches = branches_of children } }) ∷ []
    else level_stored level (levels - 1) children)
    ++ level_stored level levels rest

-- the nodes of the n lowest levels, one level after another
abbrev pub stored_below : ℕ → ℕ → PlacedRow → List StoredNode
stored_below zero levels row = []
stored_below (suc n) levels row = stored_below n levels row ++ level_stored n levels row

-- all nodes, children before their parent and the root last
abbrev pub stored_list : PlacedRow → List StoredNode
stored_list placed = stored_below (height (plain placed)) (height (plain placed)) placed
