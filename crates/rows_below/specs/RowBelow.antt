-- Which row stands below branches: it is read from contents, a level after another.
use Rattle.std.specs.Prelude.{ℕ, zero, suc, List, [], ◌∷◌}
use Rattle.media_sys.specs.declared.branch.Branch.{Branch}
use Rattle.index_media.specs.PlacedRow.{PlacedRow, ended, leaf_at, node_at, leaf_of}
use Rattle.rows_below.specs.NodeSaid.{node_said_at}

-- the leaves to which branches lead
abbrev pub leaves_by : List Branch → PlacedRow
leaves_by [] = ended
leaves_by (branch ∷ branches) = leaf_at (leaf_of branch) (leaves_by branches)

-- the nodes to which branches lead, where this gives the row below each
abbrev pub nodes_by : (Branch → PlacedRow) → List Branch → PlacedRow
nodes_by below [] = ended
nodes_by below (branch ∷ branches) = node_at branch (below branch) (nodes_by below branches)

-- the row of so many levels to which branches lead, with all below it
unfoldable pub row_by : (ℕ → List ℕ) → ℕ → List Branch → PlacedRow
row_by contents zero branches = leaves_by branches
row_by contents (suc levels) branches = nodes_by (λ branch. row_by contents levels (node_said_at contents branch).branches) branches
