-- The shape of an index whose nodes have places, what it is without them, and which bytes it takes.
use Rattle.std.specs.Prelude.{ℕ, ◌+◌, ◌*◌, ◌/◌, ◌==◌, ◌&&◌, ◌||◌, not, nat_le, Bool, true, List, [], ◌∷◌, ◌++◌, map}
use Rattle.std.specs.List.{list_all}
use Rattle.index_tree.specs.Shape.{Shape, done, leaf, node}
use Rattle.index_tree.specs.declared.leaf.Leaf.{Leaf}
use Rattle.media_sys.specs.declared.branch.Branch.{Branch}

-- A row of siblings: leaves, or nodes, each with the branch that leads to it and the row of its children.
-- A branch has a node's place and a key, which may be lower than the node's first leaf's
pub data PlacedRow : Type 0 where
  ended : PlacedRow
  leaf_at : Leaf → PlacedRow → PlacedRow
  node_at : Branch → PlacedRow → PlacedRow → PlacedRow

-- the same row without places and without the keys of branches
abbrev pub plain : PlacedRow → Shape
plain ended = done
plain (leaf_at x rest) = leaf x (plain rest)
plain (node_at branch children rest) = node (plain children) (plain rest)

-- the branch that leads to a leaf
abbrev pub branch_to : Leaf → Branch
branch_to x = record { lnum = x.lnum; offs = x.offs; len = x.len; key = x.key }

-- the leaf to which a branch of a node on the lowest level leads
abbrev pub leaf_of : Branch → Leaf
leaf_of branch = record { key = branch.key; lnum = branch.lnum; offs = branch.offs; len = branch.len }

-- the branches that lead to the siblings of a row
abbrev pub branches_of : PlacedRow → List Branch
branches_of ended = []
branches_of (leaf_at x rest) = branch_to x ∷ branches_of rest
branches_of (node_at branch children rest) = branch ∷ branches_of rest

-- the branches that lead to all nodes of a row, each before those below it
abbrev pub all_nodes : PlacedRow → List Branch
all_nodes ended = []
all_nodes (leaf_at x rest) = all_nodes rest
all_nodes (node_at branch children rest) = branch ∷ all_nodes children ++ all_nodes rest

-- the LEBs that the nodes stand in, one for each node
abbrev pub lebs_of : PlacedRow → List ℕ
lebs_of row = map (λ branch. branch.lnum) (all_nodes row)

-- where the next node may stand behind one that ends here: at a multiple of 8
abbrev pub node_end : ℕ → ℕ
node_end n = (n + 7) / 8 * 8

-- the bytes that nodes take, each rounded up to 8
abbrev pub bytes_taken : List Branch → ℕ
bytes_taken [] = 0
bytes_taken (branch ∷ rest) = node_end branch.len + bytes_taken rest

-- a stretch of a LEB: from an offset on, so many bytes
pub record Stretch : Type 0 where
  pub lnum : ℕ
  pub offs : ℕ
  pub len : ℕ

-- where a branch leads
abbrev pub stretch_of : Branch → Stretch
stretch_of branch = record { lnum = branch.lnum; offs = branch.offs; len = branch.len }

-- whether a node doesn't overlap a stretch: their LEBs differ, or one ends, rounded up to 8, before the other begins
abbrev pub is_apart : Stretch → Branch → Bool
is_apart a b = not (a.lnum == b.lnum) || (nat_le (node_end (a.offs + a.len)) b.offs || nat_le (node_end (b.offs + b.len)) a.offs)

-- whether no node of a row overlaps a stretch
abbrev pub is_apart_from : Stretch → PlacedRow → Bool
is_apart_from place row = list_all (λ branch. is_apart place branch) (all_nodes row)

-- whether no two of these nodes overlap
abbrev pub are_disjoint : List Branch → Bool
are_disjoint [] = true
are_disjoint (branch ∷ rest) = list_all (λ other. is_apart (stretch_of branch) other) rest && are_disjoint rest
