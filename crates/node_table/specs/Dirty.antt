-- The dirty nodes below a root, by their numbers, each behind those below it.
use Rattle.std.specs.Prelude.{ℕ, List, [], ◌∷◌, ◌++◌, Option, None, Some, length, slice_get, unwrap_or}
use Rattle.table_nodes.specs.declared.link.Link.{Link}
use Rattle.table_nodes.specs.declared.link.Link.TheVariants.{ToLeaf, ToNode}
use Rattle.table_nodes.specs.declared.node.NodePlace.{NodePlace}
use Rattle.table_nodes.specs.declared.node.Root.{Root}
use Rattle.table_nodes.specs.declared.node.TableNode.{TableNode}

-- those of a node that is dirty, with those below it; of a clean one there are none
abbrev pub dirty_node : Option NodePlace → ℕ → List ℕ → List ℕ
dirty_node None number below = below ++ number ∷ []
dirty_node (Some place) number below = []

-- those of what links lead to, where these are known of the nodes
abbrev pub dirty_among : List (List ℕ) → List Link → List ℕ
dirty_among known [] = []
dirty_among known (ToLeaf x ∷ links) = dirty_among known links
dirty_among known (ToNode key number ∷ links) = unwrap_or (slice_get known number) [] ++ dirty_among known links

-- those of each node, behind those of the nodes before it
abbrev pub dirty_behind : List (List ℕ) → List TableNode → List (List ℕ)
dirty_behind known [] = known
dirty_behind known (node ∷ nodes) =
    dirty_behind (known ++ dirty_node node.place (length known) (dirty_among known node.links.items) ∷ []) nodes

-- those of each node of a table
abbrev pub dirty_lists : List TableNode → List (List ℕ)
dirty_lists nodes = dirty_behind [] nodes

-- those of one node
abbrev pub dirty_from : List TableNode → ℕ → List ℕ
dirty_from nodes number = unwrap_or (slice_get (dirty_lists nodes) number) []

-- those below a root, the topmost node included; a node that is seen twice stands there twice
abbrev pub dirty_below : List TableNode → Option Root → List ℕ
dirty_below nodes None = []
dirty_below nodes (Some root) = dirty_from nodes root.number
