-- What a commit writes of a frozen index.
use Rattle.std.specs.Prelude.{◌≡◌, ◌+◌, ◌*◌, ℕ, List, Option, None, Some, length, slice_get}
use Rattle.index_media.specs.Clean.{node_branch, placed_of}
use Rattle.index_media.specs.KeyedRow.{KeyedRow}
use Rattle.index_media.specs.PlacedRow.{branch_to, branches_of}
use Rattle.media_sys.specs.Index.{Index}
use Rattle.media_sys.specs.declared.branch.Branch.{Branch}
use Rattle.node_table.specs.Clean.{IsReadyNode}
use Rattle.table_nodes.specs.NodeView.{NodeView, node_views, children_in}
use Rattle.node_table.specs.Pruning.{stretch_in}
use Rattle.table_nodes.specs.declared.link.Link.{Link}
use Rattle.table_nodes.specs.declared.link.Link.TheVariants.{ToLeaf, ToNode}
use Rattle.table_nodes.specs.declared.node.NodePlace.{NodePlace}
use Rattle.index_cache.specs.Paged.{dirty_of}
use Rattle.index_cache.specs.declared.paged.PagedIndex.{PagedIndex}

-- a node's number is that of the first dirty node of the frozen index: all nodes below it are clean
pub record IsNextNode (index : PagedIndex) (number : ℕ) : Type 0 where
  pub first : slice_get (dirty_of index) 0 ≡ Some number
  pub ready : IsReadyNode index.table.nodes.items number

-- the branch to what a link leads to
abbrev pub link_branch : List NodeView → Link → Branch
link_branch seen (ToLeaf x) = branch_to x
link_branch seen (ToNode key number) = node_branch key (stretch_in (slice_get seen number))

-- a node's level
abbrev pub level_in : Option NodeView → ℕ
level_in None = 0
level_in (Some v) = v.level

-- what is below a node
abbrev pub below_node : PagedIndex → ℕ → KeyedRow
below_node index number = children_in (slice_get (node_views index.table.nodes.items) number)

-- what the node says as an index node of the medium: its level, and the branches to its children
abbrev pub said_of : PagedIndex → ℕ → Index
said_of index number = record {
  level = level_in (slice_get (node_views index.table.nodes.items) number);
  branches = branches_of (placed_of (below_node index number));
}

-- its length in bytes there
abbrev pub node_length : Index → ℕ
node_length node = 28 + 20 * length node.branches

-- a place for it
abbrev pub place_for : ℕ → ℕ → Index → NodePlace
place_for lnum offs node = record { lnum = lnum; offs = offs; len = node_length node }
