-- What is seen of the nodes of a table, and which index stands below a root.
use Rattle.std.specs.Prelude.{ℕ, ◌<◌, Bool, false, nat_le, List, [], ◌∷◌, ◌++◌, Option, None, Some, length, slice_get, ⊤}
use Rattle.ubifs_base.specs.declared.key.Key.{Key}
use Rattle.index_tree.specs.Order.{key_rank}
use Rattle.index_tree.specs.Shape.{contents}
use Rattle.index_tree.specs.declared.leaf.Leaf.{Leaf}
use Rattle.index_media.specs.KeyedRow.{KeyedRow, no_more, leaf_in, node_in, bare}
use Rattle.index_media.specs.PlacedRow.{Stretch}
use Rattle.table_nodes.specs.Beyond.{children_by}
use Rattle.table_nodes.specs.declared.link.Link.{Link}
use Rattle.table_nodes.specs.declared.link.Link.TheVariants.{ToLeaf, ToNode}
use Rattle.table_nodes.specs.declared.node.NodePlace.{NodePlace}
use Rattle.table_nodes.specs.declared.node.Root.{Root}
use Rattle.table_nodes.specs.declared.node.TableNode.{TableNode}

-- a link's key
abbrev pub link_key : Link → Key
link_key (ToLeaf x) = x.key
link_key (ToNode key number) = key

-- whether there is a first link, of this rank or a lower one
abbrev pub links_begin : ℕ → List Link → Bool
links_begin rank [] = false
links_begin rank (link ∷ links) = nat_le (key_rank (link_key link)) rank

-- what is seen of a node: its level, its place if it is clean, and the row of its children
pub record NodeView : Type 0 where
  pub level : ℕ
  pub place : Option Stretch
  pub children : KeyedRow

-- where a clean node stands
abbrev pub stretch_at : Option NodePlace → Option Stretch
stretch_at None = None
stretch_at (Some p) = Some (record { lnum = p.lnum; offs = p.offs; len = p.len })

-- a node of which this is seen, before a row; one that isn't there has no children
abbrev pub node_before : Key → Option NodeView → KeyedRow → KeyedRow
node_before key None rest = node_in key None no_more rest
node_before key (Some v) rest = node_in key v.place v.children rest

-- what a link leads to, before a row
abbrev pub linked_before : List NodeView → Link → KeyedRow → KeyedRow
linked_before seen (ToLeaf x) rest = leaf_in x rest
linked_before seen (ToNode key number) rest = node_before key (slice_get seen number) rest

-- the row of siblings that these links lead to
abbrev pub row_of : List NodeView → List Link → KeyedRow
row_of seen [] = no_more
row_of seen (link ∷ links) = linked_before seen link (row_of seen links)

-- what is seen of a node over others
abbrev pub node_view_of : List NodeView → TableNode → NodeView
node_view_of seen node = record {
  level = node.level;
  place = stretch_at node.place;
  children = children_by node.level node.place node.beyond (row_of seen node.links.items);
}

-- what is seen of nodes, and of more nodes behind them, each over those before it
abbrev pub views_behind : List NodeView → List TableNode → List NodeView
views_behind seen [] = seen
views_behind seen (node ∷ nodes) = views_behind (seen ++ node_view_of seen node ∷ []) nodes

-- what is seen of the nodes of a table
abbrev pub node_views : List TableNode → List NodeView
node_views nodes = views_behind [] nodes

-- the row of the children of a node
abbrev pub children_in : Option NodeView → KeyedRow
children_in None = no_more
children_in (Some v) = v.children

-- the index below a root; without a root it is empty
abbrev pub tree_at : List TableNode → Option Root → KeyedRow
tree_at nodes None = no_more
tree_at nodes (Some root) = node_before root.key (slice_get (node_views nodes) root.number) no_more

-- its leaves from left to right
abbrev pub leaves_at : List TableNode → Option Root → List Leaf
leaves_at nodes root = contents (bare (tree_at nodes root))

-- the root is a node of the table
abbrev pub IsRootIn : List TableNode → Option Root → Type 0
IsRootIn nodes None = ⊤
IsRootIn nodes (Some root) = root.number < length nodes
