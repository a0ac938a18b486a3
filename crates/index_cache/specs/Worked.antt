-- A table of three nodes, written out.
use Rattle.std.specs.Prelude.{◌≡◌, None, [], ◌∷◌}
use Rattle.ubifs_base.specs.declared.key.Key.{Key}
use Rattle.index_tree.specs.declared.leaf.Leaf.{Leaf}
use Rattle.media_sys.specs.declared.branch.Branch.{Branch}
use Rattle.table_nodes.specs.declared.link.Link.TheVariants.{ToLeaf, ToNode}
use Rattle.table_nodes.specs.declared.node.NodePlace.{NodePlace}
use Rattle.table_nodes.specs.declared.node.TableNode.{TableNode}

-- two dirty nodes with a leaf each, and a dirty root over them
pub record AreThreeNodes (x y : Leaf) (a b : Key) (left right top : TableNode) : Type 0 where
  pub left_dirty : left.place ≡ None
  pub left_loaded : left.beyond ≡ None
  pub left_leaf : left.links.items ≡ ToLeaf x ∷ []
  pub right_dirty : right.place ≡ None
  pub right_loaded : right.beyond ≡ None
  pub right_leaf : right.links.items ≡ ToLeaf y ∷ []
  pub top_dirty : top.place ≡ None
  pub top_loaded : top.beyond ≡ None
  pub top_nodes : top.links.items ≡ ToNode a 0 ∷ ToNode b 1 ∷ []

-- the branch to a place, with a key
abbrev pub placed_branch : Key → NodePlace → Branch
placed_branch key place = record { lnum = place.lnum; offs = place.offs; len = place.len; key = key }
