-- What a change stages: the rows of nodes that it makes, and the roots of them.
use Rattle.std.specs.Prelude.{◌≡◌, Bool, nat_le, ℕ, ◌+◌, ◌<◌, ◌≤◌, true, List, [], ◌∷◌, Option, None, Some}
use Rattle.index_tree.specs.Levels.{levelled}
use Rattle.index_tree.specs.Order.{leaf_rank}
use Rattle.index_tree.specs.declared.leaf.Leaf.{Leaf}
use Rattle.index_tree.specs.Shape.{count, fits}
use Rattle.index_media.specs.InsertionSound.{AreKeys}
use Rattle.index_media.specs.KeyedKeys.{AreKeysBounded}
use Rattle.index_media.specs.KeyedRow.{KeyedRow, bare}
use Rattle.table_nodes.specs.NodeView.{links_begin, tree_at, IsRootIn}
use Rattle.table_nodes.specs.declared.link.Link.{Link}
use Rattle.table_nodes.specs.declared.link.Link.TheVariants.{ToLeaf, ToNode}
use Rattle.table_nodes.specs.declared.node.Root.{Root}
use Rattle.table_nodes.specs.declared.node.TableNode.{TableNode}

-- whether an insertion goes on behind a link: a leaf of its key or a lower one, or a node before a link of such a key
abbrev pub insertion_passes : Leaf → Link → List Link → Bool
insertion_passes new (ToLeaf x) links = nat_le (leaf_rank x) (leaf_rank new)
insertion_passes new (ToNode key number) links = links_begin (leaf_rank new) links

-- the row of a node's children after one more may have come
pub record IsGrownRow (fanout level : ℕ) (row : KeyedRow) : Type 0 where
  pub some : 0 < count (bare row)
  pub most : count (bare row) ≤ fanout + 1
  pub sound : fits fanout (bare row) ≡ true
  pub levels : levelled level (bare row) ≡ true
  pub bounded : AreKeysBounded 0 None row
  pub keys : AreKeys row

-- a root of the table, with a key that isn't above those below it
pub record IsSoundRoot (nodes : List TableNode) (root : Option Root) : Type 0 where
  pub there : IsRootIn nodes root
  pub bounded : AreKeysBounded 0 None (tree_at nodes root)
  pub keys : AreKeys (tree_at nodes root)

-- the root to which a link leads, if it leads to a node
abbrev pub root_by : Link → Option Root
root_by (ToLeaf x) = None
root_by (ToNode key number) = Some (record { key = key; number = number })

-- the same of links, if they are one link to a node
abbrev pub only_root : List Link → Option Root
only_root [] = None
only_root (link ∷ []) = root_by link
only_root (link ∷ other ∷ links) = None

-- the index below a root, whose parent would be on this level
pub record IsTopRow (fanout level : ℕ) (row : KeyedRow) : Type 0 where
  pub short : count (bare row) ≤ 1
  pub lowest : count (bare row) ≡ 0 → level ≡ 0
  pub sound : fits fanout (bare row) ≡ true
  pub levels : levelled level (bare row) ≡ true
  pub bounded : AreKeysBounded 0 None row
  pub keys : AreKeys row
