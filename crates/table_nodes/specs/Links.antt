-- Links of nodes: what they lead to, in front of a row, and nodes behind those that are there.
use Rattle.std.specs.Prelude.{◌≡◌, ℕ, ◌<◌, List, [], ◌∷◌, ◌++◌, ⊤}
use Rattle.index_media.specs.KeyedRow.{KeyedRow}
use Rattle.table_nodes.specs.NodeView.{NodeView, linked_before}
use Rattle.table_nodes.specs.declared.link.Link.{Link}
use Rattle.table_nodes.specs.declared.link.Link.TheVariants.{ToLeaf, ToNode}
use Rattle.table_nodes.specs.declared.node.TableNode.{TableNode}

-- what links lead to, before a row
abbrev pub row_before : List NodeView → List Link → KeyedRow → KeyedRow
row_before seen [] rest = rest
row_before seen (link ∷ links) rest = linked_before seen link (row_before seen links rest)

-- each link leads to a leaf, or to one of the first n nodes
abbrev pub IsLinkIn : ℕ → Link → Type 0
IsLinkIn n (ToLeaf x) = ⊤
IsLinkIn n (ToNode key number) = number < n

abbrev pub AreLinksIn : ℕ → List Link → Type 0
AreLinksIn n [] = ⊤
AreLinksIn n (link ∷ links) = IsLinkIn n link × AreLinksIn n links

-- nodes were added behind those that were there
pub record AreNodesAdded (old new : List TableNode) : Type 0 where
  pub more : List TableNode
  pub is : new ≡ old ++ more
