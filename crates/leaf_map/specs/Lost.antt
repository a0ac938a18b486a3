-- The committed leaves that recovery can't find, and which of them the journal hasn't replaced.
use Rattle.std.specs.Prelude.{◌==◌, ◌&&◌, not, is_some, Bool, false, if◌then◌else◌, List, [], ◌∷◌, ◌++◌, filter, map, Option, Some, None}
use Rattle.std.specs.List.{find, list_any}
use Rattle.std.specs.Option.{option_map_or}
use Rattle.media_leaf.specs.LeafNode.{LeafNode, entry}
use Rattle.index_tree.specs.declared.leaf.Leaf.{Leaf}
use Rattle.index_tree.specs.Order.{key_rank, leaf_rank}
use Rattle.fs_model.specs.Path.{is_empty, is_same_name}
use Rattle.group_nodes.specs.Nodes.{leaf_key}
use Rattle.leaf_map.specs.Kept.{Placed}
use Rattle.leaf_map.specs.Parts.{Committed, Named, Parts, in_bud, own_node, shows_nothing}
use Rattle.leaf_map.specs.Recovered.{copies_left, nodes_in_order, leaf_found_for, leaves_found, spare_copies}

-- the committed leaves that recovery can't find: names, of which neither the node nor a copy of it can be read, or whose node names no inode
abbrev pub lost_leaves : List Named → List Placed → List Committed → List Committed
lost_leaves named copies [] = []
lost_leaves named copies (x ∷ committed) =
    (if is_empty (leaf_found_for copies x (own_node named x)) then x ∷ [] else []) ++ lost_leaves named (copies_left copies x (own_node named x)) committed

-- whether two entries, which are no attributes, have the same directory and name
abbrev pub have_same_name : LeafNode → LeafNode → Bool
have_same_name (entry a) (entry b) = not a.attribute && not b.attribute && ((a.dir == b.dir) && is_same_name a.name b.name)
have_same_name a b = false

-- whether one of some committed leaves has a node that can be read, with this node's name
abbrev pub is_read_name : List Named → List Committed → Placed → Bool
is_read_name named committed y = list_any (λ x. not (in_bud named x.leaf) && option_map_or (λ (found : Placed). have_same_name found.node y.node) x.found false) committed

-- the nodes of the journal, in order of number, that may stand for names that can't be read: no leaf that can be read, and none that is found, has their name
abbrev pub spare_names : Parts → List Placed
spare_names parts = filter (λ y. not (is_read_name parts.named parts.committed y) && not (list_any (λ k. have_same_name k.node y.node) (leaves_found parts))) (nodes_in_order parts.nodes)

-- the node that stands for a lost leaf whose name can't be read: the first of its key
abbrev pub stands_for : List Placed → Leaf → Option Placed
stands_for names leaf = find (λ y. option_map_or (λ key. key_rank key == leaf_rank leaf) (leaf_key y.node) false) names

-- the nodes of other names
abbrev pub names_left : List Placed → Option Placed → List Placed
names_left names None = names
names_left names (Some y) = filter (λ z. not (have_same_name y.node z.node)) names

-- the leaves among lost ones that the journal hasn't replaced, where no node can be read: each takes a name of its key, and no two the same
abbrev pub unnamed : List Named → List Placed → List Committed → List Leaf
unnamed named names [] = []
unnamed named names (x ∷ lost) =
    if shows_nothing named x then unnamed named names lost
    else (if is_some (stands_for names x.leaf) then [] else x.leaf ∷ []) ++ unnamed named (names_left names (stands_for names x.leaf)) lost

-- whether the journal has a node of the name of a lost leaf that can be read
abbrev pub is_renamed : List Placed → Committed → Bool
is_renamed nodes x = option_map_or (λ (found : Placed). list_any (λ y. have_same_name found.node y.node) nodes) x.found false

-- the leaves that are lost
abbrev pub lost_of : Parts → List Committed
lost_of parts = lost_leaves parts.named (spare_copies parts) parts.committed

-- those of them that the journal hasn't replaced: those of which no node can be read
abbrev pub missing_leaves : Parts → List Leaf
missing_leaves parts = unnamed parts.named (spare_names parts) (lost_of parts)

-- and those whose node names no inode
abbrev pub empty_names : Parts → List Leaf
empty_names parts = map (λ x. x.leaf) (filter (λ x. shows_nothing parts.named x && not (is_renamed (nodes_in_order parts.nodes) x)) (lost_of parts))
