-- The collector's copies, by the place of their keys in the order.
use Rattle.std.specs.Prelude.{ℕ, ◌==◌, ◌&&◌, not, Bool, true, false, List, [], ◌∷◌, ◌++◌, filter, Option, Some, None}
use Rattle.std.specs.BTreeMap.{BTreeMap, get, is_at}
use Rattle.std.specs.List.{find}
use Rattle.std.specs.Option.{option_map}
use Rattle.std.specs.Ordering.{nat_cmp}
use Rattle.std.specs.declared.alloc.Global.{Global}
use Rattle.std.specs.declared.vec.Vec.{Vec}
use Rattle.ubifs_base.specs.declared.key.Key.{Key}
use Rattle.index_tree.specs.Order.{key_rank}
use Rattle.journal_scan.specs.declared.node_content.NodeContent.{NodeContent}
use Rattle.journal_scan.specs.declared.journal_node.JournalNode.{JournalNode}
use Rattle.log_replay.specs.Changes.{place_of_node}
use Rattle.log_replay.specs.Things.{is_same_told, key_told}
use Rattle.log_replay.specs.declared.application.Place.{Place}

-- copies by the places of their keys in the order
abbrev pub Ranked : Type 0
Ranked = BTreeMap ℕ (Vec JournalNode Global)

-- the copies of a place in the order
abbrev pub at_rank : Ranked → ℕ → List JournalNode
at_rank ranked r = by (get nat_cmp ranked r)
  where
    by : Option (Vec JournalNode Global) → List JournalNode
    by None = []
    by (Some copies) = copies.items

-- whether a node makes a leaf of a key that has this place in the order
abbrev pub is_of_rank : ℕ → JournalNode → Bool
is_of_rank r node = by (key_told node.content)
  where
    by : Option Key → Bool
    by None = false
    by (Some key) = is_at (nat_cmp (key_rank key)) r

-- a node behind others, if it stands there
abbrev pub journal_node_behind : Bool → JournalNode → List JournalNode → List JournalNode
journal_node_behind true node nodes = nodes ++ node ∷ []
journal_node_behind false node nodes = nodes

-- the nodes that make another leaf than what is told so
abbrev pub other_leaf_nodes : NodeContent → List JournalNode → List JournalNode
other_leaf_nodes content nodes = filter (λ c. not (is_same_told content c.content)) nodes

-- what is left of nodes without the first and those that make the same leaf
abbrev pub first_taken : List JournalNode → List JournalNode
first_taken [] = []
first_taken (first ∷ nodes) = other_leaf_nodes first.content nodes

-- the place of the first of some copies that has a node's number and makes the same leaf
abbrev pub copy_place : JournalNode → List JournalNode → Option Place
copy_place node copies = option_map place_of_node (find (λ c. (c.sqnum == node.sqnum) && is_same_told node.content c.content) copies)
