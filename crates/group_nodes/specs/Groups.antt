-- Groups of changes on the medium: one node a change, one behind another, told apart by their sequence numbers and held together by their group types (Hunter 2008, "The journal"; UBIFS_IN_NODE_GROUP and UBIFS_LAST_OF_NODE_GROUP of ubifs-media.h).
use Rattle.std.specs.Prelude.{◌≡◌, ℕ, suc, ◌+◌, ◌==◌, if◌then◌else◌, List, [], ◌∷◌, ◌++◌, length, Some}
use Rattle.media_leaf.specs.LeafNode.{LeafNode}
use Rattle.leb_scan.specs.declared.found.Found.{Found}
use Rattle.leb_scan.specs.declared.item.Item.{Item}
use Rattle.leb_scan.specs.Text.{leaf, StandsAt, Stand, nodes_of}
use Rattle.fs_model.specs.declared.change.Change.{Change}
use Rattle.fs_model.specs.Recovery.{as_replayed}
use Rattle.group_nodes.specs.Nodes.{node_of, change_of}
use Rattle.group_nodes.specs.Texts.{leaf_text}

-- the group type of the node at place i among n: 0 of the only one, 2 of the last, and 1 of the others
abbrev pub group_type : ℕ → ℕ → ℕ
group_type n i = if n == 1 then 0 else if suc i == n then 2 else 1

-- the texts of the changes from place i on among n, where sqnum is the last number before them
abbrev pub texts_from : ℕ → ℕ → ℕ → List Change → List ℕ
texts_from n i sqnum [] = []
texts_from n i sqnum (change ∷ changes) = leaf_text (sqnum + 1) (group_type n i) (node_of change) ++ texts_from n (suc i) (sqnum + 1) changes

-- the bytes of a group's nodes, which have the sequence numbers after this one
abbrev pub group_text : ℕ → List Change → List ℕ
group_text sqnum group = texts_from (length group) 0 sqnum group

-- the node that was found is one of this number and group type, and carries the change
pub record Carries (leb : List ℕ) (found : Found) (change : Change) (number group : ℕ) : Type 0 where
  pub node : LeafNode
  pub stands : StandsAt leb found.offs found (leaf node)
  pub carries : change_of node ≡ Some change
  pub sqnum : found.sqnum ≡ number
  pub group_is : found.group ≡ group

-- these nodes carry, in order, what recovery makes of the changes from place i on among n
abbrev pub AreCarried : List ℕ → List Found → ℕ → ℕ → ℕ → List Change → Type 0
AreCarried leb [] n i sqnum [] = Unit {0}
AreCarried leb [] n i sqnum (change ∷ changes) = ⊥
AreCarried leb (found ∷ nodes) n i sqnum [] = ⊥
AreCarried leb (found ∷ nodes) n i sqnum (change ∷ changes) =
    Carries leb found (as_replayed change) (sqnum + 1) (group_type n i) × AreCarried leb nodes n (suc i) (sqnum + 1) changes

-- from this place of the LEB on stand the nodes of a group, whose sequence numbers follow this one
pub record IsGroupAt (leb : List ℕ) (place sqnum : ℕ) (group : List Change) : Type 0 where
  pub items : List Item
  pub stand : Stand leb place items (place + length (group_text sqnum group))
  pub carried : AreCarried leb (nodes_of items) (length group) 0 sqnum group
