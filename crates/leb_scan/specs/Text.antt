-- The text of a LEB: nodes and gaps, one behind another from a place on, and what stands behind the last.
use Rattle.std.specs.Prelude.{◌≡◌, ◌≢◌, ℕ, ◌+◌, ◌*◌, ◌/◌, ◌%◌, ◌≤◌, ◌==◌, min, Bool, IsTrue, IsFalse, if◌then◌else◌, List, [], ◌∷◌, length, take, drop, replicate}
use Rattle.std.specs.List.{list_all}
use Rattle.ubifs_base.specs.declared.node_type.NodeType.{NodeType}
use Rattle.ubifs_base.specs.declared.node_type.NodeType.TheVariants as types
use Rattle.media_leaf.specs.LeafNode.{LeafNode, inode, block, entry, truncation, IsLeafNode}
use Rattle.media_sys.specs.SystemNode.{SystemNode, padding, node_type, IsSystemNode}
use Rattle.leb_scan.specs.declared.found.Found.{Found}
use Rattle.leb_scan.specs.declared.item.Item.{Item}
use Rattle.leb_scan.specs.declared.item.Item.TheVariants.{Node, Padding, Word}
use Rattle.leb_scan.specs.declared.tail.Tail.{Tail}
use Rattle.leb_scan.specs.declared.tail.Tail.TheVariants.{Clean, Torn}

-- a node of the grammar, of any kind
pub data AnyNode : Type 0 where
  leaf : LeafNode → AnyNode
  system : SystemNode → AnyNode

-- the type of a leaf
abbrev pub leaf_type : LeafNode → NodeType
leaf_type (inode node) = types.Inode
leaf_type (block node) = types.Data
leaf_type (entry node) = if node.attribute then types.Attribute else types.Entry
leaf_type (truncation node) = types.Truncation

-- the type of a node, whose number is in its header
abbrev pub kind_of : AnyNode → NodeType
kind_of (leaf node) = leaf_type node
kind_of (system node) = node_type node

-- these bytes are this node, all of them
abbrev pub IsAnyNode : List ℕ → ℕ → ℕ → AnyNode → Type 0
IsAnyNode bytes sqnum group (leaf node) = IsLeafNode bytes sqnum group node
IsAnyNode bytes sqnum group (system node) = IsSystemNode bytes sqnum group node

-- from this place of the LEB on, as many bytes as were found are this node
pub record StandsAt (leb : List ℕ) (place : ℕ) (found : Found) (node : AnyNode) : Type 0 where
  pub here : found.offs ≡ place
  pub room : place + found.len ≤ length leb
  pub kind : found.kind ≡ kind_of node
  pub is : IsAnyNode (take found.len (drop place leb)) found.sqnum found.group node

-- a node that is no padding node
pub record IsNodeAt (leb : List ℕ) (place : ℕ) (found : Found) : Type 0 where
  pub node : AnyNode
  pub stands : StandsAt leb place found node
  pub other : found.kind ≢ types.Padding

-- a padding node, and behind it a gap that stays inside the LEB and ends at a multiple of 8
pub record IsPaddingAt (leb : List ℕ) (place : ℕ) (found : Found) (pad_len : ℕ) : Type 0 where
  pub stands : StandsAt leb place found (system (padding (record { pad_len = pad_len })))
  pub inside : place + (28 + pad_len) ≤ length leb
  pub even : (28 + pad_len) % 8 ≡ 0

-- eight bytes 0xCE
abbrev pub IsWordAt : List ℕ → ℕ → Type 0
IsWordAt leb place = take 8 (drop place leb) ≡ replicate 8 0xCE

-- this item begins at this place of the LEB
abbrev pub Begins : List ℕ → ℕ → Item → Type 0
Begins leb place (Node found) = IsNodeAt leb place found
Begins leb place (Padding found pad_len) = IsPaddingAt leb place found pad_len
Begins leb place Word = IsWordAt leb place

-- the next multiple of 8
abbrev pub up_to_8 : ℕ → ℕ
up_to_8 n = (n + 7) / 8 * 8

-- the place behind it; what stands between a node's end and the next multiple of 8 may be anything
abbrev pub behind : List ℕ → ℕ → Item → ℕ
behind leb place (Node found) = min (up_to_8 (place + found.len)) (length leb)
behind leb place (Padding found pad_len) = place + (28 + pad_len)
behind leb place Word = place + 8

-- from this place on, these items stand one behind another, up to this end
abbrev pub Stand : List ℕ → ℕ → List Item → ℕ → Type 0
Stand leb place [] end = place ≡ end
Stand leb place (item ∷ items) end = Begins leb place item × Stand leb (behind leb place item) items end

-- whether all bytes are 0xFF, as where nothing is written
abbrev pub is_blank : List ℕ → Bool
is_blank bytes = list_all (λ byte. byte == 0xFF) bytes

-- how a text ends: clean where nothing is written behind it, torn where something is and no item begins
abbrev pub IsTail : List ℕ → ℕ → Tail → Type 0
IsTail leb end Clean = IsTrue (is_blank (drop end leb))
IsTail leb end Torn = IsFalse (is_blank (drop end leb)) × ((item : Item) → Begins leb end item → ⊥)

-- From this place on, the text of the LEB is these items, up to this end and with this tail.
pub record IsText (leb : List ℕ) (from : ℕ) (items : List Item) (end : ℕ) (tail : Tail) : Type 0 where
  pub stand : Stand leb from items end
  pub ends : IsTail leb end tail

-- the nodes among the items
abbrev pub nodes_of : List Item → List Found
nodes_of [] = []
nodes_of (Node found ∷ items) = found ∷ nodes_of items
nodes_of (Padding found pad_len ∷ items) = found ∷ nodes_of items
nodes_of (Word ∷ items) = nodes_of items

-- from one place on, the next node is this, and the text goes on from the other place
pub record IsNext (leb : List ℕ) (from to : ℕ) (found : Found) : Type 0 where
  pub items : List Item
  pub stand : Stand leb from items to
  pub node : nodes_of items ≡ found ∷ []

-- from one place on, no node is left, and the text ends at the other place with this tail
pub record IsLast (leb : List ℕ) (from end : ℕ) (tail : Tail) : Type 0 where
  pub items : List Item
  pub text : IsText leb from items end tail
  pub none : nodes_of items ≡ []

-- the tail of a text that ends here
abbrev pub tail_at : List ℕ → ℕ → Tail
tail_at leb end = if is_blank (drop end leb) then Clean else Torn
