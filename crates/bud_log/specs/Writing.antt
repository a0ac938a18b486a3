-- A log that is written on: what it takes to be ready for its next nodes, and what a cut leaves while they are written.
use Rattle.std.specs.Prelude.{◌≡◌, ◌≢◌, ◌⊎◌, ⊤, ℕ, ◌+◌, ◌%◌, ◌^◌, ◌<◌, ◌≤◌, ◌==◌, nat_le, if◌then◌else◌, IsTrue, IsFalse, Some, List, [], ◌∷◌, ◌++◌, take, drop, length}
use Rattle.ubifs_base.specs.Gap.{gap_of}
use Rattle.ubifs_base.specs.NodeLaws.{IsBytes}
use Rattle.ubifs_base.specs.declared.node_type.NodeType.TheVariants as types
use Rattle.ubifs_base.specs.declared.raw_geometry.RawGeometry.{RawGeometry}
use Rattle.ubi_volume.specs.Volume.{VolumeState, Only}
use Rattle.media_sys.specs.SystemNode.{SystemNode, padding, superblock, master, reference, index, commit_start, orphans, node_type, written, IsSystemNode}
use Rattle.media_sys.specs.declared.ref_node.RefNode.{RefNode}
use Rattle.leb_scan.specs.Text.{IsText, nodes_of}
use Rattle.leb_scan.specs.declared.found.Found.{Found}
use Rattle.leb_scan.specs.declared.item.Item.{Item}
use Rattle.leb_scan.specs.declared.tail.Tail.{Tail}
use Rattle.leb_scan.specs.declared.tail.Tail.TheVariants.{Clean, Torn}
use Rattle.bud_log.specs.Buds.{buds_of}
use Rattle.bud_log.specs.Log.{IsLogLeb, next_leb, Run, references_of}
use Rattle.bud_log.specs.LogAt.{padded_room_of}
use Rattle.bud_log.specs.LogText.{LogText, IsLogTextOf, begins_with, start_of, is_later, is_start_alone}
use Rattle.bud_log.specs.declared.head_at.HeadAt.{HeadAt}
use Rattle.bud_log.specs.declared.log_end.LogEnd.{LogEnd}

-- the reference that a node is
abbrev pub reference_in : SystemNode → List RefNode
reference_in (padding node) = []
reference_in (superblock node) = []
reference_in (master node) = []
reference_in (reference node) = node ∷ []
reference_in (index node) = []
reference_in (commit_start node) = []
reference_in (orphans node) = []

-- the references among nodes
abbrev pub references_in : List SystemNode → List RefNode
references_in [] = []
references_in (node ∷ nodes) = reference_in node ++ references_in nodes

-- a node whose one spelling is its own, of whole words, and no padding
pub record IsNodeSpelled (number : ℕ) (node : SystemNode) : Type 0 where
  pub bytes : IsBytes (written number 0 node)
  pub is : IsSystemNode (written number 0 node) number 0 node
  pub long : 0 < length (written number 0 node)
  pub even : length (written number 0 node) % 8 ≡ 0
  pub other : node_type node ≢ types.Padding

-- nodes with the numbers behind this one
abbrev pub AreSpelled : ℕ → List SystemNode → Type 0
AreSpelled number [] = ⊤
AreSpelled number (node ∷ nodes) = IsNodeSpelled (number + 1) node × AreSpelled (number + 1) nodes

-- nodes in their one spelling, one behind another, with the numbers behind this one
abbrev pub laid : ℕ → List SystemNode → List ℕ
laid number [] = []
laid number (node ∷ nodes) = written (number + 1) 0 node ++ laid (number + 1) nodes

-- these bytes are these nodes, and a gap behind them
pub record AreNodes (bytes : List ℕ) (number : ℕ) (nodes : List SystemNode) : Type 0 where
  pub gap : ℕ
  pub spelled : AreSpelled number nodes
  pub are : bytes ≡ laid number nodes ++ gap_of gap
  pub fits : gap < 2 ^ 32
  pub even : gap % 8 ≡ 0

-- this number of a LEB is that of one of these texts
abbrev pub IsAmong : ℕ → List LogText → Type 0
IsAmong lnum [] = ⊥
IsAmong lnum (text ∷ texts) = (lnum ≡ text.ends.lnum) ⊎ IsAmong lnum texts

-- the LEB doesn't begin with a greater number
abbrev pub IsOlder : ℕ → ℕ → List ℕ → Type 0
IsOlder number lnum leb = (text : LogText) × IsLogTextOf leb lnum text × IsFalse (is_later number (begins_with text.nodes))

-- A LEB that isn't read, or says nothing: it doesn't begin with a number greater than the first, or it is the one behind the last
-- that is read, and has the start of an unfinished commit alone, whose number isn't above the last one.
abbrev pub IsPassedOver : ℕ → ℕ → ℕ → ℕ → List ℕ → Type 0
IsPassedOver start number past lnum leb = IsOlder start lnum leb ⊎ ((lnum ≡ past) × (text : LogText) × IsLogTextOf leb lnum text × IsTrue (is_start_alone text.nodes) × IsFalse (is_later number (begins_with text.nodes)))

-- whatever a cut leaves of the log's LEBs but this one, none begins with a number above this
abbrev pub AreOthersOlder : VolumeState → RawGeometry → ℕ → ℕ → Type 0
AreOthersOlder state geo lnum number = (k : ℕ) (leb : List ℕ) → IsLogLeb geo k → k ≢ lnum → state.left_now k leb → IsOlder number k leb

-- each of these texts begins with a number that isn't above this one
abbrev pub AreBelow : ℕ → List LogText → Type 0
AreBelow number [] = ⊤
AreBelow number (text ∷ texts) = IsFalse (is_later number (begins_with text.nodes)) × AreBelow number texts

-- where the last of these texts ends
abbrev pub last_end : LogEnd → List LogText → LogEnd
last_end first [] = first
last_end first (text ∷ texts) = last_end text.ends texts

-- these texts are read, from a commit start of this number on
pub record IsChain (contents : ℕ → List ℕ) (geo : RawGeometry) (from start : ℕ) (first : LogText) (more : List LogText) (past : ℕ) : Type 0 where
  pub is_first : IsLogTextOf (contents from) from first
  pub starts : start_of (begins_with first.nodes) ≡ Some start
  pub run : Run contents geo from start (next_leb geo from) more past

abbrev offs_if : RawGeometry → ℕ → Tail → ℕ
offs_if geo offs Clean = if offs % geo.min_io == 0 then offs else geo.leb_size
offs_if geo offs Torn = geo.leb_size

-- where a log that ends here is written on: there, if the end is clean and a unit begins there, and else nowhere in that LEB
abbrev pub offs_behind : RawGeometry → LogEnd → ℕ
offs_behind geo ends = offs_if geo ends.offs ends.tail

-- A log whose last text ends here is written on from this place: behind a clean end; or nowhere in that LEB, as behind a torn end,
-- since no reference has room at the place.
abbrev pub GoesOn : RawGeometry → LogEnd → ℕ → ℕ → Type 0
GoesOn geo last lnum offs =
    (last ≡ record { lnum = lnum; offs = offs; tail = Clean })
    ⊎ ((last.lnum ≡ lnum) × (offs_behind geo last ≡ geo.leb_size) × IsFalse (nat_le (offs + padded_room_of geo.min_io 64) geo.leb_size))

-- The volume holds a log of these buds, which goes on here, and is ready for its next node: what is read of it a cut leaves as it
-- is, and whatever a cut leaves of the ring's other LEBs is passed over. No LEB begins with a number above this one.
pub record IsLogReady (state : VolumeState) (geo : RawGeometry) (from lnum offs number : ℕ) (buds : List HeadAt) : Type 0 where
  pub start : ℕ
  pub first : LogText
  pub more : List LogText
  pub past : ℕ
  pub chain : IsChain state.holds geo from start first more past
  pub low : start ≤ number
  pub below : AreBelow number (first ∷ more)
  pub buds_are : buds ≡ buds_of (references_of (first ∷ more))
  pub last : GoesOn geo (last_end first.ends more) lnum offs
  pub settled : (k : ℕ) → IsAmong k (first ∷ more) → Only (state.holds k) (state.left_now k)
  pub spare : (k : ℕ) (leb : List ℕ) → IsLogLeb geo k → (IsAmong k (first ∷ more) → ⊥) → state.left_now k leb → IsPassedOver start number past k leb

-- this node was found whole, with this number and at this place
pub record IsFoundWhole (left : List ℕ) (place number : ℕ) (node : SystemNode) (found : Found) : Type 0 where
  pub offs : found.offs ≡ place
  pub sqnum : found.sqnum ≡ number
  pub kind : found.kind ≡ node_type node
  pub bytes : take found.len (drop place left) ≡ written number 0 node

-- what was found from a place on are the first of these nodes, each whole and at its place; padding stands behind the last of them alone
abbrev pub ArePart : List ℕ → ℕ → ℕ → List SystemNode → List Found → Type 0
ArePart left place number nodes [] = ⊤
ArePart left place number [] (found ∷ others) = (found.kind ≡ types.Padding) × ArePart left place number [] others
ArePart left place number (node ∷ nodes) (found ∷ others) = IsFoundWhole left place (number + 1) node found × ArePart left (place + found.len) (number + 1) nodes others

-- Of what a cut may leave of a LEB while nodes are written from a place on, this is what is meant: no torn node has a
-- matching checksum. So the text from the place on has the first of these nodes alone.
pub record IsLogMeant (number place : ℕ) (nodes : List SystemNode) (left : List ℕ) : Type 0 where
  pub items : List Item
  pub end : ℕ
  pub tail : Tail
  pub is_text : IsText left place items end tail
  pub part : ArePart left place number nodes (nodes_of items)

-- the same of a LEB that a cut may have left as it was before the write began
abbrev pub IsOldOrMeant : VolumeState → ℕ → ℕ → ℕ → List SystemNode → List ℕ → Type 0
IsOldOrMeant old lnum place number nodes left = old.left_now lnum left ⊎ IsLogMeant number place nodes left
