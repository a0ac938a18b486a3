-- The masters of a volume: the last one in the text of each of their two LEBs, and which of the two is the latest.
use Rattle.std.specs.Prelude.{◌≡◌, ◌≢◌, ◌⊎◌, ℕ, ◌<◌, ◌≤◌, List, ◌∷◌, ◌++◌, All, take, drop}
use Rattle.ubifs_base.specs.declared.node_type.NodeType.TheVariants as types
use Rattle.media_sys.specs.SystemNode.{IsMaster}
use Rattle.leb_scan.specs.Text.{IsText, nodes_of}
use Rattle.leb_scan.specs.declared.found.Found.{Found}
use Rattle.leb_scan.specs.declared.item.Item.{Item}
use Rattle.leb_scan.specs.declared.tail.Tail.{Tail}
use Rattle.small_areas.specs.declared.placed_master.PlacedMaster.{PlacedMaster}

-- of these nodes none is a master
abbrev pub HasNone : List Found → Type 0
HasNone nodes = All (λ (node : Found). node.kind ≢ types.Master) nodes

-- of these nodes this is the last master
pub record IsLastOf (nodes : List Found) (found : Found) : Type 0 where
  pub before : List Found
  pub behind : List Found
  pub split : nodes ≡ before ++ (found ∷ behind)
  pub kind : found.kind ≡ types.Master
  pub none : HasNone behind

-- the last master among the nodes of the text of a LEB
pub record IsLastFound (leb : List ℕ) (found : Found) : Type 0 where
  pub items : List Item
  pub end : ℕ
  pub tail : Tail
  pub is_text : IsText leb 0 items end tail
  pub last : IsLastOf (nodes_of items) found

-- the text of a LEB has this as its last master
pub record IsLastMaster (leb : List ℕ) (placed : PlacedMaster) : Type 0 where
  pub found : Found
  pub last : IsLastFound leb found
  pub offs : placed.offs ≡ found.offs
  pub sqnum : placed.sqnum ≡ found.sqnum
  pub is : IsMaster (take found.len (drop found.offs leb)) found.sqnum found.group placed.master

-- the text of a LEB has no master
pub record HasNoMaster (leb : List ℕ) : Type 0 where
  pub items : List Item
  pub end : ℕ
  pub tail : Tail
  pub is_text : IsText leb 0 items end tail
  pub none : HasNone (nodes_of items)

-- the latest of the masters of two LEBs, which is that with the greater sequence number, and the first one's where both are equal
abbrev pub IsLatest : List ℕ → List ℕ → PlacedMaster → Type 0
IsLatest one two latest =
    ((latest.lnum ≡ 1) × IsLastMaster one latest × (HasNoMaster two ⊎ ((other : PlacedMaster) × IsLastMaster two other × (other.sqnum ≤ latest.sqnum))))
    ⊎ ((latest.lnum ≡ 2) × IsLastMaster two latest × (HasNoMaster one ⊎ ((other : PlacedMaster) × IsLastMaster one other × (other.sqnum < latest.sqnum))))
