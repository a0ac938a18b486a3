-- The state of a store, in lists and whole numbers: the files, the index with its nodes' places, what each master leads to, what each journal head got, and what each main LEB is for.
use Rattle.std.specs.Prelude.{ℕ, Bool, List, Option}
use Rattle.ubifs_base.specs.declared.raw_geometry.RawGeometry.{RawGeometry}
use Rattle.media_lpt.specs.declared.leb_kind.LebKind.{LebKind}
use Rattle.index_tree.specs.Listing.{ListedNode}
use Rattle.index_tree.specs.Shape.{Shape}
use Rattle.fs_model.specs.declared.change.Change.{Change}
use Rattle.fs_model.specs.declared.space.Grant.{Grant}
use Rattle.fs_model.specs.Files.{Tree}
use Rattle.leaf_map.specs.Kept.{Kept, Placed}

-- where a node of the index stands
pub record IndexNodePlace : Type 0 where
  pub lnum : ℕ
  pub offs : ℕ

-- a node of the index as it is written: its sequence number, and where its children stand if they are nodes
pub record Branching : Type 0 where
  pub sqnum : ℕ
  pub node : ListedNode
  pub below : List IndexNodePlace

-- what a main LEB is meant to hold, one behind another: leaf nodes, index nodes, and gaps of so many bytes
pub data Item : Type 0 where
  leaf : Placed → Item
  branching : Branching → Item
  gap : ℕ → Item

-- a main LEB: what it is for, and all items that were meant for it, also those that still wait in a buffer
pub record Leb : Type 0 where
  pub lnum : ℕ
  pub role : LebKind
  pub text : List Item

-- A change with the node that carries it, where this stands. The node alone doesn't tell an inode that is set without links from one that goes.
pub record Carried : Type 0 where
  pub change : Change
  pub placed : Placed

-- A main LEB that the log names for a head, and what was put there from an offset on, oldest first: groups at heads 1 and 2, the collector's copies at head 0.
pub record Bud : Type 0 where
  pub head : ℕ
  pub lnum : ℕ
  pub from : ℕ
  pub groups : List (List Carried)
  pub copies : List Placed

-- What one master leads to.
pub record View : Type 0 where
  pub cmt_no : ℕ
  pub highest : ℕ
  -- the log LEB in which its section starts
  pub section : ℕ
  -- its index, and where the nodes stand, in the order in which a commit writes them (`written_nodes`)
  pub shape : Shape
  pub places : List IndexNodePlace
  -- its leaves with the nodes that stood there, and the tree, when its commit began
  pub kept : List Kept
  pub tree : Tree
  -- what the log names from that section on, in the log's order
  pub buds : List Bud
  -- nodes put to heads 1 and 2 since its commit began
  pub put : ℕ

-- A commit that runs.
pub record Next : Type 0 where
  pub view : View
  -- the LEBs allotted to it, and how many of them are written
  pub taken : List ℕ
  pub written : ℕ
  -- its list of orphans
  pub listed : List ℕ
  -- whether the new master may be there
  pub offered : Bool

-- where a head stands: its LEB, where the next byte goes there, and how many bytes are written
pub record At : Type 0 where
  pub lnum : ℕ
  pub offs : ℕ
  pub written : ℕ

-- a collection under way: its victim, and whether a LEB was opened for it
pub record Moving : Type 0 where
  pub victim : ℕ
  pub opened : Bool

-- an open inode without a name, and whether the group that took the last one is synced
pub record Orphan : Type 0 where
  pub ino : ℕ
  pub synced : Bool

-- where the log ends: a LEB of the log, counted from its first, and how many bytes of it are written
pub record LogPlace : Type 0 where
  pub leb : ℕ
  pub offs : ℕ

-- The index as it is: a node without a place isn't written yet, nor being written.
pub record StoreIndex : Type 0 where
  pub shape : Shape
  pub places : List (Option IndexNodePlace)

pub record Store : Type 0 where
  pub geo : RawGeometry
  -- what the last finished commit's master leads to, and the commit that runs
  pub now : View
  pub next : Option Next
  -- the files, as they are, and the index that has them
  pub tree : Tree
  pub index : StoreIndex
  -- its leaves with their nodes, and the leaves that groups made obsolete which aren't synced
  pub live : List Kept
  pub held : List Kept
  -- the three heads, and how many groups, or copies, of each since the last finished commit's start are synced
  pub ends : List (Option At)
  pub synced : List ℕ
  pub lebs : List Leb
  pub moving : Option Moving
  pub orphans : List Orphan
  -- the list of orphans on the medium, and the orphans closed since the last commit's start, ended or not, that its list names
  pub listed : List ℕ
  pub closed : List ℕ
  pub log : LogPlace
  -- the greatest sequence number that was given
  pub sqnum : ℕ
  -- what was granted: credits for pages, and the next group's bytes and nodes
  pub credits : ℕ
  pub grant : Option Grant
