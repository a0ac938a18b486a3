-- Copies of a master: where the next one of a LEB goes, which bytes it has, and what a write of one leaves.
use Rattle.std.specs.Prelude.{◌≡◌, ◌⊎◌, ℕ, ◌+◌, ◌-◌, ◌*◌, ◌/◌, ◌%◌, ◌^◌, ◌<◌, ◌≤◌, List, ◌++◌, All, length, take, drop}
use Rattle.ubifs_base.specs.Gap.{gap_of}
use Rattle.ubifs_base.specs.NodeLaws.{IsBytes}
use Rattle.ubifs_base.specs.declared.node_type.NodeType.TheVariants as types
use Rattle.ubi_volume.specs.Volume.{VolumeState, Keeps, Only, IsTornInUnits, filled, put, IsWritten, IsChanged}
use Rattle.ubi_volume.specs.Frame.{Elsewhere}
use Rattle.media_sys.specs.SystemNode.{IsMaster, master, written}
use Rattle.media_sys.specs.declared.master.Master.{Master}
use Rattle.leb_scan.specs.Text.{IsText, nodes_of}
use Rattle.leb_scan.specs.declared.found.Found.{Found}
use Rattle.leb_scan.specs.declared.item.Item.{Item}
use Rattle.leb_scan.specs.declared.tail.Tail.{Tail}
use Rattle.leb_scan.specs.declared.tail.Tail.TheVariants.{Clean}
use Rattle.small_areas.specs.Masters.{IsLastMaster, IsLatest}
use Rattle.small_areas.specs.declared.placed_master.PlacedMaster.{PlacedMaster}

-- the bytes from one place for a copy to the next: 512, rounded up to whole units
abbrev pub room_of : ℕ → ℕ
room_of unit = (511 + unit) / unit * unit

-- room for a copy: that of a node, and words of 8 bytes
pub record IsRoom (room : ℕ) : Type 0 where
  pub low : 512 ≤ room
  pub high : room < 2 ^ 32
  pub even : room % 8 ≡ 0

-- the node of a master, in its one spelling
abbrev pub master_node : ℕ → Master → List ℕ
master_node sqnum new = written sqnum 0 (master new)

-- a copy: a node of 512 bytes, and a gap behind it
abbrev pub copy_of : ℕ → List ℕ → List ℕ
copy_of room node = node ++ gap_of (room - 512)

-- the copy of a master
abbrev pub master_copy : ℕ → ℕ → Master → List ℕ
master_copy room sqnum new = copy_of room (master_node sqnum new)

-- these bytes are the node of a master
pub record IsNodeOf (node : List ℕ) (sqnum : ℕ) (new : Master) : Type 0 where
  pub bytes : IsBytes node
  pub is : IsMaster node sqnum 0 new
  pub long : length node ≡ 512

-- the place for the next copy: the text of the LEB ends there and nothing is written behind it, it is a multiple of the room, and there is so much room
pub record IsPlace (leb : List ℕ) (room place : ℕ) : Type 0 where
  pub items : List Item
  pub is_text : IsText leb 0 items place Clean
  pub multiple : place % room ≡ 0
  pub fits : place + room ≤ length leb

-- the LEB has no place for a copy
abbrev pub HasNoPlace : List ℕ → ℕ → Type 0
HasNoPlace leb room = (place : ℕ) → IsPlace leb room place → ⊥

-- the LEB is open for writing where its next copy goes
abbrev pub IsOpen : VolumeState → ℕ → ℕ → Type 0
IsOpen state lnum room = (place : ℕ) → IsPlace (state.holds lnum) room place → state.written lnum ≤ place

-- the copy was written at its place, or has replaced the LEB where there was none
abbrev pub IsCopied : VolumeState → VolumeState → ℕ → ℕ → List ℕ → Type 0
IsCopied old new lnum room copy =
    ((place : ℕ) × IsPlace (old.holds lnum) room place × IsWritten old new lnum place copy) ⊎ (HasNoPlace (old.holds lnum) room × IsChanged old new lnum copy)

-- a write of this copy at its place, under way: each unit of it is as it was, as it is to be, or anything, and no other byte changes
pub record IsAppending (old : VolumeState) (lnum room : ℕ) (copy left : List ℕ) : Type 0 where
  pub place : ℕ
  pub bytes : IsBytes (old.holds lnum)
  pub is_place : IsPlace (old.holds lnum) room place
  pub before : List ℕ
  pub mapped : old.left_mapped lnum before
  pub torn : IsTornInUnits old.min_io place copy before left

-- What a cut leaves of a LEB while a copy is written: what it might have left before; the copy in place of all of it, if it has
-- no place for one; or what it might have left before, if no unmapping is undone, with the copy at its place, whole or torn.
-- A torn unit can be anything, so this alone doesn't tell a copy from garbage. That the latest master is the old one or the new
-- one needs the premise on checksums (IsMeant).
abbrev pub CopyUnderWay : VolumeState → ℕ → ℕ → List ℕ → List ℕ → Type 0
CopyUnderWay old lnum room copy left = (old.left_now lnum left ⊎ (HasNoPlace (old.holds lnum) room × (left ≡ filled old.leb_size copy))) ⊎ IsAppending old lnum room copy left

-- Of what a cut may leave of a LEB while a master's node is written at a place, this is what is meant: no torn node has a
-- matching checksum. So the text from the place on has no master but that node, whole. Each list of bytes has a text.
pub record IsUnmended (node : List ℕ) (place : ℕ) (left : List ℕ) : Type 0 where
  pub items : List Item
  pub end : ℕ
  pub tail : Tail
  pub is_text : IsText left place items end tail
  pub masters : All (λ (found : Found). found.kind ≡ types.Master → (found.offs ≡ place) × (take found.len (drop place left) ≡ node)) (nodes_of items)

-- the premise on checksums, of what a cut left of a LEB to which a copy with this node was written, or was to be
abbrev pub IsMeant : List ℕ → ℕ → List ℕ → List ℕ → Type 0
IsMeant before room node left = (place : ℕ) → IsPlace before room place → IsUnmended node place left

-- the latest master of two LEBs is the old one, where it stood, or the new one
abbrev pub IsOldOrNew : PlacedMaster → Master → List ℕ → List ℕ → Type 0
IsOldOrNew old new one two = (latest : PlacedMaster) × IsLatest one two latest × ((latest ≡ old) ⊎ (latest.master ≡ new))

-- Both copies of a master were written, with the two numbers behind this one, and the master is the latest. Where the next
-- copies go, the LEBs are open, and where a cut left what a LEB held, it does so again.
pub record AreCopied (old new : VolumeState) (room number : ℕ) (fresh : Master) : Type 0 where
  pub first : IsCopied old new 1 room (master_copy room (number + 1) fresh)
  pub second : IsCopied old new 2 room (master_copy room (number + 2) fresh)
  pub latest : PlacedMaster
  pub is_latest : IsLatest (new.holds 1) (new.holds 2) latest
  pub is_fresh : latest.master ≡ fresh
  pub is_newer : latest.sqnum ≡ number + 2
  pub open_first : IsOpen new 1 room
  pub open_second : IsOpen new 2 room
  pub settled_first : Only (old.holds 1) (old.left_now 1) → Only (new.holds 1) (new.left_now 1)
  pub settled_second : Only (old.holds 2) (old.left_now 2) → Only (new.holds 2) (new.left_now 2)

-- the start of a write of a master with the numbers behind this one: a cut leaves what both LEBs hold, and this is the latest master
pub record IsStart (state : VolumeState) (number : ℕ) (old : PlacedMaster) : Type 0 where
  pub latest : IsLatest (state.holds 1) (state.holds 2) old
  pub low : old.sqnum ≤ number
  pub first : Only (state.holds 1) (state.left_now 1)
  pub second : Only (state.holds 2) (state.left_now 2)

-- the LEBs that have a copy of the master
abbrev pub IsMasterLeb : ℕ → Type 0
IsMasterLeb lnum = (lnum ≡ 1) ⊎ (lnum ≡ 2)

-- a cut leaves the whole copy: at its place, in what it might have left before the call, or in place of all that the LEB held if there was none
abbrev pub HasWholeCopy : VolumeState → ℕ → ℕ → List ℕ → List ℕ → Type 0
HasWholeCopy old lnum room copy left = ((place : ℕ) × IsPlace (old.holds lnum) room place × (before : List ℕ) × old.left_now lnum before × old.left_mapped lnum before × (left ≡ put place copy before)) ⊎ (HasNoPlace (old.holds lnum) room × (left ≡ filled old.leb_size copy))

-- What a cut leaves while a master is written with the numbers behind this one: of all other LEBs what it might have left
-- before; of LEBs 1 and 2 this too, or their copies under way, but of LEB 2 no copy unless LEB 1 has the whole one; and from such
-- a start the old latest master or the new one, of the outcomes, under the premise on checksums.
pub record MasterUnderWay (state : VolumeState) (room number : ℕ) (fresh : Master) (left : ℕ → List ℕ) : Type 0 where
  pub elsewhere : Elsewhere state IsMasterLeb left
  pub first : CopyUnderWay state 1 room (master_copy room (number + 1) fresh) (left 1)
  pub second : CopyUnderWay state 2 room (master_copy room (number + 2) fresh) (left 2)
  pub in_order : state.left_now 2 (left 2) ⊎ HasWholeCopy state 1 room (master_copy room (number + 1) fresh) (left 1)
  pub old_or_new : (old : PlacedMaster) → IsStart state number old → IsMeant (state.holds 1) room (master_node (number + 1) fresh) (left 1)
      → IsMeant (state.holds 2) room (master_node (number + 2) fresh) (left 2) → IsOldOrNew old fresh (left 1) (left 2)

-- the other LEB that has copies
abbrev pub other_leb : ℕ → ℕ
other_leb lnum = 3 - lnum

-- the last master of the LEB is this, whatever its header says
abbrev pub HasMaster : List ℕ → Master → Type 0
HasMaster leb this = (placed : PlacedMaster) × IsLastMaster leb placed × (placed.master ≡ this)

-- What a cut leaves while the copy that isn't the latest is mended with the number behind this one: of all LEBs but that copy's
-- what it might have left before; of that one this, or the copy under way; and from such a start the same latest master, of the
-- outcomes, under the premise on checksums.
pub record MendUnderWay (state : VolumeState) (room number : ℕ) (latest : PlacedMaster) (left : ℕ → List ℕ) : Type 0 where
  pub elsewhere : Elsewhere state (λ lnum. lnum ≡ other_leb latest.lnum) left
  pub copy : CopyUnderWay state (other_leb latest.lnum) room (master_copy room (number + 1) latest.master) (left (other_leb latest.lnum))
  pub same : IsStart state number latest → IsMeant (state.holds (other_leb latest.lnum)) room (master_node (number + 1) latest.master) (left (other_leb latest.lnum)) → IsOldOrNew latest latest.master (left 1) (left 2)

-- a sequence number was taken, or none was, and nothing was written
abbrev pub IsNumbered : VolumeState → VolumeState → ℕ → ℕ → Type 0
IsNumbered old new before after = ((after ≡ before) × Keeps old new) ⊎ (after ≡ before + 1)

-- Of a mend: where the copy that isn't the latest says the same already, no number was taken, and nothing was written.
pub record IsMendNumbered (old new : VolumeState) (before after : ℕ) (latest : PlacedMaster) : Type 0 where
  pub numbered : IsNumbered old new before after
  pub agreed : HasMaster (old.holds (other_leb latest.lnum)) latest.master → (after ≡ before) × Keeps old new

-- Both copies say the latest master, and it is the latest still. Where the next copies go, the LEBs are open.
pub record IsMended (new : VolumeState) (room number : ℕ) (latest : PlacedMaster) : Type 0 where
  pub first : HasMaster (new.holds 1) latest.master
  pub second : HasMaster (new.holds 2) latest.master
  pub still : latest.sqnum ≤ number → (now : PlacedMaster) × IsLatest (new.holds 1) (new.holds 2) now × (now.master ≡ latest.master) × (now.sqnum ≤ number + 1)
  pub open_first : IsOpen new 1 room
  pub open_second : IsOpen new 2 room

-- What a mend wrote: the LEB of the latest master is as it was, and in the other one the copy with the number behind this one was written, if the two didn't agree.
pub record IsMendWritten (old new : VolumeState) (room number : ℕ) (latest : PlacedMaster) : Type 0 where
  pub alone : new.holds latest.lnum ≡ old.holds latest.lnum
  pub copied : HasMaster (old.holds (other_leb latest.lnum)) latest.master ⊎ IsCopied old new (other_leb latest.lnum) room (master_copy room (number + 1) latest.master)
