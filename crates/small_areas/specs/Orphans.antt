-- The list of orphans: which numbers stand in the orphan area, and what is written of a list.
use Rattle.std.specs.Prelude.{◌≡◌, ◌≢◌, ◌⊎◌, ℕ, zero, suc, ◌+◌, ◌-◌, ◌*◌, ◌/◌, true, List, [], ◌∷◌, ◌++◌, length, take, drop, Result, Ok, Err}
use Rattle.ubifs_base.specs.Areas.{orph_first}
use Rattle.ubifs_base.specs.Gap.{gap_of}
use Rattle.ubifs_base.specs.declared.node_type.NodeType.TheVariants as types
use Rattle.ubifs_base.specs.declared.raw_geometry.RawGeometry.{RawGeometry}
use Rattle.ubi_volume.specs.Volume.{VolumeState, Keeps, Only, filled}
use Rattle.ubi_volume.specs.declared.fault.AreaFault.{AreaFault}
use Rattle.ubi_volume.specs.declared.fault.AreaFault.TheVariants.{Memory, Volume}
use Rattle.media_sys.specs.Orphans.{Orphans}
use Rattle.media_sys.specs.SystemNode.{IsSystemNode, orphans, written}
use Rattle.leb_scan.specs.Text.{IsText, nodes_of}
use Rattle.leb_scan.specs.declared.found.Found.{Found}
use Rattle.leb_scan.specs.declared.item.Item.{Item}
use Rattle.leb_scan.specs.declared.tail.Tail.{Tail}

-- how many numbers a list has that is full
abbrev pub orphan_limit : ℕ → ℕ
orphan_limit leb_size = (leb_size - 32) / 8

-- where it was found, this orphan node stands
pub record IsOrphansAt (leb : List ℕ) (found : Found) (node : Orphans) : Type 0 where
  pub sqnum : ℕ
  pub group : ℕ
  pub is : IsSystemNode (take found.len (drop found.offs leb)) sqnum group (orphans node)

-- among these nodes of a LEB the orphan nodes have these numbers, one node behind another
abbrev pub AreListed : List ℕ → List Found → List ℕ → Type 0
AreListed leb [] inos = inos ≡ []
AreListed leb (found ∷ nodes) inos =
    ((found.kind ≢ types.Orphans) × AreListed leb nodes inos)
    ⊎ ((node : Orphans) × (rest : List ℕ) × IsOrphansAt leb found node × AreListed leb nodes rest × (inos ≡ node.inos ++ rest))

-- the orphan nodes of the text of a LEB have these numbers
pub record HasOrphans (leb inos : List ℕ) : Type 0 where
  pub items : List Item
  pub end : ℕ
  pub tail : Tail
  pub is_text : IsText leb 0 items end tail
  pub listed : AreListed leb (nodes_of items) inos

-- so many LEBs from this one on have these numbers, in order
abbrev pub AreOrphans : (ℕ → List ℕ) → ℕ → ℕ → List ℕ → Type 0
AreOrphans holds first zero inos = inos ≡ []
AreOrphans holds first (suc n) inos = (front : List ℕ) × (here : List ℕ) × AreOrphans holds first n front × HasOrphans (holds (first + n)) here × (inos ≡ front ++ here)

-- the bytes that the node of a list takes; an empty list has no node
abbrev pub list_len : List ℕ → ℕ
list_len [] = 0
list_len (ino ∷ inos) = 32 + 8 * length (ino ∷ inos)

-- how many nodes, and sequence numbers, a list takes
abbrev pub list_nodes : List ℕ → ℕ
list_nodes [] = 0
list_nodes (ino ∷ inos) = 1

-- so many bytes in whole units, of which there is one at least
abbrev pub list_units : ℕ → ℕ → ℕ
list_units unit len = (len + (unit - 1)) / unit * unit

-- the bytes of the units that a list takes
abbrev pub list_size : ℕ → List ℕ → ℕ
list_size unit [] = unit
list_size unit (ino ∷ inos) = list_units unit (list_len (ino ∷ inos))

-- the bytes of a list: one orphan node, the last of its commit, and a gap; of an empty list a gap alone
abbrev pub list_bytes : ℕ → ℕ → ℕ → List ℕ → List ℕ
list_bytes size cmt_no sqnum [] = gap_of size
list_bytes size cmt_no sqnum (ino ∷ inos) = written sqnum 0 (orphans (record { cmt_no = cmt_no; last = true; inos = ino ∷ inos })) ++ gap_of (size - list_len (ino ∷ inos))

-- a commit's list of orphans, and the sequence number of its node
pub record OrphanList : Type 0 where
  pub cmt_no : ℕ
  pub sqnum : ℕ
  pub inos : List ℕ

-- the LEB has this list and nothing else
pub record IsListLeb (geo : RawGeometry) (list : OrphanList) (leb : List ℕ) : Type 0 where
  pub bytes : leb ≡ filled geo.leb_size (list_bytes (list_size geo.min_io list.inos) list.cmt_no list.sqnum list.inos)
  pub has : HasOrphans leb list.inos

-- the list was written to the first orphan LEB, and a cut leaves it
pub record IsListWritten (geo : RawGeometry) (list : OrphanList) (new : VolumeState) : Type 0 where
  pub leb : IsListLeb geo list (new.holds (orph_first geo))
  pub written : new.written (orph_first geo) ≡ list_size geo.min_io list.inos
  pub left : Only (new.holds (orph_first geo)) (new.left_now (orph_first geo))

-- the list was written; where there was no memory for it, the volume is as it was
abbrev pub IsListAnswered : {T : Type 0} → RawGeometry → OrphanList → VolumeState → VolumeState → Result T AreaFault → Type 0
IsListAnswered geo list old new (Ok x) = IsListWritten geo list new
IsListAnswered geo list old new (Err Memory) = Keeps old new
IsListAnswered geo list old new (Err (Volume count)) = Unit {0}

-- while a list is written, a cut leaves what it might have left of the LEB before, or the new list
abbrev pub ListUnderWay : RawGeometry → VolumeState → OrphanList → List ℕ → Type 0
ListUnderWay geo old list left = old.left_now (orph_first geo) left ⊎ IsListLeb geo list left
