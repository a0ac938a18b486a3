-- Where a log is written, when it is full, and why a bud isn't opened.
use Rattle.std.specs.Prelude.{◌≡◌, ◌⊎◌, ⊤, ℕ, ◌+◌, ◌-◌, ◌*◌, ◌/◌, ◌%◌, ◌<◌, ◌≤◌, ◌==◌, nat_lt, nat_le, Bool, true, false, if◌then◌else◌, IsFalse, Result, Ok, Err, List, [], ◌∷◌}
use Rattle.ubifs_base.specs.Areas.{lpt_first}
use Rattle.ubifs_base.specs.declared.raw_geometry.RawGeometry.{RawGeometry}
use Rattle.media_sys.specs.SystemNode.{SystemNode, reference, commit_start}
use Rattle.media_sys.specs.declared.ref_node.RefNode.{RefNode}
use Rattle.ubi_volume.specs.Volume.{VolumeState, Keeps}
use Rattle.ubifs_base.specs.Faults.{IsCause}
use Rattle.bud_log.specs.Log.{IsLogLeb, next_leb}
use Rattle.bud_log.specs.declared.head_at.HeadAt.{HeadAt}
use Rattle.bud_log.specs.declared.log_fault.LogFault.{LogFault}
use Rattle.bud_log.specs.declared.log_fault.LogFault.TheVariants.{Full, Volume}

-- where a log is written: the LEB in which the oldest section that is still needed starts, that of the present section, and the place behind the last node
pub record LogAt : Type 0 where
  pub geo : RawGeometry
  pub first : ℕ
  pub section : ℕ
  pub lnum : ℕ
  pub offs : ℕ

-- how many LEBs of the ring lie between one and another, going on from the first
abbrev pub steps_to : RawGeometry → ℕ → ℕ → ℕ
steps_to geo from lnum = if nat_lt lnum from then lnum + geo.log_lebs - from else lnum - from

-- it lies in the log of the volume, at a unit that is open for writing, and the present section starts on the way to it
pub record IsAt (state : VolumeState) (at : LogAt) : Type 0 where
  pub leb_size : at.geo.leb_size ≡ state.leb_size
  pub min_io : at.geo.min_io ≡ state.min_io
  pub lebs : lpt_first at.geo ≤ state.leb_cnt
  pub first : IsLogLeb at.geo at.first
  pub section : IsLogLeb at.geo at.section
  pub here : IsLogLeb at.geo at.lnum
  pub on_the_way : steps_to at.geo at.first at.section ≤ steps_to at.geo at.first at.lnum
  pub within : at.offs ≤ at.geo.leb_size
  pub unit : at.offs % at.geo.min_io ≡ 0
  pub is_open : state.written at.lnum ≤ at.offs

-- a LEB from which the log may be read: that of the oldest section, or of the present one
abbrev pub IsLogStart : LogAt → ℕ → Type 0
IsLogStart at from = (from ≡ at.first) ⊎ (from ≡ at.section)

-- a LEB of the ring from one on and before another
pub record IsBetween (geo : RawGeometry) (from to lnum : ℕ) : Type 0 where
  pub in_log : IsLogLeb geo lnum
  pub before : steps_to geo from lnum < steps_to geo from to

-- a LEB of a section before the present one
abbrev pub IsOfEarlierSection : LogAt → ℕ → Type 0
IsOfEarlierSection at lnum = IsBetween at.geo at.first at.section lnum

-- the bytes that n bytes take, with the padding to the unit
abbrev pub padded_room_of : ℕ → ℕ → ℕ
padded_room_of unit n = (n + (unit - 1)) / unit * unit

-- the LEBs of the ring in use, and how many may be: two are kept free while no commit runs, and one while one runs
abbrev pub used_lebs : LogAt → ℕ
used_lebs at = steps_to at.geo at.first at.lnum + 1

abbrev pub most_lebs : LogAt → ℕ
most_lebs at = at.geo.log_lebs - (if at.first == at.section then 2 else 1)

-- no more are in use than may be
abbrev pub IsWithin : LogAt → Type 0
IsWithin at = used_lebs at ≤ most_lebs at

-- whether a reference has room in the present LEB
abbrev pub has_room : LogAt → Bool
has_room at = nat_le (at.offs + padded_room_of at.geo.min_io 64) at.geo.leb_size

-- no unit is left outside the kept LEBs
abbrev pub IsLogFull : LogAt → Type 0
IsLogFull at = IsFalse (has_room at) × (most_lebs at ≤ used_lebs at)

-- where nodes go: behind the end of the log, or to the start of the next LEB
abbrev pub lnum_at : Bool → LogAt → ℕ
lnum_at true at = at.lnum
lnum_at false at = next_leb at.geo at.lnum

abbrev pub offs_at : Bool → LogAt → ℕ
offs_at true at = at.offs
offs_at false at = 0

-- where the next reference goes
abbrev pub next_lnum : LogAt → ℕ
next_lnum at = lnum_at (has_room at) at

abbrev pub next_offs : LogAt → ℕ
next_offs at = offs_at (has_room at) at

-- the same log, which ends elsewhere
abbrev pub ending : LogAt → ℕ → ℕ → LogAt
ending at lnum offs = record { geo = at.geo; first = at.first; section = at.section; lnum = lnum; offs = offs }

-- and with a section that starts in this LEB
abbrev pub starting : LogAt → ℕ → ℕ → LogAt
starting at lnum offs = record { geo = at.geo; first = at.first; section = lnum; lnum = lnum; offs = offs }

-- the sections before the present one are needed no more
abbrev pub without_old_sections : LogAt → LogAt
without_old_sections at = record { geo = at.geo; first = at.section; section = at.section; lnum = at.lnum; offs = at.offs }

-- the reference to a place where a head goes on
abbrev pub reference_to : HeadAt → RefNode
reference_to at = record { lnum = at.lnum; offs = at.offs; head = at.head }

abbrev pub references_to : List HeadAt → List RefNode
references_to [] = []
references_to (at ∷ heads) = reference_to at ∷ references_to heads

-- the nodes of these references
abbrev pub head_nodes : List HeadAt → List SystemNode
head_nodes [] = []
head_nodes (at ∷ heads) = reference (reference_to at) ∷ head_nodes heads

-- the nodes with which the section of a commit begins
abbrev pub section_nodes : ℕ → List HeadAt → List SystemNode
section_nodes cmt_no heads = commit_start (record { cmt_no = cmt_no }) ∷ head_nodes heads

-- Full comes exactly where the log is full, with its numbers, and the volume is as it was then
abbrev pub IsFullExactly : {T : Type 0} → VolumeState → VolumeState → LogAt → Result T LogFault → Type 0
IsFullExactly old new at (Ok x) = IsLogFull at → ⊥
IsFullExactly old new at (Err (Volume count)) = IsLogFull at → ⊥
IsFullExactly old new at (Err (Full used limit)) = IsLogFull at × (used ≡ used_lebs at) × (limit ≡ most_lebs at) × Keeps old new

-- a number rises by one where the node is written, and not where the log is full; where the volume failed, it stays only if the log is as it was
abbrev pub IsRaised : {T : Type 0} → ℕ → ℕ → Type 0 → Result T LogFault → Type 0
IsRaised old new Unwritten (Ok x) = new ≡ old + 1
IsRaised old new Unwritten (Err (Full used limit)) = new ≡ old
IsRaised old new Unwritten (Err (Volume count)) = ((new ≡ old) × Unwritten) ⊎ (new ≡ old + 1)

-- a fault of the volume comes only where its count of faults rose
abbrev pub HasLogCause : {T : Type 0} → ℕ → ℕ → Result T LogFault → Type 0
HasLogCause before now (Ok x) = before ≤ now
HasLogCause before now (Err (Full used limit)) = before ≡ now
HasLogCause before now (Err (Volume count)) = IsCause before now count

-- the call didn't answer that the volume failed
abbrev pub IsNotFailed : {T : Type 0} → Result T LogFault → Type 0
IsNotFailed (Ok x) = ⊤
IsNotFailed (Err (Full used limit)) = ⊤
IsNotFailed (Err (Volume count)) = ⊥

abbrev pub StaysSureLog : {T : Type 0} → VolumeState → VolumeState → Result T LogFault → Type 0
StaysSureLog old new result = old.sure → new.spent ⊎ (new.sure × ((new.faults ≡ old.faults) × IsNotFailed result))
