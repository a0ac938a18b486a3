-- The heads of the journal, by their numbers: 0 of the collector, 1 of nodes that aren't data, and 2 of data. Each is a
-- buffer in front of a LEB.
use Rattle.std.specs.Prelude.{◌≡◌, ◌≢◌, ℕ, ◌+◌, ◌%◌, ◌<◌, ◌≤◌, Option, Some, None, IsSome, List, [], ◌∷◌, length, slice_index_or, slice_set}
use Rattle.ubi_volume.specs.Volume.{VolumeState, Only, SameShape, Torn}
use Rattle.write_buffer.specs.Buffer.{Buffered, IsAppended, IsOpenFor, IsSynced, Stands, end_of, lnum_of, padding_of, whole_of}
use Rattle.journal_heads.specs.declared.heads.Heads.{Heads}
use Rattle.journal_heads.specs.declared.place.Place.{Place}

-- a buffer without a LEB
abbrev pub fresh_buffer : ℕ → Buffered
fresh_buffer unit = record { unit = unit; leb = None; place = 0; tail = [] }

-- the buffer of a head
abbrev pub buffer_of : Heads → ℕ → Buffered
buffer_of heads head = slice_index_or heads.buffers head (fresh_buffer 0)

-- the head writes to this LEB
abbrev pub IsOn : Heads → ℕ → ℕ → Type 0
IsOn heads head lnum = (buffer_of heads head).leb ≡ Some lnum

-- no head writes to this LEB
abbrev pub IsFree : Heads → ℕ → Type 0
IsFree heads lnum = (head : ℕ) → IsOn heads head lnum → ⊥

-- each head that has a LEB is open for it, no two write to one LEB, and where there is no LEB nothing waits
pub record AreOpen (state : VolumeState) (heads : Heads) : Type 0 where
  pub each : (head lnum : ℕ) → IsOn heads head lnum → IsOpenFor state (buffer_of heads head) lnum
  pub apart : (one two lnum : ℕ) → IsOn heads one lnum → IsOn heads two lnum → one ≡ two
  pub idle : (head : ℕ) → (buffer_of heads head).leb ≡ None → (buffer_of heads head).tail ≡ []
  pub size : heads.leb_size ≡ state.leb_size

-- heads without a LEB
abbrev pub fresh : ℕ → ℕ → Heads
fresh unit size = record { buffers = fresh_buffer unit ∷ fresh_buffer unit ∷ fresh_buffer unit ∷ []; leb_size = size }

-- a head turned to the start of a LEB
abbrev pub attached : Heads → ℕ → ℕ → Heads
attached heads head lnum = record {
  buffers = slice_set heads.buffers head (record { unit = (buffer_of heads head).unit; leb = Some lnum; place = 0; tail = [] });
  leb_size = heads.leb_size;
}

-- the LEB is there, nothing of it is written, and a cut leaves what it holds
pub record IsEmptyLeb (state : VolumeState) (unit lnum : ℕ) : Type 0 where
  pub inside : lnum < state.leb_cnt
  pub unit_is : unit ≡ state.min_io
  pub units : state.leb_size % state.min_io ≡ 0
  pub written : state.written lnum ≡ 0
  pub settled : Only (state.holds lnum) (state.left_now lnum)

-- the head has a LEB, and so many bytes fit before its end
pub record HasRoom (heads : Heads) (head len : ℕ) : Type 0 where
  pub attached : IsSome (buffer_of heads head).leb
  pub fits : end_of (buffer_of heads head) + len ≤ heads.leb_size

-- this place in the LEB, where there is one
abbrev pub place_in : Option ℕ → ℕ → Option Place
place_in (Some lnum) offs = Some (record { lnum = lnum; offs = offs })
place_in None offs = None

-- where the next byte of a head goes
abbrev pub place_of : Heads → ℕ → Option Place
place_of heads head = place_in (buffer_of heads head).leb (end_of (buffer_of heads head))

-- Bytes are added to what was put on a head, whatever the call answers: the head keeps its LEB, what was put on it stands,
-- with a first part of these bytes behind it, and the other heads are as they were.
pub record AddsTo (old new : VolumeState) (before after : Heads) (head : ℕ) (bytes : List ℕ) : Type 0 where
  pub leb : (buffer_of after head).leb ≡ (buffer_of before head).leb
  pub stands : (lnum : ℕ) → IsOn before head lnum → Stands old new (buffer_of before head) (buffer_of after head) lnum bytes
  pub others : (other : ℕ) → other ≢ head → buffer_of after other ≡ buffer_of before other
  pub size : after.leb_size ≡ before.leb_size
  pub shape : SameShape old new

-- these nodes were put on a head, behind what was put on it before
pub record ArePut (old new : VolumeState) (before after : Heads) (head : ℕ) (nodes : List ℕ) : Type 0 where
  pub appended : IsAppended old new (buffer_of before head) (buffer_of after head) (lnum_of (buffer_of before head)) nodes
  pub open_after : AreOpen new after

-- what a cut leaves of the LEB of a head while so many bytes are put: what is written stands, and the units that fill may be anything
abbrev pub PutUnderWay : VolumeState → Buffered → ℕ → List ℕ → Type 0
PutUnderWay old buffer n left = Torn buffer.place (whole_of buffer.unit (length buffer.tail + n)) (old.holds (lnum_of buffer)) left

-- nothing of the head waits, and a cut leaves of its LEB what was put on it
pub record IsSyncedHead (old new : VolumeState) (before after : Heads) (head : ℕ) : Type 0 where
  pub none : (buffer_of after head).tail ≡ []
  pub synced : (lnum : ℕ) → IsOn before head lnum → IsSynced old new (buffer_of before head) (buffer_of after head) lnum
  pub open_after : AreOpen new after

-- what is appended where a head is synced
abbrev pub head_padding : Heads → ℕ → List ℕ
head_padding heads head = padding_of (buffer_of heads head).unit (buffer_of heads head).tail

-- what was put on a head stands, with a first part of a gap behind it
abbrev pub StandsHead : VolumeState → VolumeState → Heads → Heads → ℕ → Type 0
StandsHead old new before after head = (lnum : ℕ) → IsOn before head lnum → Stands old new (buffer_of before head) (buffer_of after head) lnum (head_padding before head)

-- What a cut leaves while one head is synced: of its LEB what is written stands, and one unit behind it may be anything; of
-- the other LEBs what a cut might have left before.
pub record IsHeadLeft (old : VolumeState) (buffer : Buffered) (left : ℕ → List ℕ) : Type 0 where
  pub here : (lnum : ℕ) → buffer.leb ≡ Some lnum → Torn buffer.place buffer.unit (old.holds lnum) (left lnum)
  pub there : (lnum : ℕ) → (buffer.leb ≡ Some lnum → ⊥) → old.left_now lnum (left lnum)

-- some head writes to this LEB
abbrev pub IsHeads : Heads → ℕ → Type 0
IsHeads heads lnum = (head : ℕ) × IsOn heads head lnum

-- What a cut leaves while heads are synced: of the LEB of each head what is written stands, and one unit behind it may be
-- anything; of the other LEBs what a cut might have left before.
pub record AreLeft (old : VolumeState) (heads : Heads) (left : ℕ → List ℕ) : Type 0 where
  pub each : (head lnum : ℕ) → IsOn heads head lnum → Torn (buffer_of heads head).place (buffer_of heads head).unit (old.holds lnum) (left lnum)
  pub others : (lnum : ℕ) → IsFree heads lnum → old.left_now lnum (left lnum)

-- nothing of any head waits, and a cut leaves of each LEB what was put on its head
pub record AreSynced (old new : VolumeState) (before after : Heads) : Type 0 where
  pub none : (head : ℕ) → head < 3 → (buffer_of after head).tail ≡ []
  pub synced : (head lnum : ℕ) → head < 3 → IsOn before head lnum → IsSynced old new (buffer_of before head) (buffer_of after head) lnum
  pub open_after : AreOpen new after
