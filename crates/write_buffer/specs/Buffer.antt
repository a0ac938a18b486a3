-- A buffer in front of a LEB: what was appended to the LEB, how much of it is written, and what waits.
use Rattle.std.specs.Prelude.{◌≡◌, ◌⊎◌, ℕ, ◌+◌, ◌-◌, ◌*◌, ◌/◌, ◌%◌, ◌^◌, ◌<◌, ◌≤◌, Option, Some, None, List, [], ◌∷◌, ◌++◌, length, take}
use Rattle.ubifs_base.specs.Gap.{gap_of}
use Rattle.ubi_volume.specs.Volume.{VolumeState, Only, filled}

-- a buffer, as contracts see it
pub record Buffered : Type 0 where
  -- the bytes that are written at once
  pub unit : ℕ
  -- the LEB to which it writes
  pub leb : Option ℕ
  -- how many bytes of the LEB are written
  pub place : ℕ
  -- the bytes behind them that aren't written yet
  pub tail : List ℕ

-- what is true of every buffer: whole units are written, and less than a unit waits
pub record IsBuffer (buffer : Buffered) : Type 0 where
  pub some : 0 < buffer.unit
  pub small : buffer.unit < 2 ^ 32
  pub whole : buffer.place % buffer.unit ≡ 0
  pub less : length buffer.tail < buffer.unit
  pub end : buffer.place + length buffer.tail < 2 ^ 32

-- the number of a LEB, and 0 of none
abbrev pub number_of : Option ℕ → ℕ
number_of (Some lnum) = lnum
number_of None = 0

-- the LEB to which a buffer writes
abbrev pub lnum_of : Buffered → ℕ
lnum_of buffer = number_of buffer.leb

-- the text of a buffer: what is written of its LEB, and what isn't yet
abbrev pub text_of : VolumeState → Buffered → ℕ → List ℕ
text_of state buffer lnum = take buffer.place (state.holds lnum) ++ buffer.tail

-- The buffer writes to this LEB, which is open behind the place, holds no more than its size, and of which a cut now leaves what it holds.
pub record IsOpenFor (state : VolumeState) (buffer : Buffered) (lnum : ℕ) : Type 0 where
  pub leb : buffer.leb ≡ Some lnum
  pub inside : lnum < state.leb_cnt
  pub unit : buffer.unit ≡ state.min_io
  pub units : state.leb_size % state.min_io ≡ 0
  pub open_there : state.written lnum ≤ buffer.place
  pub fits : buffer.place + length buffer.tail ≤ state.leb_size
  pub settled : Only (state.holds lnum) (state.left_now lnum)

-- so many bytes, without those that don't fill a unit
abbrev pub whole_of : ℕ → ℕ → ℕ
whole_of unit n = n / unit * unit

-- what a sync appends: the gap up to the end of the unit, where something waits
abbrev pub padding_of : ℕ → List ℕ → List ℕ
padding_of unit [] = []
padding_of unit (byte ∷ bytes) = gap_of (unit - length (byte ∷ bytes))

-- where in the LEB the next byte goes
abbrev pub end_of : Buffered → ℕ
end_of buffer = buffer.place + length buffer.tail

-- these bytes were appended to the text, and what was written of it is so still
pub record IsAppended (old new : VolumeState) (before after : Buffered) (lnum : ℕ) (bytes : List ℕ) : Type 0 where
  pub text : text_of new after lnum ≡ text_of old before lnum ++ bytes
  pub end : end_of after ≡ end_of before + length bytes
  pub later : before.place ≤ after.place
  pub open_after : IsOpenFor new after lnum

-- the text stands, with a first part of these bytes behind it, and what was written of it is so still
pub record Stands (old new : VolumeState) (before after : Buffered) (lnum : ℕ) (bytes : List ℕ) : Type 0 where
  pub leb : after.leb ≡ before.leb
  pub unit : after.unit ≡ before.unit
  pub later : before.place ≤ after.place
  pub taken : ℕ
  pub text : text_of new after lnum ≡ text_of old before lnum ++ take taken bytes

-- only bytes of earlier calls wait
abbrev pub OnlyEarlierWait : Buffered → Buffered → Type 0
OnlyEarlierWait before after = (after.tail ≡ before.tail) ⊎ (after.tail ≡ [])

-- the text was padded to whole units, nothing waits, and a cut leaves the text and unwritten bytes
pub record IsSynced (old new : VolumeState) (before after : Buffered) (lnum : ℕ) : Type 0 where
  pub text : text_of new after lnum ≡ text_of old before lnum ++ padding_of before.unit before.tail
  pub end : after.place ≡ end_of before + length (padding_of before.unit before.tail)
  pub open_after : IsOpenFor new after lnum
  pub none : after.tail ≡ []
  pub left : Only (filled new.leb_size (text_of new after lnum)) (new.left_now lnum)
