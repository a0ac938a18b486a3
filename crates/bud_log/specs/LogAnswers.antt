-- What calls of the log answer, and where the log goes on afterwards.
use Rattle.std.specs.Prelude.{◌≡◌, ◌≢◌, ℕ, ◌+◌, ◌*◌, ◌<◌, List, [], Some, Result, OnErr}
use Rattle.ubi_volume.specs.Volume.{VolumeState, filled, SameShape}
use Rattle.ubi_volume.specs.Faults.{HasCause, StaysSure}
use Rattle.ubi_volume.specs.declared.fault.VolFault.{VolFault}
use Rattle.bud_log.specs.Log.{IsLogLeb, next_leb}
use Rattle.bud_log.specs.LogAt.{LogAt, IsAt, IsOfEarlierSection, IsWithin, HasLogCause, StaysSureLog, steps_to, padded_room_of, used_lebs, next_lnum, next_offs, ending, starting, without_old_sections}
use Rattle.bud_log.specs.LogCalls.{IsEmptied}
use Rattle.bud_log.specs.LogText.{LogText, IsLogTextOf, begins_with, start_of, StartsCommit, IsNoLoneStart}
use Rattle.bud_log.specs.Writing.{IsOlder, AreOthersOlder, IsLogReady}
use Rattle.bud_log.specs.declared.head_at.HeadAt.{HeadAt}
use Rattle.bud_log.specs.declared.log_fault.LogFault.{LogFault}

-- whatever the answer: the shape is as it was, and the volume is told as failed only where it failed; then the log goes on where it did
pub record IsLogCallAnswered {T : Type 0} (old new : VolumeState) (before after : LogAt) (result : Result T VolFault) : Type 0 where
  pub shape : SameShape old new
  pub cause : HasCause old.faults new.faults result
  pub sure : StaysSure old new result
  pub stays : OnErr result (after ≡ before)

-- the same of a call that may find the log full
pub record IsLogAnswered {T : Type 0} (old new : VolumeState) (before after : LogAt) (result : Result T LogFault) : Type 0 where
  pub shape : SameShape old new
  pub cause : HasLogCause old.faults new.faults result
  pub sure : StaysSureLog old new result
  pub stays : OnErr result (after ≡ before)

-- the LEB begins with a commit start of this sequence number
abbrev pub StartsWith : List ℕ → ℕ → ℕ → Type 0
StartsWith leb lnum number = (text : LogText) × IsLogTextOf leb lnum text × (start_of (begins_with text.nodes) ≡ Some number)

-- The present section was started with the number behind this one, and stands so: it begins with its commit start, and says more before it goes
-- on in another LEB. Of the ring's LEBs behind it a cut leaves nothing that begins with a number above this one.
pub record IsSection (state : VolumeState) (at : LogAt) (number : ℕ) : Type 0 where
  pub starts : StartsWith (state.holds at.section) at.section (number + 1)
  pub more : at.lnum ≢ at.section → IsNoLoneStart (state.holds at.lnum) at.lnum
  pub older : (k : ℕ) (leb : List ℕ) → IsLogLeb at.geo k → steps_to at.geo at.section at.lnum < steps_to at.geo at.section k → state.left_now k leb → IsOlder number k leb

-- a bud was opened in this LEB, which is blank, and the log goes on behind its reference; the present section stands as it was started
pub record IsBudOpened (old new : VolumeState) (before after : LogAt) (lnum : ℕ) : Type 0 where
  pub emptied : IsEmptied old new lnum
  pub moved : after ≡ ending before (next_lnum before) (next_offs before + padded_room_of before.geo.min_io 64)
  pub at : IsAt new after
  pub within : IsWithin before → IsWithin after
  pub section : (number low : ℕ) (buds : List HeadAt) → IsLogReady old before.geo before.section before.lnum before.offs number buds → IsSection old before low → IsSection new after low

-- A section of this commit, with so many references, was started in the next LEB, with the numbers behind this one. So it stands, if no other
-- LEB of the log began with a number above this one.
pub record IsSectionStarted (old new : VolumeState) (before after : LogAt) (cmt_no count number : ℕ) : Type 0 where
  pub commit : StartsCommit (new.holds after.section) after.section cmt_no
  pub starts : StartsWith (new.holds after.section) after.section (number + 1)
  pub moved : after ≡ starting before (next_leb before.geo before.lnum) (padded_room_of before.geo.min_io (32 + 64 * count))
  pub at : IsAt new after
  pub within : used_lebs before + 1 < before.geo.log_lebs → IsWithin after
  pub section : AreOthersOlder old before.geo after.section number → IsSection new after number

-- the sections before the present one are unwritten, and needed no more; it stands as it was started
pub record HasEnded (old new : VolumeState) (before after : LogAt) : Type 0 where
  pub unwritten : (k : ℕ) → IsOfEarlierSection before k → (new.holds k ≡ filled old.leb_size []) × (new.written k ≡ 0)
  pub moved : after ≡ without_old_sections before
  pub at : IsAt new after
  pub within : IsWithin before → IsWithin after
  pub section : (low : ℕ) → IsSection old before low → IsSection new after low
