-- What a power cut leaves of a log, and where whoever mounts it goes on.
use Rattle.std.specs.Prelude.{◌≡◌, ◌≢◌, ◌⊎◌, ℕ, ◌+◌, ◌<◌, ◌≤◌, IsTrue, Some, List, ◌∷◌, take, length, fold}
use Rattle.ubifs_base.specs.declared.raw_geometry.RawGeometry.{RawGeometry}
use Rattle.media_sys.specs.declared.ref_node.RefNode.{RefNode}
use Rattle.ubi_volume.specs.Volume.{VolumeState, Only}
use Rattle.ubi_volume.specs.Loading.{IsWrittenPart}
use Rattle.leb_scan.specs.Text.{is_blank}
use Rattle.bud_log.specs.Buds.{named_also}
use Rattle.bud_log.specs.Log.{Log, IsLog, IsLogLeb, next_leb, log_of}
use Rattle.bud_log.specs.LogAt.{LogAt, IsAt, steps_to, used_lebs, next_lnum}
use Rattle.bud_log.specs.LogText.{begins_with, start_of, IsLoneStart}
use Rattle.bud_log.specs.Writing.{IsAmong, IsOlder, AreBelow, offs_behind, GoesOn, IsLogReady}
use Rattle.bud_log.specs.declared.head_at.HeadAt.{HeadAt}
use Rattle.bud_log.specs.declared.log_end.LogEnd.{LogEnd}
use Rattle.bud_log.specs.declared.log_read.LogRead.{LogRead}

-- These contents are this log, and whoever mounts them may write on. It begins with a commit start. No LEB that is read begins with
-- a number above this one, and no other with one above the commit start's.
pub record IsReadyIn (contents : ℕ → List ℕ) (geo : RawGeometry) (from number : ℕ) (log : Log) : Type 0 where
  pub is_log : IsLog contents geo from log
  pub start : ℕ
  pub starts : start_of (begins_with is_log.first.nodes) ≡ Some start
  pub low : start ≤ number
  pub below : AreBelow number (is_log.first ∷ is_log.more)
  pub spare : (k : ℕ) → IsLogLeb geo k → (IsAmong k (is_log.first ∷ is_log.more) → ⊥) → IsOlder start k (contents k)

-- the log that is opened over what was read from this LEB on, and ends here
abbrev pub log_opened_at : RawGeometry → ℕ → LogEnd → LogAt
log_opened_at geo from ends = record { geo = geo; first = from; section = from; lnum = ends.lnum; offs = offs_behind geo ends }

-- how many LEBs of the ring a log takes that is read from one LEB on, and ends in another
abbrev pub lebs_to : RawGeometry → ℕ → ℕ → ℕ
lebs_to geo from lnum = steps_to geo from lnum + 1

-- These contents are such a log of these buds. Once it is opened no more LEBs of the ring are in use than so many.
abbrev pub IsLeftReady : (ℕ → List ℕ) → RawGeometry → ℕ → ℕ → ℕ → List HeadAt → Type 0
IsLeftReady contents geo from most number buds = (log : Log) × IsReadyIn contents geo from number log × (log.buds ≡ buds) × (used_lebs (log_opened_at geo from log.ends) ≤ most)

-- While a bud is opened: a log of the buds before, or of this one too, whose LEB is blank then. So a bud is never read from while it
-- holds what it held before. The reference has the number behind this one.
abbrev pub IsLeftOpened : (ℕ → List ℕ) → LogAt → ℕ → ℕ → List HeadAt → RefNode → Type 0
IsLeftOpened contents at from number buds node =
    IsLeftReady contents at.geo from (lebs_to at.geo from at.lnum) number buds
    ⊎ (IsLeftReady contents at.geo from (lebs_to at.geo from (next_lnum at)) (number + 1) (named_also buds node) × IsTrue (is_blank (contents node.lnum)))

-- While a section is started: a log of the buds before, perhaps with the commit start alone, which has the number behind this one; or
-- one of the first of these references too, which takes the next LEB.
abbrev pub IsLeftStarted : (ℕ → List ℕ) → LogAt → ℕ → ℕ → List HeadAt → List RefNode → Type 0
IsLeftStarted contents at from number buds references =
    IsLeftReady contents at.geo from (lebs_to at.geo from at.lnum) (number + 1) buds
    ⊎ ((n : ℕ) × (0 < n) × (n ≤ length references) × IsLeftReady contents at.geo from (lebs_to at.geo from (next_leb at.geo at.lnum)) (number + 1 + n) (fold named_also buds (take n references)))

-- The log's LEBs as they are found after a cut that left these contents: of each the part up to the last unit that isn't erased counts as
-- written, and a cut leaves nothing else. Nothing is said of other LEBs, nor of calls that may fail.
pub record IsFoundLog (contents : ℕ → List ℕ) (geo : RawGeometry) (state : VolumeState) : Type 0 where
  pub holds : (k : ℕ) → IsLogLeb geo k → state.holds k ≡ contents k
  pub written : (k : ℕ) → IsLogLeb geo k → IsWrittenPart state.min_io (state.holds k) (state.written k)
  pub left : (k : ℕ) → IsLogLeb geo k → Only (state.holds k) (state.left_now k)

-- The volume holds this log as whoever mounts it may write on. A cut leaves the LEBs that are read as they are. Whatever it leaves of the
-- ring's other LEBs begins with no number above the commit start's, also where it undoes an unmapping.
pub record IsHeldLog (state : VolumeState) (geo : RawGeometry) (from number : ℕ) (log : Log) : Type 0 where
  pub ready : IsReadyIn state.holds geo from number log
  pub settled : (k : ℕ) → IsAmong k (ready.is_log.first ∷ ready.is_log.more) → Only (state.holds k) (state.left_now k)
  pub spare : (k : ℕ) (leb : List ℕ) → IsLogLeb geo k → (IsAmong k (ready.is_log.first ∷ ready.is_log.more) → ⊥) → state.left_now k leb → IsOlder ready.start k leb

-- This LEB is settled, whatever it holds: of it a cut leaves that and nothing else. So it may be the commit start alone of a section that was
-- left unfinished. Or it is older: nothing that a cut leaves of it begins with a number above this one.
abbrev pub IsSettledOrOlder : VolumeState → ℕ → ℕ → Type 0
IsSettledOrOlder state number lnum = Only (state.holds lnum) (state.left_now lnum) ⊎ ((leb : List ℕ) → state.left_now lnum leb → IsOlder number lnum leb)

-- A log that goes on here is told to end there. It is told to end before that LEB only if the LEB is a commit start alone, and not the first
-- that is read.
abbrev pub IsToldEnd : VolumeState → RawGeometry → ℕ → ℕ → ℕ → LogEnd → Type 0
IsToldEnd state geo from lnum offs ends = GoesOn geo ends lnum offs ⊎ ((lnum ≢ from) × IsLoneStart (state.holds lnum) lnum)

-- nothing counts as written where a log goes on that ends here
abbrev pub IsOpenBehind : VolumeState → RawGeometry → LogEnd → Type 0
IsOpenBehind state geo ends = state.written ends.lnum ≤ offs_behind geo ends

-- If the volume holds such a log, after a cut or behind an unmount, that log is what is read. Once it is opened it is ready for its next
-- node, with any number above the greatest that was read; and a call may write where it goes on, if nothing counts as written there.
abbrev pub OpensReady : VolumeState → VolumeState → RawGeometry → ℕ → LogRead → Type 0
OpensReady old new geo from read =
    (number : ℕ) (log : Log) → IsHeldLog old geo from number log
    → let at : LogAt = log_opened_at geo from (log_of read).ends in
    (log_of read ≡ log)
    × ((next : ℕ) → (number ≤ next) ⊎ (read.sqnum ≤ next) → IsLogReady new geo from at.lnum at.offs next read.buds.items)
    × ((geo.leb_size ≡ old.leb_size) → (geo.min_io ≡ old.min_io) → IsOpenBehind old geo log.ends → IsAt new at)
