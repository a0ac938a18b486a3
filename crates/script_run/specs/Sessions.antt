-- What a session of a run stands for, and what it keeps.
use Rattle.std.specs.Prelude.{◌≡◌, ℕ, ◌<◌, Bool, false, true, List, [], All, length}
use Rattle.ubifs_base.specs.declared.raw_geometry.RawGeometry.{RawGeometry}
use Rattle.ubifs_base.specs.RawOf.{raw_of}
use Rattle.small_areas.specs.Orphans.{orphan_limit}
use Rattle.fs_model.specs.declared.backing_answers.Mode.TheVariants.{ReadWrite}
use Rattle.fs_model.specs.Backing.{BackingState}
use Rattle.fs_laws.specs.Sound.{IsCall}
use Rattle.buffered_files.specs.declared.kept.Kept.{Kept}
use Rattle.buffered_files.specs.Calls.{full_weight}
use Rattle.buffered_files.specs.Present.{present}
use Rattle.plain_backing.specs.declared.backing.PlainBacking.{PlainBacking}
use Rattle.plain_backing.specs.PlainBacking.{Covers, backing_state_of}
use Rattle.script_phase.specs.declared.lines.CallerLine.{CallerLine}
use Rattle.script_run.specs.Run.{ScriptRunning}
use Rattle.script_run.specs.declared.session.Session.{Session}

abbrev pub state_in : Session → BackingState
state_in session = backing_state_of session.fs.backing

-- the files as callers see them, what is stored of them, and where the script is
abbrev pub running_of : Session → ScriptRunning
running_of session = record {
  files = present (state_in session).tree session.fs.kept;
  stored = (state_in session).tree;
  journal = (state_in session).journal;
  weight = full_weight (state_in session) session.fs.kept;
  index = (state_in session).space.index;
  closed = (state_in session).closed;
  mounted = session.mounted;
  now = session.now;
  number = session.number;
  workers = session.workers;
}

-- where a script is whose volume is mounted: over this backing, under what is kept, at this time
abbrev pub mounted_over : PlainBacking → Kept → ℕ → ScriptRunning
mounted_over backing kept now = record {
  files = present (backing_state_of backing).tree kept;
  stored = (backing_state_of backing).tree;
  journal = (backing_state_of backing).journal;
  weight = full_weight (backing_state_of backing) kept;
  index = (backing_state_of backing).space.index;
  closed = (backing_state_of backing).closed;
  mounted = true;
  now = now;
  number = 0;
  workers = 0;
}

-- nothing is kept beside the backing
pub record IsBare (kept : Kept) : Type 0 where
  pub pages : kept.pages.dirty ≡ []
  pub inodes : kept.inodes ≡ []
  pub handles : kept.handles ≡ []

-- A backing that no call of which fails, that can be written, and whose list of orphans takes a LEB. All that it promised has room, and each covered credit is that of a dirty page.
pub record IsSteady (geo : RawGeometry) (backing : PlainBacking) (kept : Kept) : Type 0 where
  pub geometry : (backing_state_of backing).geometry ≡ geo
  pub mode : (backing_state_of backing).mode ≡ ReadWrite
  pub faults : (backing_state_of backing).faults ≡ 0
  pub strike : backing.numbers.strike ≡ 0
  pub covers : Covers (backing_state_of backing)
  pub orphans : (backing_state_of backing).orphan_limit ≡ orphan_limit geo.leb_size
  pub credits : (backing_state_of backing).space.credits ≡ length kept.pages.dirty

-- what a session keeps; nothing is kept in memory while nothing is mounted
pub record IsSession (geo : RawGeometry) (session : Session) : Type 0 where
  pub geometry : raw_of session.geometry ≡ geo
  pub steady : IsSteady geo session.fs.backing session.fs.kept
  pub bare : session.mounted ≡ false → IsBare session.fs.kept

-- a caller's line that waits: the volume is mounted, callers are numbered from 1, and its operation gives bytes
abbrev pub IsWaiting : Bool → CallerLine → Type 0
IsWaiting mounted line = (mounted ≡ true) × (0 < line.caller) × IsCall line.op

-- a session, and the lines that wait
abbrev pub AreReady : RawGeometry → Session → List CallerLine → Type 0
AreReady geo session lines = IsSession geo session × All (IsWaiting session.mounted) lines
