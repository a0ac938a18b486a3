-- How the files were when their lines began.
use Rattle.std.specs.Prelude.{◌≡◌, ℕ, false, None, []}
use Rattle.atomic_table.specs.Seated.{TableId}
use Rattle.fs_model.specs.declared.backing_answers.Mode.TheVariants.{ReadWrite}
use Rattle.fs_model.specs.declared.trace.TraceLine.{TraceLine}
use Rattle.fs_model.specs.Backing.{BackingState, Outlook}
use Rattle.fs_model.specs.Legal.{Opening}
use Rattle.fs_model.specs.Worked.{fresh}
use Rattle.fs_model.specs.WorkedTrace.{small_geometry}
use Rattle.vfs_ops.specs.FilesState.{FilesState}
use Rattle.traced_files.specs.declared.passes.Ledger.{Ledger}
use Rattle.std.specs.Prelude.{List}
use Rattle.traced_files.specs.History.{IsHistory, opening_of}

-- the files over their backing, what was expected of its volume, and how many callers are at work
pub record Start : Type 1 where
  pub files : FilesState
  pub outlook : Outlook
  pub callers : ℕ

-- the opening of a history
abbrev pub opening_at : Start → Opening
opening_at start = opening_of start.files start.outlook start.callers

-- these lines, and work between them, lead from there to this state
abbrev pub IsHistoryFrom : Start → List TraceLine → FilesState → Type 0
IsHistoryFrom start lines now = IsHistory (opening_at start) start.files.refused lines now

-- a backing of which nothing is said
abbrev pub no_backing : BackingState
no_backing = record {
  geometry = small_geometry;
  orphan_limit = 0;
  closed = 0;
  tree = fresh.tree;
  space = record { used = 0; held = 0; credits = 0; empty = 0; index = 0; weight = 0; main = 0 };
  grant = None;
  journal = record { running = None; left = 0; nodes = 0; later = 0; medium = None };
  victim = false;
  contents = None;
  mode = ReadWrite;
  faults = 0;
}

-- a start of which nothing is said
abbrev pub no_start : Start
no_start = record {
  files = record { backing = no_backing; kept = record { pages = record { dirty = []; clean = []; most = 1; calls = 0 }; inodes = []; handles = [] }; refused = [] };
  outlook = record { sure = ⊥; spent = ⊥; strike = None };
  callers = 0;
}

-- What stays with the files knows an empty trace and an empty pool, from which so many callers may draw.
abbrev pub IsNewLedger : TableId → TableId → ℕ → Ledger → Type 0
IsNewLedger word pool callers k =
    (k.recorder.word ≡ word) × (k.recorder.known.seen ≡ [])
    × (k.master ≡ record { pool = pool; issued = 0; held = 0; out = [] }) × (k.callers ≡ callers)
