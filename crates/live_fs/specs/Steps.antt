-- What is known of an event that was made behind the lock.
use Rattle.std.specs.Prelude.{ℕ, ◌+◌, ◌*◌, ◌≤◌, length}
use Rattle.vfs_ops.specs.declared.event.Event.{Event}
use Rattle.vfs_ops.specs.declared.event.Outcome.{Outcome}
use Rattle.vfs_ops.specs.FilesState.{FilesState}
use Rattle.vfs_ops.specs.Passing.{IsStep}

-- some step of the files was that event, and the outcome is what came of it
abbrev pub WasAnswered : Event → Outcome → Type 0
WasAnswered event outcome = (old : FilesState) × (new : FilesState) × IsStep old new event outcome

-- some step of the files was that drain, and at most 17 credits for each caller stayed covered, beside those of dirty pages
abbrev pub WasDrained : ℕ → Event → Outcome → Type 0
WasDrained callers event outcome =
    (old : FilesState) × (new : FilesState) × IsStep old new event outcome
    × (new.backing.space.credits ≤ length new.kept.pages.dirty + 17 * callers)
