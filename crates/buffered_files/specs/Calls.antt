-- What several calls of a backing, one after another, answer and leave.
use Rattle.std.specs.Prelude.{◌≡◌, ◌≢◌, ◌⊎◌, ℕ, ◌+◌, ◌*◌, ◌<◌, ◌≤◌, None, Result, Ok, Err, [], length}
use Rattle.ubifs_base.specs.Areas.{main_lebs}
use Rattle.fs_model.specs.declared.backing_answers.Mode.TheVariants.{ReadWrite, ReadOnly}
use Rattle.fs_model.specs.declared.backing_answers.StoreFault.{StoreFault}
use Rattle.fs_model.specs.declared.backing_answers.StoreFault.TheVariants.{Volume, ReadOnly as IsReadOnly}
use Rattle.fs_model.specs.declared.refusal.Refusal.{Refusal}
use Rattle.fs_model.specs.declared.refusal.Refusal.TheVariants.{Enospc, Erofs, Eio, Enomem}
use Rattle.fs_model.specs.declared.space.Need.{Need}
use Rattle.fs_model.specs.Backing.{BackingState, Goes, Outlook, Rose, granted}
pub use Rattle.fs_model.specs.CallFaults.{refusal_of}
use Rattle.fs_model.specs.Cover.{needed, room_for, tree_bytes}
use Rattle.buffered_files.specs.Alike.{IsAlike}
use Rattle.buffered_files.specs.Present.{present}
use Rattle.buffered_files.specs.declared.kept.Kept.{Kept}

-- an answer that the backing is read-only tells its mode
abbrev pub TellsMode : {T : Type 0} → BackingState → Result T StoreFault → Type 0
TellsMode new (Err (IsReadOnly cause)) = new.mode ≡ ReadOnly cause
TellsMode new result = Unit {0}

-- where the volume was sure it still is, and didn't fail; or it is spent now
pub record SureGoes (before after : Outlook) (old new : BackingState) : Type 0 where
  pub sure : before.sure → after.spent ⊎ (after.sure × (new.faults ≡ old.faults))
  pub spent : before.spent → after.spent

-- What the index weighs at most once all dirty pages are put: two nodes for each page.
abbrev pub full_weight : BackingState → Kept → ℕ
full_weight state kept = state.space.weight + 2 * length kept.pages.dirty

-- with the dirty pages the index gets heavier by so many nodes at most
abbrev pub GrowsBy : ℕ → BackingState → BackingState → Kept → Kept → Type 0
GrowsBy nodes old new before after = full_weight new after ≤ full_weight old before + nodes

-- how many nodes a call adds at most: if it is done, and if the volume failed; otherwise none
abbrev pub added_or_failed : {T : Type 0} → ℕ → ℕ → Result T StoreFault → ℕ
added_or_failed done failed (Ok x) = done
added_or_failed done failed (Err (Volume count)) = failed
added_or_failed done failed (Err fault) = 0

-- the same, where the fault is told as a refusal
abbrev pub added_or_refused : {T : Type 0} → ℕ → ℕ → Result T Refusal → ℕ
added_or_refused done failed (Ok x) = done
added_or_refused done failed (Err (Eio count)) = failed
added_or_refused done failed (Err refusal) = 0

-- a commit has ended that began after all else was put: none runs, no node was put since its start, and no byte is held
pub record HasCommitted (state : BackingState) : Type 0 where
  pub running : state.journal.running ≡ None
  pub nodes : state.journal.nodes ≡ 0
  pub held : state.space.held ≡ 0

-- Why a need was admitted: the test of admission held, on the backing as it was, or with no page dirty and a commit ended; and it is granted now.
pub record IsCoveredBy (old new : BackingState) (kept : Kept) (need : Need) : Type 0 where
  pub state : BackingState
  pub covered : needed state.space need ≤ room_for state.geometry state.space need
  pub granted : new ≡ granted state need
  pub when : (state ≡ old) ⊎ (HasCommitted state × (kept.pages.dirty ≡ []))

-- All room was made that there is: what callers see is the same, with no page dirty and a commit ended. The bytes that are used are those of its files.
pub record HasMadeRoom (old state : BackingState) (kept : Kept) : Type 0 where
  pub committed : HasCommitted state
  pub files : IsAlike (present old.tree kept) (record { tree = state.tree; handles = kept.handles })
  pub credits : state.space.credits + length kept.pages.dirty ≡ old.space.credits
  pub used : state.space.used ≡ tree_bytes state.tree
  pub main : state.space.main ≡ main_lebs state.geometry
  pub goes : Goes (2 * length kept.pages.dirty) old state

-- the test of admission held once all room was made, and so many nodes were put since
pub record IsCoveredAtLast (old new : BackingState) (kept : Kept) (need : Need) (nodes : ℕ) : Type 0 where
  pub state : BackingState
  pub room : HasMadeRoom old state kept
  pub covered : needed state.space need ≤ room_for state.geometry state.space need
  pub since : Goes nodes (granted state need) new

-- a need was admitted: the first one on the backing as it was, or the second once all room was made
abbrev pub WasCovered : BackingState → BackingState → Kept → Need → Need → ℕ → Type 0
WasCovered old new kept first second nodes =
    (needed old.space first ≤ room_for old.geometry old.space first) ⊎ IsCoveredAtLast old new kept second nodes

-- the answer isn't that there is no room
abbrev pub IsNotEnospc : {T : Type 0} → Result T Refusal → Type 0
IsNotEnospc (Err (Enospc space)) = ⊥
IsNotEnospc result = Unit {0}

-- Why nothing was admitted: the test fails, with no page dirty and a commit ended; or a call of the backing failed, which is read-only then.
abbrev pub IsWithoutRoom : BackingState → BackingState → Kept → Need → Refusal → Type 0
IsWithoutRoom old new kept need (Enospc space) =
    (space.need ≡ needed new.space need) × (space.room ≡ room_for new.geometry new.space need) × (space.room < space.need)
    × (kept.pages.dirty ≡ []) × HasCommitted new
IsWithoutRoom old new kept need (Eio count) = Rose old.faults new.faults × (count ≡ new.faults) × (new.mode ≢ ReadWrite)
IsWithoutRoom old new kept need (Erofs cause) = new.mode ≡ ReadOnly cause
IsWithoutRoom old new kept need Enomem = Unit {0}
IsWithoutRoom old new kept need refusal = ⊥
