-- What is asked of a backing that works on what was put.
use Rattle.std.proofs.Common.{◌≡◌, ℕ, ◌+◌, true, refl, ap, arith}
use Rattle.fs_model.specs.Backing.{BackingState, KeepsFiles}
use Rattle.vfs_ops.specs.declared.event.Event.{Event}
use Rattle.vfs_ops.specs.declared.event.Event.TheVariants.{Call, Put, Pick, Sync, Collect, CommitStart, CommitStep, CommitEnd}
use Rattle.vfs_ops.specs.declared.event.Outcome.{Outcome}
use Rattle.vfs_ops.specs.declared.event.Outcome.TheVariants.{Synced, Did, Began, Went, Closed, Fault}
use Rattle.vfs_ops.specs.Background.{IsBackgroundStep, IsChore, IsMade, drained_in, granted_in, is_work}
use Rattle.vfs_ops.specs.FilesState.{FilesState, LeavesKept}
use Rattle.vfs_ops.specs.Passing.{IsStep}

-- the files of the backing stay, and no credit is granted or drained
pub record Works (old new : BackingState) (outcome : Outcome) : Type 0 where
  pub files : KeepsFiles old new
  pub drained : drained_in outcome ≡ 0
  pub granted : granted_in outcome ≡ 0

chore_works : (old new : BackingState) (event : Event) (outcome : Outcome) → is_work event ≡ true → IsChore old new event outcome → Works old new outcome
chore_works old new Sync Synced w h = record { files = h.0.files; drained = refl; granted = refl }
chore_works old new Sync (Fault why) w h = record { files = h.0.files; drained = refl; granted = refl }
chore_works old new Sync outcome w h = absurd h
chore_works old new Collect (Did collected) w h = record { files = h.0.files; drained = refl; granted = refl }
chore_works old new Collect (Fault why) w h = record { files = h.0.files; drained = refl; granted = refl }
chore_works old new Collect outcome w h = absurd h
chore_works old new CommitStart (Began started) w h = record { files = h.0.files; drained = refl; granted = refl }
chore_works old new CommitStart (Fault why) w h = record { files = h.0.files; drained = refl; granted = refl }
chore_works old new CommitStart outcome w h = absurd h
chore_works old new CommitStep (Went stepped) w h = record { files = h.0.files; drained = refl; granted = refl }
chore_works old new CommitStep (Fault why) w h = record { files = h.0.files; drained = refl; granted = refl }
chore_works old new CommitStep outcome w h = absurd h
chore_works old new CommitEnd (Closed ended) w h = record { files = h.0.files; drained = refl; granted = refl }
chore_works old new CommitEnd (Fault why) w h = record { files = h.0.files; drained = refl; granted = refl }
chore_works old new CommitEnd outcome w h = absurd h
chore_works old new event outcome w h = absurd cc

-- an event of work is one of the background
pub work_step : (old new : FilesState) (event : Event) (outcome : Outcome) → is_work event ≡ true → IsStep old new event outcome → IsBackgroundStep old new event outcome
work_step old new (Call caller now grant op) outcome w h = absurd cc
work_step old new event outcome w h = h

made_chore : (old new : FilesState) (event : Event) (outcome : Outcome) → is_work event ≡ true → IsMade old new event outcome → IsChore old.backing new.backing event outcome × LeavesKept old new
made_chore old new Pick outcome w h = absurd cc
made_chore old new (Put shown) outcome w h = absurd cc
made_chore old new event outcome w h = h

-- what is kept stays too
pub work_kept : (old new : FilesState) (event : Event) (outcome : Outcome) → is_work event ≡ true → IsBackgroundStep old new event outcome → new.kept ≡ old.kept
work_kept old new event outcome w step = ap (λ (s : FilesState). s.kept) (made_chore old new event outcome w step.made).1

pub work_files : (old new : FilesState) (event : Event) (outcome : Outcome) → is_work event ≡ true → IsBackgroundStep old new event outcome → Works old.backing new.backing outcome
work_files old new event outcome w step = chore_works old.backing new.backing event outcome w (made_chore old new event outcome w step.made).0

-- no credit was drained or granted
pub no_credits : (a b d e drained granted : ℕ) → drained ≡ 0 → granted ≡ 0 → a + b + drained ≡ d + e + granted → a + b + 0 ≡ d + e + 0
no_credits a b d e drained granted f g h = omega (arith, f, g, h)
