-- What is asked of a caller's stock, and what a call does.
use Rattle.std.specs.Prelude.{◌≡◌, ◌⊎◌, ℕ, ◌+◌, ◌-◌, ◌*◌, ◌<◌, ◌≤◌, ◌||◌, Bool, true, false, nat_lt, Contains, List, length}
use Rattle.credit_pool.specs.States.{without}
use Rattle.fs_model.specs.declared.op.Op.{Op}
use Rattle.fs_model.specs.declared.reply.Reply.{Reply}
use Rattle.fs_model.specs.Backing.{BackingState}
use Rattle.fs_model.specs.Cover.{needed, room_for}
use Rattle.fs_model.specs.Legal.{pages_in}
use Rattle.vfs_ops.specs.declared.event.Event.{Event}
use Rattle.vfs_ops.specs.declared.event.Event.TheVariants.{Call, Pick, Put}
use Rattle.vfs_ops.specs.declared.event.Outcome.TheVariants.{Replied}
use Rattle.vfs_ops.specs.Background.{is_work}
use Rattle.vfs_ops.specs.FilesState.{FilesState}
use Rattle.vfs_ops.specs.Operations.{has_group}
use Rattle.vfs_ops.specs.Passing.{IsCallStep}
use Rattle.vfs_ops.specs.Writing.{credits_need}
use Rattle.credited_files.specs.States.{HasOtherCredits, StockState}

-- an event that neither covers credits nor gives any back
abbrev pub is_work_between : Event → Bool
is_work_between Pick = true
is_work_between (Put shown) = true
is_work_between event = is_work event

-- whether a call that brings so many credits may ask for room: one that puts a group, and a write that brings fewer than the pages that its words touch
abbrev pub needs_room : ℕ → Op → Bool
needs_room grant op = has_group op || nat_lt grant (pages_in op)

-- there is no room for so many credits more
abbrev pub IsFullFor : BackingState → ℕ → Type 0
IsFullFor state n = room_for state.geometry state.space (credits_need n) < needed state.space (credits_need n)

-- fewer others are out than there are callers, and without its seat a caller isn't out
abbrev pub MayBeServed : List ℕ → ℕ → StockState → Type 0
MayBeServed out callers stock = (length (without stock.caller out) < callers) × (stock.seated ≡ false → ¬ Contains out stock.caller)

-- What a call does that comes with so many credits. First other credits may be covered: then the call's step is made.
pub record WasServed (callers held : ℕ) (old new : FilesState) (caller now : ℕ) (op : Op) (answer : Reply) : Type 0 where
  pub between : FilesState
  pub only : HasOtherCredits old between
  -- The grant is what was brought, and what was covered more. It pays all pages that the operation's words touch, or there is no room for what it lacks; past 17 pages nothing more is covered.
  pub grant : ℕ
  pub brought : held ≤ grant
  pub most : grant ≤ pages_in op
  pub whole : pages_in op ≤ 17 → (grant ≡ pages_in op) ⊎ IsFullFor old.backing (pages_in op - grant)
  pub covered : length between.kept.pages.dirty + grant ≤ between.backing.space.credits
  -- Where no room is asked for, what was issued stays so. Seventeen credits more are covered at most.
  pub kept : needs_room grant op ≡ false → old.backing.space.credits + grant ≤ between.backing.space.credits + held
  pub few : between.backing.space.credits ≤ old.backing.space.credits + 17
  -- Where room may be asked for, the pool is drained: beside credits of dirty pages and of the grant, 17 for each other caller are covered at most.
  pub drained : needs_room grant op ≡ true → between.backing.space.credits ≤ length between.kept.pages.dirty + grant + 17 * (callers - 1)
  pub left : ℕ
  pub step : IsCallStep between new (Call caller now grant op) (Replied answer left)
