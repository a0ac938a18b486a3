-- What a caller's write asks of admission, and when it is kept in memory alone.
use Rattle.std.specs.Prelude.{◌≡◌, ◌⊎◌, ℕ, ◌+◌, ◌-◌, ◌≤◌, Result, Err, OnOk, OnErr, Some, List, length}
use Rattle.std.specs.BTreeMap.{is_at}
use Rattle.std.specs.Map.{lookup}
use Rattle.std.specs.Option.{option_map_or}
use Rattle.fs_model.specs.declared.change.Change.{Change}
use Rattle.fs_model.specs.declared.op.Op.{Op}
use Rattle.fs_model.specs.declared.op.Op.TheVariants.{Write}
use Rattle.fs_model.specs.declared.refusal.NoSpace.{NoSpace}
use Rattle.fs_model.specs.declared.refusal.Refusal.{Refusal}
use Rattle.fs_model.specs.declared.reply.Reply.{Reply}
use Rattle.fs_model.specs.declared.reply.Reply.TheVariants.{Refused}
use Rattle.fs_model.specs.declared.space.Class.TheVariants.{Ordinary}
use Rattle.fs_model.specs.declared.space.Need.{Need}
use Rattle.fs_model.specs.Backing.{BackingState}
use Rattle.fs_model.specs.Cover.{needed, room_for}
use Rattle.fs_model.specs.Files.{handle_at, pages_of, pair_cmp}
use Rattle.buffered_files.specs.declared.kept.Kept.{Kept}
use Rattle.buffered_files.specs.Calls.{IsNotEnospc, WasCovered}
use Rattle.buffered_files.specs.Present.{newly_dirty, present}

-- credits for pages, and nothing else
abbrev pub credits_need : ℕ → Need
credits_need credits = record { credits = credits; bytes = 0; nodes = 0; class = Ordinary }

-- what a write asks for that brings credits of its own, where no page is dirty that it touches
abbrev pub write_need : ℕ → ℕ → ℕ → Need
write_need offs len grant = credits_need (length (pages_of offs len) - grant)

-- how many pages an operation makes dirty that weren't: those of its slot's file that a write touches
abbrev pub newly_by : Kept → ℕ → Op → ℕ
newly_by kept caller (Write slot offs len byte) = option_map_or (λ ino. newly_dirty kept.pages.dirty ino offs len) (lookup (is_at (pair_cmp (caller, slot))) kept.handles) 0
newly_by kept caller op = 0

-- a write's own credits pay the pages that it makes dirty, or there is room for the credits that it lacks
abbrev pub HasRoom : BackingState → Kept → ℕ → ℕ → ℕ → ℕ → Type 0
HasRoom state kept ino offs len grant =
    (newly_dirty kept.pages.dirty ino offs len ≤ grant)
    ⊎ (needed state.space (credits_need (newly_dirty kept.pages.dirty ino offs len - grant)) ≤ room_for state.geometry state.space (credits_need (newly_dirty kept.pages.dirty ino offs len - grant)))

-- a write's own credits pay the pages that it makes dirty, or the credits that it lacks were admitted
abbrev pub WasPaid : BackingState → BackingState → Kept → ℕ → ℕ → ℕ → ℕ → Type 0
WasPaid old new kept ino offs len grant =
    (newly_dirty kept.pages.dirty ino offs len ≤ grant)
    ⊎ WasCovered old new kept (credits_need (newly_dirty kept.pages.dirty ino offs len - grant)) (write_need offs len grant) 0

-- there is room for what is asked, at the first test
abbrev pub HasGroupRoom : BackingState → Need → Type 0
HasGroupRoom state need = needed state.space need ≤ room_for state.geometry state.space need

-- no node is asked for, or there is room for what is asked at the first test
abbrev pub HasRoomAtOnce : BackingState → Need → Type 0
HasRoomAtOnce state need = (need.nodes ≡ 0) ⊎ HasGroupRoom state need

-- a group has no change, or what it asks for was admitted
abbrev pub IsGroupAdmitted : BackingState → BackingState → Kept → List Change → Need → Type 0
IsGroupAdmitted old new kept group need = (length group ≡ 0) ⊎ WasCovered old new kept need need need.nodes

-- A write that is kept in memory alone: nothing goes to the backing, and nothing is refused for want of room. The pages that are touched are dirty then; after a refusal no other page is than before.
pub record IsBuffered {T : Type 0} (old new : BackingState) (kept after : Kept) (ino offs len : ℕ) (result : Result T Refusal) : Type 0 where
  pub geometry : new.geometry ≡ old.geometry
  pub tree : new.tree ≡ old.tree
  pub journal : new.journal ≡ old.journal
  pub room : IsNotEnospc result
  pub dirty : OnOk result (length after.pages.dirty ≡ length kept.pages.dirty + newly_dirty kept.pages.dirty ino offs len)
  pub refused : OnErr result (after.pages.dirty ≡ kept.pages.dirty)

-- the answer isn't a refusal
abbrev pub IsNotErr : {T : Type 0} → Result T Refusal → Type 0
IsNotErr (Err refusal) = ⊥
IsNotErr result = Unit {0}

-- credits were covered, and nothing else has changed
pub record IsCovered {T : Type 0} (old new : BackingState) (kept after : Kept) (result : Result T Refusal) : Type 0 where
  pub geometry : new.geometry ≡ old.geometry
  pub tree : new.tree ≡ old.tree
  pub journal : new.journal ≡ old.journal
  pub still : after ≡ kept
  pub ok : IsNotErr result

-- what an operation that is served keeps to: a write that has room is buffered
abbrev pub Buffers : {T : Type 0} → BackingState → BackingState → Kept → Kept → ℕ → ℕ → Op → Result T Refusal → Type 0
Buffers old new before after caller grant (Write slot offs len byte) result =
    (ino : ℕ) → handle_at (present old.tree before) caller slot ≡ Some ino → HasRoom old before ino offs len grant → IsBuffered old new before after ino offs len result
Buffers old new before after caller grant op result = Unit {0}

-- The same of its reply: nothing goes to the backing, and nothing is refused for want of room. The pages that are touched are dirty then; or it is refused, and no other page is dirty than before.
pub record IsBufferedReply (old new : BackingState) (before after : Kept) (first last : List NoSpace) (ino offs len : ℕ) (reply : Reply) : Type 0 where
  pub geometry : new.geometry ≡ old.geometry
  pub tree : new.tree ≡ old.tree
  pub journal : new.journal ≡ old.journal
  pub room : last ≡ first
  pub dirty : ((refusal : Refusal) × (reply ≡ Refused refusal) × (after.pages.dirty ≡ before.pages.dirty))
      ⊎ (length after.pages.dirty ≡ length before.pages.dirty + newly_dirty before.pages.dirty ino offs len)

abbrev pub BuffersReply : BackingState → BackingState → Kept → Kept → List NoSpace → List NoSpace → ℕ → ℕ → Op → Reply → Type 0
BuffersReply old new before after first last caller grant (Write slot offs len byte) reply =
    (ino : ℕ) → handle_at (present old.tree before) caller slot ≡ Some ino → HasRoom old before ino offs len grant → IsBufferedReply old new before after first last ino offs len reply
BuffersReply old new before after first last caller grant op reply = Unit {0}
