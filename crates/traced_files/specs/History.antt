-- What the lines of many callers come to, with the work between them: from how files over a backing were to how they are.
use Rattle.std.specs.Prelude.{◌≡◌, ◌⊎◌, ℕ, ◌+◌, ◌*◌, ◌^◌, ◌<◌, ◌≤◌, ◌&&◌, ◌||◌, max, if◌then◌else◌, Bool, true, false, List, [], ◌∷◌, ◌++◌, All, drop, fold, length, sum_by}
use Rattle.std.specs.List.{flat_map}
use Rattle.fs_model.specs.declared.backing_answers.Mode.{Mode}
use Rattle.fs_model.specs.declared.backing_answers.Mode.TheVariants.{ReadWrite, ReadOnly}
use Rattle.fs_model.specs.declared.refusal.Cause.TheVariants.{Faulted, Spent}
use Rattle.fs_model.specs.declared.refusal.NoSpace.{NoSpace}
use Rattle.fs_model.specs.declared.refusal.Refusal.TheVariants.{Enospc}
use Rattle.fs_model.specs.declared.op.Op.{Op}
use Rattle.fs_model.specs.declared.op.Op.TheVariants.{Flush}
use Rattle.fs_model.specs.declared.reply.Reply.{Reply}
use Rattle.fs_model.specs.declared.reply.Reply.TheVariants.{Done, Refused}
use Rattle.fs_model.specs.declared.trace.TraceLine.{TraceLine}
use Rattle.fs_model.specs.Backing.{BackingState, Outlook, Rose, orphan_room}
use Rattle.fs_model.specs.Cover.{index_lebs}
use Rattle.fs_model.specs.Files.{Files}
use Rattle.fs_model.specs.Legal.{AreLines, Opening, Place, Present, count_in, least_room, most_asked, pages_in, sides_in}
use Rattle.fs_model.specs.Operation.{files_in, outcome_of}
use Rattle.fs_laws.specs.Sound.{IsSound}
use Rattle.buffered_files.specs.declared.kept.Kept.{Kept}
use Rattle.buffered_files.specs.Alike.{IsAlike}
use Rattle.buffered_files.specs.Calls.{full_weight}
use Rattle.vfs_ops.specs.FilesState.{FilesState, present_in}
use Rattle.vfs_ops.specs.Kinds.{is_question}
use Rattle.vfs_ops.specs.Operations.{has_group}
use Rattle.vfs_ops.specs.Steps.{is_write}

-- how files over a backing are, when the lines of so many callers begin
abbrev pub opening_of : FilesState → Outlook → ℕ → Opening
opening_of state outlook callers = record {
  geometry = state.backing.geometry;
  callers = callers;
  files = present_in state;
  space = state.backing.space;
  dirty = length state.kept.pages.dirty;
  orphan_room = orphan_room state.backing;
  orphan_limit = state.backing.orphan_limit;
  mode = state.backing.mode;
  faults = state.backing.faults;
  outlook = outlook;
}

-- how they are after the lines; these refusals for want of room were noted before
abbrev pub present_of : List NoSpace → FilesState → Outlook → Present
present_of noted state outlook = record {
  files = present_in state;
  refused = drop (length noted) state.refused;
  mode = state.backing.mode;
  faults = state.backing.faults;
  outlook = outlook;
}

-- the mode is what it was, or the store is read-only since: its volume failed, or a number is used up
abbrev pub IsModeAfter : Opening → Mode → ℕ → Type 0
IsModeAfter opening mode faults =
    (mode ≡ opening.mode)
    ⊎ ((opening.mode ≡ ReadWrite)
    × (((count : ℕ) × (mode ≡ ReadOnly (Faulted count)) × Rose opening.faults count × (count ≤ faults))
    ⊎ ((sqnum : ℕ) × (cmt_no : ℕ) × (mode ≡ ReadOnly (Spent sqnum cmt_no)) × ((2 ^ 63 ≤ sqnum) ⊎ (2 ^ 63 ≤ cmt_no)))))

-- each count rose from the one before it, up to the present one
abbrev pub Rise : ℕ → List ℕ → ℕ → Type 0
Rise before [] faults = before ≤ faults
Rise before (count ∷ counts) faults = Rose before count × Rise count counts faults

-- the place of the first line
abbrev pub first_place : Opening → Place
first_place opening = record { before = []; files = opening.files; orphans = 0 }

-- The lines lead from the opening to a place: some in the mode of the opening, the rest in this one.
pub record LinesLead (opening : Opening) (mode : Mode) (lines : List TraceLine) (last : Place) : Type 0 where
  pub first : List TraceLine
  pub rest : List TraceLine
  pub all : lines ≡ first ++ rest
  pub middle : Place
  pub opened : AreLines opening opening.mode (first_place opening) first middle
  pub closed : AreLines opening mode middle rest last

-- the files behind a line: those that its operation makes of them, or the same, if it is refused
abbrev pub files_after_line : Files → TraceLine → Files
files_after_line files line = by line.reply
  where
    by : Reply → Files
    by (Refused refusal) = files
    by reply = files_in files (outcome_of files line.caller line.now line.op)

-- the files behind these lines
abbrev pub files_behind : Files → List TraceLine → Files
files_behind files lines = fold files_after_line files lines

-- Want of room refuses nothing but a write that touches a page, or an operation with a group of changes.
abbrev pub IsRoomAsked : TraceLine → Type 0
IsRoomAsked line = (sides : NoSpace) → line.reply ≡ Refused (Enospc sides) → (0 < pages_in line.op) ⊎ (has_group line.op ≡ true)

-- how much heavier the index gets by an operation at most: by five nodes and two for each page that it touches, if it writes or has a group, and else by none
abbrev pub index_growth_by : Op → ℕ
index_growth_by op = if is_write op || has_group op then 5 + 2 * pages_in op else 0

-- what the index weighs at most behind these lines, dirty pages included
abbrev pub grown_weight : Opening → List TraceLine → ℕ
grown_weight opening lines = opening.space.weight + 2 * opening.dirty + sum_by (λ line. index_growth_by line.op) lines

-- the place behind these lines, on the files that they leave; of orphans it tells nothing
abbrev pub place_after : Opening → List TraceLine → Place
place_after opening lines = record (first_place opening) { before = lines; files = files_behind opening.files lines }

-- A refusal for want of room tells no less room than is left by the credits that others may hold, and by an index as heavy as it and the lines before it may make it. What neither writes nor has a group makes it no heavier.
abbrev pub IsRoomTold : Opening → Place → TraceLine → Type 0
IsRoomTold opening place line =
    (sides : NoSpace) → line.reply ≡ Refused (Enospc sides) → least_room opening (grown_weight opening (place.before ++ line ∷ [])) (most_asked opening place line) ≤ sides.room

-- the same of each of these lines, in its place
abbrev pub AreRoomsTold : Opening → List TraceLine → Type 0
AreRoomsTold opening lines = (before : List TraceLine) (line : TraceLine) (rest : List TraceLine) → lines ≡ before ++ line ∷ rest → IsRoomTold opening (place_after opening before) line

-- whether all is written back behind a line: it is a flush that was done, or a question where all was written back before it
abbrev pub flushed_by : Bool → Op → Reply → Bool
flushed_by flushed Flush Done = true
flushed_by flushed op reply = flushed && is_question op

-- whether all is written back behind these lines
abbrev pub flushed_from : Bool → List TraceLine → Bool
flushed_from flushed [] = flushed
flushed_from flushed (line ∷ lines) = flushed_from (flushed_by flushed line.op line.reply) lines

-- Nothing but questions stands behind a flush that was done.
abbrev pub is_flushed : List TraceLine → Bool
is_flushed lines = flushed_from false lines

-- what the index weighs, dirty pages included, and how many LEBs it takes, at most
pub record IsWithinWeight (opening : Opening) (lines : List TraceLine) (state : BackingState) (kept : Kept) : Type 0 where
  pub weight : full_weight state kept ≤ grown_weight opening lines
  pub index : state.space.index ≤ max opening.space.index (2 * index_lebs opening.geometry (grown_weight opening lines))

-- These lines, and work between them that callers don't see, lead from the opening to this state. It is what a line more needs in order to be legal too.
pub record IsHistory (opening : Opening) (noted : List NoSpace) (lines : List TraceLine) (now : FilesState) : Type 0 where
  -- Replayed one after another, the lines lead to a place whose files callers can't tell from the present ones.
  pub last : Place
  pub leads : LinesLead opening now.backing.mode lines last
  pub replayed : last.files ≡ files_behind opening.files lines
  pub same : IsAlike last.files (present_in now)
  pub sound : IsSound last.files
  -- The mode changes once at most; the sides of refusals are those that are noted since, with no less room than the lines leave, and the counts of faults rise.
  pub mode : IsModeAfter opening now.backing.mode now.backing.faults
  pub refused : now.refused ≡ noted ++ flat_map sides_in lines
  pub asked : All IsRoomAsked lines
  pub rooms : AreRoomsTold opening lines
  pub counts : Rise opening.faults (flat_map count_in lines) now.backing.faults
  pub faults : opening.faults ≤ now.backing.faults
  -- The layout stays, the next list of orphans has as much room as the lines left of it, and the index weighs no more than they may add.
  pub geometry : now.backing.geometry ≡ opening.geometry
  pub main : now.backing.space.main ≡ opening.space.main
  pub limit : now.backing.orphan_limit ≡ opening.orphan_limit
  pub orphans : opening.orphan_room ≤ orphan_room now.backing + last.orphans
  pub weight : now.backing.mode ≡ ReadWrite → IsWithinWeight opening lines now.backing now.kept
  -- Behind a flush that was done no page is dirty, as long as nothing but questions is asked.
  pub flushed : now.backing.mode ≡ ReadWrite → is_flushed lines ≡ true → now.kept.pages.dirty ≡ []

-- a volume that was sure met no fault, or takes no more writing
abbrev pub IsSureSince : Opening → ℕ → Outlook → Type 0
IsSureSince opening faults outlook = opening.outlook.sure → outlook.spent ⊎ (outlook.sure × (faults ≡ opening.faults))
