-- Which lines of calls and answers are legal, from how a file system was to how it is: one history of all callers.
use Rattle.std.specs.Prelude.{◌≡◌, ◌≢◌, ℕ, ◌+◌, ◌-◌, ◌*◌, ◌^◌, ◌<◌, ◌≤◌, ◌⊎◌, ◌==◌, ◌&&◌, IsTrue, Bool, true, false, nat_le, if◌then◌else◌, max, Option, Some, None, Ok, List, [], ◌∷◌, ◌++◌, count_by, length, map, sum_by}
use Rattle.std.specs.List.{flat_map, list_all}
use Rattle.std.specs.Map.{values_of}
use Rattle.std.specs.Ordering.{nat_cmp}
use Rattle.ubifs_base.specs.declared.raw_geometry.RawGeometry.{RawGeometry}
use Rattle.fs_model.specs.declared.backing_answers.Mode.{Mode}
use Rattle.fs_model.specs.declared.backing_answers.Mode.TheVariants.{ReadWrite, ReadOnly}
use Rattle.fs_model.specs.declared.op.Op.{Op}
use Rattle.fs_model.specs.declared.op.Op.TheVariants.{OpenFile, Close, Read, Write, Fsync, Flush, List as ListDir, Stat, Readlink}
use Rattle.fs_model.specs.declared.refusal.Cause.{Cause}
use Rattle.fs_model.specs.declared.refusal.Cause.TheVariants.{Tight, Faulted, Spent}
use Rattle.fs_model.specs.declared.refusal.NoSpace.{NoSpace}
use Rattle.fs_model.specs.declared.refusal.Refusal.{Refusal}
use Rattle.fs_model.specs.declared.refusal.Refusal.TheVariants.{Enospc, Erofs, Eio, Enomem, Enfile}
use Rattle.fs_model.specs.declared.refusal.Table.TheVariants.{Orphans}
use Rattle.fs_model.specs.declared.reply.Reply.{Reply}
use Rattle.fs_model.specs.declared.reply.Reply.TheVariants.{Refused}
use Rattle.fs_model.specs.declared.space.Need.{Need}
use Rattle.fs_model.specs.declared.space.Space.{Space}
use Rattle.fs_model.specs.declared.trace.TraceLine.{TraceLine}
use Rattle.fs_model.specs.Backing.{Outlook}
use Rattle.fs_model.specs.Cover.{index_lebs, room_for, credit_bytes, inode_bytes, entry_bytes}
use Rattle.fs_model.specs.Files.{Tree, Files, pages_of}
use Rattle.fs_model.specs.Need.{need_of}
use Rattle.fs_model.specs.Operation.{Outcome, outcome_of, reply_in, files_in}
use Rattle.fs_model.specs.Orphan.{leaves_orphan}
use Rattle.fs_model.specs.Proper.{ascends}
use Rattle.fs_model.specs.Same.{IsSame}

-- How a file system was when its lines began: its files, the numbers that admission reckons with, its dirty pages, how many more orphans its next list took of how many, and what is expected of its volume.
pub record Opening : Type 1 where
  pub geometry : RawGeometry
  pub callers : ℕ
  pub files : Files
  pub space : Space
  pub dirty : ℕ
  pub orphan_room : ℕ
  pub orphan_limit : ℕ
  pub mode : Mode
  pub faults : ℕ
  pub outlook : Outlook

-- How it is after them, with the sides of each refusal for want of room since it opened.
pub record Present : Type 1 where
  pub files : Files
  pub refused : List NoSpace
  pub mode : Mode
  pub faults : ℕ
  pub outlook : Outlook

-- Where a line stands: the lines before it, the files then, and how many of those lines took the last name of an open inode.
pub record Place : Type 0 where
  pub before : List TraceLine
  pub files : Files
  pub orphans : ℕ

-- the number that the caller's next line has
abbrev pub next_number : List TraceLine → ℕ → ℕ
next_number before caller = count_by (λ line. line.caller == caller) before + 1

-- whether a read-only store does it: it opens, closes or looks
abbrev pub is_read : Op → Bool
is_read (OpenFile path slot) = true
is_read (Close slot) = true
is_read (Read slot offs len) = true
is_read (ListDir path) = true
is_read (Stat path) = true
is_read (Readlink path) = true
is_read op = false

-- whether it writes all back, or one file
abbrev pub is_sync : Op → Bool
is_sync (Fsync slot) = true
is_sync Flush = true
is_sync op = false

abbrev pub is_tight : Cause → Bool
is_tight (Tight what need room) = true
is_tight cause = false

-- Why a store doesn't do an operation at all: it is read-only. One that was too full to be mounted for writing has nothing to sync.
abbrev pub read_only_cause : Mode → Op → Option Cause
read_only_cause ReadWrite op = None
read_only_cause (ReadOnly cause) op = if is_read op then None else if is_sync op && is_tight cause then None else Some cause

-- the plain operation of a line
abbrev pub plain : Place → TraceLine → Outcome
plain place line = outcome_of place.files line.caller line.now line.op

-- nothing but want of room or of memory, or a fault, refuses it
abbrev pub IsAllowed : Place → TraceLine → Type 0
IsAllowed place line = (done : Reply × Files) × (plain place line ≡ Ok done)

-- how many pages an operation's words touch
abbrev pub pages_in : Op → ℕ
pages_in (Write slot offs len byte) = length (pages_of offs len)
pages_in op = 0

-- What a line may ask for at most: what its operation does, with a credit for each page that its words touch, and 17 that each other caller may hold.
abbrev pub most_asked : Opening → Place → TraceLine → Need
most_asked opening place line =
    record (need_of place.files line.caller line.now line.op) { credits = pages_in line.op + 17 * (opening.callers - 1) }

-- what leaves take at most, in bytes: each block whole
abbrev pub whole_bytes : Tree → ℕ
whole_bytes tree = sum_by inode_bytes (values_of tree.inodes) + 4144 * length tree.blocks + sum_by entry_bytes (values_of tree.entries)

-- what may be needed at most
abbrev pub most_needed : Tree → Need → ℕ
most_needed tree need = whole_bytes tree + credit_bytes * need.credits + need.bytes

-- What the index weighs at most behind these lines: what it weighed, two nodes for each page that was dirty, five for each line, and two for each page that a line touches.
abbrev pub most_weight : Opening → List TraceLine → ℕ
most_weight opening lines = opening.space.weight + 2 * opening.dirty + sum_by (λ line. 5 + 2 * pages_in line.op) lines

-- the room that there is at least, where the index weighs no more than this
abbrev pub least_room : Opening → ℕ → Need → ℕ
least_room opening weight need =
    room_for opening.geometry (record opening.space { credits = 0; weight = weight; index = max opening.space.index (2 * index_lebs opening.geometry weight) }) need

-- The sides of a refusal for want of room that another history wouldn't give: no more is needed than the files and all credits come to, and there is no less room than beside the heaviest index.
pub record AreSides (opening : Opening) (place : Place) (line : TraceLine) (sides : NoSpace) : Type 0 where
  pub exceeds : sides.room < sides.need
  pub need : sides.need ≤ most_needed place.files.tree (most_asked opening place line)
  pub room : least_room opening (most_weight opening (place.before ++ line ∷ [])) (most_asked opening place line) ≤ sides.room

-- Why a line is refused for what the plain operation knows nothing of. Want of room, and a list of orphans that is full, come only where nothing else refuses; the list is full only where as many lines took a last name as it had room for. A store whose volume failed is read-only from that line on.
abbrev pub IsRefusal : Opening → Place → Mode → TraceLine → Refusal → Type 0
IsRefusal opening place mode line (Enospc sides) = IsAllowed place line × AreSides opening place line sides
IsRefusal opening place mode line (Erofs cause) = read_only_cause mode line.op ≡ Some cause
IsRefusal opening place mode line (Eio count) = mode ≢ ReadWrite
IsRefusal opening place mode line Enomem = Unit {0}
IsRefusal opening place mode line (Enfile Orphans limit) =
    IsAllowed place line × IsTrue (leaves_orphan place.files (files_in place.files (plain place line)))
    × (opening.orphan_room ≤ place.orphans) × (limit ≡ opening.orphan_limit)
IsRefusal opening place mode line refusal = ⊥

-- answered as the plain operation answers, and the files go on as it says
pub record IsPlain (place : Place) (mode : Mode) (line : TraceLine) (after : Files) : Type 0 where
  pub done : read_only_cause mode line.op ≡ None
  pub told : line.reply ≡ reply_in (plain place line)
  pub left : after ≡ files_in place.files (plain place line)

-- refused, and the files stay
pub record IsRefused (opening : Opening) (place : Place) (mode : Mode) (line : TraceLine) (after : Files) : Type 0 where
  pub refusal : Refusal
  pub told : line.reply ≡ Refused refusal
  pub why : IsRefusal opening place mode line refusal
  pub same : after ≡ place.files

-- the place behind a line
abbrev pub behind : Place → TraceLine → Files → Place
behind place line after = record {
  before = place.before ++ line ∷ [];
  files = after;
  orphans = place.orphans + (if leaves_orphan place.files after then 1 else 0);
}

-- These lines, one after another, lead from one place to another in this mode.
abbrev pub AreLines : Opening → Mode → Place → List TraceLine → Place → Type 0
AreLines opening mode place [] last = place ≡ last
AreLines opening mode place (line ∷ lines) last =
    (line.number ≡ next_number place.before line.caller)
    × (after : Files) × (IsPlain place mode line after ⊎ IsRefused opening place mode line after) × AreLines opening mode (behind place line after) lines last

-- the sides of a refusal for want of room, and the count of one by a failed volume
abbrev pub sides_in : TraceLine → List NoSpace
sides_in line = by line.reply
  where
    by : Reply → List NoSpace
    by (Refused (Enospc sides)) = sides ∷ []
    by reply = []

abbrev pub count_in : TraceLine → List ℕ
count_in line = by line.reply
  where
    by : Reply → List ℕ
    by (Refused (Eio count)) = count ∷ []
    by reply = []

-- the mode is what it was, or the store is read-only since: its volume failed, or a number is used up
abbrev pub IsModeSince : Opening → Present → Type 0
IsModeSince opening present =
    (present.mode ≡ opening.mode)
    ⊎ ((opening.mode ≡ ReadWrite)
    × (((count : ℕ) × (present.mode ≡ ReadOnly (Faulted count)) × (opening.faults < count) × (count ≤ present.faults))
    ⊎ ((sqnum : ℕ) × (cmt_no : ℕ) × (present.mode ≡ ReadOnly (Spent sqnum cmt_no)) × ((2 ^ 63 ≤ sqnum) ⊎ (2 ^ 63 ≤ cmt_no)))))

-- Lines are legal that lead from the opening to the present. Each has its caller's next number, and is answered by the plain operation, or refused for a reason. The mode changes once at most: some lines are answered in the opening one, and the rest in the present one.
pub record IsLegal (opening : Opening) (lines : List TraceLine) (present : Present) : Type 0 where
  pub first : List TraceLine
  pub rest : List TraceLine
  pub all : lines ≡ first ++ rest
  pub middle : Place
  pub last : Place
  pub opened : AreLines opening opening.mode (record { before = []; files = opening.files; orphans = 0 }) first middle
  pub closed : AreLines opening present.mode middle rest last
  pub files : IsSame last.files present.files
  pub mode : IsModeSince opening present
  -- the sides of refusals are those that are told, and the counts rise from the opening one to the present one
  pub refused : present.refused ≡ flat_map sides_in lines
  pub counts : IsTrue (ascends nat_cmp (opening.faults ∷ flat_map count_in lines))
  pub faults : IsTrue (list_all (λ count. nat_le count present.faults) (opening.faults ∷ flat_map count_in lines))
  -- a volume that was sure met no fault, or takes no more writing
  pub sure : opening.outlook.sure → present.outlook.spent ⊎ (present.outlook.sure × (present.faults ≡ opening.faults))
