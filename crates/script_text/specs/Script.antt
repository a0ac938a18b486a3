-- Scripts: a line for each part, and the line `end`.
use Rattle.std.specs.Prelude.{ℕ, ◌+◌, ◌<◌, ◌≤◌, ◌^◌, ◌≡◌, ◌≢◌, ◌⊎◌, Bool, true, false, List, [], ◌∷◌, ◌++◌, length, codes}
use Rattle.std.specs.List.{list_all}
use Rattle.fs_model.specs.Proper.{are_bytes}
use Rattle.fs_model.specs.declared.op.Op.{Op}
use Rattle.fs_model.specs.declared.op.Op.TheVariants.{Create, Mkdir, Symlink, Link, Unlink, Rmdir, Rename, OpenFile, Close, Read, Write, Truncate, Fsync, Flush, List as Listing, Stat, Readlink, Chmod}
use Rattle.script_text.specs.declared.part.Part.{Part}
use Rattle.script_text.specs.declared.part.Part.TheVariants.{Mount, Unmount, Now, Workers, Line}
use Rattle.script_text.specs.declared.fault.TextFault.{TextFault}
use Rattle.script_text.specs.declared.fault.TextFault.TheVariants.{Memory, Line as FaultLine}
use Rattle.text_lines.specs.Lines.{ended}
use Rattle.script_text.specs.Words.{Word, Fixed, Number, Mode, Path, Target, AreSpacedWords}

-- the word for an operation
abbrev pub op_name : Op → List ℕ
op_name (Create path mode) = codes "create"
op_name (Mkdir path mode) = codes "mkdir"
op_name (Symlink path target) = codes "symlink"
op_name (Link old new) = codes "link"
op_name (Unlink path) = codes "unlink"
op_name (Rmdir path) = codes "rmdir"
op_name (Rename old new) = codes "rename"
op_name (OpenFile path slot) = codes "open"
op_name (Close slot) = codes "close"
op_name (Read slot offs len) = codes "read"
op_name (Write slot offs len byte) = codes "write"
op_name (Truncate slot size) = codes "truncate"
op_name (Fsync slot) = codes "fsync"
op_name Flush = codes "flush"
op_name (Listing path) = codes "list"
op_name (Stat path) = codes "stat"
op_name (Readlink path) = codes "readlink"
op_name (Chmod path mode) = codes "chmod"

-- the words behind it
abbrev pub op_words : Op → List Word
op_words (Create path mode) = Path path ∷ Mode mode ∷ []
op_words (Mkdir path mode) = Path path ∷ Mode mode ∷ []
op_words (Symlink path target) = Path path ∷ Target target ∷ []
op_words (Link old new) = Path old ∷ Path new ∷ []
op_words (Unlink path) = Path path ∷ []
op_words (Rmdir path) = Path path ∷ []
op_words (Rename old new) = Path old ∷ Path new ∷ []
op_words (OpenFile path slot) = Path path ∷ Number 8 slot ∷ []
op_words (Close slot) = Number 8 slot ∷ []
op_words (Read slot offs len) = Number 8 slot ∷ Number 64 offs ∷ Number 32 len ∷ []
op_words (Write slot offs len byte) = Number 8 slot ∷ Number 64 offs ∷ Number 32 len ∷ Number 8 byte ∷ []
op_words (Truncate slot size) = Number 8 slot ∷ Number 64 size ∷ []
op_words (Fsync slot) = Number 8 slot ∷ []
op_words Flush = []
op_words (Listing path) = Path path ∷ []
op_words (Stat path) = Path path ∷ []
op_words (Readlink path) = Path path ∷ []
op_words (Chmod path mode) = Path path ∷ Mode mode ∷ []

-- the words of a part's line
abbrev pub part_words : Part → List Word
part_words Mount = Fixed (codes "mount") ∷ []
part_words Unmount = Fixed (codes "unmount") ∷ []
part_words (Now now) = Fixed (codes "now") ∷ Number 64 now ∷ []
part_words (Workers count) = Fixed (codes "workers") ∷ Number 8 count ∷ []
part_words (Line caller op) = Number 8 caller ∷ Fixed (op_name op) ∷ op_words op

-- callers are numbered from 1 to 16
abbrev pub IsCaller : ℕ → Type 0
IsCaller caller = (1 ≤ caller) × (caller ≤ 16)

-- a line's caller is one of these, and there are 8 workers at most
abbrev pub HasAllowedNumber : Part → Type 0
HasAllowedNumber (Line caller op) = IsCaller caller
HasAllowedNumber (Workers count) = count ≤ 8
HasAllowedNumber part = Unit {0}

-- a line of the part, without its newline: its words, in 10,000 bytes at most
pub record IsLineOf (part : Part) (line : List ℕ) : Type 0 where
  pub allowed : HasAllowedNumber part
  pub words : AreSpacedWords (part_words part) line
  pub short : length line ≤ 10000

-- the text is a line for each part
abbrev pub AreLinesOf : List Part → List ℕ → Type 0
AreLinesOf [] text = text ≡ []
AreLinesOf (part ∷ parts) text = (line : List ℕ) × (rest : List ℕ) × IsLineOf part line × AreLinesOf parts rest × (text ≡ ended line ++ rest)

-- the last line
abbrev pub end_line : List ℕ
end_line = ended (codes "end")

-- `mount` stands while unmounted, `unmount` and a caller's line while mounted, `now` and `workers` anywhere
abbrev pub MayStand : Bool → Part → Type 0
MayStand mounted Mount = mounted ≡ false
MayStand mounted Unmount = mounted ≡ true
MayStand mounted (Now now) = Unit {0}
MayStand mounted (Workers count) = Unit {0}
MayStand mounted (Line caller op) = mounted ≡ true

-- whether a volume is mounted behind a part
abbrev pub mounted_after : Bool → Part → Bool
mounted_after mounted Mount = true
mounted_after mounted Unmount = false
mounted_after mounted (Now now) = mounted
mounted_after mounted (Workers count) = mounted
mounted_after mounted (Line caller op) = mounted

-- each part may stand behind those before it; at the end the volume is mounted or not
abbrev pub Leads : Bool → List Part → Bool → Type 0
Leads mounted [] last = mounted ≡ last
Leads mounted (part ∷ parts) last = MayStand mounted part × Leads (mounted_after mounted part) parts last

-- The text is a line for each part and the line `end`, 100,000 lines at most. At first nothing is mounted.
pub record IsScript (text : List ℕ) (parts : List Part) : Type 0 where
  pub lines : (good : List ℕ) × AreLinesOf parts good × (text ≡ good ++ end_line)
  pub order : (last : Bool) × Leads false parts last
  pub few : length parts + 1 ≤ 100000

-- the text begins with a line of a part that may stand there
abbrev pub BeginsWithPart : Bool → List ℕ → Type 0
BeginsWithPart mounted text = (part : Part) × (line : List ℕ) × (rest : List ℕ) × MayStand mounted part × IsLineOf part line × (text ≡ ended line ++ rest)

-- the text begins with the line `end`
abbrev pub BeginsWithEnd : List ℕ → Type 0
BeginsWithEnd text = (rest : List ℕ) × (text ≡ end_line ++ rest)

-- Behind `before` good lines the first bad one has this number: there are 100,000 good ones; or no line that may stand there follows; or `end` follows, and something behind it.
abbrev pub IsBadAfter : Bool → ℕ → List ℕ → ℕ → Type 0
IsBadAfter mounted before rest number = ((before ≡ 100000) × (number ≡ before + 1))
    ⊎ ((before < 100000) × (BeginsWithPart mounted rest → ⊥) × (BeginsWithEnd rest → ⊥) × (number ≡ before + 1))
    ⊎ ((before < 100000) × ((more : List ℕ) × (more ≢ []) × (rest ≡ end_line ++ more)) × (number ≡ before + 2))

-- The line of this number is the first that isn't in the grammar: good lines stand before it, each where it may.
abbrev pub IsFirstBadLine : List ℕ → ℕ → Type 0
IsFirstBadLine text number = (parts : List Part) × (mounted : Bool) × (good : List ℕ) × (rest : List ℕ)
    × AreLinesOf parts good × (text ≡ good ++ rest) × Leads false parts mounted × IsBadAfter mounted (length parts) rest number

-- what holds of the line that a fault names
abbrev pub OnLine : TextFault → (ℕ → Type 0) → Type 0
OnLine Memory P = Unit {0}
OnLine (FaultLine number) P = P number

-- what an operation gives to keep: the path of a name that it makes, the target of a symbolic link, the byte that it writes
abbrev pub given_bytes : Op → List (List ℕ)
given_bytes (Create path mode) = path ∷ []
given_bytes (Mkdir path mode) = path ∷ []
given_bytes (Symlink path target) = path ∷ target ∷ []
given_bytes (Link old new) = new ∷ []
given_bytes (Rename old new) = new ∷ []
given_bytes (Write slot offs len byte) = (byte ∷ []) ∷ []
given_bytes op = []

-- a part whose caller is from 1 to 16 and its bytes are bytes, with a time that fits 64 bits, or with 8 workers at most
abbrev pub IsInRange : Part → Type 0
IsInRange Mount = Unit {0}
IsInRange Unmount = Unit {0}
IsInRange (Now now) = now < 2 ^ 64
IsInRange (Workers count) = count ≤ 8
IsInRange (Line caller op) = IsCaller caller × (list_all are_bytes (given_bytes op) ≡ true)
