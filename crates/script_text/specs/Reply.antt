-- The line of a reply.
use Rattle.std.specs.Prelude.{ℕ, ◌+◌, ◌/◌, ◌%◌, ◌==◌, if◌then◌else◌, List, [], ◌∷◌, ◌++◌, length, map, codes}
use Rattle.std.specs.Fmt.{decimal}
use Rattle.std.specs.List.{flat_map}
use Rattle.fs_model.specs.declared.inode.Entry.{Entry}
use Rattle.fs_model.specs.declared.inode.Kind.{Kind}
use Rattle.fs_model.specs.declared.inode.Kind.TheVariants.{File, Dir, Symlink, Block, Char, Fifo, Socket}
use Rattle.fs_model.specs.declared.reply.Reply.{Reply}
use Rattle.fs_model.specs.declared.reply.Reply.TheVariants.{Done, Ino, Count, Bytes, List as Listed, Stat, Target, Refused, Off}
use Rattle.fs_model.specs.declared.refusal.Refusal.{Refusal}
use Rattle.fs_model.specs.declared.refusal.Refusal.TheVariants.{Enoent, Eexist, Enotdir, Eisdir, Enotempty, Enospc, Erofs, Eio, Enomem, Efbig, Enametoolong, Einval, Emlink, Enfile, Ebadf}
use Rattle.fs_model.specs.declared.refusal.Cause.{Cause}
use Rattle.fs_model.specs.declared.refusal.Cause.TheVariants.{Tight, Faulted, Spent}
use Rattle.fs_model.specs.declared.refusal.Scarce.{Scarce}
use Rattle.fs_model.specs.declared.refusal.Scarce.TheVariants.{Space, Empty, Index, Area}
use Rattle.fs_model.specs.declared.refusal.Table.{Table}
use Rattle.fs_model.specs.declared.refusal.Table.TheVariants.{Orphans, Inodes}
use Rattle.script_text.specs.Escapes.{hex_digit, is_printable}
use Rattle.script_text.specs.Words.{octal}
use Rattle.text_lines.specs.Lines.{spaced, ended}

-- n times a byte, before runs
abbrev pub with_run : ℕ → ℕ → List (ℕ × ℕ) → List (ℕ × ℕ)
with_run n byte [] = (n, byte) ∷ []
with_run n byte (run ∷ runs) = if byte == run.1 then (n + run.0, byte) ∷ runs else (n, byte) ∷ run ∷ runs

-- the longest runs of equal bytes, each as its length and its byte
abbrev pub runs_of : List ℕ → List (ℕ × ℕ)
runs_of [] = []
runs_of (byte ∷ bytes) = with_run 1 byte (runs_of bytes)

-- a byte as two lower-case hex digits
abbrev pub hex_byte : ℕ → List ℕ
hex_byte byte = hex_digit (byte / 16) ∷ hex_digit (byte % 16) ∷ []

-- a run's length, an x and its byte in hex
abbrev pub run_text : ℕ × ℕ → List ℕ
run_text run = decimal run.0 ++ (120 ∷ hex_byte run.1)

-- runs, joined by commas
abbrev pub runs_text : List (ℕ × ℕ) → List ℕ
runs_text [] = []
runs_text (run ∷ []) = run_text run
runs_text (run ∷ next ∷ runs) = run_text run ++ (44 ∷ runs_text (next ∷ runs))

-- what there is too little of
abbrev pub scarce_word : Scarce → List ℕ
scarce_word Space = codes "space"
scarce_word Empty = codes "empty"
scarce_word Index = codes "index"
scarce_word Area = codes "area"

-- the table that is full
abbrev pub table_word : Table → List ℕ
table_word Orphans = codes "orphans"
table_word Inodes = codes "inodes"

-- why a store is read-only
abbrev pub cause_words : Cause → List (List ℕ)
cause_words (Tight what need room) = codes "tight" ∷ scarce_word what ∷ decimal need ∷ decimal room ∷ []
cause_words (Faulted count) = codes "faulted" ∷ decimal count ∷ []
cause_words (Spent sqnum cmt_no) = codes "spent" ∷ decimal sqnum ∷ decimal cmt_no ∷ []

-- the line of a mount after which a volume can only be read, and why
abbrev pub mount_for_reading_line : Cause → List ℕ
mount_for_reading_line cause = ended (codes "mount ro" ++ spaced (cause_words cause))

-- a refusal's number, and what it carries
abbrev pub refusal_words : Refusal → List (List ℕ)
refusal_words Enoent = codes "E1" ∷ []
refusal_words Eexist = codes "E2" ∷ []
refusal_words Enotdir = codes "E3" ∷ []
refusal_words Eisdir = codes "E4" ∷ []
refusal_words Enotempty = codes "E5" ∷ []
refusal_words (Enospc space) = codes "E6" ∷ decimal space.need ∷ decimal space.room ∷ []
refusal_words (Erofs cause) = codes "E7" ∷ cause_words cause
refusal_words (Eio count) = codes "E8" ∷ decimal count ∷ []
refusal_words Enomem = codes "E9" ∷ []
refusal_words Efbig = codes "E10" ∷ []
refusal_words Enametoolong = codes "E11" ∷ []
refusal_words Einval = codes "E12" ∷ []
refusal_words Emlink = codes "E13" ∷ []
refusal_words (Enfile what limit) = codes "E14" ∷ table_word what ∷ decimal limit ∷ []
refusal_words Ebadf = codes "E15" ∷ []

-- the bytes that were read: how many, and their runs, of which none has none
abbrev pub bytes_words : List ℕ → List (List ℕ)
bytes_words [] = codes "0" ∷ []
bytes_words (byte ∷ bytes) = decimal (length (byte ∷ bytes)) ∷ runs_text (runs_of (byte ∷ bytes)) ∷ []

-- a byte of a name: itself, or `%` and its two hex digits
abbrev pub escaped_byte : ℕ → List ℕ
escaped_byte byte = if is_printable byte then byte ∷ [] else 37 ∷ hex_byte byte

-- a name or a target
abbrev pub escaped : List ℕ → List ℕ
escaped bytes = flat_map escaped_byte bytes

-- f d l b c p s
abbrev pub kind_letter : Kind → ℕ
kind_letter File = 102
kind_letter Dir = 100
kind_letter Symlink = 108
kind_letter Block = 98
kind_letter Char = 99
kind_letter Fifo = 112
kind_letter Socket = 115

-- an entry of a directory: its name, its kind and its inode number
abbrev pub row_word : Entry → List ℕ
row_word entry = escaped entry.name ++ (58 ∷ kind_letter entry.kind ∷ 58 ∷ decimal entry.ino)

-- a directory's entries: how many, and a word for each
abbrev pub rows_words : List Entry → List (List ℕ)
rows_words rows = decimal (length rows) ∷ map row_word rows

-- a reply's words
abbrev pub reply_words : Reply → List (List ℕ)
reply_words Done = codes "ok" ∷ []
reply_words (Ino ino) = codes "ok" ∷ decimal ino ∷ []
reply_words (Count n) = codes "ok" ∷ decimal n ∷ []
reply_words (Bytes bytes) = codes "ok" ∷ bytes_words bytes
reply_words (Listed rows) = codes "ok" ∷ rows_words rows
reply_words (Stat kind ino mode nlink size mtime) = codes "ok" ∷ (kind_letter kind ∷ []) ∷ decimal ino ∷ octal mode ∷ decimal nlink ∷ decimal size ∷ decimal mtime ∷ []
reply_words (Target bytes) = codes "ok" ∷ escaped bytes ∷ []
reply_words (Refused refusal) = refusal_words refusal
reply_words Off = codes "off" ∷ []

-- the caller, the number of its call, and the reply
abbrev pub reply_line : ℕ → ℕ → Reply → List ℕ
reply_line caller number reply = ended (decimal caller ++ spaced (decimal number ∷ reply_words reply))
