-- The words for operations that have words behind them.
use Rattle.std.specs.Prelude.{ℕ, ◌≡◌, Bool, true, false, List, codes}
use Rattle.fs_model.specs.declared.op.Op.{Op}
use Rattle.script_text.specs.declared.verb.Verb.{Verb}
use Rattle.script_text.specs.declared.verb.Verb.TheVariants.{Create, Mkdir, Symlink, Link, Unlink, Rmdir, Rename, Open, Close, Read, Write, Truncate, Fsync, List as Listing, Stat, Readlink, Chmod}
use Rattle.script_text.specs.Script.{op_name, op_words}
use Rattle.script_text.specs.Words.{AreSpacedWords}

-- the word
abbrev pub verb_name : Verb → List ℕ
verb_name Create = codes "create"
verb_name Mkdir = codes "mkdir"
verb_name Symlink = codes "symlink"
verb_name Link = codes "link"
verb_name Unlink = codes "unlink"
verb_name Rmdir = codes "rmdir"
verb_name Rename = codes "rename"
verb_name Open = codes "open"
verb_name Close = codes "close"
verb_name Read = codes "read"
verb_name Write = codes "write"
verb_name Truncate = codes "truncate"
verb_name Fsync = codes "fsync"
verb_name Listing = codes "list"
verb_name Stat = codes "stat"
verb_name Readlink = codes "readlink"
verb_name Chmod = codes "chmod"

-- whether it makes, moves or takes away a name
abbrev pub is_verb_of_names : Verb → Bool
is_verb_of_names Create = true
is_verb_of_names Mkdir = true
is_verb_of_names Symlink = true
is_verb_of_names Link = true
is_verb_of_names Unlink = true
is_verb_of_names Rmdir = true
is_verb_of_names Rename = true
is_verb_of_names verb = false

-- an operation has this name, and these are the words behind it
abbrev pub SaysOperation : Verb → Op → List ℕ → Type 0
SaysOperation verb op text = (op_name op ≡ verb_name verb) × AreSpacedWords (op_words op) text
