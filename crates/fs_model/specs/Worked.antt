-- Operations of one caller with the answers that they must get, worked by hand.
use Rattle.std.specs.Prelude.{ℕ, Bool, ◌-◌, ◌==◌, ◌&&◌, ◌||◌, not, if◌then◌else◌, List, [], ◌∷◌, ◌++◌, replicate, codes}
use Rattle.std.specs.List.{list_all}
use Rattle.fs_model.specs.declared.change.Change.{Change}
use Rattle.fs_model.specs.declared.change.Change.TheVariants.{SetInode, SetEntry, DropEntry, SetBlock}
use Rattle.fs_model.specs.declared.inode.Entry.{Entry}
use Rattle.fs_model.specs.declared.inode.Inode.{Inode}
use Rattle.fs_model.specs.declared.inode.Kind.TheVariants.{File, Dir}
use Rattle.fs_model.specs.declared.op.Op.{Op}
use Rattle.fs_model.specs.declared.op.Op.TheVariants.{Create, Mkdir, Symlink, Link, Unlink, Rmdir, Rename, OpenFile, Close, Read, Write, Truncate, Fsync, Flush, List as ListDir, Stat, Readlink, Chmod}
use Rattle.fs_model.specs.declared.refusal.Refusal.TheVariants.{Enoent, Eexist, Enotdir, Eisdir, Enotempty, Efbig, Enametoolong, Einval, Enfile, Ebadf}
use Rattle.fs_model.specs.declared.refusal.Table.TheVariants.{Orphans}
use Rattle.fs_model.specs.declared.reply.Reply.{Reply}
use Rattle.fs_model.specs.declared.reply.Reply.TheVariants.{Done, Ino, Count, Bytes, List as Listed, Stat as Told, Target, Refused}
use Rattle.fs_model.specs.Directory.{dir_links, dir_size}
use Rattle.fs_model.specs.Files.{Tree, Files}
use Rattle.fs_model.specs.Making.{new_dir, new_file}
use Rattle.fs_model.specs.Operation.{outcome_of, reply_in, files_in}
use Rattle.fs_model.specs.Orphan.{within_orphans, leaves_orphan}
use Rattle.fs_model.specs.Path.{is_dir}
use Rattle.fs_model.specs.Recovery.{Head}

-- a fresh volume's files: the root alone
abbrev pub fresh : Files
fresh = record { tree = record { inodes = (1, new_dir 493 0) ∷ []; blocks = []; entries = []; highest = 64 }; handles = [] }

-- the answers to caller 1 at moment 0, one after another
abbrev pub replies_of : Files → List Op → List Reply
replies_of files [] = []
replies_of files (op ∷ ops) = let outcome = outcome_of files 1 0 op in reply_in outcome ∷ replies_of (files_in files outcome) ops

-- the files then
abbrev pub files_after : Files → List Op → Files
files_after files [] = files
files_after files (op ∷ ops) = files_after (files_in files (outcome_of files 1 0 op)) ops

-- the answers where so many more orphans can be told of: each that comes takes one place
abbrev pub replies_within : ℕ → ℕ → Files → List Op → List Reply
replies_within room limit files [] = []
replies_within room limit files (op ∷ ops) =
    let outcome = within_orphans room limit files (outcome_of files 1 0 op) in
    let after = files_in files outcome in
    reply_in outcome ∷ replies_within (room - (if leaves_orphan files after then 1 else 0)) limit after ops

abbrev pub in_root : List ℕ → ℕ → Entry
in_root name ino = record { dir = 1; name = name; ino = ino; kind = File }

-- both names have the hash 207768
abbrev pub one_hash : List Op
one_hash = Create (codes "/am") 420 ∷ Create (codes "/bb") 420 ∷ ListDir (codes "/") ∷ Stat (codes "/") ∷ Unlink (codes "/am") ∷ ListDir (codes "/") ∷ []

abbrev pub one_hash_replies : List Reply
one_hash_replies =
    Ino 65 ∷ Ino 66 ∷ Listed (in_root (codes "am") 65 ∷ in_root (codes "bb") 66 ∷ []) ∷ Told Dir 1 493 2 288 0
    ∷ Done ∷ Listed (in_root (codes "bb") 66 ∷ []) ∷ []

-- a name of 255 letters and one of 256
abbrev pub long_names : List Op
long_names = Create (47 ∷ replicate 255 97) 420 ∷ Create (47 ∷ replicate 256 97) 420 ∷ []

abbrev pub long_names_replies : List Reply
long_names_replies = Ino 65 ∷ Refused Enametoolong ∷ []

-- each refusal of names
abbrev pub refusals : List Op
refusals =
    Mkdir (codes "/d") 493 ∷ Create (codes "/d/x") 420 ∷ Rmdir (codes "/d") ∷ Unlink (codes "/d") ∷ Rmdir (codes "/d/x")
    ∷ Mkdir (codes "/d") 493 ∷ Stat (codes "/q") ∷ Read 3 0 1 ∷ Rename (codes "/d") (codes "/d/y") ∷ Rename (codes "/") (codes "/q") ∷ []

abbrev pub refusals_replies : List Reply
refusals_replies =
    Ino 65 ∷ Ino 66 ∷ Refused Enotempty ∷ Refused Eisdir ∷ Refused Enotdir
    ∷ Refused Eexist ∷ Refused Enoent ∷ Refused Ebadf ∷ Refused Einval ∷ Refused Einval ∷ []

-- a file that is renamed over while it is open keeps its bytes until it is closed
abbrev pub over_open : List Op
over_open =
    Create (codes "/a") 420 ∷ Create (codes "/b") 420 ∷ OpenFile (codes "/b") 0 ∷ Write 0 0 3 120
    ∷ Rename (codes "/a") (codes "/b") ∷ Read 0 0 3 ∷ Stat (codes "/b") ∷ Close 0 ∷ []

abbrev pub over_open_replies : List Reply
over_open_replies = Ino 65 ∷ Ino 66 ∷ Ino 66 ∷ Count 3 ∷ Done ∷ Bytes (120 ∷ 120 ∷ 120 ∷ []) ∷ Told File 65 420 1 0 0 ∷ Done ∷ []

abbrev pub new_open : List Op
new_open = Create (codes "/f") 420 ∷ OpenFile (codes "/f") 0 ∷ []

-- sizes at the limit and past it
abbrev pub limits : List Op
limits = new_open ++ (Truncate 0 2199023255552 ∷ Truncate 0 2199023255553 ∷ Write 0 2199023255551 2 97 ∷ [])

abbrev pub limits_replies : List Reply
limits_replies = Ino 65 ∷ Ino 65 ∷ Done ∷ Refused Efbig ∷ Refused Efbig ∷ []

-- bytes on both sides of a page's end
abbrev pub over_a_page : List Op
over_a_page = new_open ++ (Write 0 4095 1 97 ∷ Write 0 4095 2 98 ∷ Read 0 4090 910 ∷ [])

abbrev pub over_a_page_replies : List Reply
over_a_page_replies = Ino 65 ∷ Ino 65 ∷ Count 1 ∷ Count 2 ∷ Bytes (0 ∷ 0 ∷ 0 ∷ 0 ∷ 0 ∷ 98 ∷ 98 ∷ []) ∷ []

-- a hole is read as zeros, and past the end there is nothing
abbrev pub holes : List Op
holes = new_open ++ (Write 0 8192 1 97 ∷ Read 0 8190 9000 ∷ Read 0 8192 10 ∷ Read 0 8193 10 ∷ [])

abbrev pub holes_replies : List Reply
holes_replies = Ino 65 ∷ Ino 65 ∷ Count 1 ∷ Bytes (0 ∷ 0 ∷ 97 ∷ []) ∷ Bytes (97 ∷ []) ∷ Bytes [] ∷ []

-- three files that lose their names while they are open, where two orphans can be told of
abbrev pub three_orphans : List Op
three_orphans =
    Create (codes "/a") 420 ∷ Create (codes "/b") 420 ∷ Create (codes "/c") 420 ∷ OpenFile (codes "/a") 0 ∷ OpenFile (codes "/b") 1
    ∷ OpenFile (codes "/c") 2 ∷ Unlink (codes "/a") ∷ Unlink (codes "/b") ∷ Unlink (codes "/c") ∷ []

abbrev pub three_orphans_replies : List Reply
three_orphans_replies = Ino 65 ∷ Ino 66 ∷ Ino 67 ∷ Ino 65 ∷ Ino 66 ∷ Ino 67 ∷ Done ∷ Done ∷ Refused (Enfile Orphans 2) ∷ []

-- a file that has 65,000 links
abbrev pub many_links : Files
many_links = record { tree = record { inodes = (1, new_dir 493 0) ∷ (65, record (new_file 420 0) { nlink = 65000 }) ∷ []; blocks = []; entries = ((1, codes "f"), in_root (codes "f") 65) ∷ []; highest = 65 }; handles = [] }

-- links, targets and modes; and directories that move
abbrev pub changes_of_names : List Op
changes_of_names =
    Mkdir (codes "/d") 493 ∷ Mkdir (codes "/e") 448 ∷ Create (codes "/d/x") 420 ∷ Link (codes "/d/x") (codes "/y") ∷ Stat (codes "/y")
    ∷ Unlink (codes "/d/x") ∷ Stat (codes "/y") ∷ Symlink (codes "/s") (codes "d/x") ∷ Readlink (codes "/s") ∷ Stat (codes "/s/x")
    ∷ Chmod (codes "/y") 384 ∷ Stat (codes "/y") ∷ Rename (codes "/d") (codes "/e/d") ∷ Stat (codes "/") ∷ Stat (codes "/e")
    ∷ Rename (codes "/y") (codes "/e/d") ∷ Rename (codes "/e/d") (codes "/y") ∷ Rename (codes "/y") (codes "/y") ∷ []

abbrev pub changes_of_names_replies : List Reply
changes_of_names_replies =
    Ino 65 ∷ Ino 66 ∷ Ino 67 ∷ Done ∷ Told File 67 420 2 0 0
    ∷ Done ∷ Told File 67 420 1 0 0 ∷ Ino 68 ∷ Target (codes "d/x") ∷ Refused Enotdir
    ∷ Done ∷ Told File 67 384 1 0 0 ∷ Done ∷ Told Dir 1 493 3 352 0 ∷ Told Dir 66 448 3 224 0
    ∷ Refused Eisdir ∷ Refused Enotdir ∷ Done ∷ []

-- a smaller size cuts bytes off, which are zeros where the file grows again
abbrev pub cuts : List Op
cuts = new_open ++ (Write 0 0 5 97 ∷ Truncate 0 2 ∷ Truncate 0 4 ∷ Read 0 0 9 ∷ Fsync 0 ∷ Flush ∷ [])

abbrev pub cuts_replies : List Reply
cuts_replies = Ino 65 ∷ Ino 65 ∷ Count 5 ∷ Done ∷ Done ∷ Bytes (97 ∷ 97 ∷ 0 ∷ 0 ∷ []) ∷ Done ∷ Done ∷ []

-- whether each directory's inode says the links and the size that are reckoned
abbrev pub says_reckoned : Tree → Bool
says_reckoned tree = list_all (λ e. not (is_dir e.1.kind) || ((e.1.nlink == dir_links tree e.0) && (e.1.size == dir_size tree e.0))) tree.inodes

-- directories and files that move, within a directory and to another, to a free name and over one; and what goes
abbrev pub moves : List Op
moves =
    Mkdir (codes "/d") 493 ∷ Mkdir (codes "/e") 493 ∷ Mkdir (codes "/d/sub") 493 ∷ Create (codes "/d/f") 420 ∷ Create (codes "/e/f") 420
    ∷ Rename (codes "/d/sub") (codes "/e/subordinate") ∷ Rename (codes "/d/f") (codes "/d/file.of.old") ∷ Rename (codes "/d/file.of.old") (codes "/e/f")
    ∷ Mkdir (codes "/d/g") 493 ∷ Mkdir (codes "/d/h") 493 ∷ Rename (codes "/d/g") (codes "/d/h") ∷ Rename (codes "/d/h") (codes "/e/subordinate")
    ∷ Mkdir (codes "/i") 493 ∷ Rmdir (codes "/i") ∷ Unlink (codes "/e/f") ∷ []

abbrev pub moves_replies : List Reply
moves_replies =
    Ino 65 ∷ Ino 66 ∷ Ino 67 ∷ Ino 68 ∷ Ino 69
    ∷ Done ∷ Done ∷ Done
    ∷ Ino 70 ∷ Ino 71 ∷ Done ∷ Done
    ∷ Ino 72 ∷ Done ∷ Done ∷ []

-- the root where it has a file `f`: the bytes of the inode's node, and of the entry's
abbrev pub root_of_one : Inode
root_of_one = record (new_dir 493 0) { size = 224 }

-- the group of a new file
abbrev pub new_file_group : List Change
new_file_group = SetEntry (in_root (codes "f") 65) ∷ SetInode 65 (new_file 420 0) ∷ SetInode 1 root_of_one ∷ []

-- what the heads have of a file that was made, got a byte, and lost its name while it was open; nothing is synced
abbrev pub one_file_heads : List Head
one_file_heads =
    record { groups = []; synced = 0 }
    ∷ record {
      groups =
          ((10, SetEntry (in_root (codes "f") 65)) ∷ (11, SetInode 65 (new_file 420 0)) ∷ (12, SetInode 1 root_of_one) ∷ [])
          ∷ ((14, DropEntry 1 (codes "f")) ∷ (15, SetInode 65 (record (new_file 420 0) { nlink = 0 })) ∷ (16, SetInode 1 (new_dir 493 0)) ∷ [])
          ∷ [];
      synced = 0;
    }
    ∷ record { groups = ((13, SetBlock 65 0 (97 ∷ [])) ∷ []) ∷ []; synced = 0 }
    ∷ []

-- a fresh tree in which number 65 was used
abbrev pub once_used : Tree
once_used = record { inodes = (1, new_dir 493 0) ∷ []; blocks = []; entries = []; highest = 65 }

-- a tree with that file, and these blocks
abbrev pub with_one_file : List ((ℕ × ℕ) × List ℕ) → Tree
with_one_file blocks = record { inodes = (1, root_of_one) ∷ (65, new_file 420 0) ∷ []; blocks = blocks; entries = ((1, codes "f"), in_root (codes "f") 65) ∷ []; highest = 65 }
