-- What the group of an operation asks of admission: the bytes of its nodes, each rounded up to 8, their number, and the class of who asks.
use Rattle.std.specs.Prelude.{ℕ, ◌+◌, List, [], ◌∷◌, length, sum_by}
use Rattle.fs_model.specs.declared.change.Change.{Change}
use Rattle.fs_model.specs.declared.change.Change.TheVariants.{SetInode, SetEntry, DropEntry, SetBlock, CutBlocks, DropInode}
use Rattle.fs_model.specs.declared.op.Op.{Op}
use Rattle.fs_model.specs.declared.op.Op.TheVariants.{Unlink, Rmdir, Truncate}
use Rattle.fs_model.specs.declared.space.Need.{Need}
use Rattle.fs_model.specs.declared.space.Class.{Class}
use Rattle.fs_model.specs.declared.space.Class.TheVariants.{Ordinary, Removal}
use Rattle.std.specs.Option.{option_map_or}
use Rattle.fs_model.specs.Cover.{round_8, inode_bytes, block_bytes, entry_bytes}
use Rattle.fs_model.specs.Files.{Tree, Files, inode_at}
use Rattle.fs_model.specs.Operation.{group_of}

-- the bytes that a change's node takes at most (ubifs-media.h); an inode that goes still has its data
abbrev pub change_bytes : Tree → Change → ℕ
change_bytes tree (SetInode ino inode) = inode_bytes inode
change_bytes tree (SetEntry entry) = entry_bytes entry
change_bytes tree (DropEntry dir name) = round_8 (57 + length name)
change_bytes tree (SetBlock ino block bytes) = block_bytes bytes
change_bytes tree (CutBlocks ino old_size new_size) = 56
change_bytes tree (DropInode ino) = option_map_or inode_bytes (inode_at tree ino) 160

abbrev pub group_need : Tree → List Change → Class → Need
group_need tree group class = record { credits = 0; bytes = sum_by (change_bytes tree) group; nodes = length group; class = class }

-- a smaller size asks for an inode, a truncation and a whole block, a greater one for an inode
abbrev pub truncation_need : List Change → Need
truncation_need [] = record { credits = 0; bytes = 0; nodes = 0; class = Ordinary }
truncation_need (set ∷ []) = record { credits = 0; bytes = 160; nodes = 1; class = Ordinary }
truncation_need (set ∷ cut ∷ rest) = record { credits = 0; bytes = 160 + 56 + 4144; nodes = 3; class = Removal }

-- What an operation asks for where nothing refuses it. A write asks for a credit for each page that it makes dirty, which isn't reckoned here.
abbrev pub need_of : Files → ℕ → ℕ → Op → Need
need_of files caller now (Unlink path) = group_need files.tree (group_of files caller now (Unlink path)) Removal
need_of files caller now (Rmdir path) = group_need files.tree (group_of files caller now (Rmdir path)) Removal
need_of files caller now (Truncate slot size) = truncation_need (group_of files caller now (Truncate slot size))
need_of files caller now op = group_need files.tree (group_of files caller now op) Ordinary
