-- Setting a file's size: ftruncate(2).
use Rattle.std.specs.Prelude.{ℕ, ◌/◌, ◌%◌, ◌==◌, ◌&&◌, not, nat_lt, if◌then◌else◌, Ok, List, [], ◌∷◌, length, take}
use Rattle.fs_model.specs.declared.change.Change.{Change}
use Rattle.fs_model.specs.declared.change.Change.TheVariants.{SetInode, SetBlock, CutBlocks}
use Rattle.fs_model.specs.declared.inode.Inode.{Inode}
use Rattle.fs_model.specs.declared.refusal.Refusal.TheVariants.{Efbig, Einval}
use Rattle.fs_model.specs.declared.reply.Reply.TheVariants.{Done}
use Rattle.fs_model.specs.Files.{Tree, Files, Blocks, block_at, handle_at, size_of}
use Rattle.fs_model.specs.Handles.{is_bad_slot, size_limit}
use Rattle.fs_model.specs.Making.{touched}
use Rattle.fs_model.specs.Outcome.{Plan, refuse, with_open, with_inode}

-- the block in which this size ends, where it is longer (`do_truncation` of Linux fs/ubifs)
abbrev pub shortening : Blocks → ℕ → ℕ → List Change
shortening blocks ino size =
    let bytes = block_at blocks ino (size / 4096) in
    if not (size % 4096 == 0) && nat_lt (size % 4096) (length bytes) then SetBlock ino (size / 4096) (take (size % 4096) bytes) ∷ [] else []

-- the blocks that a smaller size takes away
abbrev pub cutting : Tree → ℕ → Inode → ℕ → List Change
cutting tree ino inode size =
    let present = size_of tree ino inode in
    if nat_lt size present then CutBlocks ino present size ∷ shortening tree.blocks ino size else []

-- a file's size is set
abbrev pub truncating : Tree → ℕ → Inode → ℕ → ℕ → List Change
truncating tree ino inode size now = SetInode ino (touched now (record inode { size = size })) ∷ cutting tree ino inode size

-- sets the size of an open file
abbrev pub truncated : Files → ℕ → ℕ → ℕ → ℕ → Plan
truncated files caller now slot size =
    refuse (is_bad_slot slot) Einval
    (with_open (handle_at files caller slot) (λ ino.
    with_inode files ino (λ inode.
    refuse (nat_lt size_limit size) Efbig
    (Ok (Done, truncating files.tree ino inode size now)))))
