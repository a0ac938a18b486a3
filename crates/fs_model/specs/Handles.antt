-- Open files: open(2), close(2), pread(2), pwrite(2) and fsync(2).
use Rattle.std.specs.Prelude.{ℕ, Bool, ◌+◌, ◌-◌, ◌^◌, ◌||◌, ◌==◌, not, nat_lt, is_some, if◌then◌else◌, max, min, Ok, List}
use Rattle.std.specs.Ordering.{nat_cmp}
use Rattle.std.specs.BTreeMap.{insert_entry, is_at}
use Rattle.std.specs.Map.{remove_entry}
use Rattle.fs_model.specs.declared.inode.Inode.{Inode}
use Rattle.fs_model.specs.declared.refusal.Refusal.TheVariants.{Eisdir, Efbig, Enametoolong, Einval, Ebadf}
use Rattle.fs_model.specs.declared.reply.Reply.TheVariants.{Done, Ino, Count, Bytes}
use Rattle.fs_model.specs.Files.{Tree, Files, handle_at, pair_cmp, size_of, bytes_from, blocks_written}
use Rattle.fs_model.specs.Making.{touched}
use Rattle.fs_model.specs.Orphan.{without_lost}
use Rattle.fs_model.specs.Outcome.{Outcome, refuse, with_found, with_open, with_inode}
use Rattle.fs_model.specs.Path.{is_path, has_long_name, walked, is_dir, is_file}

-- the greatest size of a file
abbrev pub size_limit : ℕ
size_limit = 2 ^ 41

-- a caller has 16 slots
abbrev pub is_bad_slot : ℕ → Bool
is_bad_slot slot = nat_lt 15 slot

-- opens a regular file in a free slot
abbrev pub opened : Files → ℕ → List ℕ → ℕ → Outcome
opened files caller path slot =
    refuse (is_bad_slot slot || not (is_path path)) Einval
    (refuse (has_long_name path) Enametoolong
    (refuse (is_some (handle_at files caller slot)) Ebadf
    (with_found (walked files.tree path) (λ entry.
    refuse (is_dir entry.kind) Eisdir
    (refuse (not (is_file entry.kind)) Einval
    (Ok (Ino entry.ino, record files { handles = insert_entry pair_cmp files.handles (caller, slot) entry.ino })))))))

-- closes a slot; an inode without a name goes with its last handle
abbrev pub closed : Files → ℕ → ℕ → Outcome
closed files caller slot =
    refuse (is_bad_slot slot) Einval
    (with_open (handle_at files caller slot) (λ ino.
    Ok (Done, without_lost (record files { handles = remove_entry (is_at (pair_cmp (caller, slot))) files.handles }) ino)))

-- reads the bytes that there are, up to the file's end
abbrev pub bytes_read : Files → ℕ → ℕ → ℕ → ℕ → Outcome
bytes_read files caller slot offs len =
    refuse (is_bad_slot slot || nat_lt 65536 len) Einval
    (with_open (handle_at files caller slot) (λ ino.
    with_inode files ino (λ inode.
    Ok (Bytes (bytes_from files.tree.blocks ino offs (min len (size_of files.tree ino inode - offs))), files))))

-- the tree once n copies of a byte stand from a place of a file on
abbrev pub tree_written : Tree → ℕ → Inode → ℕ → ℕ → ℕ → ℕ → Tree
tree_written tree ino inode now offs n byte =
    record tree {
      inodes = insert_entry nat_cmp tree.inodes ino (touched now (record inode { size = max (size_of tree ino inode) (offs + n) }));
      blocks = blocks_written tree.blocks ino offs n byte;
    }

-- writes copies of a byte; none of them changes nothing
abbrev pub bytes_written : Files → ℕ → ℕ → ℕ → ℕ → ℕ → ℕ → Outcome
bytes_written files caller now slot offs len byte =
    refuse (is_bad_slot slot || nat_lt 65536 len) Einval
    (with_open (handle_at files caller slot) (λ ino.
    with_inode files ino (λ inode.
    refuse (nat_lt size_limit (offs + len)) Efbig
    (Ok (Count len, if len == 0 then files else record files { tree = tree_written files.tree ino inode now offs len byte })))))

-- a file that is open is synced; what callers see stays
abbrev pub synced : Files → ℕ → ℕ → Outcome
synced files caller slot = refuse (is_bad_slot slot) Einval (with_open (handle_at files caller slot) (λ ino. Ok (Done, files)))
