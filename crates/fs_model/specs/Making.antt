-- Making files, directories and symbolic links: open(2) with O_CREAT and O_EXCL, mkdir(2) and symlink(2).
use Rattle.std.specs.Prelude.{ℕ, Bool, ◌+◌, ◌&&◌, ◌||◌, not, nat_lt, nat_le, is_some, Ok, List, [], ◌∷◌, length}
use Rattle.std.specs.Option.{option_map_or}
use Rattle.fs_model.specs.declared.change.Change.{Change}
use Rattle.fs_model.specs.declared.change.Change.TheVariants.{SetInode, SetEntry}
use Rattle.fs_model.specs.declared.inode.Inode.{Inode}
use Rattle.fs_model.specs.declared.inode.Entry.{Entry}
use Rattle.fs_model.specs.declared.inode.Kind.{Kind}
use Rattle.fs_model.specs.declared.inode.Kind.TheVariants.{File, Dir, Symlink}
use Rattle.fs_model.specs.declared.refusal.Refusal.TheVariants.{Eexist, Enametoolong, Einval, Emlink, Enfile}
use Rattle.fs_model.specs.declared.refusal.Table.TheVariants.{Inodes}
use Rattle.fs_model.specs.declared.reply.Reply.TheVariants.{Ino}
use Rattle.fs_model.specs.declared.share.Share.{Share}
use Rattle.fs_model.specs.Directory.{counted, dir_links, is_linked_out, no_share, share_of}
use Rattle.fs_model.specs.Files.{Tree, Files, inode_at, entry_at}
use Rattle.fs_model.specs.Outcome.{Plan, refuse, with_found}
use Rattle.fs_model.specs.Path.{is_path, has_long_name, is_empty, is_root, components, last_of, parent_of, is_dir}

-- the limit of inode numbers (`INUM_WATERMARK` of Linux fs/ubifs)
abbrev pub inode_limit : ℕ
inode_limit = 4294967040

-- a mode that has more than permission bits (chmod(2))
abbrev pub is_bad_mode : ℕ → Bool
is_bad_mode mode = nat_lt 4095 mode

-- a path of a name that can be made, taken away or moved: any but `/`
abbrev pub is_name_path : List ℕ → Bool
is_name_path path = is_path path && not (is_root path)

-- a target that no symbolic link can have (symlink(2): PATH_MAX with its zero byte is 4096)
abbrev pub is_bad_target : List ℕ → Bool
is_bad_target target = is_empty target || nat_lt 4095 (length target)

-- an inode without blocks, whose three times are this moment
abbrev pub new_inode : Kind → ℕ → ℕ → ℕ → List ℕ → ℕ → Inode
new_inode kind mode nlink size extra now = record { kind = kind; mode = mode; uid = 0; gid = 0; flags = 0; nlink = nlink; size = size; atime = now; ctime = now; mtime = now; extra = extra }

abbrev pub new_file : ℕ → ℕ → Inode
new_file mode now = new_inode File mode 1 0 [] now

abbrev pub new_dir : ℕ → ℕ → Inode
new_dir mode now = new_inode Dir mode 2 160 [] now

-- a symbolic link has all permissions, and the size of its target (symlink(7))
abbrev pub new_symlink : List ℕ → ℕ → Inode
new_symlink target now = new_inode Symlink 511 1 (length target) target now

-- an inode that was changed at this moment
abbrev pub touched : ℕ → Inode → Inode
touched now inode = record inode { ctime = now; mtime = now }

-- a directory changes at this moment, as an entry comes and another goes
abbrev pub touching : Tree → ℕ → ℕ → Share → Share → List Change
touching tree dir now came gone = option_map_or (λ inode. SetInode dir (touched now (counted came gone inode)) ∷ []) (inode_at tree dir) []

-- a new inode of the next number, under a name in a directory
abbrev pub making : Tree → ℕ → List ℕ → Inode → ℕ → List Change
making tree dir name inode now =
    let entry : Entry = record { dir = dir; name = name; ino = tree.highest + 1; kind = inode.kind } in
    SetEntry entry ∷ SetInode entry.ino inode ∷ touching tree dir now (share_of entry) no_share

-- makes this inode under a path, where nothing may be yet
abbrev pub made : Files → ℕ → List ℕ → Inode → Plan
made files now path inode =
    let name = last_of (components path) in
    refuse (has_long_name path) Enametoolong
    (with_found (parent_of files.tree path) (λ parent.
    refuse (is_some (entry_at files.tree parent.ino name)) Eexist
    (refuse (is_dir inode.kind && is_linked_out (dir_links files.tree parent.ino)) Emlink
    (refuse (nat_le inode_limit files.tree.highest) (Enfile Inodes inode_limit)
    (Ok (Ino (files.tree.highest + 1), making files.tree parent.ino name inode now))))))

-- makes a regular file
abbrev pub created : Files → ℕ → List ℕ → ℕ → Plan
created files now path mode = refuse (is_bad_mode mode || not (is_name_path path)) Einval (made files now path (new_file mode now))

-- makes a directory
abbrev pub dir_made : Files → ℕ → List ℕ → ℕ → Plan
dir_made files now path mode = refuse (is_bad_mode mode || not (is_name_path path)) Einval (made files now path (new_dir mode now))

-- makes a symbolic link
abbrev pub symlink_made : Files → ℕ → List ℕ → List ℕ → Plan
symlink_made files now path target = refuse (is_bad_target target || not (is_name_path path)) Einval (made files now path (new_symlink target now))
