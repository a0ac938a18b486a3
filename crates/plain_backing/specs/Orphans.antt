-- How inodes without a name are counted.
use Rattle.std.specs.Prelude.{ℕ, ◌==◌, if◌then◌else◌}
use Rattle.fs_model.specs.declared.inode.Inode.{Inode}

-- one for an inode without a name
abbrev pub orphans_in : Inode → ℕ
orphans_in inode = if inode.nlink == 0 then 1 else 0
