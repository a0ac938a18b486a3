use Rattle.std.proofs.Common.{◌≡◌, ℕ, ap, sym, subst, false, Some}
use Rattle.std.specs.Map.{lookup}
use Rattle.std.specs.BTreeMap.{is_at}
use Rattle.std.specs.Ordering.{nat_cmp}
use Rattle.fs_model.specs.declared.inode.Inode.{Inode}
use Rattle.fs_model.specs.Files.{Inodes, inode_at}
use Rattle.fs_laws.specs.Orders.{numbers}
use Rattle.buffered_files.specs.Present.{DirtyPages, covered, has_dirty}
use Rattle.buffered_files.proofs.Inserts.{set_same}
use Rattle.buffered_files.proofs.law.clean_files_are_those_of_the_backing.Goals as goal

pub returns : goal.returns
returns c tree kept is clean =
    let none : (ino : ℕ) → has_dirty kept.pages.dirty ino ≡ false = λ ino. ap (λ dirty. has_dirty dirty ino) clean in
    let there : (ino : ℕ) (inode : Inode) → lookup (is_at (nat_cmp ino)) kept.inodes ≡ Some inode → inode_at tree ino ≡ Some inode = λ ino inode found. is.settled ino inode found (none ino) in
    let same = set_same nat_cmp numbers kept.inodes tree.inodes is.proper.inodes_ascend is.ascends there in
    let P : DirtyPages → Type 0 = λ dirty. covered tree kept.inodes dirty ≡ tree in
    subst P (sym clean) (ap (λ (inodes : Inodes). record tree { inodes = inodes }) same)
