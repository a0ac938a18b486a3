use Rattle.std.proofs.Common.{◌≡◌, length}
use Rattle.fs_model.specs.Proper.{IsProper}
use Rattle.manifest_tree.specs.CopiedFiles.{with_files}
use Rattle.manifest_tree.proofs.file_bytes.fill_copied.Given as goal

-- the files that are left make of the tree so far what all make
abbrev pub invariant-filling : goal.invariant-filling
invariant-filling l = record {
  filled : with_files l.left l.unused l.tree ≡ with_files l.copied l.files l.fn.tree;
  proper : IsProper l.tree;
}

abbrev pub decreases-filling : goal.decreases-filling
decreases-filling l = length l.left
