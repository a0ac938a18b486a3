use Rattle.std.proofs.Common.{◌≡◌, ◌++◌, length}
use Rattle.manifest_tree.specs.CopiedFiles.{copied_files, copied_from}
use Rattle.manifest_tree.proofs.copied.copied_files.Given as goal

-- what was copied so far, and what is left, are all
abbrev pub invariant-copying : goal.invariant-copying
invariant-copying l = l.copied.items ++ copied_from l.ino l.left ≡ copied_files l.lines

abbrev pub decreases-copying : goal.decreases-copying
decreases-copying l = length l.left
