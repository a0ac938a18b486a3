use Rattle.std.proofs.Common.{◌≡◌, ◌-◌}
use Rattle.std.specs.Prelude.{fold}
use Rattle.std.specs.List.{range_with_len}
use Rattle.fs_model.specs.Proper.{IsProper}
use Rattle.manifest_tree.specs.CopiedFiles.{with_bytes, with_bytes_page}
use Rattle.manifest_tree.proofs.file_bytes.fill_bytes.Given as goal

-- the pages that are left make of the tree so far what all pages make
abbrev pub invariant-loop-page : goal.invariant-loop-page
invariant-loop-page l = record {
  filled : fold (with_bytes_page l.ino l.bytes) l.tree (range_with_len l.page (l.pages - l.page)) ≡ with_bytes l.ino l.bytes l.fn.tree;
  proper : IsProper l.tree;
}
