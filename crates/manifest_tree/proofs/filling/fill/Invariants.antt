use Rattle.std.proofs.Common.{◌≡◌, ◌-◌}
use Rattle.std.specs.Prelude.{fold}
use Rattle.std.specs.List.{range_with_len}
use Rattle.fs_model.specs.Proper.{IsProper}
use Rattle.manifest_tree.specs.ManifestTree.{with_copies, with_copies_page}
use Rattle.manifest_tree.proofs.filling.fill.Given as goal

-- the pages that are left make of the tree so far what all pages make
abbrev pub invariant-loop-page : goal.invariant-loop-page
invariant-loop-page l = record {
  filled : fold (with_copies_page l.ino l.mode l.len l.byte) l.tree (range_with_len l.page (l.pages - l.page)) ≡ with_copies l.ino l.mode l.len l.byte l.fn.tree;
  proper : IsProper l.tree;
}
