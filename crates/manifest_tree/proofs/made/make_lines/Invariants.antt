use Rattle.std.proofs.Common.{◌≡◌, ◌+◌, length}
use Rattle.std.specs.List.{AllByRecursion}
use Rattle.fs_model.specs.Proper.{IsProper}
use Rattle.script_text.specs.ManifestLines.{IsGivenLine}
use Rattle.manifest_tree.specs.ManifestTree.{lines_made, manifest_tree}
use Rattle.manifest_tree.proofs.made.make_lines.Given as goal

-- what is left makes of the tree so far what all lines make
abbrev pub invariant-making : goal.invariant-making
invariant-making l = record {
  made : lines_made l.number l.tree l.left ≡ manifest_tree l.lines;
  given : AllByRecursion IsGivenLine l.left;
  proper : IsProper l.tree;
  count : l.number + length l.left ≡ 2 + length l.lines;
}

abbrev pub decreases-making : goal.decreases-making
decreases-making l = length l.left
