use Rattle.std.proofs.Common.{◌≡◌}
use Rattle.std.specs.List.{list_all}
use Rattle.laid_tree.specs.Standing.{is_plain}
use Rattle.whole_image.proofs.tests_of_trees.are_plain.Given as goal

abbrev pub invariant-looking : goal.invariant-looking
invariant-looking l = list_all is_plain l.tree.inodes ≡ list_all is_plain l.rest
