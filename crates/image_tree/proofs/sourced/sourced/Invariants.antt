use Rattle.std.proofs.Common.{◌≡◌, ◌++◌, drop, map}
use Rattle.image_tree.specs.Sources.{sourced_of}
use Rattle.image_tree.proofs.sourced.sourced.Given as goal

abbrev pub invariant-loop-leaf : goal.invariant-loop-leaf
invariant-loop-leaf l = l.all.items ++ map sourced_of (drop l.leaf-index l.kept) ≡ map sourced_of l.kept
