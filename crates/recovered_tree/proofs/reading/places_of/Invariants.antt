use Rattle.std.proofs.Common.{◌≡◌, ◌++◌, drop, map}
use Rattle.recovered_tree.proofs.reading.places_of.Given as goal

abbrev pub invariant-loop-leaf : goal.invariant-loop-leaf
invariant-loop-leaf l = l.places.items ++ map (λ x. x.leaf) (drop l.leaf-index l.kept) ≡ map (λ x. x.leaf) l.kept
