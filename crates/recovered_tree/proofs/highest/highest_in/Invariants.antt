use Rattle.std.proofs.Common.{◌≡◌, drop, max}
use Rattle.std.specs.Prelude.{fold}
use Rattle.ubifs_base.specs.Key.{key_words}
use Rattle.index_tree.specs.declared.leaf.Leaf.{Leaf}
use Rattle.recovered_tree.proofs.highest.highest_in.Given as goal

abbrev pub invariant-loop-leaf : goal.invariant-loop-leaf
invariant-loop-leaf l = fold (λ n (leaf : Leaf). max n (key_words leaf.key).0) l.highest (drop l.leaf-index l.leaves) ≡ fold (λ n (leaf : Leaf). max n (key_words leaf.key).0) l.first l.leaves
