use Rattle.std.proofs.Common.{◌≡◌, true, [], map, take}
use Rattle.std.specs.Prelude.{All}
use Rattle.index_tree.specs.Listing.{listed_node}
use Rattle.index_tree.specs.Rebuild.{waiting_after}
use Rattle.index_tree.specs.Tree.{below, kept}
use Rattle.index_tree.proofs.rebuild.parts_of.Given as goal

abbrev pub invariant-loop-node : goal.invariant-loop-node
invariant-loop-node l = record { rows : map below l.parts ≡ waiting_after [] (map listed_node (take l.node-index l.nodes)); first_keys : All (λ part. kept part ≡ true) l.parts }
