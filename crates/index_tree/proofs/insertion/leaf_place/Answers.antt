use Rattle.index_tree.proofs.Bisection.{leaves_place}
use Rattle.index_tree.proofs.insertion.leaf_place.Goals as goal

pub loop-i-init : goal.loop-i-init
loop-i-init c = record {
  place = leaves_place c.args.at c.leaves_passed-i.result c.args.leaves.now c.requires.ordered c.leaves_passed-i.ensures.starts;
  bound = c.leaves_passed-i.ensures.bound;
}
