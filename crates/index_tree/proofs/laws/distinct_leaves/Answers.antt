use Rattle.index_tree.proofs.DistinctLeaves.{none-distinct, placed-distinct, without-distinct, without-gone, outside-distinct, swapped-distinct}
use Rattle.index_tree.proofs.laws.distinct_leaves.Goals as goal

pub returns : goal.returns
returns c = record {
  none = none-distinct;
  inserted = placed-distinct;
  removed = without-distinct;
  gone = without-gone;
  range_removed = outside-distinct;
  replaced = swapped-distinct;
}
