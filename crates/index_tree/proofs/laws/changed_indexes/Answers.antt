use Rattle.index_tree.proofs.IndexLaws.{with_leaf-index, without_leaf-index, without_range-index, replaced-index, one_shape}
use Rattle.index_tree.proofs.laws.changed_indexes.Goals as goal

pub returns : goal.returns
returns c = record {
  inserted = with_leaf-index;
  removed = without_leaf-index;
  range_removed = without_range-index;
  replaced = replaced-index;
  told = one_shape;
}
