use Rattle.index_media.specs.InsertionSound.{inserted_grown, inserted_levelled, inserted_keys}
use Rattle.index_media.proofs.FirstKeys.{with_leaf_first}
use Rattle.index_media.proofs.InsertionWeight.{with_leaf_heavier}
use Rattle.index_media.proofs.law.an_insertion_keeps_what_nodes_are.Goals as goal

pub returns : goal.returns
returns c = record {
  children = λ fanout new row three h. (inserted_grown fanout new row three h).sound;
  levels = inserted_levelled;
  keys = inserted_keys;
  first_keys = with_leaf_first;
  one_heavier = with_leaf_heavier;
}
