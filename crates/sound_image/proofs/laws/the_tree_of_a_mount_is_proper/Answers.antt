use Rattle.sound_image.proofs.ProperImage.{proper_tree}
use Rattle.sound_image.proofs.laws.the_tree_of_a_mount_is_proper.Goals as goal

pub returns : goal.returns
returns c = proper_tree c.nodes_have_places.ensures.places c.a_stored_index_is_an_index.ensures.index (record {
  after = c.a_change_of_leaves_is_one_of_the_tree.ensures.kept_read;
  without = c.indexes_follow.ensures.left;
  sorted = c.the_last_change_wins.ensures.sorted;
  elsewhere = c.a_copy_changes_no_tree.ensures.moved;
})
