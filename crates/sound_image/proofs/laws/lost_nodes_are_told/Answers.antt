use Rattle.sound_image.proofs.WorkedLeaves.{lost_leaf_row, unmarked_row}
use Rattle.sound_image.proofs.WorkedTrees.{erased_tree_row}
use Rattle.sound_image.proofs.WorkedEnds.{no_orphan_row, written_end_row}
use Rattle.sound_image.proofs.WorkedFiles.{root_file_row}
use Rattle.sound_image.proofs.WorkedBuds.{bud_row}
use Rattle.sound_image.proofs.WorkedLinks.{lone_file_row}
use Rattle.sound_image.proofs.laws.lost_nodes_are_told.Goals as goal

pub returns-clause-index : goal.returns-clause-index
returns-clause-index c = unmarked_row c.one_node.ensures

pub returns-clause-leaf : goal.returns-clause-leaf
returns-clause-leaf c = lost_leaf_row

pub returns-clause-properties : goal.returns-clause-properties
returns-clause-properties c = erased_tree_row

pub returns-clause-end : goal.returns-clause-end
returns-clause-end c = written_end_row

pub returns-clause-orphans : goal.returns-clause-orphans
returns-clause-orphans c = no_orphan_row c.one_text.ensures

pub returns-clause-tree : goal.returns-clause-tree
returns-clause-tree c = root_file_row

pub returns-clause-buds : goal.returns-clause-buds
returns-clause-buds c = bud_row c.one_text.ensures

pub returns-clause-links : goal.returns-clause-links
returns-clause-links c = lone_file_row
