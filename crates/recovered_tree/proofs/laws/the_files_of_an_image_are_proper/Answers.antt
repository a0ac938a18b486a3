use Rattle.sound_image.specs.Summary.{tree_of_image}
use Rattle.recovered_tree.proofs.ProperFiles.{proper_files, whole_files}
use Rattle.recovered_tree.proofs.laws.the_files_of_an_image_are_proper.Goals as goal

pub returns-clause-proper : goal.returns-clause-proper
returns-clause-proper c contents image bytes sound = proper_files (tree_of_image image) (c.the_tree_of_a_mount_is_proper.ensures contents image bytes sound)

pub returns-clause-whole : goal.returns-clause-whole
returns-clause-whole c image h = whole_files (tree_of_image image) h
