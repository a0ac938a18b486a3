use Rattle.leaf_map.specs.Recovered.{recovered_of, tree_found}
use Rattle.sound_image.specs.Image.{parts_of}
use Rattle.sound_image.proofs.Hanging.{meets_all, meets_each, sound_entries, sound_inodes}
use Rattle.sound_image.proofs.laws.the_tree_of_a_sound_image_hangs_together.Goals as goal

pub returns-clause-rules : goal.returns-clause-rules
returns-clause-rules c = meets_each

pub returns-clause-all : goal.returns-clause-all
returns-clause-all c = meets_all

pub returns-clause-root : goal.returns-clause-root
returns-clause-root c contents image h = h.tree.root

pub returns-clause-entries : goal.returns-clause-entries
returns-clause-entries c contents image h = sound_entries (tree_found (parts_of image)) (recovered_of (parts_of image)).kept h.tree.entries

pub returns-clause-inodes : goal.returns-clause-inodes
returns-clause-inodes c contents image h = sound_inodes (tree_found (parts_of image)) (tree_found (parts_of image)).inodes h.tree.dirs h.links
