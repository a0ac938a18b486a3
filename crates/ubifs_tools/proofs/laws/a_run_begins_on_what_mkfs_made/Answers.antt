use Rattle.ubifs_tools.proofs.Mounted.{made_writable, told_numbers}
use Rattle.ubifs_tools.proofs.Sequel.{told_only, told_volume}
use Rattle.ubifs_tools.specs.Making.{made_geometry}
use Rattle.ubifs_tools.proofs.laws.a_run_begins_on_what_mkfs_made.Goals as goal

pub returns-clause-volume : goal.returns-clause-volume
returns-clause-volume c = λ files other text told image made.
    told_volume c.the_bytes_of_a_volume_hold_what_it_holds.ensures.files c.bytes_hold_one_tree.ensures.magic other (made_geometry made.volume made.tree) made.tree told image made.made

pub returns-clause-only : goal.returns-clause-only
returns-clause-only c = λ files other geo tree text told image made volume.
    told_only c.the_bytes_of_a_volume_hold_what_it_holds.ensures.files c.the_bytes_of_a_volume_hold_what_it_holds.ensures.bytes c.bytes_hold_one_tree.ensures.magic c.bytes_hold_one_tree.ensures.one
    other (made_geometry made.volume made.tree) geo made.tree tree told image made.made volume

pub returns-clause-numbers : goal.returns-clause-numbers
returns-clause-numbers c = λ files geo tree space text told image made volume.
    let laws = c.the_bytes_of_a_volume_hold_what_it_holds.ensures in
    told_numbers laws.files laws.image laws.bytes c.bytes_hold_one_tree.ensures.space (made_geometry made.volume made.tree) geo made.tree tree space told image made.made volume

pub returns-clause-writable : goal.returns-clause-writable
returns-clause-writable c =
    let laws = c.the_bytes_of_a_volume_hold_what_it_holds.ensures in
    let one = c.bytes_hold_one_tree.ensures in
    let admitted = c.the_image_of_an_admitted_tree_may_be_written.ensures in
    made_writable laws.files laws.image laws.bytes one.one one.space admitted.settled admitted.stored
