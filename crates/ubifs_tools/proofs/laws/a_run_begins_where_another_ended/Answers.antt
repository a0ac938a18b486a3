use Rattle.ubifs_tools.proofs.Sequel.{done_only, done_volume, left_same, next_begins}
use Rattle.ubifs_tools.proofs.laws.a_run_begins_where_another_ended.Goals as goal

pub returns-clause-volume : goal.returns-clause-volume
returns-clause-volume c = done_volume c.the_bytes_of_a_volume_hold_what_it_holds.ensures.files c.bytes_hold_one_tree.ensures.magic

pub returns-clause-only : goal.returns-clause-only
returns-clause-only c = done_only c.the_bytes_of_a_volume_hold_what_it_holds.ensures.files c.the_bytes_of_a_volume_hold_what_it_holds.ensures.bytes c.bytes_hold_one_tree.ensures.magic c.bytes_hold_one_tree.ensures.one

pub returns-clause-next : goal.returns-clause-next
returns-clause-next c = next_begins c.the_bytes_of_a_volume_hold_what_it_holds.ensures.files c.the_bytes_of_a_volume_hold_what_it_holds.ensures.bytes c.bytes_hold_one_tree.ensures.magic c.bytes_hold_one_tree.ensures.one

pub returns-clause-same : goal.returns-clause-same
returns-clause-same c = λ run handles. left_same c.a_stored_tree_is_the_same.ensures run.tree handles
