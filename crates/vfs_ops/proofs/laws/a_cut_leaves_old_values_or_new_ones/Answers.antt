use Rattle.std.proofs.Common.{subst}
use Rattle.buffered_files.specs.Cuts.{GroupFate, PutsSeenWith, group_fate}
use Rattle.vfs_ops.specs.FilesState.{present_in}
use Rattle.vfs_ops.specs.Events.{outcome_fate, group_in}
use Rattle.vfs_ops.proofs.Cutting.{has_among, step_cut}
use Rattle.vfs_ops.proofs.Shortened.{event_values}
use Rattle.vfs_ops.proofs.laws.a_cut_leaves_old_values_or_new_ones.Goals as goal

pub returns-clause-event : goal.returns-clause-event
returns-clause-event c old new event outcome left sound told step may =
    let put = step_cut old new event outcome step in
    let values = c.a_cut_leaves_what_was_put.ensures.all old.backing.journal new.backing.journal old.backing.tree left (present_in old).tree (group_in put.seen event) (outcome_fate outcome) told put.cut may in
    has_among old.backing.journal left (event_values (present_in old) put.seen event put.alike sound) values

pub returns-clause-group : goal.returns-clause-group
returns-clause-group c old new group need result left told applied may =
    c.a_cut_leaves_what_was_put.ensures.all old.backing.journal new.backing.journal old.backing.tree left (present_in old).tree group (group_fate result) told applied.cut may

pub returns-clause-refused : goal.returns-clause-refused
returns-clause-refused c old new event outcome left told step not_put may =
    let put = step_cut old new event outcome step in
    let group = group_in put.seen event in
    let none = subst (λ (fate : GroupFate). PutsSeenWith old.backing new.backing old.kept group fate) not_put put.cut in
    c.a_cut_leaves_what_was_put.ensures.not_put old.backing.journal new.backing.journal old.backing.tree left (present_in old).tree group told none may

pub returns-clause-not_applied : goal.returns-clause-not_applied
returns-clause-not_applied c old new group need result left told applied not_put may =
    let put = subst (λ (fate : GroupFate). PutsSeenWith old.backing new.backing old.kept group fate) not_put applied.cut in
    c.a_cut_leaves_what_was_put.ensures.not_put old.backing.journal new.backing.journal old.backing.tree left (present_in old).tree group told put may
