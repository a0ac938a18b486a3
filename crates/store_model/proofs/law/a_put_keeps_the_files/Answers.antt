use Rattle.store_model.specs.Events.{after_part}
use Rattle.std.specs.Prelude.{fold}
use Rattle.store_model.proofs.PutNumbers.{paid_numbers, parts_numbers}
use Rattle.store_model.proofs.Puts.{parts_show, paid_shows}
use Rattle.store_model.proofs.Views.{put_views}
use Rattle.store_model.proofs.law.a_put_keeps_the_files.Goals as goal

pub returns-clause-files : goal.returns-clause-files
returns-clause-files c = λ m p can has.
    let law = c.a_change_of_leaves_is_one_of_the_tree.ensures in
    let shows = paid_shows p.payment (fold after_part m p.parts) (parts_show law.tree law.kept p.parts m can.parts (record { leaves = has.leaves; tree_is = has.tree })) in
    record { leaves = shows.leaves; tree = shows.tree_is; index = can.index.contents_are }

pub returns-clause-numbers : goal.returns-clause-numbers
returns-clause-numbers c = λ m p can has. paid_numbers p (fold after_part m p.parts) (parts_numbers p.parts m can.parts has)

pub returns-clause-views : goal.returns-clause-views
returns-clause-views c = λ m p can has. put_views p m can.parts has
