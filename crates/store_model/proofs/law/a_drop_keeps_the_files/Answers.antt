use Rattle.std.proofs.Common.{not, refl}
use Rattle.std.specs.Prelude.{nat_le}
use Rattle.fs_model.specs.declared.change.Change.TheVariants.{DropInode}
use Rattle.leaf_map.specs.After.{is_gone}
use Rattle.store_model.proofs.LebLeaves.{all_filter}
use Rattle.store_model.proofs.PutNumbers.{same_numbers}
use Rattle.store_model.specs.Events.{after, Drop}
use Rattle.store_model.proofs.Drops.{drop_shows}
use Rattle.store_model.proofs.Views.{same_views}
use Rattle.store_model.proofs.law.a_drop_keeps_the_files.Goals as goal

pub returns-clause-files : goal.returns-clause-files
returns-clause-files c = λ m ino index can has.
    let law = c.a_change_of_leaves_is_one_of_the_tree.ensures in
    let shows = drop_shows law.tree law.kept ino m.live m.tree can.number (record { leaves = has.leaves; tree_is = has.tree }) in
    record { leaves = shows.leaves; tree = shows.tree_is; index = can.index_is.contents_are }

pub returns-clause-numbers : goal.returns-clause-numbers
returns-clause-numbers c = λ m ino index can has. same_numbers m (after (Drop ino index) m) (all_filter (λ x. nat_le x.sqnum m.sqnum) (λ x. not (is_gone (DropInode ino) x)) m.live has.live) refl refl refl refl has

pub returns-clause-views : goal.returns-clause-views
returns-clause-views c = λ m ino index can has. same_views m (after (Drop ino index) m) refl refl has
