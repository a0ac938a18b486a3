use Rattle.index_commit.proofs.Changes.{change_keeps, stored_outside}
use Rattle.index_commit.proofs.laws.changes_keep_what_stands.Goals as goal

pub returns-clause-loaded : goal.returns-clause-loaded
returns-clause-loaded c = λ contents lebs fanout root placed stored apart. stored_outside contents lebs stored.levels placed stored.stored apart

pub returns-clause-changed : goal.returns-clause-changed
returns-clause-changed c = λ fanout change contents lebs row g h. change_keeps c.a_range_removal_leaves_the_keys_of_branches.ensures.untouched fanout change contents lebs row g h
