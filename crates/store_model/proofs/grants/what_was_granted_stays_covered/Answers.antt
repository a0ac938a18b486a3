use Rattle.std.proofs.Common.{refl}
use Rattle.store_model.proofs.GrantCounts.{drop_covered, free_covered, open_covered, put_covered, start_covered, sync_covered}
use Rattle.store_model.proofs.grants.what_was_granted_stays_covered.Goals as goal

pub returns-clause-put : goal.returns-clause-put
returns-clause-put c = λ m p can has.
    let law = c.what_was_admitted_can_be_put.ensures in
    let spends = c.a_put_spends_what_was_granted.ensures in
    put_covered law.page law.group m p can.paid (λ e. spends.page m p can has e) (λ grant e is. spends.group m p grant can has e is)

pub returns-clause-opened : goal.returns-clause-opened
returns-clause-opened c = λ m head lnum can a. open_covered c.what_takes_no_more_keeps_what_was_granted.ensures.room m head lnum can.empty a

pub returns-clause-synced : goal.returns-clause-synced
returns-clause-synced c = sync_covered c.what_takes_no_more_keeps_what_was_granted.ensures.room

pub returns-clause-dropped : goal.returns-clause-dropped
returns-clause-dropped c = λ m ino index can has. drop_covered c.what_takes_no_more_keeps_what_was_granted.ensures.room m ino index (c.bytes_follow_the_leaves.ensures.dropped m ino index can has)

pub returns-clause-freed : goal.returns-clause-freed
returns-clause-freed c = λ m can a. free_covered c.what_takes_no_more_keeps_what_was_granted.ensures.room m m.moving refl a

pub returns-clause-started : goal.returns-clause-started
returns-clause-started c = λ m taken can a. start_covered c.what_takes_no_more_keeps_what_was_granted.ensures.room m taken can a
