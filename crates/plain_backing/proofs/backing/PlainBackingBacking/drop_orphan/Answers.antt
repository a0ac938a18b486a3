use Rattle.std.proofs.Common.{ap, ◌∙◌}
use Rattle.ubifs_base.specs.RawOf.{raw_of}
use Rattle.plain_backing.specs.declared.numbers.Numbers.{Numbers}
use Rattle.plain_backing.proofs.PlainGoing.{sure_after}
use Rattle.plain_backing.proofs.Promises.{drop_covers}
use Rattle.plain_backing.proofs.Told.{drop_told}
use Rattle.plain_backing.proofs.backing.PlainBackingBacking.drop_orphan.Goals as goal

pub invariant_of-self-2-clause-told : goal.invariant_of-self-2-clause-told
invariant_of-self-2-clause-told c =
    let self = c.args.self.now in
    drop_told self.tree c.drop_inode.new.self self.story.value c.args.ino c.drop_inode.ensures.dropped self.told c.requires

pub returns-clause-sure : goal.returns-clause-sure
returns-clause-sure c =
    let self = c.args.self.now in
    let geo = raw_of self.geo in
    let mid = c.count_call.new.numbers in
    let new = c.count_closed.new.numbers in
    let counts = c.in_ok-count_call.ensures.ok.0 in
    sure_after _ geo self.tree c.drop_inode.new.self self.story.value self.story.value self.numbers new _ c.in_ok-count_call.ensures.ok.1
    (ap (λ (n : Numbers). n.strike) c.count_closed.ensures ∙ ap (λ (n : Numbers). n.strike) counts) (ap (λ (n : Numbers). n.faults) c.count_closed.ensures ∙ ap (λ (n : Numbers). n.faults) counts)
    (drop_covers _ geo self.tree c.drop_inode.new.self c.args.ino self.story.value self.story.value self.numbers mid new c.drop_inode.ensures.dropped c.count_closed.ensures counts c.requires
    c.a_dropped_inode_keeps_trees_proper.ensures (λ before later need. c.what_takes_no_more_keeps_what_was_granted.ensures.room geo before later need))
