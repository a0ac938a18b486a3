use Rattle.ubifs_base.specs.RawOf.{raw_of}
use Rattle.plain_backing.proofs.Promises.{give_back_keeps}
use Rattle.plain_backing.proofs.backing.PlainBackingBacking.give_back.Goals as goal

pub returns-clause-sure : goal.returns-clause-sure
returns-clause-sure c =
    let self = c.args.self.now in
    give_back_keeps (raw_of self.geo) self.tree self.story.value self.numbers c.args.credits (λ less more asked asked_more. c.more_never_lowers_the_need.ensures.admitted (raw_of self.geo) less more asked asked_more)
