use Rattle.std.proofs.Common.{ℕ}
use Rattle.ubifs_base.specs.RawOf.{raw_of}
use Rattle.plain_backing.proofs.PlainGoing.{sure_still}
use Rattle.plain_backing.proofs.backing.PlainBackingBacking.read_block.Goals as goal

pub returns-clause-sure : goal.returns-clause-sure
returns-clause-sure c =
    let old = c.args.self.now in
    sure_still ℕ (raw_of old.geo) old.tree old.story.value old.story.value old.numbers c.count_call.new.numbers c.fill_block.result c.in_ok-count_call.ensures.ok.0 c.in_ok-count_call.ensures.ok.1
