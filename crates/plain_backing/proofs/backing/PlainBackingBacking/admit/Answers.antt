use Rattle.std.proofs.Common.{◌+◌, ◌<◌, ◌^◌}
use Rattle.ubifs_base.specs.RawOf.{raw_of}
use Rattle.plain_backing.proofs.Promises.{admit_keeps}
use Rattle.plain_backing.proofs.backing.PlainBackingBacking.admit.Goals as goal

pub returns-clause-sure : goal.returns-clause-sure
returns-clause-sure c =
    let self = c.args.self.now in
    let need = c.args.need.now in
    let geo = raw_of self.geo in
    admit_keeps geo self.tree self.story.value self.numbers c.admit.new.numbers c.space-space.result need (self.numbers.credits + need.credits < 2 ^ 40) c.admit.result c.space-space.ensures c.admit.ensures.ok c.admit.ensures.err c.admit.ensures.covered
    (c.what_was_admitted_can_be_put.ensures.granted geo c.space-space.result need)
