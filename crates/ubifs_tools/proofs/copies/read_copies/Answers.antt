use Rattle.ubifs_tools.proofs.Readings.{told_all}
use Rattle.ubifs_tools.proofs.copies.read_copies.Goals as goal

pub returns-clause-read : goal.returns-clause-read
returns-clause-read g c =
    told_all (g.K.Keeper.state c.args.keeper.now) c.args.copied.now c.reading.left.now c.reading.files.items c.in_default.ensures.cases c.reading.invariant.told
