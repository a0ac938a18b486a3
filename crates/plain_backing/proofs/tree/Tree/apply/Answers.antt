use Rattle.std.proofs.Common.{arith}
use Rattle.plain_backing.proofs.tree.Tree.apply.Goals as goal

pub make_all-requires-clause-fits : goal.make_all-requires-clause-fits
make_all-requires-clause-fits c = omega (arith, c.in-Ok.ensures.fits, c.prepare.ensures.bytes)
