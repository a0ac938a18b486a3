use Rattle.std.proofs.Common.{sym, arith, take_all}
use Rattle.plain_backing.proofs.backing.front_of.Goals as goal

pub returns-then-bytes-le4096-clause-part : goal.returns-then-bytes-le4096-clause-part
returns-then-bytes-le4096-clause-part c = sym (take_all 4096 c.args.bytes.now (omega arith))
