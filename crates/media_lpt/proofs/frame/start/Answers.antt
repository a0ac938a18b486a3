use Rattle.std.proofs.Common.{length}
use Rattle.media_lpt.proofs.FrameLemmas.{started, none_free}
use Rattle.media_lpt.proofs.frame.start.Goals as goal

pub put-requires-clause-free : goal.put-requires-clause-free
put-requires-clause-free c = record { below = none_free c.clear.new.out (length c.args.out.now) 16 c.clear.ensures }

pub returns-clause-number : goal.returns-clause-number
returns-clause-number c = started c.clear.new.out c.put.new.out (length c.args.out.now) c.args.kind c.clear.ensures c.put.ensures.put
