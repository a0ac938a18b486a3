use Rattle.std.proofs.Common.{rules}
use Rattle.media_lpt.proofs.FrameLemmas.{sealed}
use Rattle.media_lpt.proofs.frame.seal.Goals as goal

pub returns-clause-sum : goal.returns-clause-sum
returns-clause-sum c = sealed c.args.out.now c.write_u16.new.buf c.checksum-crc.result c.requires.room c.checksum-crc.ensures.low c.requires.open (search rules) c.checksum-crc.ensures.sum c.write_u16.ensures
