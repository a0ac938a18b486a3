use Rattle.std.proofs.Common.{arith}
use Rattle.ubifs_base.specs.declared.table_16.TheConstants.{TABLE_16}
use Rattle.ubifs_base.specs.Crc.{crc_bits}
use Rattle.ubifs_base.proofs.CrcLemmas.{is_table-at}
use Rattle.ubifs_base.proofs.crc_16.byte_after.Goals as goal

pub returns : goal.returns
unfolding crc_bits
returns c = is_table-at 0xA001 8 0 TABLE_16 c.args.byte c.args.byte tt (omega arith) (omega arith)
