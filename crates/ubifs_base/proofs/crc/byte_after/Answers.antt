use Rattle.std.proofs.Common.{arith, ◌-◌}
use Rattle.ubifs_base.specs.declared.tables_low.TheConstants.{TABLES_LOW}
use Rattle.ubifs_base.specs.declared.tables_high.TheConstants.{TABLES_HIGH}
use Rattle.ubifs_base.specs.Crc.{crc_bits}
use Rattle.ubifs_base.proofs.CrcLemmas.{are_tables-at}
use Rattle.ubifs_base.proofs.crc.byte_after.Goals as goal

pub returns-then-count-le8 : goal.returns-then-count-le8
unfolding crc_bits
returns-then-count-le8 c = are_tables-at 0xEDB88320 1 TABLES_LOW (c.args.count - 1) c.args.count c.args.byte tt (omega arith) (omega arith) (omega arith)

pub returns-else-count-le8 : goal.returns-else-count-le8
unfolding crc_bits
returns-else-count-le8 c = are_tables-at 0xEDB88320 9 TABLES_HIGH (c.args.count - 9) c.args.count c.args.byte tt (omega arith) (omega arith) (omega arith)
