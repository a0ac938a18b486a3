use Rattle.std.proofs.Common.{◌≡◌, drop}
use Rattle.ubifs_base.specs.Crc.{crc_from}
use Rattle.ubifs_base.proofs.crc_16.crc16.Given as goal

abbrev pub invariant-loop-byte : goal.invariant-loop-byte
invariant-loop-byte l = crc_from 0xA001 l.crc (drop l.byte-index l.bytes) ≡ crc_from 0xA001 0xFFFF l.bytes
