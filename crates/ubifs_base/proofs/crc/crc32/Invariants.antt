use Rattle.std.proofs.Common.{◌≡◌, drop, length}
use Rattle.ubifs_base.specs.Crc.{crc_from, crc32_of}
use Rattle.ubifs_base.proofs.crc.crc32.Given as goal

abbrev pub invariant-loop-rest : goal.invariant-loop-rest
invariant-loop-rest l = crc_from 0xEDB88320 l.crc l.rest ≡ crc32_of l.bytes

abbrev pub decreases-loop-rest : goal.decreases-loop-rest
decreases-loop-rest l = length l.rest

abbrev pub invariant-loop-byte : goal.invariant-loop-byte
invariant-loop-byte l = crc_from 0xEDB88320 l.crc (drop l.byte-index l.byte-items) ≡ crc32_of l.bytes
