use Rattle.std.proofs.Common.{◌≡◌, drop}
use Rattle.ubifs_base.specs.R5.{r5_from}
use Rattle.ubifs_base.proofs.name_hash.r5.Given as goal

abbrev pub invariant-loop-byte : goal.invariant-loop-byte
invariant-loop-byte l = r5_from l.hash (drop l.byte-index l.name) ≡ r5_from 0 l.name
