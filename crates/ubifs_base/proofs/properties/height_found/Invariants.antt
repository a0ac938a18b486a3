use Rattle.std.proofs.Common.{◌≡◌, ◌+◌, ◌-◌, ◌^◌}
use Rattle.ubifs_base.specs.Properties.{height_from}
use Rattle.ubifs_base.proofs.properties.height_found.Given as goal

abbrev pub invariant-loop-try : goal.invariant-loop-try
invariant-loop-try l = record {
  counted : l.height ≡ l._try + 1;
  room : l.room ≡ 4 ^ l.height;
  rest : height_from (16 - l._try) l.height l.pnodes ≡ height_from 16 1 l.pnodes;
}
