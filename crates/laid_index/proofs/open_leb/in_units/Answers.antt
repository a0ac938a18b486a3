use Rattle.std.proofs.Common.{◌+◌, ◌-◌, ◌/◌}
use Rattle.std.proofs.Math.Nat.{mul-mod_left}
use Rattle.laid_index.proofs.open_leb.in_units.Goals as goal

pub returns-clause-whole : goal.returns-clause-whole
returns-clause-whole c = mul-mod_left ((c.args.len + (c.args.geometry.now.min_io - 1)) / c.args.geometry.now.min_io) c.args.geometry.now.min_io
