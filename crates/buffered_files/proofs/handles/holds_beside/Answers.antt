use Rattle.std.proofs.Common.{ap, ◌∙◌}
use Rattle.std.specs.Prelude.{nat_lt}
use Rattle.buffered_files.proofs.Besides.{beside}
use Rattle.buffered_files.proofs.handles.holds_beside.Goals as goal

pub returns : goal.returns
returns c = ap (λ n. nat_lt 1 n) c.count_of.ensures ∙ beside (c.args.caller, c.args.slot) c.args.ino c.args.map.now.entries c.requires
