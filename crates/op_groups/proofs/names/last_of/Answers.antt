use Rattle.std.proofs.Common.{◌∙◌}
use Rattle.op_groups.proofs.Parts.{last_at}
use Rattle.op_groups.proofs.names.last_of.Goals as goal

pub returns-in-len1-up : goal.returns-in-len1-up
returns-in-len1-up c = c.as_slice.ensures ∙ (c.name-item.is ∙ last_at c.args.names.now c.name-item.result c.in-len1-up.len_at_least)
