use Rattle.std.proofs.Common.{◌∙◌}
use Rattle.group_nodes.specs.TextLaws.{length-group_text}
use Rattle.group_nodes.proofs.write.write_group.Goals as goal

pub write_from-requires-clause-room : goal.write_from-requires-clause-room
write_from-requires-clause-room c = c.requires.room ∙ length-group_text c.args.sqnum.now c.args.changes.now
