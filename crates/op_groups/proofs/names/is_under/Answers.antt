use Rattle.std.proofs.Common.{length, ◌∙◌}
use Rattle.std.proofs.lemmas.Bool.{le-ltb}
use Rattle.op_groups.proofs.Parts.{under_short, under_long}
use Rattle.op_groups.proofs.names.is_under.Goals as goal

pub returns-then-old-new : goal.returns-then-old-new
returns-then-old-new c = c.starts_with.ensures.value ∙ under_long c.args.old.now c.args.new.now c.if-old-new.true

pub returns-else-old-new : goal.returns-else-old-new
returns-else-old-new c = le-ltb (length c.args.old.now) (length c.args.new.now) c.if-old-new.false ∙ under_short c.args.old.now c.args.new.now c.if-old-new.false
