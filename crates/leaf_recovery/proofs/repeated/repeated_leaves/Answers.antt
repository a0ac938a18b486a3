use Rattle.std.proofs.Common.{sym, ◌∙◌}
use Rattle.leaf_recovery.proofs.GoingUp.{nothing_repeated}
use Rattle.leaf_recovery.proofs.repeated.repeated_leaves.Goals as goal

pub returns-then-keys_go_up : goal.returns-then-keys_go_up
returns-then-keys_go_up c = c.new.ensures.items ∙ sym (nothing_repeated c.args.found.now (c.keys_go_up.ensures c.if-keys_go_up.true))
