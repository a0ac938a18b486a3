use Rattle.tree_check.proofs.Backwards.{entries_step}
use Rattle.tree_check.proofs.links.entries_of.Goals as goal

pub setting-preserved : goal.setting-preserved
setting-preserved c = entries_step c.setting.left.now c.in-Some.front.now c.args.leaves.now c.in-Some.leaf.now c.setting.entries.entries c.set_entry.new.entries.entries c.in-Some.ensures.cases.0 c.setting.invariant c.in_ok-set_entry.ensures
