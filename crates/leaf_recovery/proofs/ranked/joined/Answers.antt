use Rattle.std.proofs.Common.{◌∙◌}
use Rattle.leaf_recovery.proofs.Joining.{all_joined, joined_by_rank}
use Rattle.leaf_recovery.proofs.ranked.joined.Goals as goal

pub returns : goal.returns
returns c = λ leaves h. all_joined c.joining.joined.items c.joining.left.entries c.args.ranked.entries c.joining.invariant c.in_default.ensures.variant.1 ∙ joined_by_rank c.args.ranked leaves c.len.ensures.ordered h
