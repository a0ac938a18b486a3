use Rattle.std.proofs.Common.{max, ap, ◌∙◌}
use Rattle.op_groups.proofs.LastBlock.{end_found}
use Rattle.op_groups.proofs.sizes.size_of.Goals as goal

pub returns : goal.returns
returns c = λ tree ino proper found. c.max.ensures ∙ ap (λ end. max c.args.inode.now.size end) (c.end_of.ensures ∙ end_found tree ino c.args.last c.args.stored proper found)
