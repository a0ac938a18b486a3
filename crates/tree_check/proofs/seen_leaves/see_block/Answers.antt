use Rattle.tree_check.proofs.SeenMore.{block_noted}
use Rattle.tree_check.proofs.seen_leaves.see_block.Goals as goal

pub returns-then-was-clause-noted : goal.returns-then-was-clause-noted
returns-then-was-clause-noted c = block_noted c.args.seen.now c.args.ino c.args.block c.note.new.set c.in_ok-was.ensures.noted

pub returns-else-was-clause-noted : goal.returns-else-was-clause-noted
returns-else-was-clause-noted c = block_noted c.args.seen.now c.args.ino c.args.block c.note.new.set c.in_ok-was.ensures.noted
