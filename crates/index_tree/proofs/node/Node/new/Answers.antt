use Rattle.std.proofs.Common.{refl}
use Rattle.ubifs_base.specs.declared.key.Key.TheVariants.{Ino}
use Rattle.index_tree.specs.Order.{key_rank}
use Rattle.index_tree.proofs.TreeLaws.{node_keeps}
use Rattle.index_tree.proofs.node.Node.new.Goals as goal

pub returns-clause-keeps : goal.returns-clause-keeps
unfolding key_rank
returns-clause-keeps c =
    node_keeps (record { first = Ino 0; leaves = c.new.result; nodes = c.new-2.result }) (rw (c.new.ensures.items, c.new-2.ensures.items) refl) (rw c.new-2.ensures.items refl)
