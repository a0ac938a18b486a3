use Rattle.log_replay.proofs.OneNode.{node_stands}
use Rattle.log_replay.proofs.nodes.apply_node.Goals as goal

pub returns-clause-stands : goal.returns-clause-stands
returns-clause-stands c kept new told leaf fresh stands =
    let laws = c.indexes_follow.ensures in
    node_stands (record { set = laws.set; dropped = laws.dropped; cut = laws.cut; inode = laws.inode; after = c.a_change_of_leaves_is_one_of_the_tree.ensures.kept_read })
    c.args.node new kept c.args.standing.now c.apply.new.standing told leaf fresh stands c.in_ok-apply.ensures.does
