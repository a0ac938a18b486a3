use Rattle.std.specs.Prelude.{is_ok}
use Rattle.node_table.proofs.Adding.{after_push, after_push_dirty, after_push_settled}
use Rattle.node_table.proofs.Bounded.{few_pushed}
use Rattle.node_table.proofs.table.NodeTable.add.Goals as goal

pub invariant_of-self-clause-sound : goal.invariant_of-self-clause-sound
invariant_of-self-clause-sound c =
    after_push c.args.self.now.fanout c.args.self.now.nodes.items c.push_both.new.nodes.items c.args.node (is_ok c.push_both.result) c.push_both.ensures.nodes c.args.self.now.sound c.requires.sound

pub invariant_of-self-clause-few : goal.invariant_of-self-clause-few
invariant_of-self-clause-few c =
    let s = c.args.self.now in
    few_pushed s.nodes.items c.push_both.new.nodes.items s.most_dirty.items c.push_both.new.most_dirty.items c.args.node c.in_ok-most.most (is_ok c.push_both.result)
    c.push_both.ensures.nodes c.push_both.ensures.most_dirty s.few c.in_ok-most.ensures

pub invariant_of-self-clause-clean : goal.invariant_of-self-clause-clean
invariant_of-self-clause-clean c =
    after_push_settled c.args.self.now.nodes.items c.push_both.new.nodes.items c.args.node (is_ok c.push_both.result) c.push_both.ensures.nodes c.args.self.now.clean c.requires.clean

pub invariant_of-self-clause-dirty : goal.invariant_of-self-clause-dirty
invariant_of-self-clause-dirty c =
    after_push_dirty c.args.self.now.nodes.items c.push_both.new.nodes.items c.args.node (is_ok c.push_both.result) c.push_both.ensures.nodes c.args.self.now.dirty c.requires.dirty
