use Rattle.std.proofs.Common.{ℕ, List, ◌∙◌, ap, sym, subst}
use Rattle.table_nodes.specs.Clean.{are_clean_below}
use Rattle.table_nodes.specs.NodeView.{node_views}
use Rattle.table_nodes.specs.Sound.{AreSoundViews}
use Rattle.table_nodes.specs.declared.node.TableNode.{TableNode}
use Rattle.node_table.specs.Unloaded.{are_loaded_if_dirty}
use Rattle.node_table.proofs.Bounded.{few_taken}
use Rattle.node_table.proofs.Counted.{taken_back}
use Rattle.node_table.proofs.table.NodeTable.take_back.Goals as goal

pub invariant_of-self-clause-sound : goal.invariant_of-self-clause-sound
invariant_of-self-clause-sound c =
    let before = c.requires.before.0 in
    let same = c.truncate_both.ensures.nodes ∙ taken_back before.nodes.items c.args.self.now.nodes.items c.args.number c.requires.before.1 c.requires.before.3 in
    let F : ℕ → Type 0 = λ n. AreSoundViews n (node_views before.nodes.items) in
    let P : List TableNode → Type 0 = λ v. AreSoundViews c.args.self.now.fanout (node_views v) in
    subst P (sym same) (subst F c.requires.before.2 before.sound)

pub invariant_of-self-clause-few : goal.invariant_of-self-clause-few
invariant_of-self-clause-few c =
    let before = c.requires.before.0.nodes.items in
    let now = c.args.self.now in
    let added = c.requires.before.1 in
    let number = c.requires.before.3 in
    few_taken before now.nodes.items c.truncate_both.new.nodes.items now.most_dirty.items c.truncate_both.new.most_dirty.items c.args.number added number
    (c.truncate_both.ensures.nodes ∙ taken_back before now.nodes.items c.args.number added number) now.few c.truncate_both.ensures.most_dirty

pub invariant_of-self-clause-clean : goal.invariant_of-self-clause-clean
invariant_of-self-clause-clean c =
    let before = c.requires.before.0 in
    ap (λ v. are_clean_below (node_views v)) (c.truncate_both.ensures.nodes ∙ taken_back before.nodes.items c.args.self.now.nodes.items c.args.number c.requires.before.1 c.requires.before.3) ∙ before.clean

pub invariant_of-self-clause-dirty : goal.invariant_of-self-clause-dirty
invariant_of-self-clause-dirty c =
    let before = c.requires.before.0 in
    ap are_loaded_if_dirty (c.truncate_both.ensures.nodes ∙ taken_back before.nodes.items c.args.self.now.nodes.items c.args.number c.requires.before.1 c.requires.before.3) ∙ before.dirty

pub returns-clause-nodes : goal.returns-clause-nodes
returns-clause-nodes c = λ before added number. c.truncate_both.ensures.nodes ∙ taken_back before c.args.self.now.nodes.items c.args.number added number
