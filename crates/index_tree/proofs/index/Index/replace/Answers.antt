use Rattle.std.proofs.Common.{ap, sym, ◌∙◌}
use Rattle.index_tree.proofs.KeyedLaws.{swapped-keyed}
use Rattle.index_tree.proofs.SameLeaf.{holds-exactly}
use Rattle.index_tree.specs.Shape.{contents, node_count, shape_weight}
use Rattle.index_tree.proofs.ReplacementLaws.{replaced-contents, replaced-same, replaced-whole, swapped-ordered}
use Rattle.index_tree.proofs.LevelLaws.{replaced-levelled}
use Rattle.index_tree.specs.Tree.{shape}
use Rattle.index_tree.proofs.index.Index.replace.Goals as goal

pub invariant_of-self-clause-whole : goal.invariant_of-self-clause-whole
invariant_of-self-clause-whole c =
    let s = shape c.args.self.now.root in
    rw c.replace_rooted.ensures.put (replaced-whole c.args.old.now c.args.new s c.args.self.now.whole)

pub invariant_of-self-clause-sound : goal.invariant_of-self-clause-sound
invariant_of-self-clause-sound c =
    let s = shape c.args.self.now.root in
    rw c.replace_rooted.ensures.put (replaced-same c.args.self.now.fanout c.args.old.now c.args.new s c.args.self.now.sound).sound

pub invariant_of-self-clause-ordered : goal.invariant_of-self-clause-ordered
invariant_of-self-clause-ordered c =
    let s = shape c.args.self.now.root in
    rw (c.replace_rooted.ensures.put, replaced-contents c.args.old.now c.args.new s) (swapped-ordered 0 c.args.old.now c.args.new (contents s) c.requires.one_key c.args.self.now.ordered)

pub invariant_of-self-clause-keyed : goal.invariant_of-self-clause-keyed
invariant_of-self-clause-keyed c =
    let s = shape c.args.self.now.root in
    rw (c.replace_rooted.ensures.put, replaced-contents c.args.old.now c.args.new s) (swapped-keyed c.args.old.now c.args.new (contents s) c.requires.key c.args.self.now.keyed)

pub invariant_of-self-clause-nodes_counted : goal.invariant_of-self-clause-nodes_counted
invariant_of-self-clause-nodes_counted c =
    let s = shape c.args.self.now.root in
    c.args.self.now.nodes_counted ∙ sym (ap node_count c.replace_rooted.ensures.put ∙ (replaced-same c.args.self.now.fanout c.args.old.now c.args.new s c.args.self.now.sound).nodes)

pub invariant_of-self-clause-weight_counted : goal.invariant_of-self-clause-weight_counted
invariant_of-self-clause-weight_counted c =
    let s = shape c.args.self.now.root in
    c.args.self.now.weight_counted ∙ sym (ap (λ v. shape_weight c.args.self.now.fanout v) c.replace_rooted.ensures.put ∙ (replaced-same c.args.self.now.fanout c.args.old.now c.args.new s c.args.self.now.sound).weight)

pub returns-clause-there : goal.returns-clause-there
returns-clause-there c = λ k. holds-exactly c.args.old.now (contents (shape c.args.self.now.root)) c.replace_rooted.result c.args.self.now.keyed c.replace_rooted.ensures.answer k

pub invariant_of-self-clause-levels : goal.invariant_of-self-clause-levels
invariant_of-self-clause-levels c =
    rw c.replace_rooted.ensures.put (replaced-levelled c.args.self.now.fanout c.args.old.now c.args.new (shape c.args.self.now.root) c.args.self.now.sound c.args.self.now.levels)
