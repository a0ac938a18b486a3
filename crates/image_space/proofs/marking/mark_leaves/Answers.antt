use Rattle.image_space.specs.Uses.{leaf_seen}
use Rattle.image_space.proofs.Marked.{marked_end, marked_next, marked_start, none}
use Rattle.image_space.proofs.marking.mark_leaves.Goals as goal

pub marking-init : goal.marking-init
marking-init c = marked_start leaf_seen c.args.first c.args.uses.now.items c.args.leaves.now

pub marking-preserved : goal.marking-preserved
marking-preserved c =
    marked_next leaf_seen c.args.first c.args.uses.now.items c.marking.uses.items c.mark_leaf.new.uses.items c.in-Some.leaf.now c.in-Some.rest.now c.marking.left.now c.args.leaves.now c.in-Some.ensures.cases.0 c.marking.invariant c.mark_leaf.ensures

pub returns : goal.returns
returns c = marked_end leaf_seen c.args.first c.args.uses.now.items c.marking.uses.items c.marking.left.now c.args.leaves.now (none c.marking.left.now c.in_default.ensures.cases) c.marking.invariant
