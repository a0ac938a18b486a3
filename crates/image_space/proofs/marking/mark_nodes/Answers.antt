use Rattle.image_space.specs.Uses.{node_seen}
use Rattle.image_space.proofs.Marked.{marked_end, marked_next, marked_start, none}
use Rattle.image_space.proofs.marking.mark_nodes.Goals as goal

pub marking-init : goal.marking-init
marking-init c = marked_start node_seen c.args.first c.args.uses.now.items c.args.nodes.now

pub marking-preserved : goal.marking-preserved
marking-preserved c =
    marked_next node_seen c.args.first c.args.uses.now.items c.marking.uses.items c.mark_node.new.uses.items c.in-Some.node.now c.in-Some.rest.now c.marking.left.now c.args.nodes.now c.in-Some.ensures.cases.0 c.marking.invariant c.mark_node.ensures

pub returns : goal.returns
returns c = marked_end node_seen c.args.first c.args.uses.now.items c.marking.uses.items c.marking.left.now c.args.nodes.now (none c.marking.left.now c.in_default.ensures.cases) c.marking.invariant
