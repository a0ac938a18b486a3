use Rattle.image_space.specs.Uses.{reference_seen}
use Rattle.image_space.proofs.Marked.{marked_end, marked_next, marked_start, none}
use Rattle.image_space.proofs.marking.mark_references.Goals as goal

pub marking-init : goal.marking-init
marking-init c = marked_start reference_seen c.args.first c.args.uses.now.items c.args.references.now

pub marking-preserved : goal.marking-preserved
marking-preserved c =
    marked_next reference_seen c.args.first c.args.uses.now.items c.marking.uses.items c.mark_reference.new.uses.items c.in-Some.reference.now c.in-Some.rest.now c.marking.left.now c.args.references.now c.in-Some.ensures.cases.0 c.marking.invariant c.mark_reference.ensures

pub returns : goal.returns
returns c = marked_end reference_seen c.args.first c.args.uses.now.items c.marking.uses.items c.marking.left.now c.args.references.now (none c.marking.left.now c.in_default.ensures.cases) c.marking.invariant
