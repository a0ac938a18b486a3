use Rattle.space_check.proofs.Added.{added_end, added_next, added_start, none}
use Rattle.space_check.proofs.adding.add_nodes.Goals as goal

pub adding-init : goal.adding-init
adding-init c = added_start c.args.first c.args.sums.now c.args.nodes.now

pub adding-preserved : goal.adding-preserved
adding-preserved c =
    added_next c.args.first c.args.sums.now c.adding.sums c.add.new.sums c.in-Some.node.now c.in-Some.rest.now c.adding.left.now c.args.nodes.now c.in-Some.ensures.cases.0 c.adding.invariant c.in_ok-add.ensures

pub returns : goal.returns
returns c = added_end c.args.first c.args.sums.now c.adding.sums c.adding.left.now c.args.nodes.now (none c.adding.left.now c.in_default.ensures.cases) c.adding.invariant
