use Rattle.leaf_check.proofs.Firsts.{with_here, with_other}
use Rattle.leaf_check.proofs.first.with_leaf.Goals as goal

pub returns-then-leaf-here : goal.returns-then-leaf-here
returns-then-leaf-here c = λ done h. with_other c.args.standing.now c.args.here.now c.args.leaf.now done c.args.first (λ l o. c.if-leaf-here.true l) h

pub returns-then-leaf-here-2 : goal.returns-then-leaf-here-2
returns-then-leaf-here-2 c = λ done h. with_other c.args.standing.now c.args.here.now c.args.leaf.now done c.args.first (λ l o. c.if-leaf-here-2.true o) h

pub returns : goal.returns
returns c = λ done h. with_here c.args.standing.now c.args.here.now c.args.leaf.now done c.args.first c.sooner.result c.value_at.result c.requires c.if-leaf-here.false c.if-leaf-here-2.false c.value_at.ensures.lnum c.value_at.ensures.offs c.value_at.ensures.values c.sooner.ensures h
