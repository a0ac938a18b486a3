use Rattle.std.proofs.Common.{sym, ap, ◌∙◌}
use Rattle.tree_check.specs.Facts.{facts_in}
use Rattle.tree_check.specs.LinkFindings.{soonest_of}
use Rattle.tree_check.proofs.GoingUp.{wrongs_alone}
use Rattle.tree_check.proofs.place_check.first_misplaced.Goals as goal

pub returns-then-go_up : goal.returns-then-go_up
returns-then-go_up c = c.first_alone.ensures ∙ ap (soonest_of c.args.found) (sym (wrongs_alone (facts_in c.args.facts.now) c.args.leaves.now (c.requires c.if-go_up.true)))
