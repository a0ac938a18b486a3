use Rattle.std.proofs.Common.{ap, sym, ◌∙◌}
use Rattle.tree_check.specs.Facts.{facts_in, is_misplaced}
use Rattle.tree_check.specs.declared.shown_leaf.Shown.{Shown}
use Rattle.tree_check.proofs.facts.is_misplaced.Goals as goal

pub returns-in-Inode : goal.returns-in-Inode
returns-in-Inode c = c.is_misplaced_inode.ensures ∙ ap (λ (s : Shown). is_misplaced (facts_in c.args.facts.now) s) (sym c.in-Inode.is)
