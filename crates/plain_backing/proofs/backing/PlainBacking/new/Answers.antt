use Rattle.std.proofs.Common.{sym, subst}
use Rattle.plain_backing.specs.Story.{Story, IsStory}
use Rattle.plain_backing.proofs.Opening.{open_done}
use Rattle.plain_backing.proofs.backing.PlainBacking.new.Goals as goal

pub invariant_of-result-clause-told : goal.invariant_of-result-clause-told
invariant_of-result-clause-told c = let P : Story → Type 0 = λ s. IsStory c.args.tree s in subst P (sym c.open_story-story.ensures) (open_done c.args.tree c.show_order.ensures)
