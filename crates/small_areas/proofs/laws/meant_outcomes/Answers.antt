use Rattle.small_areas.proofs.TornCopy.{unmended_before, unmended_after}
use Rattle.small_areas.proofs.laws.meant_outcomes.Goals as goal

pub returns-clause-before : goal.returns-clause-before
returns-clause-before c = unmended_before

pub returns-clause-after : goal.returns-clause-after
returns-clause-after c = unmended_after
