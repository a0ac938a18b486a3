use Rattle.std.proofs.Common.{rules}
use Rattle.small_areas.proofs.FirstFound.{or-none}
use Rattle.small_areas.proofs.misplaced.misplaced_address.Goals as goal

pub returns : goal.returns
returns c = search (rules, or-none)
