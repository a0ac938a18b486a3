use Rattle.leaf_map.proofs.Originals.{originals_found}
use Rattle.leaf_map.proofs.law.originals_are_found.Goals as goal

pub returns : goal.returns
returns c = originals_found
