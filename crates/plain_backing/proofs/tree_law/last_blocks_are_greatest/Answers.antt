use Rattle.plain_backing.proofs.Greatest.{last_is_greatest, none_is_last}
use Rattle.plain_backing.proofs.tree_law.last_blocks_are_greatest.Goals as goal

pub returns : goal.returns
returns c = record { last = last_is_greatest; none = none_is_last }
