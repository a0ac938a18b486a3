use Rattle.std.proofs.Common.{List, length, ap, sym}
use Rattle.leaf_map.specs.Kept.{Placed}
use Rattle.log_replay.proofs.Recovering.{highest_recovered}
use Rattle.log_replay.proofs.laws.what_was_read_has_the_numbers.Goals as goal

pub returns-clause-highest : goal.returns-clause-highest
returns-clause-highest c = highest_recovered

pub returns-clause-nodes : goal.returns-clause-nodes
returns-clause-nodes c = λ parts reads index committed listed is. ap (λ (ns : List Placed). length ns) (sym is.nodes)
