-- What is so of each node of a list is so of the list with one more such node.
use Rattle.std.proofs.Common.{List, [], ◌∷◌, ◌++◌}
use Rattle.std.specs.List.{AllByRecursion}
use Rattle.journal_scan.specs.declared.journal_node.JournalNode.{JournalNode}
use Rattle.log_replay.specs.Changes.{HasBlockKey}

pub pushed : (nodes : List JournalNode) (node : JournalNode) → AllByRecursion HasBlockKey nodes → HasBlockKey node → AllByRecursion HasBlockKey (nodes ++ node ∷ [])
pushed [] node all this = (this, tt)
pushed (x ∷ nodes) node all this = (all.0, pushed nodes node all.1 this)
