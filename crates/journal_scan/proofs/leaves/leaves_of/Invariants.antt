use Rattle.journal_scan.proofs.Seen.{AreSeen}
use Rattle.journal_scan.proofs.leaves.leaves_of.Given as goal

-- of those that were found the rest is still to be seen
abbrev pub invariant-loop-found : goal.invariant-loop-found
invariant-loop-found l = AreSeen l.bud l.fn.founds.items l.found-iterator.rest.items l.nodes.items l.whole
