use Rattle.std.proofs.Common.{List, sym, subst}
use Rattle.std.specs.List.{AllByRecursion}
use Rattle.journal_scan.specs.declared.journal_node.JournalNode.{JournalNode}
use Rattle.log_replay.specs.Changes.{HasBlockKey}
use Rattle.journal_tests.proofs.Pushed.{pushed}
use Rattle.journal_tests.proofs.samples.nodes_of.Goals as goal

abbrev HaveKeys : List JournalNode → Type 0
HaveKeys nodes = AllByRecursion HasBlockKey nodes

pub loop-row-init : goal.loop-row-init
loop-row-init c = subst HaveKeys (sym c.new-nodes.ensures.items) tt

pub loop-row-preserved : goal.loop-row-preserved
loop-row-preserved c = subst HaveKeys (sym c.in_ok-push.ensures.items) (pushed c.loop-row.nodes.items c.in_ok-node_of.field-0 c.loop-row.invariant c.in_ok-node_of.ensures)

pub returns : goal.returns
returns c = c.loop-row.invariant
