use Rattle.std.proofs.Common.{◌≡◌, ℕ, max, fold, drop}
use Rattle.journal_scan.specs.Content.{highest_told, number_told}
use Rattle.journal_scan.specs.declared.journal_node.JournalNode.{JournalNode}
use Rattle.journal_scan.proofs.read.highest_told.Given as goal

-- the greatest of those so far, and then of the others
abbrev pub invariant-loop-node : goal.invariant-loop-node
invariant-loop-node l = fold (λ (n : ℕ) (x : JournalNode). max n (number_told x.content)) l.most (drop l.node-index l.nodes) ≡ highest_told l.nodes
