use Rattle.std.proofs.Common.{rules}
use Rattle.std.proofs.lemmas.List.Sorted.{answers_always, IsNonDecreasingBy-from_sort_by_key}
use Rattle.journal_scan.specs.declared.journal_node.JournalNode.{JournalNode}
use Rattle.journal_scan.proofs.Ordered.{are_in_order}
use Rattle.journal_scan.proofs.read.sort_nodes.Goals as goal

pub returns : goal.returns
returns c = λ xs is.
    are_in_order xs _ _ is
    (IsNonDecreasingBy-from_sort_by_key (λ (x : JournalNode). x.sqnum) _ c.in_ok-sort_by_key.ensures.sorted (λ a r q k. search rules))
    (c.sort_by_key.ensures.stable (λ (x : JournalNode). x.sqnum) (answers_always _ _ _ (λ f a r g h. search rules)))
