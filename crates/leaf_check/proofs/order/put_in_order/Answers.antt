use Rattle.std.proofs.Common.{rules}
use Rattle.std.proofs.lemmas.List.Sorted.{IsNonDecreasingBy-from_sort_by_key}
use Rattle.leaf_check.specs.Overlaps.{place_rank}
use Rattle.leaf_check.proofs.order.put_in_order.Goals as goal

pub returns-clause-order : goal.returns-clause-order
returns-clause-order c = IsNonDecreasingBy-from_sort_by_key place_rank _ c.sort_unstable_by_key.ensures.sorted (λ a r q k. search rules)
