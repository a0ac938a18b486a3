use Rattle.std.proofs.Common.{rules}
use Rattle.std.proofs.lemmas.List.Sorted.{IsNonDecreasingBy-from_sort_by_key}
use Rattle.tree_check.specs.declared.link.Link.{Link}
use Rattle.tree_check.proofs.counts.links_by_inode.Goals as goal

pub in_order-requires : goal.in_order-requires
in_order-requires c = IsNonDecreasingBy-from_sort_by_key (λ (link : Link). link.ino) _ c.sort_unstable_by_key.ensures.sorted (λ a r q k. search rules)
