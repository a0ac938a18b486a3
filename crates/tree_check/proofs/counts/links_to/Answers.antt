use Rattle.std.proofs.Common.{◌==◌, List, filter, leb, ltb, ap, subst, sym, ◌∙◌, rules}
use Rattle.std.specs.List.Sorted.{IsNonDecreasingBy}
use Rattle.std.proofs.lemmas.List.Sorted.{IsNonDecreasingBy-drop, IsPartitionPoint-from_clause, IsPartitionedBy-leb, IsPartitionedBy-ltb}
use Rattle.tree_check.specs.declared.link.Link.{Link}
use Rattle.tree_check.proofs.InOrder.{bisected}
use Rattle.tree_check.proofs.counts.links_to.Goals as goal

pub returns : goal.returns
returns c =
    let q = c.args.ino in
    let all = c.as_slice-all.result.now in
    let from = c.split_at.result.1.now in
    let i = c.partition_point.result in
    let P : List Link → Type 0 = λ ls. IsNonDecreasingBy (λ (link : Link). link.ino) ls in
    let ordered = subst P (sym c.as_slice-all.ensures.value) c.args.links.now.ordered in
    let behind = subst P (sym c.split_at.ensures.back) (IsNonDecreasingBy-drop (λ (link : Link). link.ino) i all ordered) in
    let low = IsPartitionPoint-from_clause (λ (link : Link). ltb link.ino q) _ _ c.partition_point.ensures.partitioned (IsPartitionedBy-ltb (λ (link : Link). link.ino) all q ordered) (λ a r g k. search rules) in
    let high = IsPartitionPoint-from_clause (λ (link : Link). leb link.ino q) _ _ c.partition_point-2.ensures.partitioned (IsPartitionedBy-leb (λ (link : Link). link.ino) from q behind) (λ a r g k. search rules) in
    c.split_at-2.ensures.front
    ∙ bisected (λ (link : Link). link.ino) q all from i c.partition_point-2.result c.split_at.ensures.back low high
    ∙ ap (λ (ls : List Link). filter (λ link. link.ino == q) ls) c.as_slice-all.ensures.value
