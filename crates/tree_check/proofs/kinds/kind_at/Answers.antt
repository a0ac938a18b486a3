use Rattle.std.proofs.Common.{List, ltb, ap, subst, sym, ◌∙◌, rules}
use Rattle.std.specs.List.Sorted.{IsNonDecreasingBy}
use Rattle.std.proofs.lemmas.List.Sorted.{IsPartitionPoint-from_clause, IsPartitionedBy-ltb}
use Rattle.tree_check.specs.Kinds.{kind_at}
use Rattle.tree_check.specs.declared.inode_kind.InodeKind.{InodeKind}
use Rattle.tree_check.proofs.KindsInOrder.{kind_found}
use Rattle.tree_check.proofs.kinds.kind_at.Goals as goal

pub returns : goal.returns
returns c =
    let q = c.args.ino in
    let all = c.as_slice-all.result.now in
    let from = c.split_at.result.1.now in
    let P : List InodeKind → Type 0 = λ ks. IsNonDecreasingBy (λ (inode : InodeKind). inode.ino) ks in
    let ordered = subst P (sym c.as_slice-all.ensures.value) c.args.kinds.now.ordered in
    let low = IsPartitionPoint-from_clause (λ (inode : InodeKind). ltb inode.ino q) _ _ c.partition_point.ensures.partitioned (IsPartitionedBy-ltb (λ (inode : InodeKind). inode.ino) all q ordered) (λ a r g k. search rules) in
    c.first_kind.ensures ∙ kind_found q all from c.partition_point.result c.split_at.ensures.back ordered low ∙ ap (λ (ks : List InodeKind). kind_at ks q) c.as_slice-all.ensures.value
