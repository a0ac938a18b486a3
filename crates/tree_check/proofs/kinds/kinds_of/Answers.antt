use Rattle.std.proofs.Common.{List, ap, ◌∙◌, rules}
use Rattle.std.proofs.lemmas.List.Sorted.{IsNonDecreasingBy-from_sort_by_key, answers_always}
use Rattle.tree_check.specs.Kinds.{kind_at}
use Rattle.tree_check.specs.declared.inode_kind.InodeKind.{InodeKind}
use Rattle.tree_check.proofs.KindsInOrder.{kinds_are_shown, same_kinds}
use Rattle.tree_check.proofs.kinds.kinds_of.Goals as goal

pub in_order-requires : goal.in_order-requires
in_order-requires c = IsNonDecreasingBy-from_sort_by_key (λ (inode : InodeKind). inode.ino) _ c.in_ok-sort_by_key.ensures.sorted (λ a r q k. search rules)

pub returns : goal.returns
returns c = λ q.
    let shown = c.in_ok-inodes.inodes.items in
    let stable = c.in_ok-sort_by_key.ensures.stable (λ (inode : InodeKind). inode.ino) (answers_always _ _ _ (λ f a r g h. search rules)) in
    ap (λ (ks : List InodeKind). kind_at ks q) c.in_order.ensures
    ∙ same_kinds shown c.sort_by_key.new.self.items stable q
    ∙ ap (λ (ks : List InodeKind). kind_at ks q) c.in_ok-inodes.ensures
    ∙ kinds_are_shown c.args.leaves.now q
