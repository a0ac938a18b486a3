use Rattle.std.proofs.Common.{◌∙◌, arith, sym, ap}
use Rattle.index_tree.specs.Order.{leaf_rank}
use Rattle.leaf_recovery.specs.Applied.{ends_at_told}
use Rattle.leaf_recovery.proofs.Putting.{inserted_there, place_of_leaf, place_within, set_there}
use Rattle.leaf_recovery.proofs.applied.put_leaf.Goals as goal

pub returns-then-ends_at : goal.returns-then-ends_at
returns-then-ends_at c =
    let kept = c.args.kept.now.items in
    let p = place_of_leaf c.args.content.now c.args.new kept c.as_slice.result.now c.rank.result c.place_for-place.result c.as_slice.ensures.value c.rank.ensures c.place_for-place.ensures in
    set_there c.args.content.now c.args.new kept c.place_for-place.result p
    (sym (ap (ends_at_told c.args.content.now c.place_for-place.result) c.as_slice-2.ensures.value) ∙ sym c.ends_at.ensures ∙ c.if-ends_at.true)

pub insert-requires : goal.insert-requires
insert-requires c =
    let kept = c.args.kept.now.items in
    let p = place_of_leaf c.args.content.now c.args.new kept c.as_slice.result.now c.rank.result c.place_for-place.result c.as_slice.ensures.value c.rank.ensures c.place_for-place.ensures in
    let w = place_within c.args.content.now (leaf_rank c.args.new.leaf) kept in
    omega (arith, p, w)

pub returns : goal.returns
returns c =
    let kept = c.args.kept.now.items in
    let p = place_of_leaf c.args.content.now c.args.new kept c.as_slice.result.now c.rank.result c.place_for-place.result c.as_slice.ensures.value c.rank.ensures c.place_for-place.ensures in
    c.in_ok-insert.ensures.items ∙ inserted_there c.args.content.now c.args.new kept c.place_for-place.result p
    (sym (ap (ends_at_told c.args.content.now c.place_for-place.result) c.as_slice-2.ensures.value) ∙ sym c.ends_at.ensures ∙ c.if-ends_at.false)
