use Rattle.std.proofs.Common.{List, subst, sym}
use Rattle.tree_check.specs.KeyOrder.{DoKeysGoUp}
use Rattle.tree_check.specs.declared.shown_leaf.ShownLeaf.{ShownLeaf}
use Rattle.tree_check.proofs.GoingUp.{nothing_twice}
use Rattle.tree_check.proofs.key_order.keys_go_up.Goals as goal

pub returns-in-Some : goal.returns-in-Some
returns-in-Some c = λ yes.
    let P : List ShownLeaf → Type 0 = λ ls. DoKeysGoUp ls in
    nothing_twice c.args.leaves.now (subst P (sym c.in-Some.ensures.cases.0) (c.do_follow.ensures yes))
