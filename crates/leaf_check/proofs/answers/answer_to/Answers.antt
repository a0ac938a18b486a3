use Rattle.std.proofs.Common.{ℕ, List, subst, sym}
use Rattle.leaf_check.specs.Committed.{HasBytes}
use Rattle.leaf_check.proofs.CommittedLeaves.{no_node, nothing_read, some_at}
use Rattle.leaf_check.proofs.answers.answer_to.Goals as goal

pub returns-in_default : goal.returns-in_default
returns-in_default c = λ contents leaf read. nothing_read contents leaf c.args.read.now c.nothing_at.result c.nothing_at.ensures c.in_default.is read

pub returns-in_default-whole_leaf : goal.returns-in_default-whole_leaf
returns-in_default-whole_leaf c = λ contents leaf read.
    let P : List ℕ → Type 0 = λ b. HasBytes contents leaf b in
    let here = subst P (sym c.deref.ensures.value) (some_at c.args.read.now.bytes c.in-Some.bytes _ c.in-Some.is read.some) in
    no_node contents leaf c.args.read.now c.deref.result.now c.nothing_at-in_default-whole_leaf.result c.nothing_at-in_default-whole_leaf.ensures c.in_default-whole_leaf.ensures.none here read.leaf_is
