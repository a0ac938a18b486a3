use Rattle.std.proofs.Common.{List, ◌++◌, sym, ap, ◌∙◌, append-nil}
use Rattle.index_tree.specs.declared.leaf.Leaf.{Leaf}
use Rattle.leaf_check.proofs.CommittedLeaves.{no_more}
use Rattle.leaf_check.proofs.Copies.{copied_more, copied_narrow}
use Rattle.leaf_check.proofs.order.copied.Goals as goal

pub copying-preserved : goal.copying-preserved
copying-preserved c =
    let i = c.copying.invariant in
    (copied_more c.copying.copies.items c.push.new.self.items c.copying.left.now c.in-Some.rest.now c.args.leaves.now c.in-Some.leaf.now c.same.result c.same.ensures.same c.in_ok-push.ensures.items c.in-Some.ensures.cases.0 i.0, copied_narrow c.copying.copies.items c.push.new.self.items c.same.result c.same.ensures.narrow c.in_ok-push.ensures.items i.1)

pub returns-clause-same : goal.returns-clause-same
returns-clause-same c =
    let i = c.copying.invariant in
    sym (append-nil c.copying.copies.items) ∙ ap (λ (xs : List Leaf). c.copying.copies.items ++ xs) (sym (no_more c.copying.left.now c.in_default.ensures.cases)) ∙ i.0
