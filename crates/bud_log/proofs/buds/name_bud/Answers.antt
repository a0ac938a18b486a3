use Rattle.std.proofs.Common.{◌≡◌, ◌++◌, ◌<◌, List, length, take, drop, ap, sym, ◌∙◌, subst, rules}
use Rattle.bud_log.specs.Buds.{named_also}
use Rattle.bud_log.specs.NamedLaws.{named_there}
use Rattle.bud_log.specs.declared.head_at.HeadAt.{HeadAt}
use Rattle.bud_log.proofs.buds.name_bud.Goals as goal

pub returns-then-index-node : goal.returns-then-index-node
returns-then-index-node c =
    let items = c.loop-index.buds.items in
    let old = c.args.buds.now.items in
    let same : items ≡ old = ap (λ b. b.items) c.loop-index.invariant.0 in
    let P : List HeadAt → Type 0 = λ xs. named_also xs c.args.node ≡ take c.loop-index.index xs ++ named_also (drop c.loop-index.index xs) c.args.node in
    let inside : c.loop-index.index < length items = search rules in
    named_there items c.loop-index.index c.min.result c.index-then-index-node.result.now c.index_mut.result.now c.index.result.now c.args.node (subst P (sym same) c.loop-index.invariant.2) inside
    c.index-then-index-node.ensures c.index_mut.ensures.value c.index.ensures c.if-index-node.true c.min.ensures
    ∙ ap (λ (xs : List HeadAt). named_also xs c.args.node) same
