use Rattle.std.proofs.Common.{◌≡◌, List, length, ap, sym, ◌∙◌, subst, arith, rules}
use Rattle.leb_scan.specs.declared.found.Found.{Found}
use Rattle.journal_scan.specs.declared.journal_node.JournalNode.{JournalNode}
use Rattle.journal_scan.proofs.Seen.{AreSeen, seen_other, seen_within, seen_last, seen_all}
use Rattle.journal_scan.proofs.leaves.leaves_of.Goals as goal

pub loop-found-preserved-then-found-ne-IN_GROUP : goal.loop-found-preserved-then-found-ne-IN_GROUP
loop-found-preserved-then-found-ne-IN_GROUP c =
    let P : List Found → Type 0 = λ rest. AreSeen c.args.bud.now c.args.founds.items rest c.loop-found.nodes.items c.loop-found.whole in
    let s = subst P c.in-Some.ensures.steps.0 c.loop-found.invariant in
    let there = rw c.in-Some-2.is at c.in_ok-node.ensures.some in
    let Q : List JournalNode → Type 0 = λ seen. AreSeen c.args.bud.now c.args.founds.items c.next.new.self.rest.items seen c.len-whole.result in
    let last = c.if-found-ne-IN_GROUP.true in
    let long : c.len-whole.result ≡ length c.push.new.self.items = search (rules, c.len-whole.ensures) in
    subst Q (sym c.in_ok-push.ensures.items)
    (seen_last c.args.bud.now c.args.founds.items c.next.new.self.rest.items c.in-Some.found c.loop-found.nodes.items c.in-Some-2.node there.0 there.1 there.2 c.loop-found.whole c.len-whole.result s
    (λ e. absurd (omega (arith, e, last))) (long ∙ ap length c.in_ok-push.ensures.items))

pub loop-found-preserved-else-found-ne-IN_GROUP : goal.loop-found-preserved-else-found-ne-IN_GROUP
loop-found-preserved-else-found-ne-IN_GROUP c =
    let P : List Found → Type 0 = λ rest. AreSeen c.args.bud.now c.args.founds.items rest c.loop-found.nodes.items c.loop-found.whole in
    let s = subst P c.in-Some.ensures.steps.0 c.loop-found.invariant in
    let there = rw c.in-Some-2.is at c.in_ok-node.ensures.some in
    let Q : List JournalNode → Type 0 = λ seen. AreSeen c.args.bud.now c.args.founds.items c.next.new.self.rest.items seen c.loop-found.whole in
    let inside = c.if-found-ne-IN_GROUP.false in
    subst Q (sym c.in_ok-push.ensures.items)
    (seen_within c.args.bud.now c.args.founds.items c.next.new.self.rest.items c.in-Some.found c.loop-found.nodes.items c.in-Some-2.node there.0 there.1 there.2 c.loop-found.whole s (omega (arith, inside)))

pub loop-found-preserved : goal.loop-found-preserved
loop-found-preserved c =
    let P : List Found → Type 0 = λ rest. AreSeen c.args.bud.now c.args.founds.items rest c.loop-found.nodes.items c.loop-found.whole in
    let s = subst P c.in-Some.ensures.steps.0 c.loop-found.invariant in
    seen_other c.args.bud.now c.args.founds.items c.next.new.self.rest.items c.in-Some.found c.loop-found.nodes.items c.loop-found.whole s (rw c.in_default.is at c.in_ok-node.ensures.none)

pub returns : goal.returns
returns c =
    let none = c.in-None.ensures.steps.0 in
    seen_all c.args.bud.now c.args.founds.items c.loop-found.found-iterator.rest.items c.loop-found.nodes.items c.loop-found.whole c.loop-found.invariant (omega (arith, none))
