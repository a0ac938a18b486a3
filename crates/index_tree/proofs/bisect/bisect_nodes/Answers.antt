use Rattle.std.proofs.Common.{◌≡◌, ◌+◌, ◌-◌, ◌/◌, ◌<◌, ◌∙◌, true, nat_le, length, ap, sym, arith}
use Rattle.std.proofs.lemmas.Bool.Decides.{nat_tests}
use Rattle.index_tree.specs.declared.node.Node.TheViews.{out-Node}
use Rattle.index_tree.specs.Order.{key_rank}
use Rattle.index_tree.proofs.Bisection.{node_here}
use Rattle.index_tree.proofs.bisect.bisect_nodes.Goals as goal

pub loop-high-preserved-then-rank-at : goal.loop-high-preserved-then-rank-at
loop-high-preserved-then-rank-at c =
    let i = c.loop-high.low + (c.loop-high.high - c.loop-high.low) / 2 in
    let one = c.index-nodes-middle.result in
    let inside : i < length c.args.nodes.now = omega (arith, c.loop-high-test.true, c.loop-high.invariant.bound) in
    let here = node_here c.args.at c.args.nodes.now i one inside c.index-nodes-middle.is c.requires.first_keys c.requires.sound in
    let e : c.rank.result ≡ key_rank (out-Node one).first = c.rank.ensures ∙ ap (λ v. key_rank (out-Node v).first) (sym c.index-nodes-middle.is) in
    let t : nat_le (key_rank (out-Node one).first) c.args.at ≡ true = grind (arith, nat_tests, e, c.if-rank-at.true) in
    record { between = omega (arith, c.loop-high.invariant.between, c.loop-high-test.true); bound = c.loop-high.invariant.bound; begins = λ h. here ∙ t }
