use Rattle.std.proofs.Common.{◌≡◌, ◌+◌, ◌-◌, ◌∙◌, true, nat_le, ap, sym, arith}
use Rattle.std.proofs.lemmas.Bool.Decides.{nat_tests}
use Rattle.index_tree.specs.declared.node.Node.TheViews.{out-Node}
use Rattle.index_tree.specs.Order.{key_rank}
use Rattle.index_tree.proofs.Bisection.{node_here}
use Rattle.index_tree.proofs.bisect.lower_nodes_passed.Goals as goal

pub loop-i-preserved : goal.loop-i-preserved
loop-i-preserved c =
    let at = c.args.at in
    let one = c.index-nodes-i.result in
    let here = node_here (at - 1) c.args.nodes.now (c.loop-i.i + 1) one c.loop-i-test.true c.index-nodes-i.is c.requires.first_keys c.requires.sound in
    let e : c.rank.result ≡ key_rank (out-Node one).first = c.rank.ensures ∙ ap (λ v. key_rank (out-Node v).first) (sym c.index-nodes-i.is) in
    let t : nat_le (key_rank (out-Node one).first) (at - 1) ≡ true = grind (arith, nat_tests, e, c.if-rank-at.true) in
    record { bound = omega (arith, c.loop-i-test.true); positive = λ h. omega (arith, c.if-rank-at.true); begins = λ h. here ∙ t }
