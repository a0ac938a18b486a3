use Rattle.std.proofs.Common.{◌≡◌, true, false, nat_le, ap, sym, ◌∙◌, arith}
use Rattle.std.proofs.lemmas.Bool.Decides.{nat_tests}
use Rattle.index_tree.specs.Order.{key_rank}
use Rattle.index_tree.specs.declared.node.Node.TheViews.{out-Node}
use Rattle.index_tree.proofs.Bisection.{place_behind}
use Rattle.index_tree.proofs.PlaceLaws.{next_place, last_place}
use Rattle.index_tree.proofs.insertion.node_place.Goals as goal

pub loop-i-init : goal.loop-i-init
loop-i-init c =
    let q = place_behind c.args.at c.nodes_passed-i.result c.args.nodes.now c.requires.some c.requires.sound c.requires.ordered c.nodes_passed-i.ensures.begins in
    record { place = q.place; bound = q.bound }

pub loop-i-preserved : goal.loop-i-preserved
loop-i-preserved c =
    let one = c.index-nodes-i.result in
    let s = next_place c.args.at c.args.nodes.now c.loop-i.i one c.loop-i-test.true c.index-nodes-i.is c.requires.first_keys c.requires.sound in
    let e : c.rank.result ≡ key_rank (out-Node one).first = c.rank.ensures ∙ ap (λ v. key_rank (out-Node v).first) (sym c.index-nodes-i.is) in
    let t : nat_le (key_rank (out-Node one).first) c.args.at ≡ true = grind (arith, nat_tests, e, c.if-rank-at.true) in
    let p = c.loop-i.invariant.place in
    let q = rw t at s in
    record { place = omega arith; bound = c.loop-i-test.true }

pub returns-else-rank-at-clause-place : goal.returns-else-rank-at-clause-place
returns-else-rank-at-clause-place c =
    let one = c.index-nodes-i.result in
    let s = next_place c.args.at c.args.nodes.now c.loop-i.i one c.loop-i-test.true c.index-nodes-i.is c.requires.first_keys c.requires.sound in
    let e : c.rank.result ≡ key_rank (out-Node one).first = c.rank.ensures ∙ ap (λ v. key_rank (out-Node v).first) (sym c.index-nodes-i.is) in
    let t : nat_le (key_rank (out-Node one).first) c.args.at ≡ false = grind (arith, nat_tests, e, c.if-rank-at.false) in
    let p = c.loop-i.invariant.place in
    let q = rw t at s in
    omega arith

pub returns-after-loop-i-clause-place : goal.returns-after-loop-i-clause-place
returns-after-loop-i-clause-place c =
    let s = last_place c.args.at c.args.nodes.now c.loop-i.i c.loop-i.invariant.bound c.loop-i-test.false in
    let p = c.loop-i.invariant.place in
    omega arith
