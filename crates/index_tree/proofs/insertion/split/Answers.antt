use Rattle.std.proofs.Common.{◌≡◌, ◌+◌, ◌-◌, ◌/◌, ◌∙◌, ap, take, drop, length, arith}
use Rattle.index_tree.specs.declared.node.Node.TheViews.{out-Node, out-roll-Node}
use Rattle.index_tree.specs.Shape.{left_half}
use Rattle.index_tree.proofs.PlaceLaws.{cut_left, cut_right, kept-take, kept-drop}
use Rattle.index_tree.proofs.insertion.split.Goals as goal

pub keep_first-requires : goal.keep_first-requires
keep_first-requires c =
    simp (out-roll-Node, c.move_tail-2.ensures.left) (kept-take c.saturating_sub-left.result (out-Node c.args.one.now).nodes.items c.requires.first_keys)

pub keep_first-requires-2 : goal.keep_first-requires-2
keep_first-requires-2 c =
    simp (out-roll-Node, c.move_tail-2.ensures.moved) (kept-drop c.saturating_sub-left.result (out-Node c.args.one.now).nodes.items c.requires.first_keys)

pub returns-clause-left : goal.returns-clause-left
returns-clause-left c =
    let n = c.args.one.now in
    let f = c.args.fanout in
    let h : f / 2 + 1 ≡ left_half f = omega arith in
    let rest : c.saturating_sub-left.result ≡ left_half f - length (out-Node n).leaves.items = omega (arith, (out-Node n).leaves.ok.0, c.len.ensures, c.saturating_sub-left.ensures) in
    let l : c.move_tail.new.from.items ≡ take (f / 2 + 1) (out-Node n).leaves.items = c.move_tail.ensures.left in
    let m : c.move_tail-2.new.from.items ≡ take c.saturating_sub-left.result (out-Node n).nodes.items = simp out-roll-Node at c.move_tail-2.ensures.left in
    let cut = cut_left (left_half f) n (record { first = (out-Node n).first; leaves = c.move_tail.new.from; nodes = c.move_tail-2.new.from }) (l ∙ ap (λ k. take k (out-Node n).leaves.items) h) (m ∙ ap (λ k. take k (out-Node n).nodes.items) rest) in
    (simp out-roll-Node at c.keep_first.ensures.children) ∙ cut

pub returns-clause-right : goal.returns-clause-right
returns-clause-right c =
    let n = c.args.one.now in
    let f = c.args.fanout in
    let h : f / 2 + 1 ≡ left_half f = omega arith in
    let rest : c.saturating_sub-left.result ≡ left_half f - length (out-Node n).leaves.items = omega (arith, (out-Node n).leaves.ok.0, c.len.ensures, c.saturating_sub-left.ensures) in
    let l : c.move_tail.new.to.items ≡ drop (f / 2 + 1) (out-Node n).leaves.items = c.move_tail.ensures.moved in
    let m : c.move_tail-2.new.to.items ≡ drop c.saturating_sub-left.result (out-Node n).nodes.items = simp out-roll-Node at c.move_tail-2.ensures.moved in
    let cut = cut_right (left_half f) n (record { first = (out-Node c.args.spare).first; leaves = c.move_tail.new.to; nodes = c.move_tail-2.new.to }) (l ∙ ap (λ k. drop k (out-Node n).leaves.items) h) (m ∙ ap (λ k. drop k (out-Node n).nodes.items) rest) in
    c.keep_first-2.ensures.children ∙ cut
