use Rattle.std.proofs.Common.{◌≡◌, ◌∙◌, ap, sym, refl, arith, length, true, false}
use Rattle.std.proofs.Math.ListN.{set}
use Rattle.index_tree.specs.declared.node.Node.TheViews.{out-Node, out-roll-Node}
use Rattle.index_tree.proofs.OrderLaws.{ordered-left, ordered-right}
use Rattle.index_tree.specs.Removal.{holds}
use Rattle.index_tree.specs.Replacement.{replaced}
use Rattle.index_tree.specs.Shape.{contents, filled}
use Rattle.index_tree.specs.Sweep.{leaf_index}
use Rattle.index_tree.specs.Tree.{row, kept_all, leaves_before}
use Rattle.index_tree.proofs.TreeLaws.{cells, below-cells, below-contents, below-filled, below_is, below_made, below_lent, lent_items, kept_node}
use Rattle.index_tree.proofs.Removing.{holds-below}
use Rattle.index_tree.proofs.Sweeping.{replaced-here, replaced-past}
use Rattle.index_tree.proofs.+replacing.Goals as goal

pub node::Node::replace-place_of-requires : goal.node::Node::replace-place_of-requires
node::Node::replace-place_of-requires t c =
    let n = c.args.self.now in
    let old = c.args.old.now in
    let new = c.args.new in
    let L = (out-Node n).leaves.items in
    let ns = (out-Node n).nodes.items in
    record { ordered = rw c.as_slice.ensures.value (ordered-left 0 L (contents (row ns)) (rw (below-contents n) at c.requires.ordered)) }

pub node::Node::replace-keep_first-requires : goal.node::Node::replace-keep_first-requires
node::Node::replace-keep_first-requires t c =
    simp out-roll-Node (kept_node c.args.self.now c.requires.first_keys).inside

pub node::Node::replace-replace_among-replaced-requires : goal.node::Node::replace-replace_among-replaced-requires
node::Node::replace-replace_among-replaced-requires t c =
    let n = c.args.self.now in
    let old = c.args.old.now in
    let new = c.args.new in
    let L = (out-Node n).leaves.items in
    let ns = (out-Node n).nodes.items in
    let lent = c.as_mut_slice.ensures.value in
    let small = ap (λ v. cells (row v)) lent in
    (omega (arith, below-cells n, small), (ap kept_all lent ∙ (kept_node n c.requires.first_keys).inside, (ap (λ v. filled (row v)) lent ∙ sym (below-filled n) ∙ c.requires.sound, rw lent (ordered-right 0 L (contents (row ns)) (rw (below-contents n) at c.requires.ordered)))))

pub node::Node::replace-keep_first-requires-in-None : goal.node::Node::replace-keep_first-requires-in-None
node::Node::replace-keep_first-requires-in-None t c =
    let n = c.args.self.now in
    let old = c.args.old.now in
    let new = c.args.new in
    let L = (out-Node n).leaves.items in
    let ns = (out-Node n).nodes.items in
    let none : holds old L ≡ false = sym (rw c.as_slice.ensures.value at c.in-None.ensures.answer) in
    let lent = c.as_mut_slice.ensures.value in
    let ws = c.replace_among-replaced.new.nodes in
    let many : length ws ≡ length ns = c.replace_among-replaced.auto.nodes ∙ ap length lent in
    simp out-roll-Node (ap kept_all (lent_items n ws many) ∙ c.replace_among-replaced.ensures.first_keys_kept)

pub node::Node::replace-returns-in-Some-clause-answer : goal.node::Node::replace-returns-in-Some-clause-answer
node::Node::replace-returns-in-Some-clause-answer t c =
    let n = c.args.self.now in
    let old = c.args.old.now in
    let new = c.args.new in
    let L = (out-Node n).leaves.items in
    let ns = (out-Node n).nodes.items in
    let i = c.in-Some.i in
    let holding : holds old L ≡ true = sym (rw c.as_slice.ensures.value at c.in-Some.ensures.answer) in
    let place : i ≡ leaf_index old L = rw c.as_slice.ensures.value at c.in-Some.ensures.place in
    sym (holds-below old n ∙ rw holding refl)

pub node::Node::replace-returns-in-Some-clause-put : goal.node::Node::replace-returns-in-Some-clause-put
node::Node::replace-returns-in-Some-clause-put t c =
    let n = c.args.self.now in
    let old = c.args.old.now in
    let new = c.args.new in
    let L = (out-Node n).leaves.items in
    let ns = (out-Node n).nodes.items in
    let i = c.in-Some.i in
    let holding : holds old L ≡ true = sym (rw c.as_slice.ensures.value at c.in-Some.ensures.answer) in
    let place : i ≡ leaf_index old L = rw c.as_slice.ensures.value at c.in-Some.ensures.place in
    (simp below_made at c.keep_first.ensures.children) ∙ replaced-here old new L (set L i new) (row ns) i holding place refl ∙ sym (ap (λ v. replaced old new v) (below_is n))

pub node::Node::replace-returns-in-None-clause-answer : goal.node::Node::replace-returns-in-None-clause-answer
node::Node::replace-returns-in-None-clause-answer t c =
    let n = c.args.self.now in
    let old = c.args.old.now in
    let new = c.args.new in
    let L = (out-Node n).leaves.items in
    let ns = (out-Node n).nodes.items in
    let none : holds old L ≡ false = sym (rw c.as_slice.ensures.value at c.in-None.ensures.answer) in
    let lent = c.as_mut_slice.ensures.value in
    let ws = c.replace_among-replaced.new.nodes in
    let many : length ws ≡ length ns = c.replace_among-replaced.auto.nodes ∙ ap length lent in
    (rw lent at c.replace_among-replaced.ensures.answer) ∙ sym (holds-below old n ∙ rw none refl)

pub node::Node::replace-returns-in-None-clause-put : goal.node::Node::replace-returns-in-None-clause-put
node::Node::replace-returns-in-None-clause-put t c =
    let n = c.args.self.now in
    let old = c.args.old.now in
    let new = c.args.new in
    let L = (out-Node n).leaves.items in
    let ns = (out-Node n).nodes.items in
    let none : holds old L ≡ false = sym (rw c.as_slice.ensures.value at c.in-None.ensures.answer) in
    let lent = c.as_mut_slice.ensures.value in
    let ws = c.replace_among-replaced.new.nodes in
    let many : length ws ≡ length ns = c.replace_among-replaced.auto.nodes ∙ ap length lent in
    c.keep_first-in-None.ensures.children ∙ below_lent n ws many ∙ ap (λ v. leaves_before L v) (rw lent at c.replace_among-replaced.ensures.put) ∙ sym (ap (λ v. replaced old new v) (below_is n) ∙ replaced-past old new L (row ns) none)
