use Rattle.std.proofs.Common.{◌≡◌, ◌+◌, ◌∙◌, ap, sym, subst, refl, arith, suc, ◌++◌, take, drop, length, true, false}
use Rattle.index_tree.specs.declared.node.Node.TheViews.{out-Node, out-roll-Node}
use Rattle.index_tree.proofs.GrowthLaws.{node_fits}
use Rattle.index_tree.proofs.InsertLaws.{fits-filled}
use Rattle.index_tree.specs.Order.{ordered_from}
use Rattle.index_tree.proofs.OrderLaws.{ordered-left, ordered-right}
use Rattle.index_tree.specs.Removal.{holds, removed, tidied}
use Rattle.index_tree.proofs.RemovalLaws.{holds-append, removed-absent, absent_right}
use Rattle.index_tree.specs.Shape.{Shape, node, contents, node_count, shape_weight, fits}
use Rattle.index_tree.specs.Sweep.{swept, leaf_index}
use Rattle.index_tree.specs.Tree.{below, row, kept_all, leaves_before}
use Rattle.index_tree.proofs.TreeLaws.{cells, below-cells, below-contents, below_is, below_made, below_lent, kept_lent, lent_items, kept_node}
use Rattle.index_tree.proofs.Inserting.{leaves-nodes, leaves-weight, below-nodes, below-weight, below-fits}
use Rattle.index_tree.proofs.Removing.{holds-below}
use Rattle.index_tree.proofs.Sweeping.{swept-same, swept-head, swept-leaves, removed-here, removed-past}
use Rattle.index_tree.proofs.+removing.Goals as goal

pub node::Node::remove-place_of-requires : goal.node::Node::remove-place_of-requires
node::Node::remove-place_of-requires t c =
    let n = c.args.self.now in
    let f = c.args.fanout in
    let gone = c.args.gone.now in
    let L = (out-Node n).leaves.items in
    let ns = (out-Node n).nodes.items in
    record { ordered = rw c.as_slice.ensures.value (ordered-left 0 L (contents (row ns)) (rw (below-contents n) at c.requires.ordered)) }

pub node::Node::remove-keep_first-requires : goal.node::Node::remove-keep_first-requires
node::Node::remove-keep_first-requires t c =
    simp out-roll-Node (kept_node c.args.self.now c.requires.first_keys).inside

pub node::Node::remove-remove_among-requires : goal.node::Node::remove-remove_among-requires
node::Node::remove-remove_among-requires t c =
    let n = c.args.self.now in
    let f = c.args.fanout in
    let gone = c.args.gone.now in
    let L = (out-Node n).leaves.items in
    let ns = (out-Node n).nodes.items in
    let lent = c.as_mut_slice.ensures.value in
    let small = ap (λ v. cells (row v)) lent in
    let size = ap (λ v. node_count (row v)) lent in
    let heft : shape_weight f (row c.as_mut_slice.result.now) ≡ shape_weight f (row ns) = ap (λ v. shape_weight f (row v)) lent in
    (omega (arith, below-cells n, small), (c.requires.least, (ap (λ v. fits f (row v)) lent ∙ sym (below-fits f n) ∙ c.requires.sound, (ap kept_all lent ∙ (kept_node n c.requires.first_keys).inside, (rw lent (ordered-right 0 L (contents (row ns)) (rw (below-contents n) at c.requires.ordered)), (omega (arith, size, below-nodes n), omega (arith, heft, below-weight f n)))))))

pub node::Node::remove-returns-in-Some-clause-answer : goal.node::Node::remove-returns-in-Some-clause-answer
node::Node::remove-returns-in-Some-clause-answer t c =
    let n = c.args.self.now in
    let f = c.args.fanout in
    let gone = c.args.gone.now in
    let L = (out-Node n).leaves.items in
    let ns = (out-Node n).nodes.items in
    let i = c.in-Some.i in
    let holding : holds gone L ≡ true = sym (rw c.as_slice.ensures.value at c.in-Some.ensures.answer) in
    let items : c.remove.new.self.items ≡ take i L ++ drop (suc i) L = c.remove.ensures.items in
    let place : i ≡ leaf_index gone L = rw c.as_slice.ensures.value at c.in-Some.ensures.place in
    let shape : below c.keep_first.new.self ≡ removed gone (below n) = (simp below_made at c.keep_first.ensures.children) ∙ removed-here gone L c.remove.new.self.items (row ns) i holding place items ∙ sym (ap (λ v. removed gone v) (below_is n)) in
    sym (holds-below gone n ∙ rw holding refl)

pub node::Node::remove-returns-in-Some-clause-taken_out : goal.node::Node::remove-returns-in-Some-clause-taken_out
node::Node::remove-returns-in-Some-clause-taken_out t c =
    let n = c.args.self.now in
    let f = c.args.fanout in
    let gone = c.args.gone.now in
    let L = (out-Node n).leaves.items in
    let ns = (out-Node n).nodes.items in
    let i = c.in-Some.i in
    let holding : holds gone L ≡ true = sym (rw c.as_slice.ensures.value at c.in-Some.ensures.answer) in
    let items : c.remove.new.self.items ≡ take i L ++ drop (suc i) L = c.remove.ensures.items in
    let place : i ≡ leaf_index gone L = rw c.as_slice.ensures.value at c.in-Some.ensures.place in
    let shape : below c.keep_first.new.self ≡ removed gone (below n) = (simp below_made at c.keep_first.ensures.children) ∙ removed-here gone L c.remove.new.self.items (row ns) i holding place items ∙ sym (ap (λ v. removed gone v) (below_is n)) in
    shape

pub node::Node::remove-returns-in-Some-clause-nodes : goal.node::Node::remove-returns-in-Some-clause-nodes
node::Node::remove-returns-in-Some-clause-nodes t c =
    let n = c.args.self.now in
    let f = c.args.fanout in
    let gone = c.args.gone.now in
    let L = (out-Node n).leaves.items in
    let ns = (out-Node n).nodes.items in
    let i = c.in-Some.i in
    let holding : holds gone L ≡ true = sym (rw c.as_slice.ensures.value at c.in-Some.ensures.answer) in
    let items : c.remove.new.self.items ≡ take i L ++ drop (suc i) L = c.remove.ensures.items in
    let place : i ≡ leaf_index gone L = rw c.as_slice.ensures.value at c.in-Some.ensures.place in
    let shape : below c.keep_first.new.self ≡ removed gone (below n) = (simp below_made at c.keep_first.ensures.children) ∙ removed-here gone L c.remove.new.self.items (row ns) i holding place items ∙ sym (ap (λ v. removed gone v) (below_is n)) in
    let size = ap node_count (simp below_made at c.keep_first.ensures.children) in
    omega (arith, size, below-nodes n, leaves-nodes c.remove.new.self.items (row ns))

pub node::Node::remove-returns-in-Some-clause-weight : goal.node::Node::remove-returns-in-Some-clause-weight
node::Node::remove-returns-in-Some-clause-weight t c =
    let n = c.args.self.now in
    let f = c.args.fanout in
    let gone = c.args.gone.now in
    let L = (out-Node n).leaves.items in
    let ns = (out-Node n).nodes.items in
    let i = c.in-Some.i in
    let holding : holds gone L ≡ true = sym (rw c.as_slice.ensures.value at c.in-Some.ensures.answer) in
    let items : c.remove.new.self.items ≡ take i L ++ drop (suc i) L = c.remove.ensures.items in
    let place : i ≡ leaf_index gone L = rw c.as_slice.ensures.value at c.in-Some.ensures.place in
    let shape : below c.keep_first.new.self ≡ removed gone (below n) = (simp below_made at c.keep_first.ensures.children) ∙ removed-here gone L c.remove.new.self.items (row ns) i holding place items ∙ sym (ap (λ v. removed gone v) (below_is n)) in
    let size : shape_weight f (below c.keep_first.new.self) ≡ shape_weight f (leaves_before c.remove.new.self.items (row ns)) = ap (λ v. shape_weight f v) (simp below_made at c.keep_first.ensures.children) in
    omega (arith, size, below-weight f n, leaves-weight f c.remove.new.self.items (row ns))

pub node::Node::remove-returns-else-remove_among-clause-answer : goal.node::Node::remove-returns-else-remove_among-clause-answer
node::Node::remove-returns-else-remove_among-clause-answer t c =
    let n = c.args.self.now in
    let f = c.args.fanout in
    let gone = c.args.gone.now in
    let L = (out-Node n).leaves.items in
    let ns = (out-Node n).nodes.items in
    let none : holds gone L ≡ false = sym (rw c.as_slice.ensures.value at c.in-None.ensures.answer) in
    let lent = c.as_mut_slice.ensures.value in
    let new = c.remove_among.new.nodes in
    let many : length new ≡ length ns = c.remove_among.auto.nodes ∙ ap length lent in
    let same : row new ≡ row ns = c.remove_among.ensures.unchanged c.if-remove_among.false ∙ ap row lent in
    let absent : holds gone (contents (below n)) ≡ false = holds-below gone n ∙ rw none (sym (rw lent at c.remove_among.ensures.answer) ∙ c.if-remove_among.false) in
    sym absent

pub node::Node::remove-returns-else-remove_among-clause-first_keys_kept : goal.node::Node::remove-returns-else-remove_among-clause-first_keys_kept
node::Node::remove-returns-else-remove_among-clause-first_keys_kept t c =
    let n = c.args.self.now in
    let f = c.args.fanout in
    let gone = c.args.gone.now in
    let L = (out-Node n).leaves.items in
    let ns = (out-Node n).nodes.items in
    let none : holds gone L ≡ false = sym (rw c.as_slice.ensures.value at c.in-None.ensures.answer) in
    let lent = c.as_mut_slice.ensures.value in
    let new = c.remove_among.new.nodes in
    let many : length new ≡ length ns = c.remove_among.auto.nodes ∙ ap length lent in
    let same : row new ≡ row ns = c.remove_among.ensures.unchanged c.if-remove_among.false ∙ ap row lent in
    let absent : holds gone (contents (below n)) ≡ false = holds-below gone n ∙ rw none (sym (rw lent at c.remove_among.ensures.answer) ∙ c.if-remove_among.false) in
    kept_lent n new many c.requires.first_keys same c.remove_among.ensures.first_keys_kept

pub node::Node::remove-returns-else-remove_among-clause-taken_out : goal.node::Node::remove-returns-else-remove_among-clause-taken_out
node::Node::remove-returns-else-remove_among-clause-taken_out t c =
    let n = c.args.self.now in
    let f = c.args.fanout in
    let gone = c.args.gone.now in
    let L = (out-Node n).leaves.items in
    let ns = (out-Node n).nodes.items in
    let none : holds gone L ≡ false = sym (rw c.as_slice.ensures.value at c.in-None.ensures.answer) in
    let lent = c.as_mut_slice.ensures.value in
    let new = c.remove_among.new.nodes in
    let many : length new ≡ length ns = c.remove_among.auto.nodes ∙ ap length lent in
    let same : row new ≡ row ns = c.remove_among.ensures.unchanged c.if-remove_among.false ∙ ap row lent in
    let absent : holds gone (contents (below n)) ≡ false = holds-below gone n ∙ rw none (sym (rw lent at c.remove_among.ensures.answer) ∙ c.if-remove_among.false) in
    below_lent n new many ∙ ap (λ v. leaves_before L v) same ∙ sym (below_is n) ∙ sym (removed-absent gone (below n) absent)

pub node::Node::remove-returns-else-remove_among-clause-nodes : goal.node::Node::remove-returns-else-remove_among-clause-nodes
node::Node::remove-returns-else-remove_among-clause-nodes t c =
    let n = c.args.self.now in
    let f = c.args.fanout in
    let gone = c.args.gone.now in
    let L = (out-Node n).leaves.items in
    let ns = (out-Node n).nodes.items in
    let none : holds gone L ≡ false = sym (rw c.as_slice.ensures.value at c.in-None.ensures.answer) in
    let lent = c.as_mut_slice.ensures.value in
    let new = c.remove_among.new.nodes in
    let many : length new ≡ length ns = c.remove_among.auto.nodes ∙ ap length lent in
    let same : row new ≡ row ns = c.remove_among.ensures.unchanged c.if-remove_among.false ∙ ap row lent in
    let absent : holds gone (contents (below n)) ≡ false = holds-below gone n ∙ rw none (sym (rw lent at c.remove_among.ensures.answer) ∙ c.if-remove_among.false) in
    let size = ap node_count (below_lent n new many) in
    let more : c.remove_among.new.counts.nodes + node_count (row ns) ≡ c.args.counts.now.nodes + node_count (row new) = rw lent at c.remove_among.ensures.nodes in
    omega (arith, size, more, below-nodes n, leaves-nodes L (row new))

pub node::Node::remove-returns-else-remove_among-clause-weight : goal.node::Node::remove-returns-else-remove_among-clause-weight
node::Node::remove-returns-else-remove_among-clause-weight t c =
    let n = c.args.self.now in
    let f = c.args.fanout in
    let gone = c.args.gone.now in
    let L = (out-Node n).leaves.items in
    let ns = (out-Node n).nodes.items in
    let none : holds gone L ≡ false = sym (rw c.as_slice.ensures.value at c.in-None.ensures.answer) in
    let lent = c.as_mut_slice.ensures.value in
    let new = c.remove_among.new.nodes in
    let many : length new ≡ length ns = c.remove_among.auto.nodes ∙ ap length lent in
    let same : row new ≡ row ns = c.remove_among.ensures.unchanged c.if-remove_among.false ∙ ap row lent in
    let absent : holds gone (contents (below n)) ≡ false = holds-below gone n ∙ rw none (sym (rw lent at c.remove_among.ensures.answer) ∙ c.if-remove_among.false) in
    let size = ap (λ v. shape_weight f v) (below_lent n new many) in
    let more : c.remove_among.new.counts.weight + shape_weight f (row ns) ≡ c.args.counts.now.weight + shape_weight f (row new) = rw lent at c.remove_among.ensures.weight in
    omega (arith, size, more, below-weight f n, leaves-weight f L (row new))

pub node::Node::remove-sweep-requires-clause-first_keys : goal.node::Node::remove-sweep-requires-clause-first_keys
node::Node::remove-sweep-requires-clause-first_keys t c =
    let n = c.args.self.now in
    let f = c.args.fanout in
    let gone = c.args.gone.now in
    let L = (out-Node n).leaves.items in
    let ns = (out-Node n).nodes.items in
    let none : holds gone L ≡ false = sym (rw c.as_slice.ensures.value at c.in-None.ensures.answer) in
    let lent = c.as_mut_slice.ensures.value in
    let new = c.remove_among.new.nodes in
    let many : length new ≡ length ns = c.remove_among.auto.nodes ∙ ap length lent in
    simp out-roll-Node (ap kept_all (lent_items n new many) ∙ c.remove_among.ensures.first_keys_kept)

pub node::Node::remove-sweep-requires-clause-nodes_there : goal.node::Node::remove-sweep-requires-clause-nodes_there
node::Node::remove-sweep-requires-clause-nodes_there t c =
    let n = c.args.self.now in
    let f = c.args.fanout in
    let gone = c.args.gone.now in
    let L = (out-Node n).leaves.items in
    let ns = (out-Node n).nodes.items in
    let none : holds gone L ≡ false = sym (rw c.as_slice.ensures.value at c.in-None.ensures.answer) in
    let lent = c.as_mut_slice.ensures.value in
    let new = c.remove_among.new.nodes in
    let many : length new ≡ length ns = c.remove_among.auto.nodes ∙ ap length lent in
    let size = ap node_count (below_lent n new many) in
    let more : c.remove_among.new.counts.nodes + node_count (row ns) ≡ c.args.counts.now.nodes + node_count (row new) = rw lent at c.remove_among.ensures.nodes in
    omega (arith, size, more, below-nodes n, leaves-nodes L (row new))

pub node::Node::remove-sweep-requires-clause-weight_there : goal.node::Node::remove-sweep-requires-clause-weight_there
node::Node::remove-sweep-requires-clause-weight_there t c =
    let n = c.args.self.now in
    let f = c.args.fanout in
    let gone = c.args.gone.now in
    let L = (out-Node n).leaves.items in
    let ns = (out-Node n).nodes.items in
    let none : holds gone L ≡ false = sym (rw c.as_slice.ensures.value at c.in-None.ensures.answer) in
    let lent = c.as_mut_slice.ensures.value in
    let new = c.remove_among.new.nodes in
    let many : length new ≡ length ns = c.remove_among.auto.nodes ∙ ap length lent in
    let size = ap (λ v. shape_weight f v) (below_lent n new many) in
    let more : c.remove_among.new.counts.weight + shape_weight f (row ns) ≡ c.args.counts.now.weight + shape_weight f (row new) = rw lent at c.remove_among.ensures.weight in
    omega (arith, size, more, below-weight f n, leaves-weight f L (row new))

pub node::Node::remove-returns-then-remove_among-clause-answer : goal.node::Node::remove-returns-then-remove_among-clause-answer
node::Node::remove-returns-then-remove_among-clause-answer t c =
    let n = c.args.self.now in
    let f = c.args.fanout in
    let gone = c.args.gone.now in
    let L = (out-Node n).leaves.items in
    let ns = (out-Node n).nodes.items in
    let none : holds gone L ≡ false = sym (rw c.as_slice.ensures.value at c.in-None.ensures.answer) in
    let lent = c.as_mut_slice.ensures.value in
    let new = c.remove_among.new.nodes in
    let many : length new ≡ length ns = c.remove_among.auto.nodes ∙ ap length lent in
    let taken : swept (row new) ≡ removed gone (row ns) = rw lent at c.remove_among.ensures.taken_out in
    let shape : below c.sweep.new.self ≡ removed gone (below n) = c.sweep.ensures.swept ∙ ap swept (below_lent n new many) ∙ swept-leaves L (row new) ∙ ap (λ v. leaves_before L v) taken ∙ sym (ap (λ v. removed gone v) (below_is n) ∙ removed-past gone L (row ns) none) in
    sym (holds-below gone n ∙ rw none (sym (rw lent at c.remove_among.ensures.answer) ∙ c.if-remove_among.true))

pub node::Node::remove-returns-then-remove_among-clause-taken_out : goal.node::Node::remove-returns-then-remove_among-clause-taken_out
node::Node::remove-returns-then-remove_among-clause-taken_out t c =
    let n = c.args.self.now in
    let f = c.args.fanout in
    let gone = c.args.gone.now in
    let L = (out-Node n).leaves.items in
    let ns = (out-Node n).nodes.items in
    let none : holds gone L ≡ false = sym (rw c.as_slice.ensures.value at c.in-None.ensures.answer) in
    let lent = c.as_mut_slice.ensures.value in
    let new = c.remove_among.new.nodes in
    let many : length new ≡ length ns = c.remove_among.auto.nodes ∙ ap length lent in
    let taken : swept (row new) ≡ removed gone (row ns) = rw lent at c.remove_among.ensures.taken_out in
    let shape : below c.sweep.new.self ≡ removed gone (below n) = c.sweep.ensures.swept ∙ ap swept (below_lent n new many) ∙ swept-leaves L (row new) ∙ ap (λ v. leaves_before L v) taken ∙ sym (ap (λ v. removed gone v) (below_is n) ∙ removed-past gone L (row ns) none) in
    shape

pub node::Node::remove-returns-then-remove_among-clause-nodes : goal.node::Node::remove-returns-then-remove_among-clause-nodes
node::Node::remove-returns-then-remove_among-clause-nodes t c =
    let n = c.args.self.now in
    let f = c.args.fanout in
    let gone = c.args.gone.now in
    let L = (out-Node n).leaves.items in
    let ns = (out-Node n).nodes.items in
    let none : holds gone L ≡ false = sym (rw c.as_slice.ensures.value at c.in-None.ensures.answer) in
    let lent = c.as_mut_slice.ensures.value in
    let new = c.remove_among.new.nodes in
    let many : length new ≡ length ns = c.remove_among.auto.nodes ∙ ap length lent in
    let taken : swept (row new) ≡ removed gone (row ns) = rw lent at c.remove_among.ensures.taken_out in
    let shape : below c.sweep.new.self ≡ removed gone (below n) = c.sweep.ensures.swept ∙ ap swept (below_lent n new many) ∙ swept-leaves L (row new) ∙ ap (λ v. leaves_before L v) taken ∙ sym (ap (λ v. removed gone v) (below_is n) ∙ removed-past gone L (row ns) none) in
    let size = ap node_count (below_lent n new many) in
    let more : c.remove_among.new.counts.nodes + node_count (row ns) ≡ c.args.counts.now.nodes + node_count (row new) = rw lent at c.remove_among.ensures.nodes in
    omega (arith, size, more, below-nodes n, leaves-nodes L (row new), c.sweep.ensures.nodes)

pub node::Node::remove-returns-then-remove_among-clause-weight : goal.node::Node::remove-returns-then-remove_among-clause-weight
node::Node::remove-returns-then-remove_among-clause-weight t c =
    let n = c.args.self.now in
    let f = c.args.fanout in
    let gone = c.args.gone.now in
    let L = (out-Node n).leaves.items in
    let ns = (out-Node n).nodes.items in
    let none : holds gone L ≡ false = sym (rw c.as_slice.ensures.value at c.in-None.ensures.answer) in
    let lent = c.as_mut_slice.ensures.value in
    let new = c.remove_among.new.nodes in
    let many : length new ≡ length ns = c.remove_among.auto.nodes ∙ ap length lent in
    let taken : swept (row new) ≡ removed gone (row ns) = rw lent at c.remove_among.ensures.taken_out in
    let shape : below c.sweep.new.self ≡ removed gone (below n) = c.sweep.ensures.swept ∙ ap swept (below_lent n new many) ∙ swept-leaves L (row new) ∙ ap (λ v. leaves_before L v) taken ∙ sym (ap (λ v. removed gone v) (below_is n) ∙ removed-past gone L (row ns) none) in
    let size = ap (λ v. shape_weight f v) (below_lent n new many) in
    let more : c.remove_among.new.counts.weight + shape_weight f (row ns) ≡ c.args.counts.now.weight + shape_weight f (row new) = rw lent at c.remove_among.ensures.weight in
    omega (arith, size, more, below-weight f n, leaves-weight f L (row new), c.sweep.ensures.weight)

pub removal::remove_among-returns-then-remove-clause-taken_out : goal.removal::remove_among-returns-then-remove-clause-taken_out
removal::remove_among-returns-then-remove-clause-taken_out t c =
    let xs = c.args.nodes.now in
    let f = c.args.fanout in
    let gone = c.args.gone.now in
    let one = c.in-Some.one.now in
    let rest = c.in-Some.rest.now in
    let is : row xs ≡ node (below one) (row rest) = ap row c.in-Some.ensures.cases.0 in
    let S : Shape → Type 0 = λ v. fits f v ≡ true in
    let p = node_fits f (below one) (row rest) (subst S is c.requires.sound) in
    let here : holds gone (contents (below one)) ≡ true = sym c.remove.ensures.answer ∙ c.if-remove.true in
    swept-head f (below c.remove.new.self) (row rest) p.others ∙ ap (λ v. tidied (node v (row rest))) c.remove.ensures.taken_out ∙ sym (ap (λ v. removed gone v) is ∙ rw here refl)

pub removal::remove_among-returns-else-begins_within-clause-taken_out : goal.removal::remove_among-returns-else-begins_within-clause-taken_out
removal::remove_among-returns-else-begins_within-clause-taken_out t c =
    let xs = c.args.nodes.now in
    let f = c.args.fanout in
    let gone = c.args.gone.now in
    let one = c.in-Some.one.now in
    let rest = c.in-Some.rest.now in
    let is : row xs ≡ node (below one) (row rest) = ap row c.in-Some.ensures.cases.0 in
    let S : Shape → Type 0 = λ v. fits f v ≡ true in
    let p = node_fits f (below one) (row rest) (subst S is c.requires.sound) in
    let O : Shape → Type 0 = λ v. ordered_from 0 (contents v) ≡ true in
    let left : holds gone (contents (below one)) ≡ false = sym c.remove.ensures.answer ∙ c.if-remove.false in
    let right = absent_right gone (below one) (row rest) (fits-filled f (row rest) p.others) (subst O is c.requires.ordered) (sym (rw c.rank-in-Some.ensures at c.begins_within.ensures) ∙ c.if-begins_within.false) in
    let absent : holds gone (contents (node (below one) (row rest))) ≡ false = holds-append gone (contents (below one)) (contents (row rest)) ∙ rw left right in
    ap (λ v. swept (node v (row rest))) (c.remove.ensures.taken_out ∙ removed-absent gone (below one) left) ∙ swept-same f (node (below one) (row rest)) (subst S is c.requires.sound) ∙ sym (removed-absent gone (node (below one) (row rest)) absent) ∙ sym (ap (λ v. removed gone v) is)
