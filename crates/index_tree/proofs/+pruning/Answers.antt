use Rattle.std.proofs.Common.{◌≡◌, ◌+◌, ◌∙◌, ap, sym, subst, arith, List, length, true}
use Rattle.std.specs.Vec.{with_items}
use Rattle.index_tree.specs.declared.node.Node.{Node}
use Rattle.index_tree.specs.declared.node.Node.TheViews.{out-Node, out-roll-Node}
use Rattle.index_tree.proofs.GrowthLaws.{node_fits}
use Rattle.index_tree.proofs.InsertLaws.{fits-filled}
use Rattle.index_tree.proofs.OrderLaws.{ordered-right}
use Rattle.index_tree.specs.RangeRemoval.{pruned, within_range, outside_range}
use Rattle.index_tree.proofs.RangeSkips.{range_behind, range_below, tidied-filled}
use Rattle.index_tree.specs.Removal.{tidied}
use Rattle.index_tree.specs.Shape.{Shape, node, contents, node_count, shape_weight, fits}
use Rattle.index_tree.specs.Sweep.{swept}
use Rattle.index_tree.specs.Tree.{below, row, kept_all, leaves_before}
use Rattle.index_tree.proofs.TreeLaws.{cells, below-cells, below-contents, below_is, below_made, lent_items, kept_cons, kept_node}
use Rattle.index_tree.proofs.Inserting.{leaves-nodes, leaves-weight, below-nodes, below-weight, below-fits}
use Rattle.index_tree.proofs.Pruning.{pruned_ready, pruned-leaves, range-below}
use Rattle.index_tree.proofs.Removing.{Ready, node_left, node_right}
use Rattle.index_tree.proofs.Sweeping.{swept-head, swept-leaves}
use Rattle.index_tree.proofs.+pruning.Goals as goal

pub range_removal::prune_among-begins_below-requires-clause-sound : goal.range_removal::prune_among-begins_below-requires-clause-sound
range_removal::prune_among-begins_below-requires-clause-sound t c =
    let xs = c.args.nodes.now in
    let f = c.args.fanout in
    let from = c.args.from in
    let to = c.args.to in
    let one = c.in-Some.one.now in
    let rest = c.in-Some.rest.now in
    let is : row xs ≡ node (below one) (row rest) = ap row c.in-Some.ensures.cases.0 in
    let K : List Node → Type 0 = λ v. kept_all v ≡ true in
    let k = kept_cons one rest (subst K c.in-Some.ensures.cases.0 c.requires.first_keys) in
    let S : Shape → Type 0 = λ v. fits f v ≡ true in
    let p = node_fits f (below one) (row rest) (subst S is c.requires.sound) in
    let full = fits-filled f (row xs) c.requires.sound in
    let n = c.args.counts.now.nodes in
    let w = c.args.counts.now.weight in
    let r : Ready f n w (row xs) = record { sound = c.requires.sound; ordered = c.requires.ordered; nodes_there = c.requires.nodes_there; weight_there = c.requires.weight_there } in
    let m = ap cells is in
    fits-filled f (row rest) p.others

pub range_removal::prune_among-begins_within-requires-clause-sound : goal.range_removal::prune_among-begins_within-requires-clause-sound
range_removal::prune_among-begins_within-requires-clause-sound t c =
    let xs = c.args.nodes.now in
    let f = c.args.fanout in
    let from = c.args.from in
    let to = c.args.to in
    let one = c.in-Some.one.now in
    let rest = c.in-Some.rest.now in
    let is : row xs ≡ node (below one) (row rest) = ap row c.in-Some.ensures.cases.0 in
    let K : List Node → Type 0 = λ v. kept_all v ≡ true in
    let k = kept_cons one rest (subst K c.in-Some.ensures.cases.0 c.requires.first_keys) in
    let S : Shape → Type 0 = λ v. fits f v ≡ true in
    let p = node_fits f (below one) (row rest) (subst S is c.requires.sound) in
    let full = fits-filled f (row xs) c.requires.sound in
    let n = c.args.counts.now.nodes in
    let w = c.args.counts.now.weight in
    let r : Ready f n w (row xs) = record { sound = c.requires.sound; ordered = c.requires.ordered; nodes_there = c.requires.nodes_there; weight_there = c.requires.weight_there } in
    let m = ap cells is in
    fits-filled f (row rest) p.others

pub range_removal::prune_among-prune_among-requires : goal.range_removal::prune_among-prune_among-requires
range_removal::prune_among-prune_among-requires t c =
    let xs = c.args.nodes.now in
    let f = c.args.fanout in
    let from = c.args.from in
    let to = c.args.to in
    let one = c.in-Some.one.now in
    let rest = c.in-Some.rest.now in
    let is : row xs ≡ node (below one) (row rest) = ap row c.in-Some.ensures.cases.0 in
    let K : List Node → Type 0 = λ v. kept_all v ≡ true in
    let k = kept_cons one rest (subst K c.in-Some.ensures.cases.0 c.requires.first_keys) in
    let S : Shape → Type 0 = λ v. fits f v ≡ true in
    let p = node_fits f (below one) (row rest) (subst S is c.requires.sound) in
    let full = fits-filled f (row xs) c.requires.sound in
    let n = c.args.counts.now.nodes in
    let w = c.args.counts.now.weight in
    let r : Ready f n w (row xs) = record { sound = c.requires.sound; ordered = c.requires.ordered; nodes_there = c.requires.nodes_there; weight_there = c.requires.weight_there } in
    let m = ap cells is in
    let q = node_right f n w (row xs) (below one) (row rest) is r in
    (omega (arith, m), (c.requires.least, (q.sound, (k.tail, (q.ordered, (q.nodes_there, q.weight_there))))))

pub range_removal::prune_among-prune-left-requires : goal.range_removal::prune_among-prune-left-requires
range_removal::prune_among-prune-left-requires t c =
    let xs = c.args.nodes.now in
    let f = c.args.fanout in
    let from = c.args.from in
    let to = c.args.to in
    let one = c.in-Some.one.now in
    let rest = c.in-Some.rest.now in
    let is : row xs ≡ node (below one) (row rest) = ap row c.in-Some.ensures.cases.0 in
    let K : List Node → Type 0 = λ v. kept_all v ≡ true in
    let k = kept_cons one rest (subst K c.in-Some.ensures.cases.0 c.requires.first_keys) in
    let S : Shape → Type 0 = λ v. fits f v ≡ true in
    let p = node_fits f (below one) (row rest) (subst S is c.requires.sound) in
    let full = fits-filled f (row xs) c.requires.sound in
    let n = c.args.counts.now.nodes in
    let w = c.args.counts.now.weight in
    let r : Ready f n w (row xs) = record { sound = c.requires.sound; ordered = c.requires.ordered; nodes_there = c.requires.nodes_there; weight_there = c.requires.weight_there } in
    let m = ap cells is in
    let q = node_left f n w (row xs) (below one) (row rest) is r in
    (omega (arith, m), (c.requires.least, (q.sound, (k.head, (q.ordered, (q.nodes_there, q.weight_there))))))

pub range_removal::prune_among-prune_among-right-requires : goal.range_removal::prune_among-prune_among-right-requires
range_removal::prune_among-prune_among-right-requires t c =
    let xs = c.args.nodes.now in
    let f = c.args.fanout in
    let from = c.args.from in
    let to = c.args.to in
    let one = c.in-Some.one.now in
    let rest = c.in-Some.rest.now in
    let is : row xs ≡ node (below one) (row rest) = ap row c.in-Some.ensures.cases.0 in
    let K : List Node → Type 0 = λ v. kept_all v ≡ true in
    let k = kept_cons one rest (subst K c.in-Some.ensures.cases.0 c.requires.first_keys) in
    let S : Shape → Type 0 = λ v. fits f v ≡ true in
    let p = node_fits f (below one) (row rest) (subst S is c.requires.sound) in
    let full = fits-filled f (row xs) c.requires.sound in
    let n = c.args.counts.now.nodes in
    let w = c.args.counts.now.weight in
    let r : Ready f n w (row xs) = record { sound = c.requires.sound; ordered = c.requires.ordered; nodes_there = c.requires.nodes_there; weight_there = c.requires.weight_there } in
    let m = ap cells is in
    let q = pruned_ready f n w c.prune-left.new.counts.nodes c.prune-left.new.counts.weight c.count_full.new.counts.nodes c.count_full.new.counts.weight _ (row xs) (below one) (below c.prune-left.new.self) (row rest) is r c.prune-left.ensures.nodes c.prune-left.ensures.weight c.count_full.ensures.nodes c.count_full.ensures.weight in
    (omega (arith, m), (c.requires.least, (q.sound, (k.tail, (q.ordered, (q.nodes_there, q.weight_there))))))

pub range_removal::prune_among-returns-then-begins_below-clause-answer : goal.range_removal::prune_among-returns-then-begins_below-clause-answer
range_removal::prune_among-returns-then-begins_below-clause-answer t c =
    let xs = c.args.nodes.now in
    let f = c.args.fanout in
    let from = c.args.from in
    let to = c.args.to in
    let one = c.in-Some.one.now in
    let rest = c.in-Some.rest.now in
    let is : row xs ≡ node (below one) (row rest) = ap row c.in-Some.ensures.cases.0 in
    let K : List Node → Type 0 = λ v. kept_all v ≡ true in
    let k = kept_cons one rest (subst K c.in-Some.ensures.cases.0 c.requires.first_keys) in
    let S : Shape → Type 0 = λ v. fits f v ≡ true in
    let p = node_fits f (below one) (row rest) (subst S is c.requires.sound) in
    let full = fits-filled f (row xs) c.requires.sound in
    let n = c.args.counts.now.nodes in
    let w = c.args.counts.now.weight in
    let r : Ready f n w (row xs) = record { sound = c.requires.sound; ordered = c.requires.ordered; nodes_there = c.requires.nodes_there; weight_there = c.requires.weight_there } in
    let m = ap cells is in
    let u = range_behind from to (row xs) (below one) (row rest) is full c.requires.ordered (sym c.begins_below.ensures ∙ c.if-begins_below.true) in
    rw u.leaves c.prune_among.ensures.answer

pub range_removal::prune_among-returns-then-begins_below-clause-taken_out : goal.range_removal::prune_among-returns-then-begins_below-clause-taken_out
range_removal::prune_among-returns-then-begins_below-clause-taken_out t c =
    let xs = c.args.nodes.now in
    let f = c.args.fanout in
    let from = c.args.from in
    let to = c.args.to in
    let one = c.in-Some.one.now in
    let rest = c.in-Some.rest.now in
    let is : row xs ≡ node (below one) (row rest) = ap row c.in-Some.ensures.cases.0 in
    let K : List Node → Type 0 = λ v. kept_all v ≡ true in
    let k = kept_cons one rest (subst K c.in-Some.ensures.cases.0 c.requires.first_keys) in
    let S : Shape → Type 0 = λ v. fits f v ≡ true in
    let p = node_fits f (below one) (row rest) (subst S is c.requires.sound) in
    let full = fits-filled f (row xs) c.requires.sound in
    let n = c.args.counts.now.nodes in
    let w = c.args.counts.now.weight in
    let r : Ready f n w (row xs) = record { sound = c.requires.sound; ordered = c.requires.ordered; nodes_there = c.requires.nodes_there; weight_there = c.requires.weight_there } in
    let m = ap cells is in
    let u = range_behind from to (row xs) (below one) (row rest) is full c.requires.ordered (sym c.begins_below.ensures ∙ c.if-begins_below.true) in
    ap (λ v. tidied (node (below one) v)) c.prune_among.ensures.taken_out ∙ tidied-filled (below one) (pruned from to (row rest)) p.least ∙ sym u.row

pub range_removal::prune_among-returns-then-not-begins_within-clause-answer : goal.range_removal::prune_among-returns-then-not-begins_within-clause-answer
range_removal::prune_among-returns-then-not-begins_within-clause-answer t c =
    let xs = c.args.nodes.now in
    let f = c.args.fanout in
    let from = c.args.from in
    let to = c.args.to in
    let one = c.in-Some.one.now in
    let rest = c.in-Some.rest.now in
    let is : row xs ≡ node (below one) (row rest) = ap row c.in-Some.ensures.cases.0 in
    let K : List Node → Type 0 = λ v. kept_all v ≡ true in
    let k = kept_cons one rest (subst K c.in-Some.ensures.cases.0 c.requires.first_keys) in
    let S : Shape → Type 0 = λ v. fits f v ≡ true in
    let p = node_fits f (below one) (row rest) (subst S is c.requires.sound) in
    let full = fits-filled f (row xs) c.requires.sound in
    let n = c.args.counts.now.nodes in
    let w = c.args.counts.now.weight in
    let r : Ready f n w (row xs) = record { sound = c.requires.sound; ordered = c.requires.ordered; nodes_there = c.requires.nodes_there; weight_there = c.requires.weight_there } in
    let m = ap cells is in
    let u = range_below from to (row xs) (below one) (row rest) is full c.requires.ordered (sym c.begins_within.ensures ∙ c.if-not-begins_within.true) in
    rw u.leaves c.prune-left.ensures.answer

pub range_removal::prune_among-returns-then-not-begins_within-clause-taken_out : goal.range_removal::prune_among-returns-then-not-begins_within-clause-taken_out
range_removal::prune_among-returns-then-not-begins_within-clause-taken_out t c =
    let xs = c.args.nodes.now in
    let f = c.args.fanout in
    let from = c.args.from in
    let to = c.args.to in
    let one = c.in-Some.one.now in
    let rest = c.in-Some.rest.now in
    let is : row xs ≡ node (below one) (row rest) = ap row c.in-Some.ensures.cases.0 in
    let K : List Node → Type 0 = λ v. kept_all v ≡ true in
    let k = kept_cons one rest (subst K c.in-Some.ensures.cases.0 c.requires.first_keys) in
    let S : Shape → Type 0 = λ v. fits f v ≡ true in
    let p = node_fits f (below one) (row rest) (subst S is c.requires.sound) in
    let full = fits-filled f (row xs) c.requires.sound in
    let n = c.args.counts.now.nodes in
    let w = c.args.counts.now.weight in
    let r : Ready f n w (row xs) = record { sound = c.requires.sound; ordered = c.requires.ordered; nodes_there = c.requires.nodes_there; weight_there = c.requires.weight_there } in
    let m = ap cells is in
    let u = range_below from to (row xs) (below one) (row rest) is full c.requires.ordered (sym c.begins_within.ensures ∙ c.if-not-begins_within.true) in
    swept-head f (below c.prune-left.new.self) (row rest) p.others ∙ ap (λ v. tidied (node v (row rest))) c.prune-left.ensures.taken_out ∙ sym u.row

pub node::Node::prune-prune_among-gone-requires : goal.node::Node::prune-prune_among-gone-requires
node::Node::prune-prune_among-gone-requires t c =
    let n = c.args.self.now in
    let f = c.args.fanout in
    let from = c.args.from in
    let to = c.args.to in
    let L = (out-Node n).leaves.items in
    let ns = (out-Node n).nodes.items in
    let lent : c.as_mut_slice.result.now ≡ ns = simp out-roll-Node at c.as_mut_slice.ensures.value in
    let small = ap (λ v. cells (row v)) lent in
    let size = ap (λ v. node_count (row v)) lent in
    let heft : shape_weight f (row c.as_mut_slice.result.now) ≡ shape_weight f (row ns) = ap (λ v. shape_weight f (row v)) lent in
    (omega (arith, below-cells n, small), (c.requires.least, (ap (λ v. fits f (row v)) lent ∙ sym (below-fits f n) ∙ c.requires.sound, (ap kept_all lent ∙ (kept_node n c.requires.first_keys).inside, (rw lent (ordered-right 0 L (contents (row ns)) (rw (below-contents n) at c.requires.ordered)), (omega (arith, size, below-nodes n), omega (arith, heft, below-weight f n)))))))

pub node::Node::prune-sweep-requires-clause-first_keys : goal.node::Node::prune-sweep-requires-clause-first_keys
node::Node::prune-sweep-requires-clause-first_keys t c =
    let n = c.args.self.now in
    let f = c.args.fanout in
    let from = c.args.from in
    let to = c.args.to in
    let L = (out-Node n).leaves.items in
    let ns = (out-Node n).nodes.items in
    let lent : c.as_mut_slice.result.now ≡ ns = simp out-roll-Node at c.as_mut_slice.ensures.value in
    let ws = c.prune_among-gone.new.nodes in
    let xs = c.prune_leaves-here.new.leaves.items in
    let many : length ws ≡ length ns = c.prune_among-gone.auto.nodes ∙ ap length lent in
    let items = lent_items n ws many in
    simp out-roll-Node (ap kept_all items ∙ c.prune_among-gone.ensures.first_keys_kept)

pub node::Node::prune-sweep-requires-clause-nodes_there : goal.node::Node::prune-sweep-requires-clause-nodes_there
node::Node::prune-sweep-requires-clause-nodes_there t c =
    let n = c.args.self.now in
    let f = c.args.fanout in
    let from = c.args.from in
    let to = c.args.to in
    let L = (out-Node n).leaves.items in
    let ns = (out-Node n).nodes.items in
    let lent : c.as_mut_slice.result.now ≡ ns = simp out-roll-Node at c.as_mut_slice.ensures.value in
    let ws = c.prune_among-gone.new.nodes in
    let xs = c.prune_leaves-here.new.leaves.items in
    let many : length ws ≡ length ns = c.prune_among-gone.auto.nodes ∙ ap length lent in
    let items = lent_items n ws many in
    let more : c.prune_among-gone.new.counts.nodes + node_count (row ns) ≡ c.args.counts.now.nodes + node_count (row ws) = rw lent at c.prune_among-gone.ensures.nodes in
    let heavier : c.prune_among-gone.new.counts.weight + shape_weight f (row ns) ≡ c.args.counts.now.weight + shape_weight f (row ws) = rw lent at c.prune_among-gone.ensures.weight in
    let size = ap (λ v. node_count (row v)) items in
    let heft = ap (λ v. shape_weight f (row v)) items in
    simp (out-roll-Node, below_made) (omega (arith, more, size, below-nodes n, leaves-nodes xs (row (with_items (out-Node n).nodes ws).items)))

pub node::Node::prune-sweep-requires-clause-weight_there : goal.node::Node::prune-sweep-requires-clause-weight_there
node::Node::prune-sweep-requires-clause-weight_there t c =
    let n = c.args.self.now in
    let f = c.args.fanout in
    let from = c.args.from in
    let to = c.args.to in
    let L = (out-Node n).leaves.items in
    let ns = (out-Node n).nodes.items in
    let lent : c.as_mut_slice.result.now ≡ ns = simp out-roll-Node at c.as_mut_slice.ensures.value in
    let ws = c.prune_among-gone.new.nodes in
    let xs = c.prune_leaves-here.new.leaves.items in
    let many : length ws ≡ length ns = c.prune_among-gone.auto.nodes ∙ ap length lent in
    let items = lent_items n ws many in
    let more : c.prune_among-gone.new.counts.nodes + node_count (row ns) ≡ c.args.counts.now.nodes + node_count (row ws) = rw lent at c.prune_among-gone.ensures.nodes in
    let heavier : c.prune_among-gone.new.counts.weight + shape_weight f (row ns) ≡ c.args.counts.now.weight + shape_weight f (row ws) = rw lent at c.prune_among-gone.ensures.weight in
    let size = ap (λ v. node_count (row v)) items in
    let heft = ap (λ v. shape_weight f (row v)) items in
    simp (out-roll-Node, below_made) (omega (arith, heavier, heft, below-weight f n, leaves-weight f xs (row (with_items (out-Node n).nodes ws).items)))

pub node::Node::prune-returns-clause-answer : goal.node::Node::prune-returns-clause-answer
node::Node::prune-returns-clause-answer t c =
    let n = c.args.self.now in
    let f = c.args.fanout in
    let from = c.args.from in
    let to = c.args.to in
    let L = (out-Node n).leaves.items in
    let ns = (out-Node n).nodes.items in
    let lent : c.as_mut_slice.result.now ≡ ns = simp out-roll-Node at c.as_mut_slice.ensures.value in
    let ws = c.prune_among-gone.new.nodes in
    let xs = c.prune_leaves-here.new.leaves.items in
    let many : length ws ≡ length ns = c.prune_among-gone.auto.nodes ∙ ap length lent in
    let items = lent_items n ws many in
    let left : c.prune_leaves-here.result ≡ length (within_range from to L) = c.prune_leaves-here.ensures.answer in
    let right = rw lent at c.prune_among-gone.ensures.answer in
    omega (arith, left, right, range-below from to n, c.saturating_add.ensures)

pub node::Node::prune-returns-clause-taken_out : goal.node::Node::prune-returns-clause-taken_out
node::Node::prune-returns-clause-taken_out t c =
    let n = c.args.self.now in
    let f = c.args.fanout in
    let from = c.args.from in
    let to = c.args.to in
    let L = (out-Node n).leaves.items in
    let ns = (out-Node n).nodes.items in
    let lent : c.as_mut_slice.result.now ≡ ns = simp out-roll-Node at c.as_mut_slice.ensures.value in
    let ws = c.prune_among-gone.new.nodes in
    let xs = c.prune_leaves-here.new.leaves.items in
    let many : length ws ≡ length ns = c.prune_among-gone.auto.nodes ∙ ap length lent in
    let items = lent_items n ws many in
    let taken : swept (row ws) ≡ pruned from to (row ns) = rw lent at c.prune_among-gone.ensures.taken_out in
    let left : xs ≡ outside_range from to L = c.prune_leaves-here.ensures.left in
    (simp (out-roll-Node, below_made) at c.sweep.ensures.swept) ∙ ap (λ v. swept (leaves_before xs (row v))) items ∙ swept-leaves xs (row ws) ∙ ap (λ v. leaves_before xs v) taken ∙ ap (λ v. leaves_before v (pruned from to (row ns))) left
    ∙ sym (ap (λ v. pruned from to v) (below_is n) ∙ pruned-leaves from to L (row ns))

pub node::Node::prune-returns-clause-nodes : goal.node::Node::prune-returns-clause-nodes
node::Node::prune-returns-clause-nodes t c =
    let n = c.args.self.now in
    let f = c.args.fanout in
    let from = c.args.from in
    let to = c.args.to in
    let L = (out-Node n).leaves.items in
    let ns = (out-Node n).nodes.items in
    let lent : c.as_mut_slice.result.now ≡ ns = simp out-roll-Node at c.as_mut_slice.ensures.value in
    let ws = c.prune_among-gone.new.nodes in
    let xs = c.prune_leaves-here.new.leaves.items in
    let many : length ws ≡ length ns = c.prune_among-gone.auto.nodes ∙ ap length lent in
    let items = lent_items n ws many in
    let more : c.prune_among-gone.new.counts.nodes + node_count (row ns) ≡ c.args.counts.now.nodes + node_count (row ws) = rw lent at c.prune_among-gone.ensures.nodes in
    let heavier : c.prune_among-gone.new.counts.weight + shape_weight f (row ns) ≡ c.args.counts.now.weight + shape_weight f (row ws) = rw lent at c.prune_among-gone.ensures.weight in
    let size = ap (λ v. node_count (row v)) items in
    let heft = ap (λ v. shape_weight f (row v)) items in
    let left = simp (out-roll-Node, below_made) at c.sweep.ensures.nodes in
    omega (arith, more, size, left, below-nodes n, leaves-nodes xs (row (with_items (out-Node n).nodes ws).items))

pub node::Node::prune-returns-clause-weight : goal.node::Node::prune-returns-clause-weight
node::Node::prune-returns-clause-weight t c =
    let n = c.args.self.now in
    let f = c.args.fanout in
    let from = c.args.from in
    let to = c.args.to in
    let L = (out-Node n).leaves.items in
    let ns = (out-Node n).nodes.items in
    let lent : c.as_mut_slice.result.now ≡ ns = simp out-roll-Node at c.as_mut_slice.ensures.value in
    let ws = c.prune_among-gone.new.nodes in
    let xs = c.prune_leaves-here.new.leaves.items in
    let many : length ws ≡ length ns = c.prune_among-gone.auto.nodes ∙ ap length lent in
    let items = lent_items n ws many in
    let more : c.prune_among-gone.new.counts.nodes + node_count (row ns) ≡ c.args.counts.now.nodes + node_count (row ws) = rw lent at c.prune_among-gone.ensures.nodes in
    let heavier : c.prune_among-gone.new.counts.weight + shape_weight f (row ns) ≡ c.args.counts.now.weight + shape_weight f (row ws) = rw lent at c.prune_among-gone.ensures.weight in
    let size = ap (λ v. node_count (row v)) items in
    let heft = ap (λ v. shape_weight f (row v)) items in
    let left = simp (out-roll-Node, below_made) at c.sweep.ensures.weight in
    omega (arith, heavier, heft, left, below-weight f n, leaves-weight f xs (row (with_items (out-Node n).nodes ws).items))
