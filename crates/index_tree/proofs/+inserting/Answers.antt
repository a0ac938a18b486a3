use Rattle.std.proofs.Common.{rules, ◌≡◌, ◌+◌, ◌<◌, ◌≤◌, ◌∙◌, ap, sym, subst, refl, arith, if◌then◌else◌, suc, [], ◌∷◌, ◌++◌, take, drop, length, get_or, true}
use Rattle.std.proofs.Math.ListN.{set}
use Rattle.std.proofs.lemmas.Bool.Decides.{nat_tests}
use Rattle.std.specs.Prelude.{is_some, vec_len, vec_capacity}
use Rattle.index_tree.specs.declared.node.Node.{Node}
use Rattle.index_tree.specs.declared.node.Node.TheViews.{out-Node, out-roll-Node}
use Rattle.index_tree.specs.Places.{splits}
use Rattle.index_tree.proofs.GrowthLaws.{inserted-grown}
use Rattle.index_tree.proofs.InsertLaws.{fits-filled}
use Rattle.index_tree.specs.Order.{leaf_rank, ordered_from}
use Rattle.index_tree.specs.Places.{leaf_place, node_place}
use Rattle.index_tree.specs.Shape.{done, node, contents, count, node_count, full, fits, shape_weight, parted, inserted}
use Rattle.index_tree.specs.Tree.{below, kept, row, kept_all, leaves_before}
use Rattle.index_tree.proofs.TreeLaws.{cells, below-cells, below-contents, below_same, kept_same, below_made, kept_node, row-count}
use Rattle.index_tree.proofs.OrderLaws.{ordered-left, ordered-right}
use Rattle.index_tree.proofs.Inserting.{at_place, ordered_at, place-cells, spare_room, set-parts, insert-behind, row_put, row_kept, row_changed, row_same, nodes_put, spare_wanted, nodes_settled, weight_settled, leaves-nodes, leaves-weight, below-nodes, below-weight, below-fits}
use Rattle.index_tree.proofs.+inserting.Goals as goal

pub insertion::insert_among-node_place-way-requires-clause-sound : goal.insertion::insert_among-node_place-way-requires-clause-sound
insertion::insert_among-node_place-way-requires-clause-sound t c =
    rw c.as_slice.ensures.value (fits-filled c.args.fanout (row c.args.nodes.now.items) c.requires.sound)

pub insertion::insert_among-node_place-way-requires-clause-ordered : goal.insertion::insert_among-node_place-way-requires-clause-ordered
insertion::insert_among-node_place-way-requires-clause-ordered t c =
    rw c.as_slice.ensures.value c.requires.ordered

pub insertion::insert_among-insert-requires : goal.insertion::insert_among-insert-requires
insertion::insert_among-insert-requires t c =
    let ns = c.args.nodes.now.items in
    let f = c.args.fanout in
    let x = c.args.leaf in
    let i = c.node_place-way.result in
    let one = c.index_mut.result.now in
    let value : one ≡ get_or ns i one = c.index_mut.ensures.value in
    let bound : i < length ns = rw c.as_slice.ensures.value at c.node_place-way.ensures.bound in
    let q = at_place f ns i one bound c.requires.sound c.requires.first_keys in
    let small = ap (λ v. cells (below v)) value in
    let many = ap (λ v. count (below v)) value in
    let size = ap (λ v. node_count (below v)) value in
    (omega (arith, place-cells ns i one bound, small), (c.requires.least, (c.requires.most, (ap (λ v. fits f (below v)) value ∙ q.sound, (omega (arith, q.most, many), (ap kept value ∙ q.keeps, (ap (λ v. ordered_from 0 (contents (below v))) value ∙ ordered_at ns i one bound c.requires.ordered, (omega (arith, q.nodes, size), c.requires.weight_fits))))))))

pub insertion::insert_among-returns-in_err-insert-clause-keep : goal.insertion::insert_among-returns-in_err-insert-clause-keep
insertion::insert_among-returns-in_err-insert-clause-keep t c =
    let ns = c.args.nodes.now.items in
    let f = c.args.fanout in
    let x = c.args.leaf in
    let i = c.node_place-way.result in
    let one = c.index_mut.result.now in
    let value : one ≡ get_or ns i one = c.index_mut.ensures.value in
    let bound : i < length ns = rw c.as_slice.ensures.value at c.node_place-way.ensures.bound in
    let q = at_place f ns i one bound c.requires.sound c.requires.first_keys in
    let m = c.insert.new.self in
    let keeps : kept_all (m ∷ []) ≡ true = rw c.in_err-insert.ensures.err_kept refl in
    row_kept ns (m ∷ []) (set ns i m) i c.requires.first_keys keeps (set-parts ns i m bound)

pub insertion::insert_among-returns-in_err-insert-clause-err : goal.insertion::insert_among-returns-in_err-insert-clause-err
insertion::insert_among-returns-in_err-insert-clause-err t c =
    let ns = c.args.nodes.now.items in
    let f = c.args.fanout in
    let x = c.args.leaf in
    let i = c.node_place-way.result in
    let one = c.index_mut.result.now in
    let value : one ≡ get_or ns i one = c.index_mut.ensures.value in
    let bound : i < length ns = rw c.as_slice.ensures.value at c.node_place-way.ensures.bound in
    let q = at_place f ns i one bound c.requires.sound c.requires.first_keys in
    let e = row_same ns (set ns i c.insert.new.self) i one c.insert.new.self bound (c.in_err-insert.ensures.err ∙ ap below value) refl in
    search (rules, e)

pub insertion::insert_among-returns-in-None-clause-ok : goal.insertion::insert_among-returns-in-None-clause-ok
insertion::insert_among-returns-in-None-clause-ok t c =
    let ns = c.args.nodes.now.items in
    let f = c.args.fanout in
    let x = c.args.leaf in
    let i = c.node_place-way.result in
    let one = c.index_mut.result.now in
    let value : one ≡ get_or ns i one = c.index_mut.ensures.value in
    let bound : i < length ns = rw c.as_slice.ensures.value at c.node_place-way.ensures.bound in
    let q = at_place f ns i one bound c.requires.sound c.requires.first_keys in
    let m = c.insert.new.self in
    let place : i ≡ node_place (leaf_rank x) (row ns) = rw (c.as_slice.ensures.value, c.rank.ensures) at c.node_place-way.ensures.place in
    let ms = m ∷ [] in
    let parts : set ns i m ≡ take i ns ++ (ms ++ drop (suc i) ns) = set-parts ns i m bound in
    let none = c.in-None.is in
    let P : Node → Type 0 = λ v. row ms ≡ parted f (inserted f x (below v)) done in
    row_put f x ns ms (set ns i m) i one place bound (subst P value (rw none at c.in_ok-insert.ensures.ok)) parts

pub insertion::insert_among-returns-in-None-clause-keep : goal.insertion::insert_among-returns-in-None-clause-keep
insertion::insert_among-returns-in-None-clause-keep t c =
    let ns = c.args.nodes.now.items in
    let f = c.args.fanout in
    let x = c.args.leaf in
    let i = c.node_place-way.result in
    let one = c.index_mut.result.now in
    let value : one ≡ get_or ns i one = c.index_mut.ensures.value in
    let bound : i < length ns = rw c.as_slice.ensures.value at c.node_place-way.ensures.bound in
    let q = at_place f ns i one bound c.requires.sound c.requires.first_keys in
    let m = c.insert.new.self in
    let place : i ≡ node_place (leaf_rank x) (row ns) = rw (c.as_slice.ensures.value, c.rank.ensures) at c.node_place-way.ensures.place in
    let ms = m ∷ [] in
    let parts : set ns i m ≡ take i ns ++ (ms ++ drop (suc i) ns) = set-parts ns i m bound in
    let none = c.in-None.is in
    row_kept ns ms (set ns i m) i c.requires.first_keys (rw none at c.in_ok-insert.ensures.keep) parts

pub insertion::insert_among-returns-in-None-clause-nodes : goal.insertion::insert_among-returns-in-None-clause-nodes
insertion::insert_among-returns-in-None-clause-nodes t c =
    let ns = c.args.nodes.now.items in
    let f = c.args.fanout in
    let x = c.args.leaf in
    let i = c.node_place-way.result in
    let one = c.index_mut.result.now in
    let value : one ≡ get_or ns i one = c.index_mut.ensures.value in
    let bound : i < length ns = rw c.as_slice.ensures.value at c.node_place-way.ensures.bound in
    let q = at_place f ns i one bound c.requires.sound c.requires.first_keys in
    let m = c.insert.new.self in
    let place : i ≡ node_place (leaf_rank x) (row ns) = rw (c.as_slice.ensures.value, c.rank.ensures) at c.node_place-way.ensures.place in
    let ms = m ∷ [] in
    let parts : set ns i m ≡ take i ns ++ (ms ++ drop (suc i) ns) = set-parts ns i m bound in
    let none = c.in-None.is in
    let P : Node → Type 0 = λ v. c.insert.new.counts.nodes + node_count (node (below v) done) ≡ c.args.counts.now.nodes + node_count (row ms) in
    let Q : Node → Type 0 = λ v. c.insert.new.counts.weight + shape_weight f (node (below v) done) ≡ c.args.counts.now.weight + shape_weight f (row ms) in
    (row_changed f c.args.counts.now.nodes c.insert.new.counts.nodes c.args.counts.now.weight c.insert.new.counts.weight ns ms (set ns i m) i one q parts (subst P value (rw none at c.in_ok-insert.ensures.nodes)) (subst Q value (rw none at c.in_ok-insert.ensures.weight))).0

pub insertion::insert_among-returns-in-None-clause-weight : goal.insertion::insert_among-returns-in-None-clause-weight
insertion::insert_among-returns-in-None-clause-weight t c =
    let ns = c.args.nodes.now.items in
    let f = c.args.fanout in
    let x = c.args.leaf in
    let i = c.node_place-way.result in
    let one = c.index_mut.result.now in
    let value : one ≡ get_or ns i one = c.index_mut.ensures.value in
    let bound : i < length ns = rw c.as_slice.ensures.value at c.node_place-way.ensures.bound in
    let q = at_place f ns i one bound c.requires.sound c.requires.first_keys in
    let m = c.insert.new.self in
    let place : i ≡ node_place (leaf_rank x) (row ns) = rw (c.as_slice.ensures.value, c.rank.ensures) at c.node_place-way.ensures.place in
    let ms = m ∷ [] in
    let parts : set ns i m ≡ take i ns ++ (ms ++ drop (suc i) ns) = set-parts ns i m bound in
    let none = c.in-None.is in
    let P : Node → Type 0 = λ v. c.insert.new.counts.nodes + node_count (node (below v) done) ≡ c.args.counts.now.nodes + node_count (row ms) in
    let Q : Node → Type 0 = λ v. c.insert.new.counts.weight + shape_weight f (node (below v) done) ≡ c.args.counts.now.weight + shape_weight f (row ms) in
    (row_changed f c.args.counts.now.nodes c.insert.new.counts.nodes c.args.counts.now.weight c.insert.new.counts.weight ns ms (set ns i m) i one q parts (subst P value (rw none at c.in_ok-insert.ensures.nodes)) (subst Q value (rw none at c.in_ok-insert.ensures.weight))).1

pub insertion::insert_among-returns-in_ok-insert-in-Some-clause-ok : goal.insertion::insert_among-returns-in_ok-insert-in-Some-clause-ok
insertion::insert_among-returns-in_ok-insert-in-Some-clause-ok t c =
    let ns = c.args.nodes.now.items in
    let f = c.args.fanout in
    let x = c.args.leaf in
    let i = c.node_place-way.result in
    let one = c.index_mut.result.now in
    let value : one ≡ get_or ns i one = c.index_mut.ensures.value in
    let bound : i < length ns = rw c.as_slice.ensures.value at c.node_place-way.ensures.bound in
    let q = at_place f ns i one bound c.requires.sound c.requires.first_keys in
    let m = c.insert.new.self in
    let place : i ≡ node_place (leaf_rank x) (row ns) = rw (c.as_slice.ensures.value, c.rank.ensures) at c.node_place-way.ensures.place in
    let ms = m ∷ (c.in-Some.half ∷ []) in
    let next : i + 1 ≡ suc i = omega arith in
    let parts : c.insert-in-Some.new.self.items ≡ take i ns ++ (ms ++ drop (suc i) ns) = c.in_ok-insert-in-Some.ensures.items ∙ insert-behind ns i (i + 1) m c.in-Some.half bound next in
    let none = c.in-Some.is in
    let P : Node → Type 0 = λ v. row ms ≡ parted f (inserted f x (below v)) done in
    row_put f x ns ms c.insert-in-Some.new.self.items i one place bound (subst P value (rw none at c.in_ok-insert.ensures.ok)) parts

pub insertion::insert_among-returns-in_ok-insert-in-Some-clause-keep : goal.insertion::insert_among-returns-in_ok-insert-in-Some-clause-keep
insertion::insert_among-returns-in_ok-insert-in-Some-clause-keep t c =
    let ns = c.args.nodes.now.items in
    let f = c.args.fanout in
    let x = c.args.leaf in
    let i = c.node_place-way.result in
    let one = c.index_mut.result.now in
    let value : one ≡ get_or ns i one = c.index_mut.ensures.value in
    let bound : i < length ns = rw c.as_slice.ensures.value at c.node_place-way.ensures.bound in
    let q = at_place f ns i one bound c.requires.sound c.requires.first_keys in
    let m = c.insert.new.self in
    let place : i ≡ node_place (leaf_rank x) (row ns) = rw (c.as_slice.ensures.value, c.rank.ensures) at c.node_place-way.ensures.place in
    let ms = m ∷ (c.in-Some.half ∷ []) in
    let next : i + 1 ≡ suc i = omega arith in
    let parts : c.insert-in-Some.new.self.items ≡ take i ns ++ (ms ++ drop (suc i) ns) = c.in_ok-insert-in-Some.ensures.items ∙ insert-behind ns i (i + 1) m c.in-Some.half bound next in
    let none = c.in-Some.is in
    row_kept ns ms c.insert-in-Some.new.self.items i c.requires.first_keys (rw none at c.in_ok-insert.ensures.keep) parts

pub insertion::insert_among-returns-in_ok-insert-in-Some-clause-nodes : goal.insertion::insert_among-returns-in_ok-insert-in-Some-clause-nodes
insertion::insert_among-returns-in_ok-insert-in-Some-clause-nodes t c =
    let ns = c.args.nodes.now.items in
    let f = c.args.fanout in
    let x = c.args.leaf in
    let i = c.node_place-way.result in
    let one = c.index_mut.result.now in
    let value : one ≡ get_or ns i one = c.index_mut.ensures.value in
    let bound : i < length ns = rw c.as_slice.ensures.value at c.node_place-way.ensures.bound in
    let q = at_place f ns i one bound c.requires.sound c.requires.first_keys in
    let m = c.insert.new.self in
    let place : i ≡ node_place (leaf_rank x) (row ns) = rw (c.as_slice.ensures.value, c.rank.ensures) at c.node_place-way.ensures.place in
    let ms = m ∷ (c.in-Some.half ∷ []) in
    let next : i + 1 ≡ suc i = omega arith in
    let parts : c.insert-in-Some.new.self.items ≡ take i ns ++ (ms ++ drop (suc i) ns) = c.in_ok-insert-in-Some.ensures.items ∙ insert-behind ns i (i + 1) m c.in-Some.half bound next in
    let none = c.in-Some.is in
    let P : Node → Type 0 = λ v. c.insert.new.counts.nodes + node_count (node (below v) done) ≡ c.args.counts.now.nodes + node_count (row ms) in
    let Q : Node → Type 0 = λ v. c.insert.new.counts.weight + shape_weight f (node (below v) done) ≡ c.args.counts.now.weight + shape_weight f (row ms) in
    (row_changed f c.args.counts.now.nodes c.insert.new.counts.nodes c.args.counts.now.weight c.insert.new.counts.weight ns ms c.insert-in-Some.new.self.items i one q parts (subst P value (rw none at c.in_ok-insert.ensures.nodes)) (subst Q value (rw none at c.in_ok-insert.ensures.weight))).0

pub insertion::insert_among-returns-in_ok-insert-in-Some-clause-weight : goal.insertion::insert_among-returns-in_ok-insert-in-Some-clause-weight
insertion::insert_among-returns-in_ok-insert-in-Some-clause-weight t c =
    let ns = c.args.nodes.now.items in
    let f = c.args.fanout in
    let x = c.args.leaf in
    let i = c.node_place-way.result in
    let one = c.index_mut.result.now in
    let value : one ≡ get_or ns i one = c.index_mut.ensures.value in
    let bound : i < length ns = rw c.as_slice.ensures.value at c.node_place-way.ensures.bound in
    let q = at_place f ns i one bound c.requires.sound c.requires.first_keys in
    let m = c.insert.new.self in
    let place : i ≡ node_place (leaf_rank x) (row ns) = rw (c.as_slice.ensures.value, c.rank.ensures) at c.node_place-way.ensures.place in
    let ms = m ∷ (c.in-Some.half ∷ []) in
    let next : i + 1 ≡ suc i = omega arith in
    let parts : c.insert-in-Some.new.self.items ≡ take i ns ++ (ms ++ drop (suc i) ns) = c.in_ok-insert-in-Some.ensures.items ∙ insert-behind ns i (i + 1) m c.in-Some.half bound next in
    let none = c.in-Some.is in
    let P : Node → Type 0 = λ v. c.insert.new.counts.nodes + node_count (node (below v) done) ≡ c.args.counts.now.nodes + node_count (row ms) in
    let Q : Node → Type 0 = λ v. c.insert.new.counts.weight + shape_weight f (node (below v) done) ≡ c.args.counts.now.weight + shape_weight f (row ms) in
    (row_changed f c.args.counts.now.nodes c.insert.new.counts.nodes c.args.counts.now.weight c.insert.new.counts.weight ns ms c.insert-in-Some.new.self.items i one q parts (subst P value (rw none at c.in_ok-insert.ensures.nodes)) (subst Q value (rw none at c.in_ok-insert.ensures.weight))).1

pub node::Node::insert-returns-in_err-try_reserve-clause-err : goal.node::Node::insert-returns-in_err-try_reserve-clause-err
node::Node::insert-returns-in_err-try_reserve-clause-err t c =
    let n = c.args.self.now in
    let f = c.args.fanout in
    let x = c.args.leaf in
    let L = (out-Node n).leaves.items in
    let ns = (out-Node n).nodes.items in
    let e = below_same n (record { first = (out-Node n).first; leaves = (out-Node n).leaves; nodes = c.try_reserve.new.self }) refl (ap row c.in_err-try_reserve.ensures.items) in
    search (rules, e)

pub node::Node::insert-returns-in_err-try_reserve-clause-err_kept : goal.node::Node::insert-returns-in_err-try_reserve-clause-err_kept
node::Node::insert-returns-in_err-try_reserve-clause-err_kept t c =
    let n = c.args.self.now in
    let f = c.args.fanout in
    let x = c.args.leaf in
    let L = (out-Node n).leaves.items in
    let ns = (out-Node n).nodes.items in
    let e = kept_same n (record { first = (out-Node n).first; leaves = (out-Node n).leaves; nodes = c.try_reserve.new.self }) c.requires.first_keys refl refl (ap row c.in_err-try_reserve.ensures.items) (ap kept_all c.in_err-try_reserve.ensures.items ∙ (kept_node n c.requires.first_keys).inside) in
    search (rules, e)

pub node::Node::insert-returns-in_err-spare-clause-err : goal.node::Node::insert-returns-in_err-spare-clause-err
node::Node::insert-returns-in_err-spare-clause-err t c =
    let n = c.args.self.now in
    let f = c.args.fanout in
    let x = c.args.leaf in
    let L = (out-Node n).leaves.items in
    let ns = (out-Node n).nodes.items in
    let e = below_same n (record { first = (out-Node n).first; leaves = (out-Node n).leaves; nodes = c.try_reserve.new.self }) refl (ap row c.in_ok-try_reserve.ensures.items) in
    search (rules, e)

pub node::Node::insert-returns-in_err-spare-clause-err_kept : goal.node::Node::insert-returns-in_err-spare-clause-err_kept
node::Node::insert-returns-in_err-spare-clause-err_kept t c =
    let n = c.args.self.now in
    let f = c.args.fanout in
    let x = c.args.leaf in
    let L = (out-Node n).leaves.items in
    let ns = (out-Node n).nodes.items in
    let e = kept_same n (record { first = (out-Node n).first; leaves = (out-Node n).leaves; nodes = c.try_reserve.new.self }) c.requires.first_keys refl refl (ap row c.in_ok-try_reserve.ensures.items) (ap kept_all c.in_ok-try_reserve.ensures.items ∙ (kept_node n c.requires.first_keys).inside) in
    search (rules, e)

pub node::Node::insert-insert_among-requires : goal.node::Node::insert-insert_among-requires
node::Node::insert-insert_among-requires t c =
    let n = c.args.self.now in
    let f = c.args.fanout in
    let x = c.args.leaf in
    let L = (out-Node n).leaves.items in
    let ns = (out-Node n).nodes.items in
    let items = c.in_ok-try_reserve.ensures.items in
    let size = ap (λ v. node_count (row v)) items in
    let small = ap (λ v. cells (row v)) items in
    let some : 0 < vec_len c.try_reserve.new.self = grind (arith, nat_tests, c.in_ok-try_reserve.ensures.len, c.is_empty.ensures, c.if-is_empty.false) in
    simp out-roll-Node (omega (arith, below-cells n, small), (c.requires.least, (c.requires.most, (some, (omega (arith, c.in_ok-try_reserve.ensures.ok), (ap (λ v. fits f (row v)) items ∙ sym (below-fits f n) ∙ c.requires.sound, (ap kept_all items ∙ (kept_node n c.requires.first_keys).inside, (ap (λ v. ordered_from 0 (contents (row v))) items ∙ ordered-right 0 L (contents (row ns)) (rw (below-contents n) at c.requires.ordered), (omega (arith, size, below-nodes n), c.requires.weight_fits)))))))))

pub node::Node::insert-returns-in_err-insert_among-clause-err : goal.node::Node::insert-returns-in_err-insert_among-clause-err
node::Node::insert-returns-in_err-insert_among-clause-err t c =
    let n = c.args.self.now in
    let f = c.args.fanout in
    let x = c.args.leaf in
    let L = (out-Node n).leaves.items in
    let ns = (out-Node n).nodes.items in
    let same = (simp out-roll-Node at c.in_err-insert_among.ensures.err) ∙ ap row c.in_ok-try_reserve.ensures.items in
    let e = below_same n (record { first = (out-Node n).first; leaves = (out-Node n).leaves; nodes = c.insert_among.new.nodes }) refl same in
    simp out-roll-Node (search (rules, e))

pub node::Node::insert-returns-in_err-insert_among-clause-err_kept : goal.node::Node::insert-returns-in_err-insert_among-clause-err_kept
node::Node::insert-returns-in_err-insert_among-clause-err_kept t c =
    let n = c.args.self.now in
    let f = c.args.fanout in
    let x = c.args.leaf in
    let L = (out-Node n).leaves.items in
    let ns = (out-Node n).nodes.items in
    let same = (simp out-roll-Node at c.in_err-insert_among.ensures.err) ∙ ap row c.in_ok-try_reserve.ensures.items in
    let e = kept_same n (record { first = (out-Node n).first; leaves = (out-Node n).leaves; nodes = c.insert_among.new.nodes }) c.requires.first_keys refl refl same c.in_err-insert_among.ensures.keep in
    simp out-roll-Node (search (rules, e))

pub node::Node::insert-settle-right-requires-clause-children_most : goal.node::Node::insert-settle-right-requires-clause-children_most
node::Node::insert-settle-right-requires-clause-children_most t c =
    let n = c.args.self.now in
    let f = c.args.fanout in
    let x = c.args.leaf in
    let L = (out-Node n).leaves.items in
    let ns = (out-Node n).nodes.items in
    let items = c.in_ok-try_reserve.ensures.items in
    let new = c.insert_among.new.nodes.items in
    let sound = sym (below-fits f n) ∙ c.requires.sound in
    let g = inserted-grown f x (below n) c.requires.least c.requires.sound in
    let gr = inserted-grown f x (row ns) c.requires.least sound in
    let place : c.leaf_place-place.result ≡ leaf_place (leaf_rank x) L = rw (c.as_slice.ensures.value, c.rank-at.ensures) at c.leaf_place-place.ensures.place in
    let behind : length L ≤ leaf_place (leaf_rank x) L = omega (arith, (out-Node n).leaves.ok.0, c.len.ensures, c.if-place-len.false) in
    let rows : row new ≡ inserted f x (row ns) = (simp out-roll-Node at c.in_ok-insert_among.ensures.ok) ∙ ap (λ v. inserted f x (row v)) items in
    let put = nodes_put f x n new behind rows in
    let more : c.insert_among.new.counts.nodes + node_count (row ns) ≡ c.args.counts.now.nodes + node_count (row new) = omega (arith, simp out-roll-Node at c.in_ok-insert_among.ensures.nodes, ap (λ v. node_count (row v)) items) in
    let heavier : c.insert_among.new.counts.weight + shape_weight f (row ns) ≡ c.args.counts.now.weight + shape_weight f (row new) = omega (arith, simp out-roll-Node at c.in_ok-insert_among.ensures.weight, ap (λ v. shape_weight f (row v)) items) in
    let as_many = ap count put in
    simp (out-roll-Node, below_made) (omega (arith, as_many, g.one_more))

pub node::Node::insert-settle-right-requires-clause-spare_there : goal.node::Node::insert-settle-right-requires-clause-spare_there
node::Node::insert-settle-right-requires-clause-spare_there t c =
    let n = c.args.self.now in
    let f = c.args.fanout in
    let x = c.args.leaf in
    let L = (out-Node n).leaves.items in
    let ns = (out-Node n).nodes.items in
    let items = c.in_ok-try_reserve.ensures.items in
    let new = c.insert_among.new.nodes.items in
    let sound = sym (below-fits f n) ∙ c.requires.sound in
    let g = inserted-grown f x (below n) c.requires.least c.requires.sound in
    let gr = inserted-grown f x (row ns) c.requires.least sound in
    let place : c.leaf_place-place.result ≡ leaf_place (leaf_rank x) L = rw (c.as_slice.ensures.value, c.rank-at.ensures) at c.leaf_place-place.ensures.place in
    let behind : length L ≤ leaf_place (leaf_rank x) L = omega (arith, (out-Node n).leaves.ok.0, c.len.ensures, c.if-place-len.false) in
    let rows : row new ≡ inserted f x (row ns) = (simp out-roll-Node at c.in_ok-insert_among.ensures.ok) ∙ ap (λ v. inserted f x (row v)) items in
    let put = nodes_put f x n new behind rows in
    let more : c.insert_among.new.counts.nodes + node_count (row ns) ≡ c.args.counts.now.nodes + node_count (row new) = omega (arith, simp out-roll-Node at c.in_ok-insert_among.ensures.nodes, ap (λ v. node_count (row v)) items) in
    let heavier : c.insert_among.new.counts.weight + shape_weight f (row ns) ≡ c.args.counts.now.weight + shape_weight f (row new) = omega (arith, simp out-roll-Node at c.in_ok-insert_among.ensures.weight, ap (λ v. shape_weight f (row v)) items) in
    λ h. spare_wanted f (is_some c.in_ok-spare.spare) c.reaches-was_full.result (below n) (inserted f x (below n)) (leaves_before L (row new)) g put c.reaches-was_full.ensures c.in_ok-spare.ensures.there (simp (out-roll-Node, below_made) at h)

pub node::Node::insert-settle-right-requires-clause-room : goal.node::Node::insert-settle-right-requires-clause-room
node::Node::insert-settle-right-requires-clause-room t c =
    let n = c.args.self.now in
    let f = c.args.fanout in
    let x = c.args.leaf in
    let L = (out-Node n).leaves.items in
    let ns = (out-Node n).nodes.items in
    let items = c.in_ok-try_reserve.ensures.items in
    let new = c.insert_among.new.nodes.items in
    let sound = sym (below-fits f n) ∙ c.requires.sound in
    let g = inserted-grown f x (below n) c.requires.least c.requires.sound in
    let gr = inserted-grown f x (row ns) c.requires.least sound in
    let place : c.leaf_place-place.result ≡ leaf_place (leaf_rank x) L = rw (c.as_slice.ensures.value, c.rank-at.ensures) at c.leaf_place-place.ensures.place in
    let behind : length L ≤ leaf_place (leaf_rank x) L = omega (arith, (out-Node n).leaves.ok.0, c.len.ensures, c.if-place-len.false) in
    let rows : row new ≡ inserted f x (row ns) = (simp out-roll-Node at c.in_ok-insert_among.ensures.ok) ∙ ap (λ v. inserted f x (row v)) items in
    let put = nodes_put f x n new behind rows in
    let more : c.insert_among.new.counts.nodes + node_count (row ns) ≡ c.args.counts.now.nodes + node_count (row new) = omega (arith, simp out-roll-Node at c.in_ok-insert_among.ensures.nodes, ap (λ v. node_count (row v)) items) in
    let heavier : c.insert_among.new.counts.weight + shape_weight f (row ns) ≡ c.args.counts.now.weight + shape_weight f (row new) = omega (arith, simp out-roll-Node at c.in_ok-insert_among.ensures.weight, ap (λ v. shape_weight f (row v)) items) in
    let room = simp out-roll-Node at c.in_ok-spare.ensures.room in
    let as_many = ap count rows in
    simp out-roll-Node (spare_room c.in_ok-spare.spare (vec_len (out-Node n).leaves) (vec_len c.insert_among.new.nodes) (vec_capacity (out-Node n).leaves) (vec_capacity c.try_reserve.new.self) (omega (arith, (out-Node n).leaves.ok.1)) (omega (arith, as_many, gr.one_more, row-count new, row-count ns, c.insert_among.new.nodes.ok.0, (out-Node n).nodes.ok.0, c.in_ok-try_reserve.ensures.ok, c.in_ok-try_reserve.ensures.len)) room)

pub node::Node::insert-settle-right-requires-clause-nodes_fit : goal.node::Node::insert-settle-right-requires-clause-nodes_fit
node::Node::insert-settle-right-requires-clause-nodes_fit t c =
    let n = c.args.self.now in
    let f = c.args.fanout in
    let x = c.args.leaf in
    let L = (out-Node n).leaves.items in
    let ns = (out-Node n).nodes.items in
    let items = c.in_ok-try_reserve.ensures.items in
    let new = c.insert_among.new.nodes.items in
    let sound = sym (below-fits f n) ∙ c.requires.sound in
    let g = inserted-grown f x (below n) c.requires.least c.requires.sound in
    let gr = inserted-grown f x (row ns) c.requires.least sound in
    let place : c.leaf_place-place.result ≡ leaf_place (leaf_rank x) L = rw (c.as_slice.ensures.value, c.rank-at.ensures) at c.leaf_place-place.ensures.place in
    let behind : length L ≤ leaf_place (leaf_rank x) L = omega (arith, (out-Node n).leaves.ok.0, c.len.ensures, c.if-place-len.false) in
    let rows : row new ≡ inserted f x (row ns) = (simp out-roll-Node at c.in_ok-insert_among.ensures.ok) ∙ ap (λ v. inserted f x (row v)) items in
    let put = nodes_put f x n new behind rows in
    let more : c.insert_among.new.counts.nodes + node_count (row ns) ≡ c.args.counts.now.nodes + node_count (row new) = omega (arith, simp out-roll-Node at c.in_ok-insert_among.ensures.nodes, ap (λ v. node_count (row v)) items) in
    let heavier : c.insert_among.new.counts.weight + shape_weight f (row ns) ≡ c.args.counts.now.weight + shape_weight f (row new) = omega (arith, simp out-roll-Node at c.in_ok-insert_among.ensures.weight, ap (λ v. shape_weight f (row v)) items) in
    let size = ap node_count rows in
    omega (arith, more, size, gr.nodes_most, below-nodes n)

pub node::Node::insert-settle-right-requires-clause-weight_fits : goal.node::Node::insert-settle-right-requires-clause-weight_fits
node::Node::insert-settle-right-requires-clause-weight_fits t c =
    let n = c.args.self.now in
    let f = c.args.fanout in
    let x = c.args.leaf in
    let L = (out-Node n).leaves.items in
    let ns = (out-Node n).nodes.items in
    let items = c.in_ok-try_reserve.ensures.items in
    let new = c.insert_among.new.nodes.items in
    let sound = sym (below-fits f n) ∙ c.requires.sound in
    let g = inserted-grown f x (below n) c.requires.least c.requires.sound in
    let gr = inserted-grown f x (row ns) c.requires.least sound in
    let place : c.leaf_place-place.result ≡ leaf_place (leaf_rank x) L = rw (c.as_slice.ensures.value, c.rank-at.ensures) at c.leaf_place-place.ensures.place in
    let behind : length L ≤ leaf_place (leaf_rank x) L = omega (arith, (out-Node n).leaves.ok.0, c.len.ensures, c.if-place-len.false) in
    let rows : row new ≡ inserted f x (row ns) = (simp out-roll-Node at c.in_ok-insert_among.ensures.ok) ∙ ap (λ v. inserted f x (row v)) items in
    let put = nodes_put f x n new behind rows in
    let more : c.insert_among.new.counts.nodes + node_count (row ns) ≡ c.args.counts.now.nodes + node_count (row new) = omega (arith, simp out-roll-Node at c.in_ok-insert_among.ensures.nodes, ap (λ v. node_count (row v)) items) in
    let heavier : c.insert_among.new.counts.weight + shape_weight f (row ns) ≡ c.args.counts.now.weight + shape_weight f (row new) = omega (arith, simp out-roll-Node at c.in_ok-insert_among.ensures.weight, ap (λ v. shape_weight f (row v)) items) in
    let size : shape_weight f (row new) ≡ shape_weight f (inserted f x (row ns)) = ap (λ v. shape_weight f v) rows in
    omega (arith, heavier, size, gr.weight_most, gr.no_fewer)

pub node::Node::insert-returns-clause-ok : goal.node::Node::insert-returns-clause-ok
node::Node::insert-returns-clause-ok t c =
    let n = c.args.self.now in
    let f = c.args.fanout in
    let x = c.args.leaf in
    let L = (out-Node n).leaves.items in
    let ns = (out-Node n).nodes.items in
    let items = c.in_ok-try_reserve.ensures.items in
    let new = c.insert_among.new.nodes.items in
    let sound = sym (below-fits f n) ∙ c.requires.sound in
    let g = inserted-grown f x (below n) c.requires.least c.requires.sound in
    let gr = inserted-grown f x (row ns) c.requires.least sound in
    let place : c.leaf_place-place.result ≡ leaf_place (leaf_rank x) L = rw (c.as_slice.ensures.value, c.rank-at.ensures) at c.leaf_place-place.ensures.place in
    let behind : length L ≤ leaf_place (leaf_rank x) L = omega (arith, (out-Node n).leaves.ok.0, c.len.ensures, c.if-place-len.false) in
    let rows : row new ≡ inserted f x (row ns) = (simp out-roll-Node at c.in_ok-insert_among.ensures.ok) ∙ ap (λ v. inserted f x (row v)) items in
    let put = nodes_put f x n new behind rows in
    let more : c.insert_among.new.counts.nodes + node_count (row ns) ≡ c.args.counts.now.nodes + node_count (row new) = omega (arith, simp out-roll-Node at c.in_ok-insert_among.ensures.nodes, ap (λ v. node_count (row v)) items) in
    let heavier : c.insert_among.new.counts.weight + shape_weight f (row ns) ≡ c.args.counts.now.weight + shape_weight f (row new) = omega (arith, simp out-roll-Node at c.in_ok-insert_among.ensures.weight, ap (λ v. shape_weight f (row v)) items) in
    (simp (out-roll-Node, below_made) at c.settle-right.ensures.arranged) ∙ ap (λ v. parted f v done) put

pub node::Node::insert-returns-clause-nodes : goal.node::Node::insert-returns-clause-nodes
node::Node::insert-returns-clause-nodes t c =
    let n = c.args.self.now in
    let f = c.args.fanout in
    let x = c.args.leaf in
    let L = (out-Node n).leaves.items in
    let ns = (out-Node n).nodes.items in
    let items = c.in_ok-try_reserve.ensures.items in
    let new = c.insert_among.new.nodes.items in
    let sound = sym (below-fits f n) ∙ c.requires.sound in
    let g = inserted-grown f x (below n) c.requires.least c.requires.sound in
    let gr = inserted-grown f x (row ns) c.requires.least sound in
    let place : c.leaf_place-place.result ≡ leaf_place (leaf_rank x) L = rw (c.as_slice.ensures.value, c.rank-at.ensures) at c.leaf_place-place.ensures.place in
    let behind : length L ≤ leaf_place (leaf_rank x) L = omega (arith, (out-Node n).leaves.ok.0, c.len.ensures, c.if-place-len.false) in
    let rows : row new ≡ inserted f x (row ns) = (simp out-roll-Node at c.in_ok-insert_among.ensures.ok) ∙ ap (λ v. inserted f x (row v)) items in
    let put = nodes_put f x n new behind rows in
    let more : c.insert_among.new.counts.nodes + node_count (row ns) ≡ c.args.counts.now.nodes + node_count (row new) = omega (arith, simp out-roll-Node at c.in_ok-insert_among.ensures.nodes, ap (λ v. node_count (row v)) items) in
    let heavier : c.insert_among.new.counts.weight + shape_weight f (row ns) ≡ c.args.counts.now.weight + shape_weight f (row new) = omega (arith, simp out-roll-Node at c.in_ok-insert_among.ensures.weight, ap (λ v. shape_weight f (row v)) items) in
    let k = c.args.counts.now.nodes in
    let m = c.insert_among.new.counts.nodes in
    let grown : m + node_count (below n) ≡ k + node_count (inserted f x (below n)) = omega (arith, more, below-nodes n, leaves-nodes L (row new), ap node_count put) in
    let raised = (simp (out-roll-Node, below_made) at c.settle-right.ensures.nodes) ∙ ap (λ v. m + splits f v) put in
    let arranged = (simp (out-roll-Node, below_made) at c.settle-right.ensures.arranged) ∙ ap (λ v. parted f v done) put in
    nodes_settled f k m c.settle-right.new.counts.nodes (below n) (inserted f x (below n)) _ grown raised arranged

pub node::Node::insert-returns-clause-weight : goal.node::Node::insert-returns-clause-weight
node::Node::insert-returns-clause-weight t c =
    let n = c.args.self.now in
    let f = c.args.fanout in
    let x = c.args.leaf in
    let L = (out-Node n).leaves.items in
    let ns = (out-Node n).nodes.items in
    let items = c.in_ok-try_reserve.ensures.items in
    let new = c.insert_among.new.nodes.items in
    let sound = sym (below-fits f n) ∙ c.requires.sound in
    let g = inserted-grown f x (below n) c.requires.least c.requires.sound in
    let gr = inserted-grown f x (row ns) c.requires.least sound in
    let place : c.leaf_place-place.result ≡ leaf_place (leaf_rank x) L = rw (c.as_slice.ensures.value, c.rank-at.ensures) at c.leaf_place-place.ensures.place in
    let behind : length L ≤ leaf_place (leaf_rank x) L = omega (arith, (out-Node n).leaves.ok.0, c.len.ensures, c.if-place-len.false) in
    let rows : row new ≡ inserted f x (row ns) = (simp out-roll-Node at c.in_ok-insert_among.ensures.ok) ∙ ap (λ v. inserted f x (row v)) items in
    let put = nodes_put f x n new behind rows in
    let more : c.insert_among.new.counts.nodes + node_count (row ns) ≡ c.args.counts.now.nodes + node_count (row new) = omega (arith, simp out-roll-Node at c.in_ok-insert_among.ensures.nodes, ap (λ v. node_count (row v)) items) in
    let heavier : c.insert_among.new.counts.weight + shape_weight f (row ns) ≡ c.args.counts.now.weight + shape_weight f (row new) = omega (arith, simp out-roll-Node at c.in_ok-insert_among.ensures.weight, ap (λ v. shape_weight f (row v)) items) in
    let k = c.args.counts.now.weight in
    let m = c.insert_among.new.counts.weight in
    let b = is_some c.in_ok-spare.spare in
    let w : shape_weight f (leaves_before L (row new)) ≡ shape_weight f (inserted f x (below n)) = ap (λ v. shape_weight f v) put in
    let grown : m + shape_weight f (below n) ≡ k + shape_weight f (inserted f x (below n)) = omega (arith, heavier, below-weight f n, leaves-weight f L (row new), w) in
    let raised = (simp (out-roll-Node, below_made) at c.settle-right.ensures.weight) ∙ ap (λ v. m + (if b then 0 else full f v)) put in
    let arranged = (simp (out-roll-Node, below_made) at c.settle-right.ensures.arranged) ∙ ap (λ v. parted f v done) put in
    let was = c.in_ok-spare.ensures.there ∙ c.reaches-was_full.ensures in
    weight_settled f k m c.settle-right.new.counts.weight b (below n) (inserted f x (below n)) _ c.requires.least c.requires.few g was grown raised arranged

pub node::Node::insert-leaf_place-place-requires : goal.node::Node::insert-leaf_place-place-requires
node::Node::insert-leaf_place-place-requires t c =
    let n = c.args.self.now in
    record { ordered = rw c.as_slice.ensures.value (ordered-left 0 (out-Node n).leaves.items (contents (row (out-Node n).nodes.items)) (rw (below-contents n) at c.requires.ordered)) }
