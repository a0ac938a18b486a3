use Rattle.std.proofs.Common.{rules, ◌+◌, ◌∙◌, ap, sym, refl, arith, if◌then◌else◌, ◌∷◌, ◌++◌, take, drop}
use Rattle.std.specs.Prelude.{is_some}
use Rattle.index_tree.specs.declared.node.Node.TheViews.{out-Node, out-roll-Node}
use Rattle.index_tree.specs.Places.{splits}
use Rattle.index_tree.proofs.GrowthLaws.{inserted-grown}
use Rattle.index_tree.specs.Shape.{done, count, node_count, full, shape_weight, parted, inserted}
use Rattle.index_tree.specs.Tree.{below, row, leaves_before}
use Rattle.index_tree.proofs.TreeLaws.{below_same, kept_same, below_made, kept_node}
use Rattle.index_tree.proofs.Inserting.{leaf_put, spare_wanted, nodes_settled, weight_settled, leaves-nodes, leaves-weight, below-nodes, below-weight}
use Rattle.index_tree.proofs.node.Node.insert_leaf.Goals as goal

pub returns-in_err-try_reserve-clause-err : goal.returns-in_err-try_reserve-clause-err
returns-in_err-try_reserve-clause-err c =
    let n = c.args.self.now in
    let e = below_same n (record { first = (out-Node n).first; leaves = c.try_reserve.new.self; nodes = (out-Node n).nodes }) c.in_err-try_reserve.ensures.items refl in
    search (rules, e)

pub returns-in_err-try_reserve-clause-err_kept : goal.returns-in_err-try_reserve-clause-err_kept
returns-in_err-try_reserve-clause-err_kept c =
    let n = c.args.self.now in
    let e = kept_same n (record { first = (out-Node n).first; leaves = c.try_reserve.new.self; nodes = (out-Node n).nodes }) c.requires.first_keys refl c.in_err-try_reserve.ensures.items refl (kept_node n c.requires.first_keys).inside in
    search (rules, e)

pub returns-in_err-spare-clause-err : goal.returns-in_err-spare-clause-err
returns-in_err-spare-clause-err c =
    let n = c.args.self.now in
    let e = below_same n (record { first = (out-Node n).first; leaves = c.try_reserve.new.self; nodes = (out-Node n).nodes }) c.in_ok-try_reserve.ensures.items refl in
    search (rules, e)

pub returns-in_err-spare-clause-err_kept : goal.returns-in_err-spare-clause-err_kept
returns-in_err-spare-clause-err_kept c =
    let n = c.args.self.now in
    let e = kept_same n (record { first = (out-Node n).first; leaves = c.try_reserve.new.self; nodes = (out-Node n).nodes }) c.requires.first_keys refl c.in_ok-try_reserve.ensures.items refl (kept_node n c.requires.first_keys).inside in
    search (rules, e)

pub settle-half-requires-clause-children_most : goal.settle-half-requires-clause-children_most
settle-half-requires-clause-children_most c =
    let n = c.args.self.now in
    let f = c.args.fanout in
    let x = c.args.leaf in
    let ns = (out-Node n).nodes.items in
    let g = inserted-grown f x (below n) c.requires.least c.requires.sound in
    let items = (simp out-roll-Node at c.in_ok-insert.ensures.items) ∙ ap (λ v. take c.args.place v ++ (x ∷ drop c.args.place v)) c.in_ok-try_reserve.ensures.items in
    let put = leaf_put f x n c.insert.new.self.items c.args.place c.requires.place c.requires.free items in
    let as_many = ap count put in
    simp (out-roll-Node, below_made) (omega (arith, as_many, g.one_more))

pub settle-half-requires-clause-first_keys : goal.settle-half-requires-clause-first_keys
settle-half-requires-clause-first_keys c = simp out-roll-Node (kept_node c.args.self.now c.requires.first_keys).inside

pub settle-half-requires-clause-spare_there : goal.settle-half-requires-clause-spare_there
settle-half-requires-clause-spare_there c =
    let n = c.args.self.now in
    let f = c.args.fanout in
    let x = c.args.leaf in
    let ns = (out-Node n).nodes.items in
    let g = inserted-grown f x (below n) c.requires.least c.requires.sound in
    let items = (simp out-roll-Node at c.in_ok-insert.ensures.items) ∙ ap (λ v. take c.args.place v ++ (x ∷ drop c.args.place v)) c.in_ok-try_reserve.ensures.items in
    let put = leaf_put f x n c.insert.new.self.items c.args.place c.requires.place c.requires.free items in
    λ h. spare_wanted f (is_some c.in_ok-spare.spare) c.reaches-was_full.result (below n) (inserted f x (below n)) (leaves_before c.insert.new.self.items (row ns)) g put c.reaches-was_full.ensures c.in_ok-spare.ensures.there (simp (out-roll-Node, below_made) at h)

pub returns-clause-ok : goal.returns-clause-ok
returns-clause-ok c =
    let n = c.args.self.now in
    let f = c.args.fanout in
    let x = c.args.leaf in
    let ns = (out-Node n).nodes.items in
    let g = inserted-grown f x (below n) c.requires.least c.requires.sound in
    let items = (simp out-roll-Node at c.in_ok-insert.ensures.items) ∙ ap (λ v. take c.args.place v ++ (x ∷ drop c.args.place v)) c.in_ok-try_reserve.ensures.items in
    let put = leaf_put f x n c.insert.new.self.items c.args.place c.requires.place c.requires.free items in
    (simp (out-roll-Node, below_made) at c.settle-half.ensures.arranged) ∙ ap (λ v. parted f v done) put

pub returns-clause-nodes : goal.returns-clause-nodes
returns-clause-nodes c =
    let n = c.args.self.now in
    let f = c.args.fanout in
    let x = c.args.leaf in
    let ns = (out-Node n).nodes.items in
    let g = inserted-grown f x (below n) c.requires.least c.requires.sound in
    let items = (simp out-roll-Node at c.in_ok-insert.ensures.items) ∙ ap (λ v. take c.args.place v ++ (x ∷ drop c.args.place v)) c.in_ok-try_reserve.ensures.items in
    let put = leaf_put f x n c.insert.new.self.items c.args.place c.requires.place c.requires.free items in
    let k = c.args.counts.now.nodes in
    let same = ap (λ v. k + v) (below-nodes n ∙ sym (leaves-nodes c.insert.new.self.items (row ns)) ∙ ap node_count put) in
    let raised = (simp (out-roll-Node, below_made) at c.settle-half.ensures.nodes) ∙ ap (λ v. k + splits f v) put in
    let arranged = (simp (out-roll-Node, below_made) at c.settle-half.ensures.arranged) ∙ ap (λ v. parted f v done) put in
    nodes_settled f k k c.settle-half.new.counts.nodes (below n) (inserted f x (below n)) _ same raised arranged

pub returns-clause-weight : goal.returns-clause-weight
returns-clause-weight c =
    let n = c.args.self.now in
    let f = c.args.fanout in
    let x = c.args.leaf in
    let ns = (out-Node n).nodes.items in
    let g = inserted-grown f x (below n) c.requires.least c.requires.sound in
    let items = (simp out-roll-Node at c.in_ok-insert.ensures.items) ∙ ap (λ v. take c.args.place v ++ (x ∷ drop c.args.place v)) c.in_ok-try_reserve.ensures.items in
    let put = leaf_put f x n c.insert.new.self.items c.args.place c.requires.place c.requires.free items in
    let k = c.args.counts.now.weight in
    let same = ap (λ v. k + v) (below-weight f n ∙ sym (leaves-weight f c.insert.new.self.items (row ns)) ∙ ap (λ v. shape_weight f v) put) in
    let b = is_some c.in_ok-spare.spare in
    let raised = (simp (out-roll-Node, below_made) at c.settle-half.ensures.weight) ∙ ap (λ v. k + (if b then 0 else full f v)) put in
    let was = c.in_ok-spare.ensures.there ∙ c.reaches-was_full.ensures in
    let arranged = (simp (out-roll-Node, below_made) at c.settle-half.ensures.arranged) ∙ ap (λ v. parted f v done) put in
    weight_settled f k k c.settle-half.new.counts.weight b (below n) (inserted f x (below n)) _ c.requires.least c.requires.few g was same raised arranged
