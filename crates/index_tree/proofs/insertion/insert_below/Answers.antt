use Rattle.std.proofs.Common.{rules, ◌≡◌, ◌+◌, ◌<◌, ◌≤◌, ◌^◌, ◌∙◌, ap, subst, refl, arith, true, [], ◌∷◌}
use Rattle.std.proofs.lemmas.Bool.Decides.{nat_tests}
use Rattle.index_tree.specs.Places.{splits}
use Rattle.index_tree.proofs.GrowthLaws.{node_fits, inserted-grown, parted-node_count, parted-weight}
use Rattle.index_tree.specs.Shape.{Shape, done, node, count, node_count, full, shape_weight, fits, parted, inserted}
use Rattle.index_tree.specs.Tree.{shape, below, row}
use Rattle.index_tree.proofs.Rooting.{split_full}
use Rattle.index_tree.proofs.insertion.insert_below.Goals as goal

pub raise-requires-clause-room : goal.raise-requires-clause-room
raise-requires-clause-room c =
    let f = c.args.fanout in
    let x = c.args.leaf in
    let top = c.in-Some.top in
    let d = inserted f x (below top) in
    let is : shape c.args.root.now ≡ node (below top) done = ap shape c.in-Some.is in
    let S : Shape → Type 0 = λ v. fits f v ≡ true in
    let p = node_fits f (below top) done (subst S is c.requires.sound) in
    let g = inserted-grown f x (below top) c.requires.least p.children in
    let r = row (c.insert.new.self ∷ (c.in-Some-2.right ∷ [])) in
    let ok : r ≡ parted f d done = rw c.in-Some-2.is at c.in_ok-insert-in-Some.ensures.ok in
    let two : count r ≡ 2 = refl in
    c.in_ok-spare-in-Some.ensures.room (c.reaches.ensures ∙ split_full f (below top) d r g ok two)

pub overflow_add-counts-in-Some-2 : goal.overflow_add-counts-in-Some-2
overflow_add-counts-in-Some-2 c =
    let f = c.args.fanout in
    let x = c.args.leaf in
    let top = c.in-Some.top in
    let d = inserted f x (below top) in
    let is : shape c.args.root.now ≡ node (below top) done = ap shape c.in-Some.is in
    let S : Shape → Type 0 = λ v. fits f v ≡ true in
    let p = node_fits f (below top) done (subst S is c.requires.sound) in
    let g = inserted-grown f x (below top) c.requires.least p.children in
    let r = row (c.insert.new.self ∷ (c.in-Some-2.right ∷ [])) in
    let ok : r ≡ parted f d done = rw c.in-Some-2.is at c.in_ok-insert-in-Some.ensures.ok in
    let more : c.insert.new.counts.nodes + node_count (node (below top) done) ≡ c.args.counts.now.nodes + node_count r = rw c.in-Some-2.is at c.in_ok-insert-in-Some.ensures.nodes in
    let size = ap node_count ok ∙ parted-node_count f d done in
    let whole = ap node_count is in
    let one : splits f d ≤ 1 = grind (arith, nat_tests) in
    let small : c.insert.new.counts.nodes + 1 < 2 ^ 64 = omega (arith, more, size, whole, one, g.nodes_most) in
    search (rules, small)

pub overflow_add-counts-in-Some-2-2 : goal.overflow_add-counts-in-Some-2-2
overflow_add-counts-in-Some-2-2 c =
    let f = c.args.fanout in
    let x = c.args.leaf in
    let top = c.in-Some.top in
    let d = inserted f x (below top) in
    let is : shape c.args.root.now ≡ node (below top) done = ap shape c.in-Some.is in
    let S : Shape → Type 0 = λ v. fits f v ≡ true in
    let p = node_fits f (below top) done (subst S is c.requires.sound) in
    let g = inserted-grown f x (below top) c.requires.least p.children in
    let r = row (c.insert.new.self ∷ (c.in-Some-2.right ∷ [])) in
    let ok : r ≡ parted f d done = rw c.in-Some-2.is at c.in_ok-insert-in-Some.ensures.ok in
    let heavier : c.insert.new.counts.weight + shape_weight f (node (below top) done) ≡ c.args.counts.now.weight + shape_weight f r = rw c.in-Some-2.is at c.in_ok-insert-in-Some.ensures.weight in
    let heft : shape_weight f r ≡ shape_weight f d + shape_weight f done + 1 + full f d = ap (λ v. shape_weight f v) ok ∙ parted-weight f d done c.requires.least (omega (arith, g.one_more, p.most)) in
    let one : full f d ≤ 1 = grind (arith, nat_tests) in
    let small : c.insert.new.counts.weight + 1 < 2 ^ 64 = omega (arith, heavier, heft, one, g.weight_most, g.no_fewer) in
    search (rules, small)
