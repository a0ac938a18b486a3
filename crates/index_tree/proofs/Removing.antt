-- The steps of a removal.
use Rattle.std.proofs.Common.{◌≡◌, ◌≢◌, ℕ, ◌+◌, ◌<◌, ◌≤◌, ◌⊎◌, inl, inr, refl, List, [], ◌∷◌, ◌++◌, length, length-append, true, false, ap, subst, ◌∙◌, arith, if◌then◌else◌}
use Rattle.index_tree.specs.Order.{leaf_rank, ordered_from}
use Rattle.index_tree.specs.Shape.{Shape, done, leaf, node, lone, contents, node_count, shape_weight, fits}
use Rattle.index_tree.specs.Removal.{holds, removed, collapsed}
use Rattle.std.proofs.lemmas.Bool.Decides.{nat_tests}
use Rattle.index_tree.specs.declared.leaf.Leaf.{Leaf}
use Rattle.index_tree.specs.declared.node.Node.{Node}
use Rattle.index_tree.specs.declared.node.Node.TheViews.{out-Node}
use Rattle.index_tree.specs.Tree.{below, row, leaves_before}
use Rattle.index_tree.proofs.TreeLaws.{below-contents, below_is, no_items}
use Rattle.index_tree.proofs.GrowthLaws.{node_fits, below-full}
use Rattle.index_tree.proofs.OrderLaws.{ordered_head, ordered-weaken, ordered-left, ordered-right}
use Rattle.index_tree.proofs.InsertLaws.{fits-filled, lone-whole}
use Rattle.index_tree.proofs.CollapseLaws.{lone-count, removed-whole, without_leaf-is, without_leaf-laws, without_leaf-ordered, without-absent}
use Rattle.index_tree.proofs.RemovalLaws.{holds-append, removed-absent, absent_left, absent_right, absent_behind, removed-shrunk, full-falls, empty}

pub ruleset removing = (nat_tests, empty, below-full)

pub ruleset removal = (nat_tests, node_fits, ordered_head, ordered-weaken, ordered-left, ordered-right, fits-filled, holds-append, removed-absent, absent_left, absent_right, absent_behind, full-falls, removed-shrunk)

pub ruleset collapsing = (nat_tests, empty, below-full, lone-whole, lone-count)

pub ruleset removing_rooted = (nat_tests, removed-absent, removed-shrunk, removed-whole, without_leaf-is, without_leaf-laws, without_leaf-ordered, without-absent)

-- what a removal from a row asks for
pub record Ready (f n w : ℕ) (s : Shape) : Type 0 where
  pub sound : fits f s ≡ true
  pub ordered : ordered_from 0 (contents s) ≡ true
  pub nodes_there : node_count s ≤ n
  pub weight_there : shape_weight f s ≤ w

pub leaf_parts : (f n w : ℕ) (x : Leaf) (s rest : Shape) → s ≡ leaf x rest → Ready f n w s → Ready f n w rest
leaf_parts f n w x s rest is r =
    let P : Shape → Type 0 = λ v. Ready f n w v in
    let q = subst P is r in
    record {
      sound = q.sound;
      ordered = ordered-weaken 0 (leaf_rank x) (contents rest) (omega arith) (ordered_head 0 x (contents rest) q.ordered).others;
      nodes_there = q.nodes_there;
      weight_there = q.weight_there;
    }

pub node_left : (f n w : ℕ) (s c rest : Shape) → s ≡ node c rest → Ready f n w s → Ready f n w c
node_left f n w s c rest is r =
    let P : Shape → Type 0 = λ v. Ready f n w v in
    let q = subst P is r in
    record {
      sound = (node_fits f c rest q.sound).children;
      ordered = ordered-left 0 (contents c) (contents rest) q.ordered;
      nodes_there = omega (arith, q.nodes_there);
      weight_there = omega (arith, q.weight_there);
    }

pub node_right : (f n w : ℕ) (s c rest : Shape) → s ≡ node c rest → Ready f n w s → Ready f n w rest
node_right f n w s c rest is r =
    let P : Shape → Type 0 = λ v. Ready f n w v in
    let q = subst P is r in
    record {
      sound = (node_fits f c rest q.sound).others;
      ordered = ordered-right 0 (contents c) (contents rest) q.ordered;
      nodes_there = omega (arith, q.nodes_there);
      weight_there = omega (arith, q.weight_there);
    }

-- the numbers are as before where nothing was taken out
pub still_ready : (f n w m v : ℕ) (gone : Leaf) (c d rest : Shape) → holds gone (contents c) ≡ false → d ≡ removed gone c → m + node_count c ≡ n + node_count d → v + shape_weight f c ≡ w + shape_weight f d → Ready f n w rest → Ready f m v rest
still_ready f n w m v gone c d rest absent is nodes weight r =
    let same = is ∙ removed-absent gone c absent in
    let size = ap node_count same in
    let heft : shape_weight f d ≡ shape_weight f c = ap (λ k. shape_weight f k) same in
    record {
      sound = r.sound;
      ordered = r.ordered;
      nodes_there = omega (arith, r.nodes_there);
      weight_there = omega (arith, r.weight_there);
    }

-- whether a leaf stands below a node
pub holds-below : (gone : Leaf) (n : Node) → holds gone (contents (below n)) ≡ (if holds gone (out-Node n).leaves.items then true else holds gone (contents (row (out-Node n).nodes.items)))
holds-below gone n = ap (λ v. holds gone v) (below-contents n) ∙ holds-append gone (out-Node n).leaves.items (contents (row (out-Node n).nodes.items))

no_lone : (xs : List Leaf) (ns : List Node) → (0 < length xs) ⊎ (length ns ≢ 1) → lone (leaves_before xs (row ns)) ≡ false
no_lone (x ∷ xs) ns h = refl
no_lone [] [] h = refl
no_lone [] (m ∷ []) (inl h) = absurd (omega arith)
no_lone [] (m ∷ []) (inr h) = absurd (h refl)
no_lone [] (m ∷ (k ∷ ns)) h = grind (arith, nat_tests)

-- a node with leaves, or with another number of nodes than one, isn't collapsed
pub stays : (n : Node) → (0 < length (out-Node n).leaves.items) ⊎ (length (out-Node n).nodes.items ≢ 1) → node (below n) done ≡ collapsed (node (below n) done)
stays n h =
    let e = ap lone (below_is n) ∙ no_lone (out-Node n).leaves.items (out-Node n).nodes.items h in
    rw e refl

only_one : (x : Node) (ms ns : List Node) → ns ≡ ms ++ (x ∷ []) → length ns ≡ 1 → ns ≡ x ∷ []
only_one x [] ns e h = e
only_one x (m ∷ ms) ns e h = absurd (omega (arith, ap length e, length-append ms (x ∷ [])))

-- the one child of a node
pub one_child : (n child : Node) (ms : List Node) → length (out-Node n).nodes.items ≡ 1 → (out-Node n).nodes.items ≡ ms ++ (child ∷ []) → (out-Node n).nodes.items ≡ child ∷ []
one_child n child ms h e = only_one child ms (out-Node n).nodes.items e h

pub lone_child : (n child : Node) → length (out-Node n).leaves.items ≡ 0 → (out-Node n).nodes.items ≡ child ∷ [] → below n ≡ node (below child) done
lone_child n child none one =
    below_is n ∙ ap (λ v. leaves_before v (row (out-Node n).nodes.items)) (no_items (out-Node n).leaves.items none) ∙ ap row one
