-- The steps of an insertion into a node.
use Rattle.std.proofs.Common.{◌≡◌, ℕ, ◌+◌, ◌<◌, ◌≤◌, true, Bool, ◌⊎◌, refl, ap, sym, ◌∙◌, subst, arith, inl, inr, zero, suc, if◌then◌else◌, nat_le, List, [], ◌∷◌, ◌++◌, length, take, drop, get_or}
use Rattle.std.proofs.Math.ListN.{set}
use Rattle.std.proofs.lemmas.Bool.{cases_Bool}
use Rattle.std.proofs.lemmas.Bool.Decides.{nat_tests}
use Rattle.index_tree.specs.declared.leaf.Leaf.{Leaf}
use Rattle.index_tree.specs.declared.node.Node.{Node}
use Rattle.index_tree.specs.declared.node.Node.TheViews.{out-Node}
use Rattle.index_tree.specs.Order.{leaf_rank, ordered_from}
use Rattle.index_tree.specs.Places.{leaf_place, node_place, IsSpare}
use Rattle.std.specs.Prelude.{Option, None, Some, IfSome}
use Rattle.index_tree.specs.Shape.{Shape, done, node, contents, count, node_count, full, shape_weight, fits, parted, inserted}
use Rattle.index_tree.proofs.GrowthLaws.{Grown, node_fits, inserted-grown, parted-node_count, parted-weight}
use Rattle.index_tree.specs.Places.{splits}
use Rattle.index_tree.specs.Tree.{below, kept, row, kept_all, leaves_before}
use Rattle.index_tree.proofs.TreeLaws.{cells, below_is, below_made, node_keeps, kept_cons, kept_node, below-count}
use Rattle.index_tree.proofs.OrderLaws.{ordered-left, ordered-right}
use Rattle.index_tree.proofs.PlaceLaws.{placed_leaf, passed_leaves, placed_below, kept-append, kept-take, kept-drop}

pub leaves-nodes : (xs : List Leaf) (s : Shape) → node_count (leaves_before xs s) ≡ node_count s
leaves-nodes [] s = refl
leaves-nodes (x ∷ xs) s = leaves-nodes xs s

pub leaves-weight : (f : ℕ) (xs : List Leaf) (s : Shape) → shape_weight f (leaves_before xs s) ≡ shape_weight f s
leaves-weight f [] s = refl
leaves-weight f (x ∷ xs) s = leaves-weight f xs s

pub leaves-fits : (f : ℕ) (xs : List Leaf) (s : Shape) → fits f (leaves_before xs s) ≡ fits f s
leaves-fits f [] s = refl
leaves-fits f (x ∷ xs) s = leaves-fits f xs s

pub below-nodes : (n : Node) → node_count (below n) ≡ node_count (row (out-Node n).nodes.items)
below-nodes n = ap node_count (below_is n) ∙ leaves-nodes (out-Node n).leaves.items (row (out-Node n).nodes.items)

pub below-weight : (f : ℕ) (n : Node) → shape_weight f (below n) ≡ shape_weight f (row (out-Node n).nodes.items)
below-weight f n = ap (λ v. shape_weight f v) (below_is n) ∙ leaves-weight f (out-Node n).leaves.items (row (out-Node n).nodes.items)

pub below-fits : (f : ℕ) (n : Node) → fits f (below n) ≡ fits f (row (out-Node n).nodes.items)
below-fits f n = ap (λ v. fits f v) (below_is n) ∙ leaves-fits f (out-Node n).leaves.items (row (out-Node n).nodes.items)

full_before : (f : ℕ) (c d : Shape) (b : Bool) → b ≡ nat_le f (count c) → count c ≤ count d → (if b then 0 else full f d) + full f c ≡ full f d
full_before f c d b e h = elim (cases_Bool (nat_le f (count c))) [
  | inl t ↦ let bt = e ∙ t in rw bt (grind (arith, nat_tests))
  | inr t ↦ let bt = e ∙ t in rw bt (grind (arith, nat_tests))
]

-- the kept numbers once a node that took one more leaf is settled
pub nodes_settled : (f n m k : ℕ) (c d r : Shape) → m + node_count c ≡ n + node_count d → k ≡ m + splits f d → r ≡ parted f d done → k + node_count (node c done) ≡ n + node_count r
nodes_settled f n m k c d r e raised is =
    let after = ap node_count is ∙ parted-node_count f d done in
    omega arith

pub weight_settled : (f n m k : ℕ) (b : Bool) (c d r : Shape) → 3 ≤ f → count c ≤ f → Grown f c d → b ≡ nat_le f (count c) → m + shape_weight f c ≡ n + shape_weight f d → k ≡ m + (if b then 0 else full f d) → r ≡ parted f d done → k + shape_weight f (node c done) ≡ n + shape_weight f r
weight_settled f n m k b c d r three most g was e raised is =
    let after : shape_weight f r ≡ shape_weight f d + shape_weight f done + 1 + full f d = ap (λ v. shape_weight f v) is ∙ parted-weight f d done three (omega (arith, g.one_more)) in
    let before = full_before f c d b was g.no_fewer in
    omega arith

-- a spare node is there where one more child is too many
pub spare_wanted : (f : ℕ) (b w : Bool) (c d e : Shape) → Grown f c d → e ≡ d → w ≡ nat_le f (count c) → b ≡ w → f + 1 ≤ count e → b ≡ true
spare_wanted f b w c d e g is was same h =
    let as_many = ap count is in
    let t : nat_le f (count c) ≡ true = grind (arith, nat_tests, g.one_more, as_many) in
    same ∙ was ∙ t

-- what the node at a place is
pub record AtPlace (f : ℕ) (ns : List Node) (i : ℕ) (n : Node) : Type 0 where
  pub sound : fits f (below (get_or ns i n)) ≡ true
  pub most : count (below (get_or ns i n)) ≤ f
  pub keeps : kept (get_or ns i n) ≡ true
  pub nodes : node_count (row ns) ≡ node_count (row (take i ns)) + node_count (node (below (get_or ns i n)) done) + node_count (row (drop (suc i) ns))
  pub weight : shape_weight f (row ns) ≡ shape_weight f (row (take i ns)) + shape_weight f (node (below (get_or ns i n)) done) + shape_weight f (row (drop (suc i) ns))

pub at_place : (f : ℕ) (ns : List Node) (i : ℕ) (n : Node) → i < length ns → fits f (row ns) ≡ true → kept_all ns ≡ true → AtPlace f ns i n
at_place f [] i n h s k = absurd (omega arith)
at_place f (m ∷ ms) zero n h s k =
    let p = node_fits f (below m) (row ms) s in
    record { sound = p.children; most = p.most; keeps = (kept_cons m ms k).head; nodes = omega arith; weight = omega arith }
at_place f (m ∷ ms) (suc i) n h s k =
    let p = node_fits f (below m) (row ms) s in
    let q = at_place f ms i n (omega arith) p.others (kept_cons m ms k).tail in
    record { sound = q.sound; most = q.most; keeps = q.keeps; nodes = omega (arith, q.nodes); weight = omega (arith, q.weight) }

pub ordered_at : (ns : List Node) (i : ℕ) (n : Node) → i < length ns → ordered_from 0 (contents (row ns)) ≡ true → ordered_from 0 (contents (below (get_or ns i n))) ≡ true
ordered_at [] i n h o = absurd (omega arith)
ordered_at (m ∷ ms) zero n h o = ordered-left 0 (contents (below m)) (contents (row ms)) o
ordered_at (m ∷ ms) (suc i) n h o = ordered_at ms i n (omega arith) (ordered-right 0 (contents (below m)) (contents (row ms)) o)

pub row-nodes : (ms ns : List Node) → node_count (row (ms ++ ns)) ≡ node_count (row ms) + node_count (row ns)
row-nodes [] ns = omega arith
row-nodes (m ∷ ms) ns = omega (arith, row-nodes ms ns)

pub row-weight : (f : ℕ) (ms ns : List Node) → shape_weight f (row (ms ++ ns)) ≡ shape_weight f (row ms) + shape_weight f (row ns)
row-weight f [] ns = omega arith
row-weight f (m ∷ ms) ns = omega (arith, row-weight f ms ns)

-- a list with one element changed, and with one more behind it
pub set-parts : {A : Type 0} (xs : List A) (i : ℕ) (y : A) → i < length xs → set xs i y ≡ take i xs ++ (y ∷ drop (suc i) xs)
set-parts [] i y h = absurd (omega arith)
set-parts (x ∷ xs) zero y h = refl
set-parts (x ∷ xs) (suc i) y h = ap (λ v. x ∷ v) (set-parts xs i y (omega arith))

insert-parts : {A : Type 0} (xs : List A) (i : ℕ) (y z : A) → i < length xs → take (suc i) (set xs i y) ++ (z ∷ drop (suc i) (set xs i y)) ≡ take i xs ++ (y ∷ (z ∷ drop (suc i) xs))
insert-parts [] i y z h = absurd (omega arith)
insert-parts (x ∷ xs) zero y z h = refl
insert-parts (x ∷ xs) (suc i) y z h = ap (λ v. x ∷ v) (insert-parts xs i y z (omega arith))

pub insert-behind : {A : Type 0} (xs : List A) (i j : ℕ) (y z : A) → i < length xs → j ≡ suc i → take j (set xs i y) ++ (z ∷ drop j (set xs i y)) ≡ take i xs ++ (y ∷ (z ∷ drop (suc i) xs))
insert-behind {A} xs i j y z h e = let P : ℕ → Type 0 = λ k. take k (set xs i y) ++ (z ∷ drop k (set xs i y)) ≡ take i xs ++ (y ∷ (z ∷ drop (suc i) xs)) in subst P (sym e) (insert-parts xs i y z h)

-- a leaf that was put at its place among the leaves of a node
pub leaf_put : (f : ℕ) (x : Leaf) (n : Node) (xs : List Leaf) (i : ℕ) → i ≡ leaf_place (leaf_rank x) (out-Node n).leaves.items → (i < length (out-Node n).leaves.items) ⊎ (row (out-Node n).nodes.items ≡ done) →
    xs ≡ take i (out-Node n).leaves.items ++ (x ∷ drop i (out-Node n).leaves.items) → leaves_before xs (row (out-Node n).nodes.items) ≡ inserted f x (below n)
leaf_put f x n xs i place free is =
    ap (λ v. leaves_before v (row (out-Node n).nodes.items)) is
    ∙ sym (placed_leaf f x (out-Node n).leaves.items (row (out-Node n).nodes.items) i place free)
    ∙ sym (ap (λ v. inserted f x v) (below_is n))

-- a leaf that went into the nodes, behind all leaves
pub nodes_put : (f : ℕ) (x : Leaf) (n : Node) (all : List Node) → length (out-Node n).leaves.items ≤ leaf_place (leaf_rank x) (out-Node n).leaves.items → row all ≡ inserted f x (row (out-Node n).nodes.items) → leaves_before (out-Node n).leaves.items (row all) ≡ inserted f x (below n)
nodes_put f x n all behind is =
    let xs = (out-Node n).leaves.items in
    ap (λ v. leaves_before xs v) is
    ∙ sym (passed_leaves f x xs (row (out-Node n).nodes.items) behind)
    ∙ sym (ap (λ v. inserted f x v) (below_is n))

-- the numbers of a row in which one node was changed
pub row_changed : (f n m k l : ℕ) (ns ms all : List Node) (i : ℕ) (one : Node) → AtPlace f ns i one → all ≡ take i ns ++ (ms ++ drop (suc i) ns) →
    m + node_count (node (below (get_or ns i one)) done) ≡ n + node_count (row ms) → l + shape_weight f (node (below (get_or ns i one)) done) ≡ k + shape_weight f (row ms) →
    (m + node_count (row ns) ≡ n + node_count (row all)) × (l + shape_weight f (row ns) ≡ k + shape_weight f (row all))
row_changed f n m k l ns ms all i one p is e g =
    let a = ap (λ v. node_count (row v)) is ∙ row-nodes (take i ns) (ms ++ drop (suc i) ns) in
    let b = row-nodes ms (drop (suc i) ns) in
    let c : shape_weight f (row all) ≡ shape_weight f (row (take i ns)) + shape_weight f (row (ms ++ drop (suc i) ns)) = ap (λ v. shape_weight f (row v)) is ∙ row-weight f (take i ns) (ms ++ drop (suc i) ns) in
    let d = row-weight f ms (drop (suc i) ns) in
    (omega (arith, p.nodes), omega (arith, p.weight))

-- and its shape
pub row_put : (f : ℕ) (x : Leaf) (ns ms all : List Node) (i : ℕ) (one : Node) → i ≡ node_place (leaf_rank x) (row ns) → i < length ns →
    row ms ≡ parted f (inserted f x (below (get_or ns i one))) done → all ≡ take i ns ++ (ms ++ drop (suc i) ns) → row all ≡ inserted f x (row ns)
row_put f x ns ms all i one place bound is all_is = ap row all_is ∙ sym (placed_below f x ns ms i one place bound is)

pub row_kept : (ns ms all : List Node) (i : ℕ) → kept_all ns ≡ true → kept_all ms ≡ true → all ≡ take i ns ++ (ms ++ drop (suc i) ns) → kept_all all ≡ true
row_kept ns ms all i k h is =
    ap kept_all is ∙ kept-append (take i ns) (ms ++ drop (suc i) ns) (kept-take i ns k) (kept-append ms (drop (suc i) ns) h (kept-drop (suc i) ns k))

-- a row of which one node was changed, and its children weren't
pub row_same : (ns all : List Node) (i : ℕ) (one m : Node) → i < length ns → below m ≡ below (get_or ns i one) → all ≡ set ns i m → row all ≡ row ns
row_same [] all i one m h same is = absurd (omega arith)
row_same (n ∷ ns) all zero one m h same is = ap row is ∙ ap (λ v. node v (row ns)) same
row_same (n ∷ ns) all (suc i) one m h same is = ap row is ∙ ap (λ v. node (below n) v) (row_same ns (set ns i m) i one m (omega arith) same refl)

pub place-cells : (ns : List Node) (i : ℕ) (n : Node) → i < length ns → cells (below (get_or ns i n)) < cells (row ns)
place-cells [] i n h = absurd (omega arith)
place-cells (m ∷ ms) zero n h = omega arith
place-cells (m ∷ ms) (suc i) n h = omega (arith, place-cells ms i n (omega arith))

pub spare_room : (s : Option Node) (a b c d : ℕ) → a ≤ c → b ≤ d → IfSome s (λ one. IsSpare c d one) → IfSome s (λ one. IsSpare a b one)
spare_room None a b c d h k r = r
spare_room (Some one) a b c d h k r = record { no_leaves = r.no_leaves; no_nodes = r.no_nodes; leaf_room = omega (arith, r.leaf_room); node_room = omega (arith, r.node_room) }

pub ruleset inserting_leaf = (nat_tests, inserted-grown, below-count)
