-- Where the first leaf of a greater rank stands.
use Rattle.std.specs.Prelude.{◌≡◌, ℕ, nat_lt, true, false, List, [], ◌∷◌, ◌++◌, Some, None}
use Rattle.std.specs.Option.{option_or}
use Rattle.std.proofs.Common.{refl, ap, sym, ◌∙◌, arith}
use Rattle.std.proofs.lemmas.Bool.Decides.{nat_tests}
use Rattle.std.proofs.lemmas.List.Folds.{find-append}
use Rattle.index_tree.specs.declared.leaf.Leaf.{Leaf}
use Rattle.index_tree.specs.declared.node.Node.{Node}
use Rattle.index_tree.specs.declared.node.Node.TheViews.{out-Node}
use Rattle.index_tree.specs.Order.{leaf_rank, ordered_from, starts_within, first_after}
use Rattle.index_tree.specs.Shape.{Shape, node, contents, filled, begins_within}
use Rattle.index_tree.specs.Tree.{below, row}
use Rattle.index_tree.proofs.OrderLaws.{ordered_head, low_before}
use Rattle.index_tree.proofs.SearchLaws.{node_filled, begins-starts}
use Rattle.index_tree.proofs.TreeLaws.{below-contents}

-- no leaf before a list that begins within the rank is above it
pub none_after_before : (low k : ℕ) (xs ys : List Leaf) → ordered_from low (xs ++ ys) ≡ true → starts_within k ys ≡ true → first_after k xs ≡ None
none_after_before low k [] ys o s = refl
none_after_before low k (x ∷ xs) ys o s =
    let p = ordered_head low x (xs ++ ys) o in
    let within = low_before (leaf_rank x) k xs ys p.others s in
    let e : nat_lt k (leaf_rank x) ≡ false = grind (arith, nat_tests, within) in
    rw e (none_after_before (leaf_rank x) k xs ys p.others s)

pub after_left : (k : ℕ) (xs ys : List Leaf) (x : Leaf) → first_after k xs ≡ Some x → first_after k (xs ++ ys) ≡ Some x
after_left k xs ys x h = find-append (λ y. nat_lt k (leaf_rank y)) xs ys ∙ ap (λ v. option_or v (first_after k ys)) h

pub after_right : (k : ℕ) (xs ys : List Leaf) → first_after k xs ≡ None → first_after k (xs ++ ys) ≡ first_after k ys
after_right k xs ys h = find-append (λ y. nat_lt k (leaf_rank y)) xs ys ∙ ap (λ v. option_or v (first_after k ys)) h

-- behind a node
pub after_behind : (k : ℕ) (s c rest : Shape) → s ≡ node c rest → filled s ≡ true → ordered_from 0 (contents s) ≡ true → begins_within k rest ≡ true → first_after k (contents s) ≡ first_after k (contents rest)
after_behind k s c rest is f o b =
    let p = node_filled c rest (rw is at f) in
    let both : ordered_from 0 (contents c ++ contents rest) ≡ true = rw is at o in
    let starts = sym (begins-starts k rest p.others) ∙ b in
    ap (λ v. first_after k (contents v)) is ∙ after_right k (contents c) (contents rest) (none_after_before 0 k (contents c) (contents rest) both starts)

-- below it
pub after_inside : (k : ℕ) (s c rest : Shape) (x : Leaf) → s ≡ node c rest → first_after k (contents c) ≡ Some x → first_after k (contents s) ≡ Some x
after_inside k s c rest x is h = ap (λ v. first_after k (contents v)) is ∙ after_left k (contents c) (contents rest) x h

-- or behind it, where none is below
pub after_past : (k : ℕ) (s c rest : Shape) → s ≡ node c rest → first_after k (contents c) ≡ None → first_after k (contents s) ≡ first_after k (contents rest)
after_past k s c rest is h = ap (λ v. first_after k (contents v)) is ∙ after_right k (contents c) (contents rest) h

-- below a node: among its own leaves, or below its nodes
pub after_own : (k : ℕ) (n : Node) (x : Leaf) → first_after k (out-Node n).leaves.items ≡ Some x → first_after k (contents (below n)) ≡ Some x
after_own k n x h = ap (λ v. first_after k v) (below-contents n) ∙ after_left k (out-Node n).leaves.items (contents (row (out-Node n).nodes.items)) x h

pub after_below : (k : ℕ) (n : Node) → first_after k (out-Node n).leaves.items ≡ None → first_after k (contents (below n)) ≡ first_after k (contents (row (out-Node n).nodes.items))
after_below k n h = ap (λ v. first_after k v) (below-contents n) ∙ after_right k (out-Node n).leaves.items (contents (row (out-Node n).nodes.items)) h

pub ruleset following = (nat_tests, after_left, after_right)
