-- The steps of a walk to the leaves of one key.
use Rattle.std.proofs.Common.{◌≡◌, ℕ, ◌+◌, ◌-◌, ◌<◌, true, false, ◌&&◌, List, [], ◌∷◌, ◌++◌, length, Some, zero, suc, ap, sym, ◌∙◌, arith, inl, inr, nat_lt, length-append}
use Rattle.std.specs.Prelude.{slice_get, ◌==◌}
use Rattle.std.proofs.lemmas.Bool.{cases_Bool}
use Rattle.std.proofs.lemmas.Bool.Decides.{nat_tests}
use Rattle.std.proofs.lemmas.List.Elements.{filter-append}
use Rattle.index_tree.specs.declared.leaf.Leaf.{Leaf}
use Rattle.index_tree.specs.Order.{leaf_rank, ordered_from, of_rank}
use Rattle.index_tree.proofs.OrderLaws.{ordered_head, ordered-weaken, ordered-left, ordered-right, none_before, none_within, none_above}
use Rattle.index_tree.proofs.SearchLaws.{node_filled, begins-starts}
use Rattle.index_tree.specs.declared.node.Node.{Node}
use Rattle.index_tree.specs.declared.node.Node.TheViews.{out-Node}
use Rattle.index_tree.specs.Tree.{below, row}
use Rattle.index_tree.proofs.TreeLaws.{below-contents}
use Rattle.index_tree.specs.Shape.{Shape, leaf, node, contents, filled, begins_within}

-- what is known of the parts of a row that begins with a leaf
pub record AtLeaf (x : Leaf) (rest : Shape) : Type 0 where
  pub filled_rest : filled rest ≡ true
  pub ordered_rest : ordered_from 0 (contents rest) ≡ true
  pub none_lower : (k : ℕ) → k < leaf_rank x → of_rank k (contents rest) ≡ []

pub at_leaf : (x : Leaf) (s rest : Shape) → s ≡ leaf x rest → filled s ≡ true → ordered_from 0 (contents s) ≡ true → AtLeaf x rest
at_leaf x s rest is f o =
    let p = ordered_head 0 x (contents rest) (rw is at o) in
    record {
      filled_rest = rw is at f;
      ordered_rest = ordered-weaken 0 (leaf_rank x) (contents rest) (omega arith) p.others;
      none_lower = λ k h. none_above (leaf_rank x) k (contents rest) h p.others;
    }

-- and of a row that begins with a node
pub record AtNode (c rest : Shape) : Type 0 where
  pub filled_children : filled c ≡ true
  pub filled_rest : filled rest ≡ true
  pub ordered_children : ordered_from 0 (contents c) ≡ true
  pub ordered_rest : ordered_from 0 (contents rest) ≡ true
  pub none_left : (k : ℕ) → (nat_lt 0 k && begins_within (k - 1) rest) ≡ true → of_rank k (contents c) ≡ []
  pub none_right : (k : ℕ) → begins_within k rest ≡ false → of_rank k (contents rest) ≡ []

pub at_node : (s c rest : Shape) → s ≡ node c rest → filled s ≡ true → ordered_from 0 (contents s) ≡ true → AtNode c rest
at_node s c rest is f o =
    let p = node_filled c rest (rw is at f) in
    let both : ordered_from 0 (contents c ++ contents rest) ≡ true = rw is at o in
    record {
      filled_children = p.children;
      filled_rest = p.others;
      ordered_children = ordered-left 0 (contents c) (contents rest) both;
      ordered_rest = ordered-right 0 (contents c) (contents rest) both;
      none_left = λ k h. elim (cases_Bool (nat_lt 0 k)) [
        | inr e ↦ let none = rw e at h in absurd cc
        | inl e ↦
            let starts = sym (begins-starts (k - 1) rest p.others) ∙ (rw e at h) in
            none_before 0 (k - 1) k (contents c) (contents rest) (grind (arith, nat_tests)) both starts
      ];
      none_right = λ k h. none_within 0 k (contents rest) (ordered-right 0 (contents c) (contents rest) both) (sym (begins-starts k rest p.others) ∙ h);
    }

pub get_left : (xs ys : List Leaf) (i : ℕ) (x : Leaf) → slice_get xs i ≡ Some x → slice_get (xs ++ ys) i ≡ Some x
get_left [] ys i x h = absurd cc
get_left (z ∷ xs) ys zero x h = h
get_left (z ∷ xs) ys (suc i) x h = get_left xs ys i x h

pub get_right : (xs ys : List Leaf) (i j : ℕ) → i ≡ length xs + j → slice_get (xs ++ ys) i ≡ slice_get ys j
get_right [] ys i j h = ap (λ n. slice_get ys n) (omega arith)
get_right (z ∷ xs) ys zero j h = absurd (omega arith)
get_right (z ∷ xs) ys (suc i) j h = get_right xs ys i j (omega arith)

pub ruleset searching = (nat_tests, at_leaf, at_node, filter-append, get_left, get_right)

pub length_apart : (k : ℕ) (s c rest : Shape) → s ≡ node c rest → of_rank k (contents rest) ≡ [] → length (of_rank k (contents c)) ≡ length (of_rank k (contents s))
length_apart k s c rest is none =
    let whole : of_rank k (contents s) ≡ of_rank k (contents c) ++ of_rank k (contents rest) = ap (λ v. of_rank k (contents v)) is ∙ filter-append (λ x. leaf_rank x == k) (contents c) (contents rest) in
    let sum = length-append (of_rank k (contents c)) (of_rank k (contents rest)) in
    let zero_behind = ap length none in
    omega (arith, ap length whole)

pub none_at_leaf : (k : ℕ) (x : Leaf) (s rest : Shape) → s ≡ leaf x rest → k < leaf_rank x → of_rank k (contents rest) ≡ [] → of_rank k (contents s) ≡ []
none_at_leaf k x s rest is h none =
    let other : (leaf_rank x == k) ≡ false = grind (arith, nat_tests) in
    ap (λ v. of_rank k (contents v)) is ∙ rw other none

pub of_rank_behind : (k : ℕ) (s c rest : Shape) → s ≡ node c rest → of_rank k (contents c) ≡ [] → of_rank k (contents s) ≡ of_rank k (contents rest)
of_rank_behind k s c rest is none =
    ap (λ v. of_rank k (contents v)) is ∙ filter-append (λ x. leaf_rank x == k) (contents c) (contents rest) ∙ ap (λ v. v ++ of_rank k (contents rest)) none

pub none_here : (k : ℕ) (x : Leaf) (rest : List Leaf) → k < leaf_rank x → ordered_from 0 (x ∷ rest) ≡ true → of_rank k (x ∷ rest) ≡ []
none_here k x rest h o =
    let other : (leaf_rank x == k) ≡ false = grind (arith, nat_tests) in
    rw other (none_above (leaf_rank x) k rest h (ordered_head 0 x rest o).others)

-- the leaves of one key below a node are its own and those below its nodes
pub of_rank_below : (k : ℕ) (n : Node) → of_rank k (contents (below n)) ≡ of_rank k (out-Node n).leaves.items ++ of_rank k (contents (row (out-Node n).nodes.items))
of_rank_below k n = ap (λ v. of_rank k v) (below-contents n) ∙ filter-append (λ x. leaf_rank x == k) (out-Node n).leaves.items (contents (row (out-Node n).nodes.items))
