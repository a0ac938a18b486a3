-- The steps of a walk to the last leaf up to a rank.
use Rattle.std.proofs.Common.{◌≡◌, ℕ, List, Option, ◌<◌, ◌≤◌, true, false, Some, None, refl, ap, sym, ◌∙◌, arith, inl, inr, append-nil}
use Rattle.std.specs.Prelude.{nat_le, ◌++◌, [], ◌∷◌}
use Rattle.std.proofs.lemmas.Bool.{cases_Bool}
use Rattle.std.specs.List.{last_or}
use Rattle.std.proofs.lemmas.Bool.Decides.{nat_tests}
use Rattle.std.proofs.lemmas.List.Elements.{filter-append}
use Rattle.index_tree.specs.declared.leaf.Leaf.{Leaf}
use Rattle.index_tree.specs.declared.node.Node.{Node}
use Rattle.index_tree.specs.declared.node.Node.TheViews.{out-Node}
use Rattle.index_tree.specs.Tree.{below, row}
use Rattle.index_tree.proofs.TreeLaws.{below-contents, below-filled}
use Rattle.index_tree.proofs.InsertLaws.{fits-filled}
use Rattle.index_tree.specs.Keyed.{HaveKeys}
use Rattle.index_tree.specs.LastBlock.{is_block_of, last_block, last_rank, up_to}
use Rattle.index_tree.proofs.LastBlockLaws.{block_alone, last_block-is, last_block-greatest, last_block-none, up_to-some, up_to-none, up_to-later, last-right}
use Rattle.index_tree.specs.Order.{leaf_rank, ordered_from}
use Rattle.index_tree.proofs.OrderLaws.{ordered_head, ordered_cons, ordered-right}
use Rattle.index_tree.proofs.SearchLaws.{node_filled, begins-starts}
use Rattle.index_tree.specs.Shape.{Shape, leaf, node, contents, filled, begins_within}

-- where the last leaf up to a rank stands in a row that begins with a leaf
pub record LastAtLeaf (k : ℕ) (x : Leaf) (s rest : Shape) : Type 0 where
  pub behind : begins_within k rest ≡ true → last_or None (up_to k (contents s)) ≡ last_or None (up_to k (contents rest))
  pub here : begins_within k rest ≡ false → leaf_rank x ≤ k → last_or None (up_to k (contents s)) ≡ Some x
  pub none : begins_within k rest ≡ false → k < leaf_rank x → last_or None (up_to k (contents s)) ≡ None

pub last_at_leaf : (k : ℕ) (x : Leaf) (s rest : Shape) → s ≡ leaf x rest → filled s ≡ true → ordered_from 0 (contents s) ≡ true → LastAtLeaf k x s rest
last_at_leaf k x s rest is f o =
    let sound : filled rest ≡ true = rw is at f in
    let p = ordered_head 0 x (contents rest) (rw is at o) in
    let starts = begins-starts k rest sound in
    record {
      behind = λ b. rw is (elim (cases_Bool (nat_le (leaf_rank x) k)) [
        | inl e ↦ rw e (last-right None None (x ∷ []) (up_to k (contents rest)) (up_to-some k (contents rest) (sym starts ∙ b)))
        | inr e ↦ rw e refl
      ]);
      here = λ b h.
          let later = up_to-later (leaf_rank x) k (contents rest) p.others (sym starts ∙ b) in
          let e : nat_le (leaf_rank x) k ≡ true = grind (arith, nat_tests) in
          rw is (rw e (rw later refl));
      none = λ b h.
          let later = up_to-later (leaf_rank x) k (contents rest) p.others (sym starts ∙ b) in
          let e : nat_le (leaf_rank x) k ≡ false = grind (arith, nat_tests) in
          rw is (rw e (rw later refl));
    }

-- and in one that begins with a node
pub record LastAtNode (k : ℕ) (s c rest : Shape) : Type 0 where
  pub behind : begins_within k rest ≡ true → last_or None (up_to k (contents s)) ≡ last_or None (up_to k (contents rest))
  pub below : begins_within k rest ≡ false → last_or None (up_to k (contents s)) ≡ last_or None (up_to k (contents c))

pub last_at_node : (k : ℕ) (s c rest : Shape) → s ≡ node c rest → filled s ≡ true → ordered_from 0 (contents s) ≡ true → LastAtNode k s c rest
last_at_node k s c rest is f o =
    let p = node_filled c rest (rw is at f) in
    let both : ordered_from 0 (contents c ++ contents rest) ≡ true = rw is at o in
    let starts = begins-starts k rest p.others in
    let apart = ap (λ v. up_to k (contents v)) is ∙ filter-append (λ x. nat_le (leaf_rank x) k) (contents c) (contents rest) in
    record {
      behind = λ b. ap (λ v. last_or None v) apart ∙ last-right None None (up_to k (contents c)) (up_to k (contents rest)) (up_to-some k (contents rest) (sym starts ∙ b));
      below = λ b.
          let later = up_to-later 0 k (contents rest) (ordered-right 0 (contents c) (contents rest) both) (sym starts ∙ b) in
          ap (λ v. last_or None v) (apart ∙ ap (λ v. up_to k (contents c) ++ v) later ∙ append-nil (up_to k (contents c)));
    }

pub ruleset last_of_inode = (nat_tests, last_block-is, last_block-greatest, last_block-none, fits-filled)

-- what the last leaf up to the greatest rank of a block says of the last block
pub found_block : (ino at : ℕ) (xs : List Leaf) (r : Option Leaf) (x : Leaf) → ordered_from 0 xs ≡ true → HaveKeys xs → at ≡ last_rank ino → r ≡ last_or None (up_to at xs) → r ≡ Some x → is_block_of ino x.key ≡ true → Some x ≡ last_block ino xs
found_block ino at xs r x s k top e is b =
    let last : last_or None (up_to (last_rank ino) xs) ≡ Some x = ap (λ n. last_or None (up_to n xs)) (sym top) ∙ sym e ∙ is in
    sym (last_block-is ino xs s k ∙ ap (λ o. block_alone ino o) last ∙ rw b refl)

pub no_block : (ino at : ℕ) (xs : List Leaf) (r : Option Leaf) (x : Leaf) → ordered_from 0 xs ≡ true → HaveKeys xs → at ≡ last_rank ino → r ≡ last_or None (up_to at xs) → r ≡ Some x → is_block_of ino x.key ≡ false → None ≡ last_block ino xs
no_block ino at xs r x s k top e is b =
    let last : last_or None (up_to (last_rank ino) xs) ≡ Some x = ap (λ n. last_or None (up_to n xs)) (sym top) ∙ sym e ∙ is in
    sym (last_block-is ino xs s k ∙ ap (λ o. block_alone ino o) last ∙ rw b refl)

pub no_leaf : (ino at : ℕ) (xs : List Leaf) (r : Option Leaf) → ordered_from 0 xs ≡ true → HaveKeys xs → at ≡ last_rank ino → r ≡ last_or None (up_to at xs) → r ≡ None → None ≡ last_block ino xs
no_leaf ino at xs r s k top e is =
    let last : last_or None (up_to (last_rank ino) xs) ≡ None = ap (λ n. last_or None (up_to n xs)) (sym top) ∙ sym e ∙ is in
    sym (last_block-is ino xs s k ∙ ap (λ o. block_alone ino o) last)

last_is : (y : Leaf) (ys : List Leaf) → (z : Leaf) × (last_or (Some y) ys ≡ Some z)
last_is y [] = (y, refl)
last_is y (z ∷ ys) = last_is z ys

-- the last of a leaf and those behind it
pub last_after_none : (x : Leaf) (ys : List Leaf) → None ≡ last_or None ys → last_or (Some x) ys ≡ Some x
last_after_none x [] h = refl
last_after_none x (y ∷ ys) h = let p = last_is y ys in let e = h ∙ p.1 in absurd cc

pub last_after_some : (x y : Leaf) (ys : List Leaf) → Some y ≡ last_or None ys → last_or (Some x) ys ≡ Some y
last_after_some x y [] h = absurd cc
last_after_some x y (z ∷ ys) h = sym h

pub last_cons : (k : ℕ) (x : Leaf) (rest : List Leaf) → leaf_rank x ≤ k → last_or None (up_to k (x ∷ rest)) ≡ last_or (Some x) (up_to k rest)
last_cons k x rest h =
    let e : nat_le (leaf_rank x) k ≡ true = grind (arith, nat_tests) in
    rw e refl

pub last_above : (k : ℕ) (x : Leaf) (rest : List Leaf) → k < leaf_rank x → ordered_from 0 (x ∷ rest) ≡ true → up_to k (x ∷ rest) ≡ []
last_above k x rest h o =
    let p = ordered_head 0 x rest o in
    up_to-none (leaf_rank x) k (x ∷ rest) h (ordered_cons (leaf_rank x) x rest (omega arith) p.others)

-- where the last leaf up to a rank stands below a node
pub record LastBelow (k : ℕ) (n : Node) : Type 0 where
  pub behind : begins_within k (row (out-Node n).nodes.items) ≡ true → last_or None (up_to k (contents (below n))) ≡ last_or None (up_to k (contents (row (out-Node n).nodes.items)))
  pub own : begins_within k (row (out-Node n).nodes.items) ≡ false → last_or None (up_to k (contents (below n))) ≡ last_or None (up_to k (out-Node n).leaves.items)

pub last_below : (k : ℕ) (n : Node) → filled (below n) ≡ true → ordered_from 0 (contents (below n)) ≡ true → LastBelow k n
last_below k n f o =
    let xs = (out-Node n).leaves.items in
    let rest = row (out-Node n).nodes.items in
    let both : ordered_from 0 (xs ++ contents rest) ≡ true = rw (below-contents n) at o in
    let starts = begins-starts k rest (sym (below-filled n) ∙ f) in
    let apart = ap (λ v. up_to k v) (below-contents n) ∙ filter-append (λ x. nat_le (leaf_rank x) k) xs (contents rest) in
    record {
      behind = λ b. ap (λ v. last_or None v) apart ∙ last-right None None (up_to k xs) (up_to k (contents rest)) (up_to-some k (contents rest) (sym starts ∙ b));
      own = λ b.
          let later = up_to-later 0 k (contents rest) (ordered-right 0 xs (contents rest) both) (sym starts ∙ b) in
          ap (λ v. last_or None v) (apart ∙ ap (λ v. up_to k xs ++ v) later ∙ append-nil (up_to k xs));
    }
