-- What a node says of its parts.
use Rattle.std.specs.Prelude.{◌≡◌, ℕ, ◌+◌, ◌<◌, ◌≤◌, true, ◌&&◌, nat_le, List, [], ◌∷◌, ◌++◌, length}
use Rattle.std.proofs.Common.{refl, ap, sym, ◌∙◌, arith, inl, inr}
use Rattle.std.proofs.lemmas.Bool.{cases_Bool}
use Rattle.std.proofs.lemmas.Bool.Decides.{nat_tests}
use Rattle.index_tree.specs.declared.leaf.Leaf.{Leaf}
use Rattle.index_tree.specs.declared.node.Node.{Node}
use Rattle.index_tree.specs.declared.node.Node.TheOpen.{Node-F}
use Rattle.index_tree.specs.declared.node.Node.TheViews.{out-Node, roll-Node}
use Rattle.index_tree.specs.declared.node.Node.TheFolds.{fold-roll-Node, fold_out-Node}
use Rattle.index_tree.specs.Order.{key_rank}
use Rattle.index_tree.specs.Shape.{Shape, done, leaf, node, contents, count, filled, first_rank, begins_within}
use Rattle.index_tree.proofs.SearchLaws.{node_filled}
use Rattle.index_tree.specs.Tree.{Seen, seen_row, seen_keep, seen_step, seen, leaves_before, is_first, below, kept, row, kept_all}
use Rattle.std.proofs.Common.{map, get_or, take, drop, zero, suc}
use Rattle.std.specs.Vec.{with_items}

seen_row-is : (ns : List Node) → seen_row (map seen ns) ≡ row ns
unfolding below
seen_row-is [] = refl
seen_row-is (n ∷ ns) = ap (λ v. node (below n) v) (seen_row-is ns)

seen_keep-is : (ns : List Node) → seen_keep (map seen ns) ≡ kept_all ns
unfolding kept
seen_keep-is [] = refl
seen_keep-is (n ∷ ns) = ap (λ v. kept n && v) (seen_keep-is ns)

-- the children of a node that is made
pub below_made : (x : Node-F Node) → below (roll-Node x) ≡ leaves_before x.leaves.items (row x.nodes.items)
unfolding below
below_made x = ap (λ s. s.children) (fold-roll-Node Seen seen_step x) ∙ ap (λ v. leaves_before x.leaves.items v) (seen_row-is x.nodes.items)

-- and of one that is there
pub below_is : (n : Node) → below n ≡ leaves_before (out-Node n).leaves.items (row (out-Node n).nodes.items)
unfolding below
below_is n = ap (λ s. s.children) (fold_out-Node Seen seen_step n) ∙ ap (λ v. leaves_before (out-Node n).leaves.items v) (seen_row-is (out-Node n).nodes.items)

pub kept_made : (x : Node-F Node) → kept (roll-Node x) ≡ (is_first x.first (leaves_before x.leaves.items (row x.nodes.items)) && kept_all x.nodes.items)
unfolding kept
kept_made x =
    ap (λ s. s.keeps) (fold-roll-Node Seen seen_step x)
    ∙ ap (λ v. is_first x.first (leaves_before x.leaves.items v) && seen_keep (map seen x.nodes.items)) (seen_row-is x.nodes.items)
    ∙ ap (λ v. is_first x.first (leaves_before x.leaves.items (row x.nodes.items)) && v) (seen_keep-is x.nodes.items)

pub kept_is : (n : Node) → kept n ≡ (is_first (out-Node n).first (leaves_before (out-Node n).leaves.items (row (out-Node n).nodes.items)) && kept_all (out-Node n).nodes.items)
unfolding kept
kept_is n =
    ap (λ s. s.keeps) (fold_out-Node Seen seen_step n)
    ∙ ap (λ v. is_first (out-Node n).first (leaves_before (out-Node n).leaves.items v) && seen_keep (map seen (out-Node n).nodes.items)) (seen_row-is (out-Node n).nodes.items)
    ∙ ap (λ v. is_first (out-Node n).first (leaves_before (out-Node n).leaves.items (row (out-Node n).nodes.items)) && v) (seen_keep-is (out-Node n).nodes.items)

-- what a node keeps, below it too
pub record Kept (n : Node) : Type 0 where
  pub first_is : key_rank (out-Node n).first ≡ first_rank (below n)
  pub inside : kept_all (out-Node n).nodes.items ≡ true

pub kept_node : (n : Node) → kept n ≡ true → Kept n
kept_node n h =
    let both = sym (kept_is n) ∙ h in
    elim (cases_Bool (is_first (out-Node n).first (leaves_before (out-Node n).leaves.items (row (out-Node n).nodes.items)))) [
      | inr e ↦ let none = rw e at both in absurd cc
      | inl e ↦
          let same : key_rank (out-Node n).first ≡ first_rank (leaves_before (out-Node n).leaves.items (row (out-Node n).nodes.items)) = grind (arith, nat_tests) in
          record { first_is = same ∙ sym (ap first_rank (below_is n)); inside = rw e at both }
    ]

-- a node that is made keeps its key where its first leaf has it
pub node_keeps : (x : Node-F Node) → key_rank x.first ≡ first_rank (leaves_before x.leaves.items (row x.nodes.items)) → kept_all x.nodes.items ≡ true → kept (roll-Node x) ≡ true
node_keeps x first inside =
    let e : is_first x.first (leaves_before x.leaves.items (row x.nodes.items)) ≡ true = grind (arith, nat_tests) in
    kept_made x ∙ rw (e, inside) refl

pub record KeptAll (n : Node) (ns : List Node) : Type 0 where
  pub head : kept n ≡ true
  pub tail : kept_all ns ≡ true

pub kept_cons : (n : Node) (ns : List Node) → kept_all (n ∷ ns) ≡ true → KeptAll n ns
kept_cons n ns h = elim (cases_Bool (kept n)) [
  | inr e ↦ let none = rw e at h in absurd cc
  | inl e ↦ record { head = e; tail = rw e at h }
]

pub leaves-count : (xs : List Leaf) (s : Shape) → count (leaves_before xs s) ≡ length xs + count s
leaves-count [] s = omega arith
leaves-count (x ∷ xs) s = omega (arith, leaves-count xs s)

pub row-count : (ns : List Node) → count (row ns) ≡ length ns
row-count [] = omega arith
row-count (n ∷ ns) = omega (arith, row-count ns)

pub below-count : (n : Node) → count (below n) ≡ length (out-Node n).leaves.items + length (out-Node n).nodes.items
below-count n = ap count (below_is n) ∙ leaves-count (out-Node n).leaves.items (row (out-Node n).nodes.items) ∙ ap (λ k. length (out-Node n).leaves.items + k) (row-count (out-Node n).nodes.items)

pub begins-first : (k : ℕ) (s : Shape) → filled s ≡ true → 0 < count s → begins_within k s ≡ nat_le (first_rank s) k
begins-first k done f h = absurd (omega arith)
begins-first k (leaf x rest) f h = refl
begins-first k (node c rest) f h =
    let p = node_filled c rest f in
    begins-first k c p.children p.least

-- a row of nodes begins where the first one says
pub row-begins : (k : ℕ) (n : Node) (ns : List Node) → kept n ≡ true → filled (row (n ∷ ns)) ≡ true → begins_within k (row (n ∷ ns)) ≡ nat_le (key_rank (out-Node n).first) k
row-begins k n ns h f = begins-first k (row (n ∷ ns)) f (omega arith) ∙ ap (λ v. nat_le v k) (sym (kept_node n h).first_is)

pub first_leaf : (xs : List Leaf) (s : Shape) (x : Leaf) → 0 < length xs → get_or xs 0 x ≡ x → first_rank (leaves_before xs s) ≡ key_rank x.key
first_leaf [] s x h e = absurd (omega arith)
first_leaf (y ∷ xs) s x h e = ap (λ v. key_rank v.key) e

pub no_items : {A : Type 0} (xs : List A) → length xs ≡ 0 → xs ≡ []
no_items [] h = refl
no_items (x ∷ xs) h = absurd (omega arith)

pub leaves-contents : (xs : List Leaf) (s : Shape) → contents (leaves_before xs s) ≡ xs ++ contents s
leaves-contents [] s = refl
leaves-contents (x ∷ xs) s = ap (λ v. x ∷ v) (leaves-contents xs s)

pub leaves-filled : (xs : List Leaf) (s : Shape) → filled (leaves_before xs s) ≡ filled s
leaves-filled [] s = refl
leaves-filled (x ∷ xs) s = leaves-filled xs s

-- the leaves below a node are its own and those below its nodes
pub below-contents : (n : Node) → contents (below n) ≡ (out-Node n).leaves.items ++ contents (row (out-Node n).nodes.items)
below-contents n = ap contents (below_is n) ∙ leaves-contents (out-Node n).leaves.items (row (out-Node n).nodes.items)

pub below-filled : (n : Node) → filled (below n) ≡ filled (row (out-Node n).nodes.items)
below-filled n = ap filled (below_is n) ∙ leaves-filled (out-Node n).leaves.items (row (out-Node n).nodes.items)

-- a number that falls along a row and down the tree
abbrev pub cells : Shape → ℕ
cells done = 0
cells (leaf x rest) = cells rest + 1
cells (node c rest) = cells c + cells rest + 1

leaves-cells : (xs : List Leaf) (s : Shape) → cells s ≤ cells (leaves_before xs s)
leaves-cells [] s = omega arith
leaves-cells (x ∷ xs) s = omega (arith, leaves-cells xs s)

pub below-cells : (n : Node) → cells (row (out-Node n).nodes.items) ≤ cells (below n)
below-cells n = omega (arith, ap cells (below_is n), leaves-cells (out-Node n).leaves.items (row (out-Node n).nodes.items))

-- a node with the same children
pub below_same : (n : Node) (x : Node-F Node) → x.leaves.items ≡ (out-Node n).leaves.items → row x.nodes.items ≡ row (out-Node n).nodes.items → below (roll-Node x) ≡ below n
below_same n x l m = below_made x ∙ ap (λ v. leaves_before v (row x.nodes.items)) l ∙ ap (λ v. leaves_before (out-Node n).leaves.items v) m ∙ sym (below_is n)

pub kept_same : (n : Node) (x : Node-F Node) → kept n ≡ true → x.first ≡ (out-Node n).first → x.leaves.items ≡ (out-Node n).leaves.items → row x.nodes.items ≡ row (out-Node n).nodes.items → kept_all x.nodes.items ≡ true → kept (roll-Node x) ≡ true
kept_same n x k first l m inside =
    node_keeps x (ap key_rank first ∙ (kept_node n k).first_is ∙ ap first_rank (sym (below_same n x l m) ∙ below_made x)) inside

-- a vector whose elements were lent has as many as before
refill : {A : Type 0} (n : ℕ) (ws xs : List A) → n ≡ length xs → length ws ≡ length xs → take n (ws ++ drop (length ws) xs) ≡ ws
refill zero [] [] h k = refl
refill (suc n) [] [] h k = absurd (omega arith)
refill n [] (x ∷ xs) h k = absurd (omega arith)
refill n (w ∷ ws) [] h k = absurd (omega arith)
refill zero (w ∷ ws) (x ∷ xs) h k = absurd (omega arith)
refill (suc n) (w ∷ ws) (x ∷ xs) h k = ap (λ v. w ∷ v) (refill n ws xs (omega arith) (omega arith))

pub lent_items : (n : Node) (ws : List Node) → length ws ≡ length (out-Node n).nodes.items → (with_items (out-Node n).nodes ws).items ≡ ws
lent_items n ws h = refill (out-Node n).nodes.len ws (out-Node n).nodes.items (out-Node n).nodes.ok.0 h

-- a node whose nodes were lent
pub below_lent : (n : Node) (ws : List Node) → length ws ≡ length (out-Node n).nodes.items →
    below (roll-Node (record { first = (out-Node n).first; leaves = (out-Node n).leaves; nodes = with_items (out-Node n).nodes ws })) ≡ leaves_before (out-Node n).leaves.items (row ws)
below_lent n ws h =
    below_made (record { first = (out-Node n).first; leaves = (out-Node n).leaves; nodes = with_items (out-Node n).nodes ws })
    ∙ ap (λ v. leaves_before (out-Node n).leaves.items (row v)) (lent_items n ws h)

pub kept_lent : (n : Node) (ws : List Node) → length ws ≡ length (out-Node n).nodes.items → kept n ≡ true → row ws ≡ row (out-Node n).nodes.items → kept_all ws ≡ true →
    kept (roll-Node (record { first = (out-Node n).first; leaves = (out-Node n).leaves; nodes = with_items (out-Node n).nodes ws })) ≡ true
kept_lent n ws h k same inside =
    kept_same n (record { first = (out-Node n).first; leaves = (out-Node n).leaves; nodes = with_items (out-Node n).nodes ws }) k refl refl (ap row (lent_items n ws h) ∙ same) (ap kept_all (lent_items n ws h) ∙ inside)

pub ruleset node_parts = (nat_tests, below_is, below_made, leaves-count, row-count, below-count)
