-- Keys that lie between those of branches put the leaves in order.
use Rattle.std.proofs.Common.{◌≡◌, ℕ, ◌≤◌, true, List, [], ◌∷◌, ◌++◌, refl, sym, subst, arith, append-nil}
use Rattle.std.specs.Prelude.{Option, Some, nat_le}
use Rattle.std.proofs.lemmas.Bool.{and_parts, and_from, leb-true, le-leb}
use Rattle.index_tree.specs.Order.{leaf_rank, ordered_from}
use Rattle.index_tree.specs.Shape.{contents}
use Rattle.index_tree.specs.declared.leaf.Leaf.{Leaf}
use Rattle.index_media.specs.KeyedBounds.{AreAtMost, most_append, most_weaken, lower_at_most}
use Rattle.index_media.specs.Keys.{branch_rank, IsAtMost, bound_before, AreBounded}
use Rattle.index_media.specs.PlacedRow.{PlacedRow, ended, leaf_at, node_at, plain}

-- what bounds the keys before a row is within what bounds the row
bound_within : (least : ℕ) (most : Option ℕ) (rest : PlacedRow) → AreBounded least most rest → (n : ℕ) → IsAtMost n (bound_before rest most) → IsAtMost n most
bound_within least most ended h n l = l
bound_within least most (leaf_at x rest) h n l = lower_at_most n (leaf_rank x) most l h.1
bound_within least most (node_at b c rest) h n l = lower_at_most n (branch_rank b) most l h.1

row_at_most : (least : ℕ) (most : Option ℕ) (row : PlacedRow) → AreBounded least most row → AreAtMost most (contents (plain row))
row_at_most least most ended h = tt
row_at_most least most (leaf_at x rest) h = (h.1, row_at_most (leaf_rank x) most rest h.2)
row_at_most least most (node_at b c rest) h =
    most_append most (contents (plain c)) (contents (plain rest))
    (most_weaken (bound_before rest most) most (contents (plain c)) (bound_within (branch_rank b) most rest h.3) (row_at_most (branch_rank b) (bound_before rest most) c h.2))
    (row_at_most (branch_rank b) most rest h.3)

ordered_cons : (low : ℕ) (x : Leaf) (xs : List Leaf) → low ≤ leaf_rank x → ordered_from (leaf_rank x) xs ≡ true → ordered_from low (x ∷ xs) ≡ true
ordered_cons low x xs least others = and_from (nat_le low (leaf_rank x)) (ordered_from (leaf_rank x) xs) (le-leb low (leaf_rank x) least) others

ordered_weaken : (low high : ℕ) (xs : List Leaf) → low ≤ high → ordered_from high xs ≡ true → ordered_from low xs ≡ true
ordered_weaken low high [] h o = refl
ordered_weaken low high (x ∷ xs) h o =
    let parts = and_parts (nat_le high (leaf_rank x)) (ordered_from (leaf_rank x) xs) o in
    let above = leb-true high (leaf_rank x) parts.0 in
    ordered_cons low x xs (omega (arith, above, h)) parts.1

-- leaves up to a key, and leaves from it on
ordered_join : (low rank : ℕ) (xs ys : List Leaf) → low ≤ rank → ordered_from low xs ≡ true → AreAtMost (Some rank) xs → ordered_from rank ys ≡ true → ordered_from low (xs ++ ys) ≡ true
ordered_join low rank [] ys l ox mx oy = ordered_weaken low rank ys l oy
ordered_join low rank (x ∷ xs) ys l ox mx oy =
    let parts = and_parts (nat_le low (leaf_rank x)) (ordered_from (leaf_rank x) xs) ox in
    ordered_cons low x (xs ++ ys) (leb-true low (leaf_rank x) parts.0) (ordered_join (leaf_rank x) rank xs ys mx.0 parts.1 mx.1 oy)

pub row_ordered : (least : ℕ) (most : Option ℕ) (row : PlacedRow) → AreBounded least most row → ordered_from least (contents (plain row)) ≡ true
row_ordered least most ended h = refl
row_ordered least most (leaf_at x rest) h = ordered_cons least x (contents (plain rest)) h.0 (row_ordered (leaf_rank x) most rest h.2)
row_ordered least most (node_at b c ended) h =
    let P : List Leaf → Type 0 = λ xs. ordered_from least xs ≡ true in
    subst P (sym (append-nil (contents (plain c)))) (ordered_weaken least (branch_rank b) (contents (plain c)) h.0 (row_ordered (branch_rank b) most c h.2))
row_ordered least most (node_at b c (leaf_at x rest)) h =
    let same : leaf_rank x ≤ leaf_rank x = omega arith in
    let others = row_ordered (leaf_rank x) most (leaf_at x rest) (same, h.3.1, h.3.2) in
    let below = row_ordered (branch_rank b) (Some (leaf_rank x)) c h.2 in
    ordered_weaken least (branch_rank b) (contents (plain c) ++ contents (plain (leaf_at x rest))) h.0
    (ordered_join (branch_rank b) (leaf_rank x) (contents (plain c)) (contents (plain (leaf_at x rest))) h.3.0 below (row_at_most (branch_rank b) (Some (leaf_rank x)) c h.2) others)
row_ordered least most (node_at b c (node_at d f rest)) h =
    let same : branch_rank d ≤ branch_rank d = omega arith in
    let others = row_ordered (branch_rank d) most (node_at d f rest) (same, h.3.1, h.3.2, h.3.3) in
    let below = row_ordered (branch_rank b) (Some (branch_rank d)) c h.2 in
    ordered_weaken least (branch_rank b) (contents (plain c) ++ contents (plain (node_at d f rest))) h.0
    (ordered_join (branch_rank b) (branch_rank d) (contents (plain c)) (contents (plain (node_at d f rest))) h.3.0 below (row_at_most (branch_rank b) (Some (branch_rank d)) c h.2) others)
