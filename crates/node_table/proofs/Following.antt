-- Where the first leaf of a greater rank stands.
use Rattle.std.proofs.Common.{◌≡◌, ℕ, false, List, [], ◌∷◌, ◌++◌, drop, refl, ap, ◌∙◌}
use Rattle.std.specs.Prelude.{Some, None, nat_lt}
use Rattle.std.specs.Option.{option_or}
use Rattle.std.proofs.lemmas.Bool.{le-ltb}
use Rattle.std.proofs.lemmas.List.Folds.{find-append}
use Rattle.index_tree.specs.Order.{leaf_rank, first_after}
use Rattle.index_tree.specs.Shape.{contents}
use Rattle.index_tree.specs.declared.leaf.Leaf.{Leaf}
use Rattle.index_media.specs.KeyedBounds.{AreAtMost}
use Rattle.index_media.specs.KeyedRow.{bare}
use Rattle.table_nodes.specs.NodeView.{NodeView, row_of}
use Rattle.node_table.specs.Walk.{inside}
use Rattle.table_nodes.specs.declared.link.Link.{Link}
use Rattle.node_table.proofs.Rows.{Passed, link_apart}

none_after : (at : ℕ) (xs : List Leaf) → AreAtMost (Some at) xs → first_after at xs ≡ None
none_after at [] h = refl
none_after at (x ∷ xs) h = let e : nat_lt at (leaf_rank x) ≡ false = le-ltb at (leaf_rank x) h.0 in rw e (none_after at xs h.1)

after_left : (at : ℕ) (xs ys : List Leaf) (x : Leaf) → first_after at xs ≡ Some x → first_after at (xs ++ ys) ≡ Some x
after_left at xs ys x h = find-append (λ y. nat_lt at (leaf_rank y)) xs ys ∙ ap (λ v. option_or v (first_after at ys)) h

after_right : (at : ℕ) (xs ys : List Leaf) → first_after at xs ≡ None → first_after at (xs ++ ys) ≡ first_after at ys
after_right at xs ys h = find-append (λ y. nat_lt at (leaf_rank y)) xs ys ∙ ap (λ v. option_or v (first_after at ys)) h

-- behind the links that are passed over
pub after_passed : (seen : List NodeView) (at : ℕ) (links : List Link) (n : ℕ) → Passed seen at links n
    → first_after at (contents (bare (row_of seen links))) ≡ first_after at (contents (bare (row_of seen (drop n links))))
after_passed seen at links n p = ap (first_after at) p.is ∙ after_right at p.front (contents (bare (row_of seen (drop n links)))) (none_after at p.front p.within)

-- inside the first link
pub after_inside : (seen : List NodeView) (at : ℕ) (link : Link) (links : List Link) (x : Leaf) → first_after at (contents (bare (inside seen link))) ≡ Some x
    → first_after at (contents (bare (row_of seen (link ∷ links)))) ≡ Some x
after_inside seen at link links x h =
    ap (first_after at) (link_apart seen link (row_of seen links)) ∙ after_left at (contents (bare (inside seen link))) (contents (bare (row_of seen links))) x h

-- or behind it, where none is inside
pub after_outside : (seen : List NodeView) (at : ℕ) (link : Link) (links : List Link) → first_after at (contents (bare (inside seen link))) ≡ None
    → first_after at (contents (bare (row_of seen (link ∷ links)))) ≡ first_after at (contents (bare (row_of seen links)))
after_outside seen at link links h =
    ap (first_after at) (link_apart seen link (row_of seen links)) ∙ after_right at (contents (bare (inside seen link))) (contents (bare (row_of seen links))) h
