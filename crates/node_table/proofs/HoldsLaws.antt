-- Where a leaf itself can stand.
use Rattle.std.proofs.Common.{◌≡◌, ℕ, zero, suc, ◌+◌, ◌-◌, ◌<◌, true, false, List, [], ◌∷◌, ◌++◌, drop, refl, ap, ◌∙◌, subst, arith, inl, inr}
use Rattle.std.specs.Prelude.{Some, None, ◌==◌}
use Rattle.std.proofs.lemmas.Bool.{cases_Bool}
use Rattle.std.proofs.lemmas.Bool.Decides.{nat_tests}
use Rattle.index_tree.specs.Order.{leaf_rank}
use Rattle.index_tree.specs.Removal.{same_leaf, holds}
use Rattle.index_tree.specs.Shape.{contents}
use Rattle.index_tree.specs.declared.leaf.Leaf.{Leaf}
use Rattle.index_media.specs.KeyedBounds.{AreAtMost, AreAtLeast, above_start}
use Rattle.index_media.specs.KeyedKeys.{AreKeysBounded}
use Rattle.index_media.specs.KeyedRow.{bare}
use Rattle.table_nodes.specs.NodeView.{NodeView, row_of, links_begin}
use Rattle.node_table.specs.Walk.{inside}
use Rattle.table_nodes.specs.declared.link.Link.{Link}
use Rattle.node_table.proofs.Rows.{Passed, link_apart, begins_by}

other_rank : (x z : Leaf) → (leaf_rank x == leaf_rank z) ≡ false → same_leaf x z ≡ false
unfolding same_leaf
other_rank x z e = rw e refl

pub none_lower : (at : ℕ) (z : Leaf) (xs : List Leaf) → at < leaf_rank z → AreAtMost (Some at) xs → holds z xs ≡ false
none_lower at z [] l h = refl
none_lower at z (x ∷ xs) l h =
    let within = h.0 in
    let other : (leaf_rank x == leaf_rank z) ≡ false = grind (arith, nat_tests, within, l) in
    rw (other_rank x z other) (none_lower at z xs l h.1)

none_higher : (z : Leaf) (xs : List Leaf) → AreAtLeast (leaf_rank z + 1) xs → holds z xs ≡ false
none_higher z [] h = refl
none_higher z (x ∷ xs) h =
    let above = h.0 in
    let other : (leaf_rank x == leaf_rank z) ≡ false = grind (arith, nat_tests, above) in
    rw (other_rank x z other) (none_higher z xs h.1)

pub holds_first : (z : Leaf) (xs ys : List Leaf) → holds z xs ≡ true → holds z (xs ++ ys) ≡ true
holds_first z [] ys h = absurd cc
holds_first z (x ∷ xs) ys h = elim (cases_Bool (same_leaf x z)) [
  | inl e ↦ rw e refl
  | inr e ↦ rw e (holds_first z xs ys (rw e at h))
]

pub holds_second : (z : Leaf) (xs ys : List Leaf) → holds z xs ≡ false → holds z (xs ++ ys) ≡ holds z ys
holds_second z [] ys h = refl
holds_second z (x ∷ xs) ys h = elim (cases_Bool (same_leaf x z)) [
  | inl e ↦ let there = rw e at h in absurd cc
  | inr e ↦ rw e (holds_second z xs ys (rw e at h))
]

-- behind the links of lower ranks
pub holds_passed : (seen : List NodeView) (low : ℕ) (z : Leaf) (links : List Link) (n : ℕ) → low < leaf_rank z → Passed seen low links n
    → holds z (contents (bare (row_of seen links))) ≡ holds z (contents (bare (row_of seen (drop n links))))
holds_passed seen low z links n l p =
    ap (holds z) p.is ∙ holds_second z p.front (contents (bare (row_of seen (drop n links)))) (none_lower low z p.front l p.within)

-- behind those that a walk passes over, if there are any
pub holds_lower : (seen : List NodeView) (at : ℕ) (z : Leaf) (links : List Link) (n : ℕ) → at ≡ leaf_rank z → (0 < n → 0 < at) → Passed seen (at - 1) links n
    → holds z (contents (bare (row_of seen links))) ≡ holds z (contents (bare (row_of seen (drop n links))))
holds_lower seen at z links zero e l p = refl
holds_lower seen at z links (suc n) e l p = let some : 0 < at = l (omega arith) in holds_passed seen (at - 1) z links (suc n) (omega (arith, some, e)) p

-- inside the first link
pub holds_inside : (seen : List NodeView) (z : Leaf) (link : Link) (links : List Link) → holds z (contents (bare (inside seen link))) ≡ true
    → holds z (contents (bare (row_of seen (link ∷ links)))) ≡ true
holds_inside seen z link links h =
    ap (holds z) (link_apart seen link (row_of seen links)) ∙ holds_first z (contents (bare (inside seen link))) (contents (bare (row_of seen links))) h

-- or behind it
pub holds_outside : (seen : List NodeView) (z : Leaf) (link : Link) (links : List Link) → holds z (contents (bare (inside seen link))) ≡ false
    → holds z (contents (bare (row_of seen (link ∷ links)))) ≡ holds z (contents (bare (row_of seen links)))
holds_outside seen z link links h =
    ap (holds z) (link_apart seen link (row_of seen links)) ∙ holds_second z (contents (bare (inside seen link))) (contents (bare (row_of seen links))) h

-- where the links behind begin above the rank, it isn't there
pub holds_nowhere : (seen : List NodeView) (at least : ℕ) (z : Leaf) (links : List Link) → at ≡ leaf_rank z → AreKeysBounded least None (row_of seen links) → links_begin at links ≡ false
    → holds z (contents (bare (row_of seen links))) ≡ false
holds_nowhere seen at least z links e h b =
    let P : ℕ → Type 0 = λ k. AreAtLeast (k + 1) (contents (bare (row_of seen links))) in
    none_higher z (contents (bare (row_of seen links))) (subst P e (above_start at least None (row_of seen links) h (begins_by seen at links ∙ b)))
