-- Where the leaves of one rank stand.
use Rattle.std.proofs.Common.{◌≡◌, ℕ, zero, suc, ◌+◌, ◌-◌, ◌<◌, false, List, [], ◌∷◌, ◌++◌, drop, length, refl, ap, sym, subst, ◌∙◌, arith, length-append}
use Rattle.std.specs.Prelude.{Some, None, slice_get, ◌==◌}
use Rattle.std.proofs.lemmas.Bool.Decides.{nat_tests}
use Rattle.std.proofs.lemmas.List.Elements.{filter-append}
use Rattle.index_tree.specs.Order.{leaf_rank, of_rank}
use Rattle.index_tree.specs.Shape.{contents}
use Rattle.index_tree.specs.declared.leaf.Leaf.{Leaf}
use Rattle.index_media.specs.KeyedBounds.{AreAtMost, AreAtLeast, above_start}
use Rattle.index_media.specs.KeyedKeys.{AreKeysBounded}
use Rattle.index_media.specs.KeyedRow.{bare}
use Rattle.table_nodes.specs.NodeView.{NodeView, row_of, links_begin}
use Rattle.node_cache.specs.Branches.{IsNth}
use Rattle.node_cache.specs.declared.nth.Nth.{Nth}
use Rattle.node_cache.specs.declared.nth.Nth.TheVariants.{Found, Fewer}
use Rattle.node_table.specs.Walk.{inside}
use Rattle.table_nodes.specs.declared.link.Link.{Link}
use Rattle.node_table.proofs.Rows.{Passed, link_apart, begins_by}

none_below : (at k : ℕ) (xs : List Leaf) → at < k → AreAtMost (Some at) xs → of_rank k xs ≡ []
none_below at k [] l h = refl
none_below at k (x ∷ xs) l h =
    let within = h.0 in
    let other : (leaf_rank x == k) ≡ false = grind (arith, nat_tests, within, l) in
    rw other (none_below at k xs l h.1)

none_above : (k : ℕ) (xs : List Leaf) → AreAtLeast (k + 1) xs → of_rank k xs ≡ []
none_above k [] h = refl
none_above k (x ∷ xs) h =
    let above = h.0 in
    let other : (leaf_rank x == k) ≡ false = grind (arith, nat_tests, above) in
    rw other (none_above k xs h.1)

get_first : (xs ys : List Leaf) (i : ℕ) (x : Leaf) → slice_get xs i ≡ Some x → slice_get (xs ++ ys) i ≡ Some x
get_first [] ys i x h = absurd cc
get_first (z ∷ xs) ys zero x h = h
get_first (z ∷ xs) ys (suc i) x h = get_first xs ys i x h

get_second : (xs ys : List Leaf) (i j : ℕ) → i ≡ length xs + j → slice_get (xs ++ ys) i ≡ slice_get ys j
get_second [] ys i j h = let same : i ≡ j = omega (arith, h) in ap (λ n. slice_get ys n) same
get_second (z ∷ xs) ys zero j h = absurd (omega (arith, h))
get_second (z ∷ xs) ys (suc i) j h = get_second xs ys i j (omega (arith, h))

-- leaves of a first list are among those of both
nth_first : (xs ys : List Leaf) (nth : ℕ) (x : Leaf) → IsNth xs nth (Found x) → IsNth (xs ++ ys) nth (Found x)
nth_first xs ys nth x h = get_first xs ys nth x h

nth_second : (xs ys : List Leaf) (nth left : ℕ) (r : Nth) → IsNth xs nth (Fewer left) → IsNth ys left r → IsNth (xs ++ ys) nth r
nth_second xs ys nth left (Found x) h g = get_second xs ys nth left h ∙ g
nth_second xs ys nth left (Fewer few) h g = let long = length-append xs ys in omega (arith, h, g, long)

apart : (seen : List NodeView) (at : ℕ) (link : Link) (links : List Link)
    → of_rank at (contents (bare (row_of seen (link ∷ links)))) ≡ of_rank at (contents (bare (inside seen link))) ++ of_rank at (contents (bare (row_of seen links)))
apart seen at link links =
    ap (of_rank at) (link_apart seen link (row_of seen links)) ∙ filter-append (λ x. leaf_rank x == at) (contents (bare (inside seen link))) (contents (bare (row_of seen links)))

-- behind the links of lower ranks
pub of_rank_passed : (seen : List NodeView) (low at : ℕ) (links : List Link) (n : ℕ) → low < at → Passed seen low links n
    → of_rank at (contents (bare (row_of seen links))) ≡ of_rank at (contents (bare (row_of seen (drop n links))))
of_rank_passed seen low at links n l p =
    let back = contents (bare (row_of seen (drop n links))) in
    ap (of_rank at) p.is ∙ filter-append (λ x. leaf_rank x == at) p.front back ∙ ap (λ (v : List Leaf). v ++ of_rank at back) (none_below low at p.front l p.within)

-- inside the first link
pub nth_inside : (seen : List NodeView) (at : ℕ) (link : Link) (links : List Link) (nth : ℕ) (x : Leaf) → IsNth (of_rank at (contents (bare (inside seen link)))) nth (Found x)
    → IsNth (of_rank at (contents (bare (row_of seen (link ∷ links))))) nth (Found x)
nth_inside seen at link links nth x h =
    let P : List Leaf → Type 0 = λ v. IsNth v nth (Found x) in
    subst P (sym (apart seen at link links)) (nth_first (of_rank at (contents (bare (inside seen link)))) (of_rank at (contents (bare (row_of seen links)))) nth x h)

-- or behind it
pub nth_outside : (seen : List NodeView) (at : ℕ) (link : Link) (links : List Link) (nth left : ℕ) (r : Nth)
    → IsNth (of_rank at (contents (bare (inside seen link)))) nth (Fewer left) → IsNth (of_rank at (contents (bare (row_of seen links)))) left r
    → IsNth (of_rank at (contents (bare (row_of seen (link ∷ links))))) nth r
nth_outside seen at link links nth left r h g =
    let P : List Leaf → Type 0 = λ v. IsNth v nth r in
    subst P (sym (apart seen at link links)) (nth_second (of_rank at (contents (bare (inside seen link)))) (of_rank at (contents (bare (row_of seen links)))) nth left r h g)

-- where the links behind begin above the rank, none is there
pub none_outside : (seen : List NodeView) (at least : ℕ) (links : List Link) (left : ℕ) → AreKeysBounded least None (row_of seen links) → links_begin at links ≡ false
    → IsNth (of_rank at (contents (bare (row_of seen links)))) left (Fewer left)
none_outside seen at least links left h b =
    let none = none_above at (contents (bare (row_of seen links))) (above_start at least None (row_of seen links) h (begins_by seen at links ∙ b)) in
    let long = ap length none in
    omega (arith, long)

-- behind the links of lower ranks that a walk passes over, if there are any
pub of_rank_lower : (seen : List NodeView) (at : ℕ) (links : List Link) (n : ℕ) → (0 < n → 0 < at) → Passed seen (at - 1) links n
    → of_rank at (contents (bare (row_of seen links))) ≡ of_rank at (contents (bare (row_of seen (drop n links))))
of_rank_lower seen at links zero l p = refl
of_rank_lower seen at links (suc n) l p = let some : 0 < at = l (omega arith) in of_rank_passed seen (at - 1) at links (suc n) (omega (arith, some)) p
