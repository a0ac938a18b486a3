-- What the removal of a range does to the contents, the weight and the nodes.
use Rattle.std.specs.Prelude.{◌≡◌, ℕ, ◌≤◌, ◌==◌, true, not, List, [], ◌∷◌, ◌++◌}
use Rattle.std.proofs.Common.{refl, ap, sym, subst, ◌∙◌, arith, inl, inr}
use Rattle.std.proofs.lemmas.Bool.{cases_Bool}
use Rattle.std.proofs.lemmas.List.Elements.{filter-append}
use Rattle.index_tree.specs.declared.leaf.Leaf.{Leaf}
use Rattle.index_tree.specs.Order.{leaf_rank, ordered_from}
use Rattle.index_tree.proofs.OrderLaws.{ordered_head, ordered_cons, ordered-weaken}
use Rattle.index_tree.specs.Shape.{Shape, done, leaf, node, contents, count, shape_weight, fits, is_whole}
use Rattle.index_tree.proofs.GrowthLaws.{node_fits}
use Rattle.index_tree.specs.Removal.{collapsed}
use Rattle.index_tree.specs.RangeRemoval.{in_range, pruned, outside_range, without_range}
use Rattle.index_tree.proofs.RemovalLaws.{empty, Shrunk, same-shrunk, tidied-shrunk, tidied-contents}
use Rattle.index_tree.proofs.CollapseLaws.{collapsed-contents, collapsed-whole, collapsed-fits, collapsed-lighter}

pub pruned-shrunk : (f from to : ℕ) (s : Shape) → fits f s ≡ true → Shrunk f s (pruned from to s)
pruned-shrunk f from to done h = same-shrunk f done h
pruned-shrunk f from to (leaf x rest) h =
    let g = pruned-shrunk f from to rest h in
    elim (cases_Bool (in_range from to x)) [
      | inl e ↦ rw e (record { no_more = omega (arith, g.no_more); fewer_nodes = g.fewer_nodes; no_heavier = g.no_heavier; sound = g.sound })
      | inr e ↦ rw e (record { no_more = omega (arith, g.no_more); fewer_nodes = g.fewer_nodes; no_heavier = g.no_heavier; sound = g.sound })
    ]
pruned-shrunk f from to (node c rest) h =
    let p = node_fits f c rest h in
    tidied-shrunk f c (pruned from to c) rest (pruned from to rest) h (pruned-shrunk f from to c p.children) (pruned-shrunk f from to rest p.others)

pub pruned-contents : (from to : ℕ) (s : Shape) → contents (pruned from to s) ≡ outside_range from to (contents s)
pruned-contents from to done = refl
pruned-contents from to (leaf x rest) = elim (cases_Bool (in_range from to x)) [
  | inl e ↦ rw e (pruned-contents from to rest)
  | inr e ↦ rw e (ap (λ v. x ∷ v) (pruned-contents from to rest))
]
pruned-contents from to (node c rest) =
    tidied-contents (node (pruned from to c) (pruned from to rest))
    ∙ ap (λ v. v ++ contents (pruned from to rest)) (pruned-contents from to c)
    ∙ ap (λ v. outside_range from to (contents c) ++ v) (pruned-contents from to rest)
    ∙ sym (filter-append (λ x. not (in_range from to x)) (contents c) (contents rest))

pub pruned-whole : (from to : ℕ) (s : Shape) → is_whole s ≡ true → is_whole (pruned from to s) ≡ true
pruned-whole from to done w = refl
pruned-whole from to (leaf x rest) w = absurd cc
pruned-whole from to (node c rest) w =
    let P : Shape → Type 0 = λ v. is_whole (pruned from to (node c v)) ≡ true in
    subst P (sym (empty rest w)) (elim (cases_Bool (count (pruned from to c) == 0)) [
      | inl z ↦ rw z refl
      | inr z ↦ rw z refl
    ])

pub outside-ordered : (low from to : ℕ) (xs : List Leaf) → ordered_from low xs ≡ true → ordered_from low (outside_range from to xs) ≡ true
outside-ordered low from to [] o = refl
outside-ordered low from to (x ∷ xs) o =
    let p = ordered_head low x xs o in
    elim (cases_Bool (in_range from to x)) [
      | inl e ↦ rw e (outside-ordered low from to xs (ordered-weaken low (leaf_rank x) xs p.least p.others))
      | inr e ↦ rw e (ordered_cons low x (outside_range from to xs) p.least (outside-ordered (leaf_rank x) from to xs p.others))
    ]

pub without_range-is : (from to : ℕ) (s : Shape) → without_range from to s ≡ collapsed (pruned from to s)
unfolding without_range
without_range-is from to s = refl

-- what the removal of a range from a whole shape gives
pub record WithoutRange (f from to : ℕ) (s t : Shape) : Type 0 where
  pub sound : fits f t ≡ true
  pub whole : is_whole t ≡ true
  pub no_heavier : shape_weight f t ≤ shape_weight f s
  pub leaves : contents t ≡ outside_range from to (contents s)

pub without_range-laws : (f from to : ℕ) (s : Shape) → is_whole s ≡ true → fits f s ≡ true → WithoutRange f from to s (without_range from to s)
unfolding without_range
without_range-laws f from to s w h =
    let g = pruned-shrunk f from to s h in
    let v = pruned-whole from to s w in
    record {
      sound = collapsed-fits f (pruned from to s) g.sound;
      whole = collapsed-whole (pruned from to s) v;
      no_heavier = omega (arith, g.no_heavier, collapsed-lighter f (pruned from to s));
      leaves = collapsed-contents (pruned from to s) v ∙ pruned-contents from to s;
    }

pub without_range-ordered : (f from to : ℕ) (s : Shape) → is_whole s ≡ true → fits f s ≡ true → ordered_from 0 (contents s) ≡ true → ordered_from 0 (contents (without_range from to s)) ≡ true
without_range-ordered f from to s w h o = rw (without_range-laws f from to s w h).leaves (outside-ordered 0 from to (contents s) o)
