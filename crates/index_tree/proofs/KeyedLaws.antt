-- Keys stay keys.
use Rattle.std.specs.Prelude.{◌≡◌, ℕ, ◌≤◌, nat_le, not, true, List, [], ◌∷◌}
use Rattle.std.proofs.Common.{inl, inr}
use Rattle.std.proofs.lemmas.Bool.{cases_Bool}
use Rattle.std.proofs.lemmas.List.Elements.{All-nil, All-cons, All-head, All-tail, All-filter}
use Rattle.index_tree.specs.declared.leaf.Leaf.{Leaf}
use Rattle.index_tree.specs.Keyed.{HasKey, HaveKeys}
use Rattle.index_tree.specs.Order.{leaf_rank, ordered_from, placed}
use Rattle.index_tree.specs.RangeRemoval.{in_range, outside_range, without_range}
use Rattle.index_tree.specs.Removal.{same_leaf, without, without_leaf}
use Rattle.index_tree.specs.Replacement.{swapped}
use Rattle.index_tree.specs.Shape.{Shape, contents, fits, is_whole, with_leaf}
use Rattle.index_tree.proofs.CollapseLaws.{without_leaf-laws}
use Rattle.index_tree.proofs.InsertLaws.{with_leaf-contents}
use Rattle.index_tree.proofs.RangeLaws.{without_range-laws}

pub none-keyed : HaveKeys []
none-keyed = All-nil HasKey

pub placed-keyed : (new : Leaf) (xs : List Leaf) → HasKey new → HaveKeys xs → HaveKeys (placed new xs)
placed-keyed new [] k h = All-cons HasKey new [] k h
placed-keyed new (x ∷ xs) k h = elim (cases_Bool (nat_le (leaf_rank x) (leaf_rank new))) [
  | inl e ↦ rw e (All-cons HasKey x (placed new xs) (All-head HasKey x xs h) (placed-keyed new xs k (All-tail HasKey x xs h)))
  | inr e ↦ rw e (All-cons HasKey new (x ∷ xs) k h)
]

pub swapped-keyed : (old new : Leaf) (xs : List Leaf) → HasKey new → HaveKeys xs → HaveKeys (swapped old new xs)
swapped-keyed old new [] k h = h
swapped-keyed old new (x ∷ xs) k h = elim (cases_Bool (same_leaf x old)) [
  | inl e ↦ rw e (All-cons HasKey new xs k (All-tail HasKey x xs h))
  | inr e ↦ rw e (All-cons HasKey x (swapped old new xs) (All-head HasKey x xs h) (swapped-keyed old new xs k (All-tail HasKey x xs h)))
]

pub without-keyed : (gone : Leaf) (xs : List Leaf) → HaveKeys xs → HaveKeys (without gone xs)
without-keyed gone [] h = h
without-keyed gone (x ∷ xs) h = elim (cases_Bool (same_leaf x gone)) [
  | inl e ↦ rw e (All-tail HasKey x xs h)
  | inr e ↦ rw e (All-cons HasKey x (without gone xs) (All-head HasKey x xs h) (without-keyed gone xs (All-tail HasKey x xs h)))
]

pub outside-keyed : (from to : ℕ) (xs : List Leaf) → HaveKeys xs → HaveKeys (outside_range from to xs)
outside-keyed from to xs h = All-filter (λ x. not (in_range from to x)) HasKey xs h

pub with_leaf-keyed : (f : ℕ) (x : Leaf) (s : Shape) → 3 ≤ f → is_whole s ≡ true → fits f s ≡ true → ordered_from 0 (contents s) ≡ true → HasKey x → HaveKeys (contents s) → HaveKeys (contents (with_leaf f x s))
with_leaf-keyed f x s three w h o k keys = rw (with_leaf-contents f x s three w h o) (placed-keyed x (contents s) k keys)

pub without_leaf-keyed : (f : ℕ) (gone : Leaf) (s : Shape) → is_whole s ≡ true → fits f s ≡ true → HaveKeys (contents s) → HaveKeys (contents (without_leaf gone s))
without_leaf-keyed f gone s w h keys = rw (without_leaf-laws f gone s w h).leaves (without-keyed gone (contents s) keys)

pub without_range-keyed : (f from to : ℕ) (s : Shape) → is_whole s ≡ true → fits f s ≡ true → HaveKeys (contents s) → HaveKeys (contents (without_range from to s))
without_range-keyed f from to s w h keys = rw (without_range-laws f from to s w h).leaves (outside-keyed from to (contents s) keys)
