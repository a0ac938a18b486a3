-- The removal of a range makes the same of a row as without keys and places, and keeps what an index is.
use Rattle.std.proofs.Common.{◌≡◌, ℕ, ◌-◌, ◌<◌, ◌≤◌, true, false, List, [], ◌∷◌, ◌++◌, refl, ap, sym, ◌∙◌, arith, inl, inr}
use Rattle.std.specs.Prelude.{Option, None, ◌==◌, not}
use Rattle.std.proofs.lemmas.Bool.{cases_Bool}
use Rattle.std.proofs.lemmas.Bool.Decides.{nat_tests}
use Rattle.std.proofs.lemmas.List.Elements.{filter-append}
use Rattle.ubifs_base.specs.declared.key.Key.{Key}
use Rattle.index_tree.specs.Levels.{levelled}
use Rattle.index_tree.specs.Order.{key_rank, leaf_rank}
use Rattle.index_tree.specs.RangeRemoval.{in_range, within_range, outside_range, pruned, without_range}
use Rattle.index_tree.specs.Removal.{tidied, collapsed}
use Rattle.index_tree.specs.Shape.{Shape, leaf, node, contents, count, fits}
use Rattle.index_tree.specs.declared.leaf.Leaf.{Leaf}
use Rattle.index_media.specs.InsertionSound.{AreKeys, fit_node, fits_node, level_node, node_level, level_leaf, leaf_level}
use Rattle.index_media.specs.KeyedBounds.{lower_at_most, lower_least}
use Rattle.index_media.specs.KeyedKeys.{key_before, AreKeysBounded}
use Rattle.index_media.specs.KeyedRange.{place_without_range, pruned_by_keys, without_range_by_keys}
use Rattle.index_media.specs.KeyedRemoval.{keyed_tidied}
use Rattle.index_media.specs.KeyedRow.{KeyedRow, no_more, leaf_in, node_in, bare}
use Rattle.index_media.specs.PlacedRow.{Stretch}
use Rattle.index_media.proofs.RemovedContents.{tidied_leaves, collapsed_leaves}
use Rattle.index_media.proofs.Removing.{BoundsLess, tidied_bare, collapsed_bare, weaken_most, within_row, tidied_bounded, collapsed_bounded}
use Rattle.index_media.proofs.RemovingSound.{some_children, collapsed_keys}

pruned_bare : (from to : ℕ) (row : KeyedRow) → bare (pruned_by_keys from to row) ≡ pruned from to (bare row)
pruned_bare from to no_more = refl
pruned_bare from to (leaf_in x rest) = elim (cases_Bool (in_range from to x)) [
  | inl e ↦ rw e (pruned_bare from to rest)
  | inr e ↦ rw e (ap (leaf x) (pruned_bare from to rest))
]
pruned_bare from to (node_in key place c rest) =
    tidied_bare (node_in key (place_without_range from to c place) (pruned_by_keys from to c) (pruned_by_keys from to rest))
    ∙ ap (λ (s : Shape). tidied (node s (bare (pruned_by_keys from to rest)))) (pruned_bare from to c)
    ∙ ap (λ (s : Shape). tidied (node (pruned from to (bare c)) s)) (pruned_bare from to rest)

pub without_range_bare : (from to : ℕ) (row : KeyedRow) → bare (without_range_by_keys from to row) ≡ without_range from to (bare row)
unfolding without_range_by_keys without_range
without_range_bare from to row = collapsed_bare (pruned_by_keys from to row) ∙ ap collapsed (pruned_bare from to row)

-- a range removal leaves no more siblings
pub pruned_count : (from to : ℕ) (row : KeyedRow) → count (bare (pruned_by_keys from to row)) ≤ count (bare row)
pruned_count from to no_more = omega arith
pruned_count from to (leaf_in x rest) =
    let others = pruned_count from to rest in
    elim (cases_Bool (in_range from to x)) [
      | inl e ↦ rw e (omega (arith, others))
      | inr e ↦ rw e (omega (arith, others))
    ]
pruned_count from to (node_in key place c rest) =
    let others = pruned_count from to rest in
    elim (cases_Bool (count (bare (pruned_by_keys from to c)) == 0)) [
      | inl z ↦ rw z (omega (arith, others))
      | inr z ↦ rw z (omega (arith, others))
    ]

-- each node has children
pub pruned_fits : (f from to : ℕ) (row : KeyedRow) → fits f (bare row) ≡ true → fits f (bare (pruned_by_keys from to row)) ≡ true
pruned_fits f from to no_more h = refl
pruned_fits f from to (leaf_in x rest) h = elim (cases_Bool (in_range from to x)) [
  | inl e ↦ rw e (pruned_fits f from to rest h)
  | inr e ↦ rw e (pruned_fits f from to rest h)
]
pruned_fits f from to (node_in key place c rest) h =
    let p = fit_node f (bare c) (bare rest) h in
    let others = pruned_fits f from to rest p.others in
    elim (cases_Bool (count (bare (pruned_by_keys from to c)) == 0)) [
      | inl z ↦ rw z others
      | inr z ↦
          let most = p.most in
          let fewer = pruned_count from to c in
          rw z (fits_node f (bare (pruned_by_keys from to c)) (bare (pruned_by_keys from to rest)) (some_children (count (bare (pruned_by_keys from to c))) z) (omega (arith, most, fewer)) (pruned_fits f from to c p.children) others)
    ]

-- leaves stay on the lowest level
pub pruned_levelled : (h from to : ℕ) (row : KeyedRow) → levelled h (bare row) ≡ true → levelled h (bare (pruned_by_keys from to row)) ≡ true
pruned_levelled h from to no_more l = refl
pruned_levelled h from to (leaf_in x rest) l =
    let q = level_leaf h x (bare rest) l in
    let others = pruned_levelled h from to rest q.others in
    elim (cases_Bool (in_range from to x)) [
      | inl e ↦ rw e others
      | inr e ↦ rw e (leaf_level h x (bare (pruned_by_keys from to rest)) q.lowest others)
    ]
pruned_levelled h from to (node_in key place c rest) l =
    let q = level_node h (bare c) (bare rest) l in
    let others = pruned_levelled h from to rest q.others in
    elim (cases_Bool (count (bare (pruned_by_keys from to c)) == 0)) [
      | inl z ↦ rw z others
      | inr z ↦ rw z (node_level h (bare (pruned_by_keys from to c)) (bare (pruned_by_keys from to rest)) q.above (pruned_levelled (h - 1) from to c q.children) others)
    ]

-- keys stay keys
pub pruned_keys : (from to : ℕ) (row : KeyedRow) → AreKeys row → AreKeys (pruned_by_keys from to row)
pruned_keys from to no_more k = tt
pruned_keys from to (leaf_in x rest) k = elim (cases_Bool (in_range from to x)) [
  | inl e ↦ rw e (pruned_keys from to rest k.1)
  | inr e ↦ rw e (k.0, pruned_keys from to rest k.1)
]
pruned_keys from to (node_in key place c rest) k = elim (cases_Bool (count (bare (pruned_by_keys from to c)) == 0)) [
  | inl z ↦ rw z (pruned_keys from to rest k.2)
  | inr z ↦ rw z (k.0, pruned_keys from to c k.1, pruned_keys from to rest k.2)
]

pub without_range_keys : (from to : ℕ) (row : KeyedRow) → AreKeys row → AreKeys (without_range_by_keys from to row)
unfolding without_range_by_keys
without_range_keys from to row k = collapsed_keys (pruned_by_keys from to row) (pruned_keys from to row k)

-- what is within the bound in front of a row is within that in front of what is left of it
pruned_before : (from to least : ℕ) (most : Option ℕ) (row : KeyedRow)
    → ((low : ℕ) → AreKeysBounded low most row → AreKeysBounded low most (pruned_by_keys from to row))
    → AreKeysBounded least most row → BoundsLess most row (pruned_by_keys from to row)
pruned_before from to least most no_more f h n l = l
pruned_before from to least most (leaf_in x rest) f h n l =
    within_row (leaf_rank x) most (pruned_by_keys from to (leaf_in x rest)) n l (lower_at_most n (leaf_rank x) most l h.1) (f (leaf_rank x) (omega arith, h.1, h.2))
pruned_before from to least most (node_in key place c rest) f h n l =
    within_row (key_rank key) most (pruned_by_keys from to (node_in key place c rest)) n l (lower_at_most n (key_rank key) most l h.1) (f (key_rank key) (omega arith, h.1, h.2, h.3))

pub pruned_bounded : (from to least : ℕ) (most : Option ℕ) (row : KeyedRow) → AreKeysBounded least most row → AreKeysBounded least most (pruned_by_keys from to row)
pruned_bounded from to least most no_more h = tt
pruned_bounded from to least most (leaf_in x rest) h =
    let others = pruned_bounded from to (leaf_rank x) most rest h.2 in
    elim (cases_Bool (in_range from to x)) [
      | inl e ↦ rw e (lower_least least (leaf_rank x) most (pruned_by_keys from to rest) h.0 others)
      | inr e ↦ rw e (h.0, h.1, others)
    ]
pruned_bounded from to least most (node_in key place c rest) h =
    let less = pruned_before from to (key_rank key) most rest (λ low b. pruned_bounded from to low most rest b) h.3 in
    let below = weaken_most (key_rank key) (key_before rest most) (key_before (pruned_by_keys from to rest) most) (pruned_by_keys from to c) less
    (pruned_bounded from to (key_rank key) (key_before rest most) c h.2) in
    tidied_bounded least most key (place_without_range from to c place) (pruned_by_keys from to c) (pruned_by_keys from to rest) h.0 h.1 below
    (pruned_bounded from to (key_rank key) most rest h.3)

pub without_range_bounded : (from to : ℕ) (row : KeyedRow) → AreKeysBounded 0 None row → AreKeysBounded 0 None (without_range_by_keys from to row)
unfolding without_range_by_keys
without_range_bounded from to row h = collapsed_bounded 0 (pruned_by_keys from to row) (pruned_bounded from to 0 None row h)

-- the leaves that are left
pruned_leaves : (from to : ℕ) (row : KeyedRow) → contents (bare (pruned_by_keys from to row)) ≡ outside_range from to (contents (bare row))
pruned_leaves from to no_more = refl
pruned_leaves from to (leaf_in x rest) = elim (cases_Bool (in_range from to x)) [
  | inl e ↦ rw e (pruned_leaves from to rest)
  | inr e ↦ rw e (ap (λ (v : List Leaf). x ∷ v) (pruned_leaves from to rest))
]
pruned_leaves from to (node_in key place c rest) =
    tidied_leaves key (place_without_range from to c place) (pruned_by_keys from to c) (pruned_by_keys from to rest)
    ∙ ap (λ (v : List Leaf). v ++ contents (bare (pruned_by_keys from to rest))) (pruned_leaves from to c)
    ∙ ap (λ (v : List Leaf). outside_range from to (contents (bare c)) ++ v) (pruned_leaves from to rest)
    ∙ sym (filter-append (λ x. not (in_range from to x)) (contents (bare c)) (contents (bare rest)))

pub without_range_leaves : (from to : ℕ) (row : KeyedRow) → count (bare row) ≤ 1 → contents (bare (without_range_by_keys from to row)) ≡ outside_range from to (contents (bare row))
unfolding without_range_by_keys
without_range_leaves from to row one =
    let fewer = pruned_count from to row in
    collapsed_leaves (pruned_by_keys from to row) (omega (arith, fewer, one)) ∙ pruned_leaves from to row

-- a row below which no leaf of the range stands stays, with its places
none_first : (xs ys : List Leaf) → xs ++ ys ≡ [] → xs ≡ []
none_first [] ys h = refl
none_first (x ∷ xs) ys h = absurd cc

none_second : (xs ys : List Leaf) → xs ++ ys ≡ [] → ys ≡ []
none_second [] ys h = h
none_second (x ∷ xs) ys h = absurd cc

stays_tidied : (key : Key) (place : Option Stretch) (c rest : KeyedRow) → 0 < count (bare c) → keyed_tidied (node_in key place c rest) ≡ node_in key place c rest
stays_tidied key place c rest h =
    let some : (count (bare c) == 0) ≡ false = grind (arith, nat_tests) in
    rw some refl

stays_clean : (from to : ℕ) (c : KeyedRow) (place : Option Stretch) → within_range from to (contents (bare c)) ≡ [] → place_without_range from to c place ≡ place
stays_clean from to c place h = rw h refl

pub pruned_same : (f from to : ℕ) (row : KeyedRow) → fits f (bare row) ≡ true → within_range from to (contents (bare row)) ≡ [] → pruned_by_keys from to row ≡ row
pruned_same f from to no_more g h = refl
pruned_same f from to (leaf_in x rest) g h = elim (cases_Bool (in_range from to x)) [
  | inl e ↦ let none = rw e at h in absurd cc
  | inr e ↦ rw e (ap (leaf_in x) (pruned_same f from to rest g (rw e at h)))
]
pruned_same f from to (node_in key place c rest) g h =
    let p = fit_node f (bare c) (bare rest) g in
    let apart = sym (filter-append (λ x. in_range from to x) (contents (bare c)) (contents (bare rest))) ∙ h in
    let here = none_first (within_range from to (contents (bare c))) (within_range from to (contents (bare rest))) apart in
    let behind = none_second (within_range from to (contents (bare c))) (within_range from to (contents (bare rest))) apart in
    ap (λ (p : Option Stretch). keyed_tidied (node_in key p (pruned_by_keys from to c) (pruned_by_keys from to rest))) (stays_clean from to c place here)
    ∙ ap (λ (r : KeyedRow). keyed_tidied (node_in key place r (pruned_by_keys from to rest))) (pruned_same f from to c p.children here)
    ∙ ap (λ (r : KeyedRow). keyed_tidied (node_in key place c r)) (pruned_same f from to rest p.others behind)
    ∙ stays_tidied key place c rest p.least
