-- What a removal does to the contents, the weight and the nodes.
use Rattle.std.specs.Prelude.{◌≡◌, ℕ, ◌+◌, ◌-◌, ◌<◌, ◌≤◌, ◌==◌, nat_lt, true, false, ◌&&◌, if◌then◌else◌, List, [], ◌∷◌, ◌++◌}
use Rattle.std.proofs.Common.{refl, ap, sym, ◌∙◌, arith, inl, inr}
use Rattle.std.proofs.lemmas.Bool.{cases_Bool}
use Rattle.std.proofs.lemmas.Bool.Decides.{nat_tests}
use Rattle.index_tree.specs.declared.leaf.Leaf.{Leaf}
use Rattle.index_tree.specs.Order.{leaf_rank, ordered_from, of_rank}
use Rattle.index_tree.proofs.OrderLaws.{ordered_head, ordered_cons, ordered-weaken, ordered-right, none_above, none_before, none_within}
use Rattle.index_tree.specs.Shape.{Shape, done, leaf, node, contents, count, node_count, full, shape_weight, fits, filled, begins_within}
use Rattle.index_tree.proofs.GrowthLaws.{node_fits, fits_node}
use Rattle.index_tree.proofs.SearchLaws.{begins-starts}
use Rattle.index_tree.specs.Removal.{same_leaf, holds, without, tidied, removed}

pub same-rank : (x y : Leaf) → same_leaf x y ≡ true → (leaf_rank x == leaf_rank y) ≡ true
unfolding same_leaf
same-rank x y h = elim (cases_Bool (leaf_rank x == leaf_rank y)) [
  | inl e ↦ e
  | inr e ↦ let none = rw e at h in absurd cc
]

more : (n : ℕ) → (n + 1 == 0) ≡ true → ⊥
more n h = grind (arith, nat_tests)

some : (n : ℕ) → (n == 0) ≡ false → 0 < n
some n h = grind (arith, nat_tests)

positive : (n : ℕ) → nat_lt 0 n ≡ true → n - 1 < n
positive n h = grind (arith, nat_tests)

pub full-falls : (f : ℕ) (c d : Shape) → count d ≤ count c → full f d ≤ full f c
full-falls f c d h = grind (arith, nat_tests)

-- a leaf isn't where none of its key is
pub absent : (gone : Leaf) (xs : List Leaf) → of_rank (leaf_rank gone) xs ≡ [] → holds gone xs ≡ false
absent gone [] h = refl
absent gone (x ∷ xs) h = elim (cases_Bool (leaf_rank x == leaf_rank gone)) [
  | inl e ↦ let some = rw e at h in absurd cc
  | inr e ↦ elim (cases_Bool (same_leaf x gone)) [
    | inl s ↦ let both = sym (same-rank x gone s) ∙ e in absurd cc
    | inr s ↦ rw s (absent gone xs (rw e at h))
  ]
]

pub holds-append : (gone : Leaf) (xs ys : List Leaf) → holds gone (xs ++ ys) ≡ (if holds gone xs then true else holds gone ys)
holds-append gone [] ys = refl
holds-append gone (x ∷ xs) ys = elim (cases_Bool (same_leaf x gone)) [
  | inl e ↦ rw e refl
  | inr e ↦ rw e (holds-append gone xs ys)
]

pub without-left : (gone : Leaf) (xs ys : List Leaf) → holds gone xs ≡ true → without gone (xs ++ ys) ≡ without gone xs ++ ys
without-left gone [] ys h = absurd cc
without-left gone (x ∷ xs) ys h = elim (cases_Bool (same_leaf x gone)) [
  | inl e ↦ rw e refl
  | inr e ↦ rw e (ap (λ v. x ∷ v) (without-left gone xs ys (rw e at h)))
]

pub without-right : (gone : Leaf) (xs ys : List Leaf) → holds gone xs ≡ false → without gone (xs ++ ys) ≡ xs ++ without gone ys
without-right gone [] ys h = refl
without-right gone (x ∷ xs) ys h = elim (cases_Bool (same_leaf x gone)) [
  | inl e ↦ let none = rw e at h in absurd cc
  | inr e ↦ rw e (ap (λ v. x ∷ v) (without-right gone xs ys (rw e at h)))
]

pub removed-absent : (gone : Leaf) (s : Shape) → holds gone (contents s) ≡ false → removed gone s ≡ s
removed-absent gone done h = refl
removed-absent gone (leaf x rest) h = elim (cases_Bool (same_leaf x gone)) [
  | inl e ↦ let none = rw e at h in absurd cc
  | inr e ↦ rw e (ap (λ v. leaf x v) (removed-absent gone rest (rw e at h)))
]
removed-absent gone (node c rest) h =
    let parts = sym (holds-append gone (contents c) (contents rest)) ∙ h in
    elim (cases_Bool (holds gone (contents c))) [
      | inl e ↦ let none = rw e at parts in absurd cc
      | inr e ↦ rw e (ap (λ v. node c v) (removed-absent gone rest (rw e at parts)))
    ]

pub empty : (s : Shape) → (count s == 0) ≡ true → s ≡ done
empty done h = refl
empty (leaf x rest) h = absurd (more (count rest) h)
empty (node c rest) h = absurd (more (count rest) h)

pub tidied-contents : (s : Shape) → contents (tidied s) ≡ contents s
tidied-contents done = refl
tidied-contents (leaf x rest) = refl
tidied-contents (node c rest) = elim (cases_Bool (count c == 0)) [
  | inl e ↦ rw e (sym (ap (λ v. contents v ++ contents rest) (empty c e)))
  | inr e ↦ rw e refl
]

pub removed-contents : (gone : Leaf) (s : Shape) → contents (removed gone s) ≡ without gone (contents s)
removed-contents gone done = refl
removed-contents gone (leaf x rest) = elim (cases_Bool (same_leaf x gone)) [
  | inl e ↦ rw e refl
  | inr e ↦ rw e (ap (λ v. x ∷ v) (removed-contents gone rest))
]
removed-contents gone (node c rest) = elim (cases_Bool (holds gone (contents c))) [
  | inl e ↦ rw e (tidied-contents (node (removed gone c) rest) ∙ ap (λ v. v ++ contents rest) (removed-contents gone c) ∙ sym (without-left gone (contents c) (contents rest) e))
  | inr e ↦ rw e (ap (λ v. contents c ++ v) (removed-contents gone rest) ∙ sym (without-right gone (contents c) (contents rest) e))
]

-- no leaf of this one's key stands before a row that begins below it
pub absent_left : (gone : Leaf) (c rest : Shape) → filled rest ≡ true → ordered_from 0 (contents c ++ contents rest) ≡ true → (nat_lt 0 (leaf_rank gone) && begins_within (leaf_rank gone - 1) rest) ≡ true → holds gone (contents c) ≡ false
absent_left gone c rest f o h = elim (cases_Bool (nat_lt 0 (leaf_rank gone))) [
  | inr e ↦ let none = rw e at h in absurd cc
  | inl e ↦
      let starts = sym (begins-starts (leaf_rank gone - 1) rest f) ∙ (rw e at h) in
      absent gone (contents c) (none_before 0 (leaf_rank gone - 1) (leaf_rank gone) (contents c) (contents rest) (positive (leaf_rank gone) e) o starts)
]

-- and none in a row that begins above it
pub absent_right : (gone : Leaf) (c rest : Shape) → filled rest ≡ true → ordered_from 0 (contents c ++ contents rest) ≡ true → begins_within (leaf_rank gone) rest ≡ false → holds gone (contents rest) ≡ false
absent_right gone c rest f o h =
    absent gone (contents rest) (none_within 0 (leaf_rank gone) (contents rest) (ordered-right 0 (contents c) (contents rest) o) (sym (begins-starts (leaf_rank gone) rest f) ∙ h))

pub absent_behind : (gone x : Leaf) (xs : List Leaf) → leaf_rank gone < leaf_rank x → ordered_from (leaf_rank x) xs ≡ true → holds gone xs ≡ false
absent_behind gone x xs h o = absent gone xs (none_above (leaf_rank x) (leaf_rank gone) xs h o)

pub without-ordered : (low : ℕ) (gone : Leaf) (xs : List Leaf) → ordered_from low xs ≡ true → ordered_from low (without gone xs) ≡ true
without-ordered low gone [] o = refl
without-ordered low gone (x ∷ xs) o =
    let p = ordered_head low x xs o in
    elim (cases_Bool (same_leaf x gone)) [
      | inl e ↦ rw e (ordered-weaken low (leaf_rank x) xs p.least p.others)
      | inr e ↦ rw e (ordered_cons low x (without gone xs) p.least (without-ordered (leaf_rank x) gone xs p.others))
    ]

-- a row of a sound shape and what a removal makes of it
pub record Shrunk (f : ℕ) (s t : Shape) : Type 0 where
  pub no_more : count t ≤ count s
  pub fewer_nodes : node_count t ≤ node_count s
  pub no_heavier : shape_weight f t ≤ shape_weight f s
  pub sound : fits f t ≡ true

pub tidied-shrunk : (f : ℕ) (c d rest others : Shape) → fits f (node c rest) ≡ true → Shrunk f c d → Shrunk f rest others → Shrunk f (node c rest) (tidied (node d others))
tidied-shrunk f c d rest others h g r =
    let p = node_fits f c rest h in
    let less = full-falls f c d g.no_more in
    elim (cases_Bool (count d == 0)) [
      | inl e ↦ rw e (record { no_more = omega (arith, r.no_more); fewer_nodes = omega (arith, r.fewer_nodes); no_heavier = omega (arith, r.no_heavier); sound = r.sound })
      | inr e ↦ rw e (record { no_more = omega (arith, r.no_more); fewer_nodes = omega (arith, r.fewer_nodes, g.fewer_nodes); no_heavier = omega (arith, r.no_heavier, g.no_heavier); sound = fits_node f d others (some (count d) e) (omega (arith, g.no_more, p.most)) g.sound r.sound })
    ]

pub same-shrunk : (f : ℕ) (s : Shape) → fits f s ≡ true → Shrunk f s s
same-shrunk f s h = record { no_more = omega arith; fewer_nodes = omega arith; no_heavier = omega arith; sound = h }

pub removed-shrunk : (f : ℕ) (gone : Leaf) (s : Shape) → fits f s ≡ true → Shrunk f s (removed gone s)
removed-shrunk f gone done h = same-shrunk f done h
removed-shrunk f gone (leaf x rest) h = elim (cases_Bool (same_leaf x gone)) [
  | inl e ↦ rw e (record { no_more = omega arith; fewer_nodes = omega arith; no_heavier = omega arith; sound = h })
  | inr e ↦
      let g = removed-shrunk f gone rest h in
      rw e (record { no_more = omega (arith, g.no_more); fewer_nodes = g.fewer_nodes; no_heavier = g.no_heavier; sound = g.sound })
]
removed-shrunk f gone (node c rest) h =
    let p = node_fits f c rest h in
    elim (cases_Bool (holds gone (contents c))) [
      | inl e ↦ rw e (tidied-shrunk f c (removed gone c) rest rest h (removed-shrunk f gone c p.children) (same-shrunk f rest p.others))
      | inr e ↦
          let g = removed-shrunk f gone rest p.others in
          rw e (record { no_more = omega (arith, g.no_more); fewer_nodes = omega (arith, g.fewer_nodes); no_heavier = omega (arith, g.no_heavier); sound = fits_node f c (removed gone rest) p.least p.most p.children g.sound })
    ]
