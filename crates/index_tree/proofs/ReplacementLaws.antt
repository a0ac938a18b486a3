-- What a replacement does to the contents and the numbers of a shape.
use Rattle.std.specs.Prelude.{◌≡◌, ℕ, ◌+◌, ◌==◌, nat_le, true, false, if◌then◌else◌, List, [], ◌∷◌, ◌++◌}
use Rattle.std.proofs.Common.{refl, ap, sym, subst, ◌∙◌, arith, inl, inr}
use Rattle.std.proofs.lemmas.Bool.{cases_Bool, eqb-true}
use Rattle.std.proofs.lemmas.Bool.Decides.{nat_tests}
use Rattle.index_tree.specs.declared.leaf.Leaf.{Leaf}
use Rattle.index_tree.specs.Order.{leaf_rank, ordered_from}
use Rattle.index_tree.proofs.OrderLaws.{ordered_head, ordered_cons}
use Rattle.index_tree.specs.Shape.{Shape, done, leaf, node, contents, count, node_count, full, shape_weight, fits, is_whole}
use Rattle.index_tree.proofs.GrowthLaws.{node_fits, fits_node}
use Rattle.index_tree.specs.Removal.{same_leaf, holds}
use Rattle.index_tree.proofs.RemovalLaws.{holds-append, same-rank}
use Rattle.index_tree.specs.Replacement.{swapped, replaced}

pub swapped-left : (old new : Leaf) (xs ys : List Leaf) → holds old xs ≡ true → swapped old new (xs ++ ys) ≡ swapped old new xs ++ ys
swapped-left old new [] ys h = absurd cc
swapped-left old new (x ∷ xs) ys h = elim (cases_Bool (same_leaf x old)) [
  | inl e ↦ rw e refl
  | inr e ↦ rw e (ap (λ v. x ∷ v) (swapped-left old new xs ys (rw e at h)))
]

pub swapped-right : (old new : Leaf) (xs ys : List Leaf) → holds old xs ≡ false → swapped old new (xs ++ ys) ≡ xs ++ swapped old new ys
swapped-right old new [] ys h = refl
swapped-right old new (x ∷ xs) ys h = elim (cases_Bool (same_leaf x old)) [
  | inl e ↦ let none = rw e at h in absurd cc
  | inr e ↦ rw e (ap (λ v. x ∷ v) (swapped-right old new xs ys (rw e at h)))
]

pub swapped-ordered : (low : ℕ) (old new : Leaf) (xs : List Leaf) → leaf_rank new ≡ leaf_rank old → ordered_from low xs ≡ true → ordered_from low (swapped old new xs) ≡ true
swapped-ordered low old new [] k o = refl
swapped-ordered low old new (x ∷ xs) k o =
    let p = ordered_head low x xs o in
    elim (cases_Bool (same_leaf x old)) [
      | inl e ↦
          let same : leaf_rank x ≡ leaf_rank new = eqb-true (leaf_rank x) (leaf_rank old) (same-rank x old e) ∙ sym k in
          let P : ℕ → Type 0 = λ r. ordered_from r xs ≡ true in
          rw e (ordered_cons low new xs (omega (arith, p.least)) (subst P same p.others))
      | inr e ↦ rw e (ordered_cons low x (swapped old new xs) p.least (swapped-ordered (leaf_rank x) old new xs k p.others))
    ]

pub replaced-absent : (old new : Leaf) (s : Shape) → holds old (contents s) ≡ false → replaced old new s ≡ s
replaced-absent old new done h = refl
replaced-absent old new (leaf x rest) h = elim (cases_Bool (same_leaf x old)) [
  | inl e ↦ let none = rw e at h in absurd cc
  | inr e ↦ rw e (ap (λ v. leaf x v) (replaced-absent old new rest (rw e at h)))
]
replaced-absent old new (node c rest) h =
    let parts = sym (holds-append old (contents c) (contents rest)) ∙ h in
    elim (cases_Bool (holds old (contents c))) [
      | inl e ↦ let none = rw e at parts in absurd cc
      | inr e ↦ rw e (ap (λ v. node c v) (replaced-absent old new rest (rw e at parts)))
    ]

pub replaced-contents : (old new : Leaf) (s : Shape) → contents (replaced old new s) ≡ swapped old new (contents s)
replaced-contents old new done = refl
replaced-contents old new (leaf x rest) = elim (cases_Bool (same_leaf x old)) [
  | inl e ↦ rw e refl
  | inr e ↦ rw e (ap (λ v. x ∷ v) (replaced-contents old new rest))
]
replaced-contents old new (node c rest) = elim (cases_Bool (holds old (contents c))) [
  | inl e ↦ rw e (ap (λ v. v ++ contents rest) (replaced-contents old new c) ∙ sym (swapped-left old new (contents c) (contents rest) e))
  | inr e ↦ rw e (ap (λ v. contents c ++ v) (replaced-contents old new rest) ∙ sym (swapped-right old new (contents c) (contents rest) e))
]

pub replaced-count : (old new : Leaf) (s : Shape) → count (replaced old new s) ≡ count s
replaced-count old new done = refl
replaced-count old new (leaf x rest) = elim (cases_Bool (same_leaf x old)) [
  | inl e ↦ rw e refl
  | inr e ↦ rw e (ap (λ n. n + 1) (replaced-count old new rest))
]
replaced-count old new (node c rest) = elim (cases_Bool (holds old (contents c))) [
  | inl e ↦ rw e refl
  | inr e ↦ rw e (ap (λ n. n + 1) (replaced-count old new rest))
]

-- a replacement changes no number of a sound shape
pub record Same (f : ℕ) (s t : Shape) : Type 0 where
  pub as_many : count t ≡ count s
  pub nodes : node_count t ≡ node_count s
  pub weight : shape_weight f t ≡ shape_weight f s
  pub sound : fits f t ≡ true

pub replaced-same : (f : ℕ) (old new : Leaf) (s : Shape) → fits f s ≡ true → Same f s (replaced old new s)
replaced-same f old new done h = record { as_many = refl; nodes = refl; weight = refl; sound = refl }
replaced-same f old new (leaf x rest) h = elim (cases_Bool (same_leaf x old)) [
  | inl e ↦ rw e (record { as_many = refl; nodes = refl; weight = refl; sound = h })
  | inr e ↦
      let g = replaced-same f old new rest h in
      rw e (record { as_many = omega (arith, g.as_many); nodes = g.nodes; weight = g.weight; sound = g.sound })
]
replaced-same f old new (node c rest) h =
    let p = node_fits f c rest h in
    elim (cases_Bool (holds old (contents c))) [
      | inl e ↦
          let g = replaced-same f old new c p.children in
          let m = g.as_many in
          let still : full f (replaced old new c) ≡ full f c = ap (λ k. if nat_le f k then 1 else 0) m in
          rw e (record { as_many = refl; nodes = omega (arith, g.nodes); weight = omega (arith, g.weight, still); sound = fits_node f (replaced old new c) rest (omega (arith, p.least)) (omega (arith, p.most)) g.sound p.others })
      | inr e ↦
          let g = replaced-same f old new rest p.others in
          rw e (record { as_many = omega (arith, g.as_many); nodes = omega (arith, g.nodes); weight = omega (arith, g.weight); sound = fits_node f c (replaced old new rest) p.least p.most p.children g.sound })
    ]

none : (n : ℕ) → (n + 1 == 0) ≡ true → ⊥
none n h = grind (arith, nat_tests)

pub replaced-whole : (old new : Leaf) (s : Shape) → is_whole s ≡ true → is_whole (replaced old new s) ≡ true
replaced-whole old new done w = refl
replaced-whole old new (leaf x rest) w = absurd cc
replaced-whole old new (node c done) w = elim (cases_Bool (holds old (contents c))) [
  | inl e ↦ rw e refl
  | inr e ↦ rw e refl
]
replaced-whole old new (node c (leaf x rest)) w = absurd (none (count rest) w)
replaced-whole old new (node c (node d rest)) w = absurd (none (count rest) w)
