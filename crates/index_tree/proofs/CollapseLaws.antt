-- What is left of a whole shape after a removal is one.
use Rattle.std.specs.Prelude.{◌≡◌, ℕ, ◌≤◌, ◌==◌, true, false, List, [], ◌∷◌, ◌++◌}
use Rattle.std.proofs.Common.{refl, ap, sym, subst, ◌∙◌, arith, inl, inr, append-nil}
use Rattle.std.proofs.lemmas.Bool.{cases_Bool}
use Rattle.index_tree.specs.declared.leaf.Leaf.{Leaf}
use Rattle.index_tree.specs.Order.{ordered_from}
use Rattle.index_tree.specs.Shape.{Shape, done, leaf, node, contents, count, shape_weight, fits, lone, is_whole}
use Rattle.index_tree.proofs.GrowthLaws.{node_fits}
use Rattle.index_tree.proofs.InsertLaws.{lone-whole}
use Rattle.index_tree.specs.Removal.{same_leaf, holds, without, removed, collapsed, without_leaf}
use Rattle.index_tree.proofs.RemovalLaws.{empty, removed-shrunk, removed-contents, without-ordered}

pub lone-count : (s : Shape) → lone s ≡ true → count s ≡ 1
lone-count done w = absurd cc
lone-count (leaf x rest) w = absurd cc
lone-count (node c rest) w = let behind = ap count (empty rest w) in omega arith

pub collapsed-contents : (s : Shape) → is_whole s ≡ true → contents (collapsed s) ≡ contents s
collapsed-contents done w = refl
collapsed-contents (leaf x rest) w = refl
collapsed-contents (node c rest) w = elim (cases_Bool (lone c)) [
  | inl e ↦ rw e (collapsed-contents c (lone-whole c e) ∙ sym (append-nil (contents c)) ∙ ap (λ v. contents c ++ contents v) (sym (empty rest w)))
  | inr e ↦ rw e refl
]

pub collapsed-whole : (s : Shape) → is_whole s ≡ true → is_whole (collapsed s) ≡ true
collapsed-whole done w = refl
collapsed-whole (leaf x rest) w = w
collapsed-whole (node c rest) w = elim (cases_Bool (lone c)) [
  | inl e ↦ rw e (collapsed-whole c (lone-whole c e))
  | inr e ↦ rw e w
]

pub collapsed-fits : (f : ℕ) (s : Shape) → fits f s ≡ true → fits f (collapsed s) ≡ true
collapsed-fits f done h = refl
collapsed-fits f (leaf x rest) h = h
collapsed-fits f (node c rest) h = elim (cases_Bool (lone c)) [
  | inl e ↦ rw e (collapsed-fits f c (node_fits f c rest h).children)
  | inr e ↦ rw e h
]

pub collapsed-lighter : (f : ℕ) (s : Shape) → shape_weight f (collapsed s) ≤ shape_weight f s
collapsed-lighter f done = omega arith
collapsed-lighter f (leaf x rest) = omega arith
collapsed-lighter f (node c rest) = elim (cases_Bool (lone c)) [
  | inl e ↦ rw e (omega (arith, collapsed-lighter f c))
  | inr e ↦ rw e (omega arith)
]

pub removed-whole : (gone : Leaf) (s : Shape) → is_whole s ≡ true → is_whole (removed gone s) ≡ true
removed-whole gone done w = refl
removed-whole gone (leaf x rest) w = absurd cc
removed-whole gone (node c rest) w =
    let none = empty rest w in
    let P : Shape → Type 0 = λ v. is_whole (removed gone (node c v)) ≡ true in
    subst P (sym none) (elim (cases_Bool (holds gone (contents c))) [
      | inl e ↦ rw e (elim (cases_Bool (count (removed gone c) == 0)) [
        | inl z ↦ rw z refl
        | inr z ↦ rw z refl
      ])
      | inr e ↦ rw e refl
    ])

pub without_leaf-is : (gone : Leaf) (s : Shape) → without_leaf gone s ≡ collapsed (removed gone s)
unfolding without_leaf
without_leaf-is gone s = refl

-- what a removal from a whole shape gives
pub record WithoutLeaf (f : ℕ) (gone : Leaf) (s t : Shape) : Type 0 where
  pub sound : fits f t ≡ true
  pub whole : is_whole t ≡ true
  pub no_heavier : shape_weight f t ≤ shape_weight f s
  pub leaves : contents t ≡ without gone (contents s)

pub without_leaf-laws : (f : ℕ) (gone : Leaf) (s : Shape) → is_whole s ≡ true → fits f s ≡ true → WithoutLeaf f gone s (without_leaf gone s)
unfolding without_leaf
without_leaf-laws f gone s w h =
    let g = removed-shrunk f gone s h in
    let v = removed-whole gone s w in
    record {
      sound = collapsed-fits f (removed gone s) g.sound;
      whole = collapsed-whole (removed gone s) v;
      no_heavier = omega (arith, g.no_heavier, collapsed-lighter f (removed gone s));
      leaves = collapsed-contents (removed gone s) v ∙ removed-contents gone s;
    }

pub without_leaf-ordered : (f : ℕ) (gone : Leaf) (s : Shape) → is_whole s ≡ true → fits f s ≡ true → ordered_from 0 (contents s) ≡ true → ordered_from 0 (contents (without_leaf gone s)) ≡ true
without_leaf-ordered f gone s w h o = rw (without_leaf-laws f gone s w h).leaves (without-ordered 0 gone (contents s) o)

pub without-absent : (gone : Leaf) (xs : List Leaf) → holds gone xs ≡ false → without gone xs ≡ xs
without-absent gone [] h = refl
without-absent gone (x ∷ xs) h = elim (cases_Bool (same_leaf x gone)) [
  | inl e ↦ let none = rw e at h in absurd cc
  | inr e ↦ rw e (ap (λ v. x ∷ v) (without-absent gone xs (rw e at h)))
]
