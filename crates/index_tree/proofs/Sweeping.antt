-- The steps that drop empty nodes, and take a leaf out of its place.
use Rattle.std.proofs.Common.{◌≡◌, ℕ, ◌+◌, ◌<◌, ◌≤◌, true, false, refl, ap, sym, ◌∙◌, arith, inl, inr, zero, suc, List, [], ◌∷◌, ◌++◌, length, take, drop}
use Rattle.std.specs.Prelude.{◌==◌, filter}
use Rattle.std.proofs.Math.ListN.{set}
use Rattle.std.proofs.lemmas.Bool.{cases_Bool}
use Rattle.index_tree.specs.declared.leaf.Leaf.{Leaf}
use Rattle.index_tree.specs.declared.node.Node.{Node}
use Rattle.index_tree.proofs.GrowthLaws.{node_fits, below-full}
use Rattle.index_tree.proofs.RangeSkips.{tidied-filled}
use Rattle.index_tree.specs.Removal.{same_leaf, holds, without, tidied, removed}
use Rattle.index_tree.proofs.RemovalLaws.{empty}
use Rattle.index_tree.specs.Replacement.{swapped, replaced}
use Rattle.index_tree.specs.Shape.{Shape, done, leaf, node, count, node_count, shape_weight, fits}
use Rattle.index_tree.specs.Sweep.{swept, has_child, leaf_index}
use Rattle.index_tree.specs.Tree.{below, row, kept_all, leaves_before}
use Rattle.index_tree.proofs.TreeLaws.{kept_cons}

pub swept-same : (f : ℕ) (s : Shape) → fits f s ≡ true → swept s ≡ s
swept-same f done h = refl
swept-same f (leaf x rest) h = ap (λ v. leaf x v) (swept-same f rest h)
swept-same f (node c rest) h =
    let p = node_fits f c rest h in
    ap (λ v. tidied (node c v)) (swept-same f rest p.others) ∙ tidied-filled c rest p.least

pub swept-leaves : (xs : List Leaf) (s : Shape) → swept (leaves_before xs s) ≡ leaves_before xs (swept s)
swept-leaves [] s = refl
swept-leaves (x ∷ xs) s = ap (λ v. leaf x v) (swept-leaves xs s)

-- the first node was changed, and what stands behind it is sound
pub swept-head : (f : ℕ) (c rest : Shape) → fits f rest ≡ true → swept (node c rest) ≡ tidied (node c rest)
swept-head f c rest h = ap (λ v. tidied (node c v)) (swept-same f rest h)

pub swept-row : (ns : List Node) → row (filter has_child ns) ≡ swept (row ns)
swept-row [] = refl
swept-row (n ∷ ns) = elim (cases_Bool (count (below n) == 0)) [
  | inl e ↦ rw e (swept-row ns)
  | inr e ↦ rw e (ap (λ v. node (below n) v) (swept-row ns))
]

pub filter-kept : (ns : List Node) → kept_all ns ≡ true → kept_all (filter has_child ns) ≡ true
filter-kept [] h = refl
filter-kept (n ∷ ns) h =
    let p = kept_cons n ns h in
    elim (cases_Bool (count (below n) == 0)) [
      | inl e ↦ rw e (filter-kept ns p.tail)
      | inr e ↦ rw e (rw (p.head, filter-kept ns p.tail) refl)
    ]

pub filter-fewer : (ns : List Node) → length (filter has_child ns) ≤ length ns
filter-fewer [] = omega arith
filter-fewer (n ∷ ns) = elim (cases_Bool (count (below n) == 0)) [
  | inl e ↦ rw e (omega (arith, filter-fewer ns))
  | inr e ↦ rw e (omega (arith, filter-fewer ns))
]

pub filter-nodes : (ns : List Node) → node_count (row (filter has_child ns)) + length ns ≡ node_count (row ns) + length (filter has_child ns)
filter-nodes [] = refl
filter-nodes (n ∷ ns) = elim (cases_Bool (count (below n) == 0)) [
  | inl e ↦ let none = ap node_count (empty (below n) e) in rw e (omega (arith, filter-nodes ns, none))
  | inr e ↦ rw e (omega (arith, filter-nodes ns))
]

pub filter-weight : (f : ℕ) (ns : List Node) → 3 ≤ f → shape_weight f (row (filter has_child ns)) + length ns ≡ shape_weight f (row ns) + length (filter has_child ns)
filter-weight f [] three = refl
filter-weight f (n ∷ ns) three = elim (cases_Bool (count (below n) == 0)) [
  | inl e ↦
      let is = empty (below n) e in
      let none : shape_weight f (below n) ≡ 0 = ap (λ v. shape_weight f v) is in
      let few : count (below n) < f = omega (arith, ap count is) in
      rw e (omega (arith, filter-weight f ns three, none, below-full f (below n) few))
  | inr e ↦ rw e (omega (arith, filter-weight f ns three))
]

-- a leaf that stands at its place
pub index-bound : (gone : Leaf) (xs : List Leaf) → holds gone xs ≡ true → leaf_index gone xs < length xs
index-bound gone [] h = absurd cc
index-bound gone (x ∷ xs) h = elim (cases_Bool (same_leaf x gone)) [
  | inl e ↦ rw e (omega arith)
  | inr e ↦ rw e (omega (arith, index-bound gone xs (rw e at h)))
]

index-without : (gone : Leaf) (xs : List Leaf) (i : ℕ) → holds gone xs ≡ true → i ≡ leaf_index gone xs → take i xs ++ drop (suc i) xs ≡ without gone xs
index-without gone [] i h is = absurd cc
index-without gone (x ∷ xs) zero h is = elim (cases_Bool (same_leaf x gone)) [
  | inl e ↦ rw e refl
  | inr e ↦ let none = rw e at is in absurd (omega arith)
]
index-without gone (x ∷ xs) (suc i) h is = elim (cases_Bool (same_leaf x gone)) [
  | inl e ↦ let none = rw e at is in absurd (omega arith)
  | inr e ↦
      let one = rw e at is in
      let same : i ≡ leaf_index gone xs = omega arith in
      rw e (ap (λ v. x ∷ v) (index-without gone xs i (rw e at h) same))
]

index-swapped : (old new : Leaf) (xs : List Leaf) (i : ℕ) → holds old xs ≡ true → i ≡ leaf_index old xs → set xs i new ≡ swapped old new xs
index-swapped old new [] i h is = absurd cc
index-swapped old new (x ∷ xs) zero h is = elim (cases_Bool (same_leaf x old)) [
  | inl e ↦ rw e refl
  | inr e ↦ let none = rw e at is in absurd (omega arith)
]
index-swapped old new (x ∷ xs) (suc i) h is = elim (cases_Bool (same_leaf x old)) [
  | inl e ↦ let none = rw e at is in absurd (omega arith)
  | inr e ↦
      let one = rw e at is in
      let same : i ≡ leaf_index old xs = omega arith in
      rw e (ap (λ v. x ∷ v) (index-swapped old new xs i (rw e at h) same))
]

pub removed-here : (gone : Leaf) (xs ys : List Leaf) (s : Shape) (i : ℕ) → holds gone xs ≡ true → i ≡ leaf_index gone xs → ys ≡ take i xs ++ drop (suc i) xs → leaves_before ys s ≡ removed gone (leaves_before xs s)
removed-here gone xs ys s i h is e = ap (λ v. leaves_before v s) (e ∙ index-without gone xs i h is) ∙ sym (removed-leaves gone xs s h)
  where
    removed-leaves : (gone : Leaf) (xs : List Leaf) (s : Shape) → holds gone xs ≡ true → removed gone (leaves_before xs s) ≡ leaves_before (without gone xs) s
    removed-leaves gone [] s h = absurd cc
    removed-leaves gone (x ∷ xs) s h = elim (cases_Bool (same_leaf x gone)) [
      | inl e ↦ rw e refl
      | inr e ↦ rw e (ap (λ v. leaf x v) (removed-leaves gone xs s (rw e at h)))
    ]

pub removed-past : (gone : Leaf) (xs : List Leaf) (s : Shape) → holds gone xs ≡ false → removed gone (leaves_before xs s) ≡ leaves_before xs (removed gone s)
removed-past gone [] s h = refl
removed-past gone (x ∷ xs) s h = elim (cases_Bool (same_leaf x gone)) [
  | inl e ↦ let none = rw e at h in absurd cc
  | inr e ↦ rw e (ap (λ v. leaf x v) (removed-past gone xs s (rw e at h)))
]

pub replaced-here : (old new : Leaf) (xs ys : List Leaf) (s : Shape) (i : ℕ) → holds old xs ≡ true → i ≡ leaf_index old xs → ys ≡ set xs i new → leaves_before ys s ≡ replaced old new (leaves_before xs s)
replaced-here old new xs ys s i h is e = ap (λ v. leaves_before v s) (e ∙ index-swapped old new xs i h is) ∙ sym (replaced-leaves old new xs s h)
  where
    replaced-leaves : (old new : Leaf) (xs : List Leaf) (s : Shape) → holds old xs ≡ true → replaced old new (leaves_before xs s) ≡ leaves_before (swapped old new xs) s
    replaced-leaves old new [] s h = absurd cc
    replaced-leaves old new (x ∷ xs) s h = elim (cases_Bool (same_leaf x old)) [
      | inl e ↦ rw e refl
      | inr e ↦ rw e (ap (λ v. leaf x v) (replaced-leaves old new xs s (rw e at h)))
    ]

pub replaced-past : (old new : Leaf) (xs : List Leaf) (s : Shape) → holds old xs ≡ false → replaced old new (leaves_before xs s) ≡ leaves_before xs (replaced old new s)
replaced-past old new [] s h = refl
replaced-past old new (x ∷ xs) s h = elim (cases_Bool (same_leaf x old)) [
  | inl e ↦ let none = rw e at h in absurd cc
  | inr e ↦ rw e (ap (λ v. leaf x v) (replaced-past old new xs s (rw e at h)))
]
