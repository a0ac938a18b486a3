-- What an insertion by keys of branches does to the weight.
use Rattle.std.proofs.Common.{◌≡◌, ℕ, ◌+◌, ◌-◌, ◌<◌, ◌≤◌, true, false, refl, sym, subst, arith, inl, inr}
use Rattle.std.specs.Prelude.{nat_le}
use Rattle.std.proofs.lemmas.Bool.{cases_Bool, eqb-true}
use Rattle.std.proofs.lemmas.Bool.Decides.{nat_tests}
use Rattle.index_tree.specs.Order.{leaf_rank}
use Rattle.index_tree.specs.Places.{splits}
use Rattle.index_tree.specs.Shape.{Shape, done, leaf, node, count, full, shape_weight, fits, front, back, left_half, parted, lone, is_whole}
use Rattle.index_tree.specs.declared.leaf.Leaf.{Leaf}
use Rattle.index_media.specs.Insertion.{starts_by, lowered, inserted_by_keys, with_leaf_by_keys}
use Rattle.index_media.specs.InsertionLaws.{parted_bare}
use Rattle.index_media.specs.InsertionSound.{Grown, FitNode, fit_node, front_count, back_count, inserted_grown}
use Rattle.index_media.specs.KeyedRow.{KeyedRow, no_more, leaf_in, node_in, bare}

halves_weight : (f n : ℕ) (s : Shape) → shape_weight f (front n s) + shape_weight f (back n s) ≡ shape_weight f s
halves_weight f n done = refl
halves_weight f n (leaf x rest) = let h = halves_weight f (n - 1) rest in grind (arith, nat_tests)
halves_weight f n (node c rest) = let h = halves_weight f (n - 1) rest in grind (arith, nat_tests)

below_full : (f : ℕ) (c : Shape) → count c < f → full f c ≡ 0
below_full f c h = grind (arith, nat_tests)

at_full : (f : ℕ) (c : Shape) → f ≤ count c → full f c ≡ 1
at_full f c h = grind (arith, nat_tests)

parted_weight : (f : ℕ) (c rest : Shape) → 3 ≤ f → count c ≤ f + 1 → shape_weight f (parted f c rest) ≡ shape_weight f c + shape_weight f rest + 1 + full f c
unfolding parted
parted_weight f c rest least most = elim (cases_Bool (nat_le (f + 1) (count c))) [
  | inl e ↦
      let more : f + 1 ≤ count c = grind (arith, nat_tests) in
      let left = below_full f (front (left_half f) c) (omega (arith, front_count (left_half f) c)) in
      let right = below_full f (back (left_half f) c) (omega (arith, back_count (left_half f) c)) in
      let whole = at_full f c (omega arith) in
      rw e (rw (left, right, whole) (omega (arith, halves_weight f (left_half f) c)))
  | inr e ↦ rw e refl
]

parted_siblings : (f : ℕ) (c rest : Shape) → count (parted f c rest) ≡ count rest + 1 + splits f c
unfolding parted
parted_siblings f c rest = elim (cases_Bool (nat_le (f + 1) (count c))) [
  | inl e ↦ rw e (omega arith)
  | inr e ↦ rw e (omega arith)
]

-- a node becomes full, or splits, only by another child
splits_by_count : (f : ℕ) (c d : Shape) → count c ≤ f → count c ≤ count d → count d ≤ count c + 1 → full f d + splits f d + count c ≤ full f c + count d
splits_by_count f c d most h m = grind (arith, nat_tests)

-- a row, and what an insertion makes of it
abbrev Heavier : ℕ → Shape → Shape → Type 0
Heavier f old new = shape_weight f new + count new ≤ shape_weight f old + count old + 1

parted_heavier : (f : ℕ) (c d rest : Shape) → 3 ≤ f → FitNode f c rest → Grown f c d → Heavier f c d → Heavier f (node c rest) (parted f d rest)
parted_heavier f c d rest three p g h =
    let k = g.no_fewer in
    let m = g.one_more in
    let most = p.most in
    let a = parted_siblings f d rest in
    let w = parted_weight f d rest three (omega (arith, most, m)) in
    let s = splits_by_count f c d most k m in
    omega (arith, h, a, w, s)

inserted_heavier : (f : ℕ) (new : Leaf) (row : KeyedRow) → 3 ≤ f → fits f (bare row) ≡ true → Heavier f (bare row) (bare (inserted_by_keys f new row))
inserted_heavier f new no_more three h = omega arith
inserted_heavier f new (leaf_in x rest) three h = elim (cases_Bool (nat_le (leaf_rank x) (leaf_rank new))) [
  | inl e ↦ let others = inserted_heavier f new rest three h in rw e (omega (arith, others))
  | inr e ↦ rw e (omega arith)
]
inserted_heavier f new (node_in key place c rest) three h =
    let p = fit_node f (bare c) (bare rest) h in
    elim (cases_Bool (starts_by (leaf_rank new) rest)) [
      | inl e ↦ let others = inserted_heavier f new rest three p.others in rw e (omega (arith, others))
      | inr e ↦
          let P : Shape → Type 0 = λ s. Heavier f (node (bare c) (bare rest)) s in
          rw e (subst P (sym (parted_bare f (lowered new key) (inserted_by_keys f new c) rest))
          (parted_heavier f (bare c) (bare (inserted_by_keys f new c)) (bare rest) three p (inserted_grown f new c three p.children) (inserted_heavier f new c three p.children)))
    ]

-- a root that splits has one more sibling
parted_gained : (f : ℕ) (d : Shape) → lone (parted f d done) ≡ false → 1 < count (parted f d done)
unfolding parted
parted_gained f d l = elim (cases_Bool (nat_le (f + 1) (count d))) [
  | inl e ↦ rw e (omega arith)
  | inr e ↦ let alone = rw e at l in absurd cc
]

gained : (f : ℕ) (new : Leaf) (row : KeyedRow) → is_whole (bare row) ≡ true → lone (bare (inserted_by_keys f new row)) ≡ false → count (bare row) < count (bare (inserted_by_keys f new row))
gained f new no_more w h = omega arith
gained f new (leaf_in x rest) w h = absurd cc
gained f new (node_in key place c (leaf_in x rest)) w h = let none = eqb-true (count (bare rest) + 1) 0 w in absurd (omega (arith, none))
gained f new (node_in key place c (node_in own p d rest)) w h = let none = eqb-true (count (bare rest) + 1) 0 w in absurd (omega (arith, none))
gained f new (node_in key place c no_more) w h =
    let s = parted_bare f (lowered new key) (inserted_by_keys f new c) no_more in
    let P : Shape → Type 0 = λ t. lone t ≡ false → 1 < count t in
    subst P (sym s) (parted_gained f (bare (inserted_by_keys f new c))) h

whole_one : (s : Shape) → is_whole s ≡ true → count s ≤ 1
whole_one done w = omega arith
whole_one (leaf x rest) w = absurd cc
whole_one (node c rest) w = let none = eqb-true (count rest) 0 w in omega (arith, none)

pub with_leaf_heavier : (f : ℕ) (new : Leaf) (row : KeyedRow) → 3 ≤ f → is_whole (bare row) ≡ true → fits f (bare row) ≡ true
    → shape_weight f (bare (with_leaf_by_keys f new row)) ≤ shape_weight f (bare row) + 1
unfolding with_leaf_by_keys
with_leaf_heavier f new row three w h =
    let made = inserted_by_keys f new row in
    let heavy = inserted_heavier f new row three h in
    let g = inserted_grown f new row three h in
    let fewer = g.no_fewer in
    let more = g.one_more in
    let small = whole_one (bare row) w in
    elim (cases_Bool (lone (bare made))) [
      | inl e ↦ rw e (omega (arith, heavy, fewer))
      | inr e ↦
          let gain = gained f new row w e in
          let slack = below_full f (bare made) (omega (arith, more, small, three)) in
          rw e (omega (arith, heavy, gain, slack))
    ]
