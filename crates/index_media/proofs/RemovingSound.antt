-- Removals and replacements keep what an index is: how many children nodes have, the level of leaves, and that keys are keys.
use Rattle.std.proofs.Common.{◌≡◌, ℕ, ◌+◌, ◌-◌, ◌<◌, ◌≤◌, true, false, refl, ap, arith, inl, inr}
use Rattle.std.specs.Prelude.{◌==◌}
use Rattle.std.proofs.lemmas.Bool.{cases_Bool, eqb-false}
use Rattle.ubifs_base.specs.Key.{IsKey}
use Rattle.index_tree.specs.Levels.{levelled}
use Rattle.index_tree.specs.Removal.{same_leaf, holds}
use Rattle.index_tree.specs.Shape.{contents, count, fits, lone}
use Rattle.index_tree.specs.declared.leaf.Leaf.{Leaf}
use Rattle.index_media.specs.InsertionSound.{AreKeys, fit_node, fits_node, level_node, node_level, level_leaf, leaf_level}
use Rattle.index_media.specs.KeyedRemoval.{removed_by_keys, keyed_collapsed, without_leaf_by_keys, replaced_by_keys}
use Rattle.index_media.specs.KeyedRow.{KeyedRow, no_more, leaf_in, node_in, bare}

pub some_children : (n : ℕ) → (n == 0) ≡ false → 0 < n
some_children n e = let other = eqb-false n 0 e in grind (arith, other)

-- a removal leaves no more siblings
pub removed_count : (gone : Leaf) (row : KeyedRow) → count (bare (removed_by_keys gone row)) ≤ count (bare row)
removed_count gone no_more = omega arith
removed_count gone (leaf_in x rest) = elim (cases_Bool (same_leaf x gone)) [
  | inl e ↦ rw e (omega arith)
  | inr e ↦ let others = removed_count gone rest in rw e (omega (arith, others))
]
removed_count gone (node_in key place c rest) = elim (cases_Bool (holds gone (contents (bare c)))) [
  | inl e ↦ elim (cases_Bool (count (bare (removed_by_keys gone c)) == 0)) [
    | inl z ↦ rw (e, z) (omega arith)
    | inr z ↦ rw (e, z) (omega arith)
  ]
  | inr e ↦ let others = removed_count gone rest in rw e (omega (arith, others))
]

-- each node has children
pub removed_fits : (f : ℕ) (gone : Leaf) (row : KeyedRow) → fits f (bare row) ≡ true → fits f (bare (removed_by_keys gone row)) ≡ true
removed_fits f gone no_more h = refl
removed_fits f gone (leaf_in x rest) h = elim (cases_Bool (same_leaf x gone)) [
  | inl e ↦ rw e h
  | inr e ↦ rw e (removed_fits f gone rest h)
]
removed_fits f gone (node_in key place c rest) h =
    let p = fit_node f (bare c) (bare rest) h in
    elim (cases_Bool (holds gone (contents (bare c)))) [
      | inl e ↦ elim (cases_Bool (count (bare (removed_by_keys gone c)) == 0)) [
        | inl z ↦ rw (e, z) p.others
        | inr z ↦
            let most = p.most in
            let fewer = removed_count gone c in
            rw (e, z) (fits_node f (bare (removed_by_keys gone c)) (bare rest) (some_children (count (bare (removed_by_keys gone c))) z) (omega (arith, most, fewer)) (removed_fits f gone c p.children) p.others)
      ]
      | inr e ↦ rw e (fits_node f (bare c) (bare (removed_by_keys gone rest)) p.least p.most p.children (removed_fits f gone rest p.others))
    ]

-- leaves stay on the lowest level
pub removed_levelled : (h : ℕ) (gone : Leaf) (row : KeyedRow) → levelled h (bare row) ≡ true → levelled h (bare (removed_by_keys gone row)) ≡ true
removed_levelled h gone no_more l = refl
removed_levelled h gone (leaf_in x rest) l =
    let q = level_leaf h x (bare rest) l in
    elim (cases_Bool (same_leaf x gone)) [
      | inl e ↦ rw e q.others
      | inr e ↦ rw e (leaf_level h x (bare (removed_by_keys gone rest)) q.lowest (removed_levelled h gone rest q.others))
    ]
removed_levelled h gone (node_in key place c rest) l =
    let q = level_node h (bare c) (bare rest) l in
    elim (cases_Bool (holds gone (contents (bare c)))) [
      | inl e ↦ elim (cases_Bool (count (bare (removed_by_keys gone c)) == 0)) [
        | inl z ↦ rw (e, z) q.others
        | inr z ↦ rw (e, z) (node_level h (bare (removed_by_keys gone c)) (bare rest) q.above (removed_levelled (h - 1) gone c q.children) q.others)
      ]
      | inr e ↦ rw e (node_level h (bare c) (bare (removed_by_keys gone rest)) q.above q.children (removed_levelled h gone rest q.others))
    ]

-- keys stay keys
pub removed_keys : (gone : Leaf) (row : KeyedRow) → AreKeys row → AreKeys (removed_by_keys gone row)
removed_keys gone no_more k = tt
removed_keys gone (leaf_in x rest) k = elim (cases_Bool (same_leaf x gone)) [
  | inl e ↦ rw e k.1
  | inr e ↦ rw e (k.0, removed_keys gone rest k.1)
]
removed_keys gone (node_in key place c rest) k = elim (cases_Bool (holds gone (contents (bare c)))) [
  | inl e ↦ elim (cases_Bool (count (bare (removed_by_keys gone c)) == 0)) [
    | inl z ↦ rw (e, z) k.2
    | inr z ↦ rw (e, z) (k.0, removed_keys gone c k.1, k.2)
  ]
  | inr e ↦ rw e (k.0, k.1, removed_keys gone rest k.2)
]

pub collapsed_keys : (row : KeyedRow) → AreKeys row → AreKeys (keyed_collapsed row)
collapsed_keys no_more k = tt
collapsed_keys (leaf_in x rest) k = k
collapsed_keys (node_in key place c rest) k = elim (cases_Bool (lone (bare c))) [
  | inl e ↦ rw e (collapsed_keys c k.1)
  | inr e ↦ rw e k
]

pub without_leaf_keys : (gone : Leaf) (row : KeyedRow) → AreKeys row → AreKeys (without_leaf_by_keys gone row)
unfolding without_leaf_by_keys
without_leaf_keys gone row k = collapsed_keys (removed_by_keys gone row) (removed_keys gone row k)

-- a replacement leaves as many siblings
pub replaced_count : (old new : Leaf) (row : KeyedRow) → count (bare (replaced_by_keys old new row)) ≡ count (bare row)
replaced_count old new no_more = refl
replaced_count old new (leaf_in x rest) = elim (cases_Bool (same_leaf x old)) [
  | inl e ↦ rw e refl
  | inr e ↦ rw e (ap (λ (n : ℕ). n + 1) (replaced_count old new rest))
]
replaced_count old new (node_in key place c rest) = elim (cases_Bool (holds old (contents (bare c)))) [
  | inl e ↦ rw e refl
  | inr e ↦ rw e (ap (λ (n : ℕ). n + 1) (replaced_count old new rest))
]

pub replaced_fits : (f : ℕ) (old new : Leaf) (row : KeyedRow) → fits f (bare row) ≡ true → fits f (bare (replaced_by_keys old new row)) ≡ true
replaced_fits f old new no_more h = refl
replaced_fits f old new (leaf_in x rest) h = elim (cases_Bool (same_leaf x old)) [
  | inl e ↦ rw e h
  | inr e ↦ rw e (replaced_fits f old new rest h)
]
replaced_fits f old new (node_in key place c rest) h =
    let p = fit_node f (bare c) (bare rest) h in
    elim (cases_Bool (holds old (contents (bare c)))) [
      | inl e ↦
          let least = p.least in
          let most = p.most in
          let same = replaced_count old new c in
          rw e (fits_node f (bare (replaced_by_keys old new c)) (bare rest) (omega (arith, least, same)) (omega (arith, most, same)) (replaced_fits f old new c p.children) p.others)
      | inr e ↦ rw e (fits_node f (bare c) (bare (replaced_by_keys old new rest)) p.least p.most p.children (replaced_fits f old new rest p.others))
    ]

pub replaced_levelled : (h : ℕ) (old new : Leaf) (row : KeyedRow) → levelled h (bare row) ≡ true → levelled h (bare (replaced_by_keys old new row)) ≡ true
replaced_levelled h old new no_more l = refl
replaced_levelled h old new (leaf_in x rest) l =
    let q = level_leaf h x (bare rest) l in
    elim (cases_Bool (same_leaf x old)) [
      | inl e ↦ rw e (leaf_level h new (bare rest) q.lowest q.others)
      | inr e ↦ rw e (leaf_level h x (bare (replaced_by_keys old new rest)) q.lowest (replaced_levelled h old new rest q.others))
    ]
replaced_levelled h old new (node_in key place c rest) l =
    let q = level_node h (bare c) (bare rest) l in
    elim (cases_Bool (holds old (contents (bare c)))) [
      | inl e ↦ rw e (node_level h (bare (replaced_by_keys old new c)) (bare rest) q.above (replaced_levelled (h - 1) old new c q.children) q.others)
      | inr e ↦ rw e (node_level h (bare c) (bare (replaced_by_keys old new rest)) q.above q.children (replaced_levelled h old new rest q.others))
    ]

pub replaced_keys : (old new : Leaf) (row : KeyedRow) → IsKey new.key → AreKeys row → AreKeys (replaced_by_keys old new row)
replaced_keys old new no_more own k = tt
replaced_keys old new (leaf_in x rest) own k = elim (cases_Bool (same_leaf x old)) [
  | inl e ↦ rw e (own, k.1)
  | inr e ↦ rw e (k.0, replaced_keys old new rest own k.1)
]
replaced_keys old new (node_in key place c rest) own k = elim (cases_Bool (holds old (contents (bare c)))) [
  | inl e ↦ rw e (k.0, replaced_keys old new c own k.1, k.2)
  | inr e ↦ rw e (k.0, k.1, replaced_keys old new rest own k.2)
]
