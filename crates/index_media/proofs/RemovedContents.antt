-- The leaves that a removal and a replacement leave.
use Rattle.std.proofs.Common.{◌≡◌, ◌≤◌, true, false, List, [], ◌∷◌, ◌++◌, refl, ap, sym, ◌∙◌, arith, inl, inr, append-nil}
use Rattle.std.specs.Prelude.{Option, None, ◌==◌}
use Rattle.std.proofs.lemmas.Bool.{cases_Bool, eqb-true}
use Rattle.ubifs_base.specs.declared.key.Key.{Key}
use Rattle.index_tree.specs.Removal.{same_leaf, holds, without}
use Rattle.index_tree.specs.Replacement.{swapped}
use Rattle.index_tree.specs.Shape.{Shape, done, leaf, node, contents, count, lone}
use Rattle.index_tree.specs.declared.leaf.Leaf.{Leaf}
use Rattle.index_media.specs.KeyedRemoval.{keyed_tidied, removed_by_keys, keyed_collapsed, without_leaf_by_keys, replaced_by_keys}
use Rattle.index_media.specs.KeyedRow.{KeyedRow, no_more, leaf_in, node_in, bare}
use Rattle.index_media.specs.PlacedRow.{Stretch}
use Rattle.index_media.proofs.RemovingSound.{removed_count}

without_first : (z : Leaf) (xs ys : List Leaf) → holds z xs ≡ true → without z (xs ++ ys) ≡ without z xs ++ ys
without_first z [] ys h = absurd cc
without_first z (x ∷ xs) ys h = elim (cases_Bool (same_leaf x z)) [
  | inl e ↦ rw e refl
  | inr e ↦ rw e (ap (λ (v : List Leaf). x ∷ v) (without_first z xs ys (rw e at h)))
]

without_second : (z : Leaf) (xs ys : List Leaf) → holds z xs ≡ false → without z (xs ++ ys) ≡ xs ++ without z ys
without_second z [] ys h = refl
without_second z (x ∷ xs) ys h = elim (cases_Bool (same_leaf x z)) [
  | inl e ↦ let there = rw e at h in absurd cc
  | inr e ↦ rw e (ap (λ (v : List Leaf). x ∷ v) (without_second z xs ys (rw e at h)))
]

swapped_first : (z new : Leaf) (xs ys : List Leaf) → holds z xs ≡ true → swapped z new (xs ++ ys) ≡ swapped z new xs ++ ys
swapped_first z new [] ys h = absurd cc
swapped_first z new (x ∷ xs) ys h = elim (cases_Bool (same_leaf x z)) [
  | inl e ↦ rw e refl
  | inr e ↦ rw e (ap (λ (v : List Leaf). x ∷ v) (swapped_first z new xs ys (rw e at h)))
]

swapped_second : (z new : Leaf) (xs ys : List Leaf) → holds z xs ≡ false → swapped z new (xs ++ ys) ≡ xs ++ swapped z new ys
swapped_second z new [] ys h = refl
swapped_second z new (x ∷ xs) ys h = elim (cases_Bool (same_leaf x z)) [
  | inl e ↦ let there = rw e at h in absurd cc
  | inr e ↦ rw e (ap (λ (v : List Leaf). x ∷ v) (swapped_second z new xs ys (rw e at h)))
]

no_leaves : (s : Shape) → count s ≡ 0 → contents s ≡ []
no_leaves done z = refl
no_leaves (leaf x rest) z = absurd (omega (arith, z))
no_leaves (node c rest) z = absurd (omega (arith, z))

pub tidied_leaves : (key : Key) (place : Option Stretch) (c rest : KeyedRow) → contents (bare (keyed_tidied (node_in key place c rest))) ≡ contents (bare c) ++ contents (bare rest)
tidied_leaves key place c rest = elim (cases_Bool (count (bare c) == 0)) [
  | inl e ↦ rw e (ap (λ (v : List Leaf). v ++ contents (bare rest)) (sym (no_leaves (bare c) (eqb-true (count (bare c)) 0 e))))
  | inr e ↦ rw e refl
]

removed_leaves : (gone : Leaf) (row : KeyedRow) → contents (bare (removed_by_keys gone row)) ≡ without gone (contents (bare row))
removed_leaves gone no_more = refl
removed_leaves gone (leaf_in x rest) = elim (cases_Bool (same_leaf x gone)) [
  | inl e ↦ rw e refl
  | inr e ↦ rw e (ap (λ (v : List Leaf). x ∷ v) (removed_leaves gone rest))
]
removed_leaves gone (node_in key place c rest) = elim (cases_Bool (holds gone (contents (bare c)))) [
  | inl e ↦
      let below = removed_leaves gone c in
      rw e (tidied_leaves key None (removed_by_keys gone c) rest ∙ ap (λ (v : List Leaf). v ++ contents (bare rest)) below ∙ sym (without_first gone (contents (bare c)) (contents (bare rest)) e))
  | inr e ↦
      let others = removed_leaves gone rest in
      rw e (ap (λ (v : List Leaf). contents (bare c) ++ v) others ∙ sym (without_second gone (contents (bare c)) (contents (bare rest)) e))
]

lone_one : (s : Shape) → lone s ≡ true → count s ≤ 1
lone_one done h = absurd cc
lone_one (leaf x rest) h = absurd cc
lone_one (node c rest) h = let none = eqb-true (count rest) 0 h in omega (arith, none)

pub collapsed_leaves : (row : KeyedRow) → count (bare row) ≤ 1 → contents (bare (keyed_collapsed row)) ≡ contents (bare row)
collapsed_leaves no_more one = refl
collapsed_leaves (leaf_in x rest) one = refl
collapsed_leaves (node_in key place c rest) one =
    let none = no_leaves (bare rest) (omega (arith, one)) in
    elim (cases_Bool (lone (bare c))) [
      | inl e ↦ rw e (collapsed_leaves c (lone_one (bare c) e) ∙ sym (append-nil (contents (bare c))) ∙ ap (λ (v : List Leaf). contents (bare c) ++ v) (sym none))
      | inr e ↦ rw e refl
    ]

pub without_leaf_leaves : (gone : Leaf) (row : KeyedRow) → count (bare row) ≤ 1 → contents (bare (without_leaf_by_keys gone row)) ≡ without gone (contents (bare row))
unfolding without_leaf_by_keys
without_leaf_leaves gone row one =
    let fewer = removed_count gone row in
    collapsed_leaves (removed_by_keys gone row) (omega (arith, fewer, one)) ∙ removed_leaves gone row

pub replaced_leaves : (old new : Leaf) (row : KeyedRow) → contents (bare (replaced_by_keys old new row)) ≡ swapped old new (contents (bare row))
replaced_leaves old new no_more = refl
replaced_leaves old new (leaf_in x rest) = elim (cases_Bool (same_leaf x old)) [
  | inl e ↦ rw e refl
  | inr e ↦ rw e (ap (λ (v : List Leaf). x ∷ v) (replaced_leaves old new rest))
]
replaced_leaves old new (node_in key place c rest) = elim (cases_Bool (holds old (contents (bare c)))) [
  | inl e ↦
      let below = replaced_leaves old new c in
      rw e (ap (λ (v : List Leaf). v ++ contents (bare rest)) below ∙ sym (swapped_first old new (contents (bare c)) (contents (bare rest)) e))
  | inr e ↦
      let others = replaced_leaves old new rest in
      rw e (ap (λ (v : List Leaf). contents (bare c) ++ v) others ∙ sym (swapped_second old new (contents (bare c)) (contents (bare rest)) e))
]
