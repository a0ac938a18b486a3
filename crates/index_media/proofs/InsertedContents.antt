-- An insertion by keys of branches puts the leaf in order among the leaves.
use Rattle.std.proofs.Common.{◌≡◌, ℕ, ◌+◌, ◌-◌, ◌<◌, ◌≤◌, false, List, [], ◌∷◌, ◌++◌, refl, ap, sym, ◌∙◌, subst, arith, inl, inr, append-nil, append_assoc}
use Rattle.std.specs.Prelude.{Option, Some, nat_le, ◌==◌}
use Rattle.std.proofs.lemmas.Bool.{cases_Bool, leb-false, le-leb, lt-leb}
use Rattle.ubifs_base.specs.declared.key.Key.{Key}
use Rattle.index_tree.specs.Order.{key_rank, leaf_rank, starts_within, placed}
use Rattle.index_tree.specs.Shape.{Shape, done, leaf, node, contents, count, lone, front, back, left_half, parted}
use Rattle.index_tree.specs.declared.leaf.Leaf.{Leaf}
use Rattle.index_media.specs.Insertion.{starts_by, keyed_parted, lowered, inserted_by_keys, with_leaf_by_keys}
use Rattle.index_media.specs.KeyedKeys.{key_before, AreKeysBounded}
use Rattle.index_media.specs.KeyedRow.{KeyedRow, no_more, leaf_in, node_in, bare, all_clean}
use Rattle.index_media.specs.Keys.{branch_rank, bound_before, AreBounded}
use Rattle.index_media.specs.PlacedRow.{PlacedRow, ended, leaf_at, node_at}
use Rattle.index_media.specs.InsertionLaws.{parted_bare}
use Rattle.index_media.specs.KeyedBounds.{AreAtMost, most_weaken, keyed_at_most, AreAtLeast, least_append, keyed_at_least, within_start}

-- a row that stands on a medium is bounded, whichever way it is kept
clean_before : (most : Option ℕ) (row : PlacedRow) → key_before (all_clean row) most ≡ bound_before row most
clean_before most ended = refl
clean_before most (leaf_at x rest) = refl
clean_before most (node_at b c rest) = refl

pub clean_bounded : (least : ℕ) (most : Option ℕ) (row : PlacedRow) → AreBounded least most row → AreKeysBounded least most (all_clean row)
clean_bounded least most ended h = tt
clean_bounded least most (leaf_at x rest) h = (h.0, h.1, clean_bounded (leaf_rank x) most rest h.2)
clean_bounded least most (node_at b c rest) h =
    let P : Option ℕ → Type 0 = λ m. AreKeysBounded (branch_rank b) m (all_clean c) in
    (h.0, h.1, subst P (sym (clean_before most rest)) (clean_bounded (branch_rank b) (bound_before rest most) c h.2), clean_bounded (branch_rank b) most rest h.3)

starts_not : (rank least : ℕ) (xs : List Leaf) → rank < least → AreAtLeast least xs → starts_within rank xs ≡ false
starts_not rank least [] l h = refl
starts_not rank least (x ∷ xs) l h = lt-leb (leaf_rank x) rank (omega (arith, l, h.0))

-- where a row doesn't start within a rank by keys, it doesn't by leaves
leaves_behind : (rank least : ℕ) (most : Option ℕ) (row : KeyedRow) → AreKeysBounded least most row → starts_by rank row ≡ false → starts_within rank (contents (bare row)) ≡ false
leaves_behind rank least most no_more h s = refl
leaves_behind rank least most (leaf_in x rest) h s = s
leaves_behind rank least most (node_in key place c rest) h s =
    let same : key_rank key ≤ key_rank key = omega arith in
    starts_not rank (key_rank key) (contents (bare c) ++ contents (bare rest)) (leb-false (key_rank key) rank s)
    (least_append (key_rank key) (contents (bare c)) (contents (bare rest)) (keyed_at_least (key_rank key) (key_rank key) (key_before rest most) c same h.2) (keyed_at_least (key_rank key) (key_rank key) most rest same h.3))

placed_behind : (new : Leaf) (xs ys : List Leaf) → AreAtMost (Some (leaf_rank new)) xs → placed new (xs ++ ys) ≡ xs ++ placed new ys
placed_behind new [] ys h = refl
placed_behind new (x ∷ xs) ys h = rw (le-leb (leaf_rank x) (leaf_rank new) h.0) (ap (λ (v : List Leaf). x ∷ v) (placed_behind new xs ys h.1))

placed_before : (new : Leaf) (xs ys : List Leaf) → starts_within (leaf_rank new) ys ≡ false → placed new (xs ++ ys) ≡ placed new xs ++ ys
placed_before new [] [] s = refl
placed_before new [] (y ∷ ys) s = rw s refl
placed_before new (x ∷ xs) ys s = elim (cases_Bool (nat_le (leaf_rank x) (leaf_rank new))) [
  | inl e ↦ rw e (ap (λ (v : List Leaf). x ∷ v) (placed_before new xs ys s))
  | inr e ↦ rw e refl
]

halves : (n : ℕ) (s : Shape) → contents (front n s) ++ contents (back n s) ≡ contents s
halves n done = refl
halves n (leaf x rest) = elim (cases_Bool (n == 0)) [
  | inl e ↦ rw e refl
  | inr e ↦ rw e (ap (λ (v : List Leaf). x ∷ v) (halves (n - 1) rest))
]
halves n (node c rest) = elim (cases_Bool (n == 0)) [
  | inl e ↦ rw e refl
  | inr e ↦ rw e (append_assoc (contents c) (contents (front (n - 1) rest)) (contents (back (n - 1) rest)) ∙ ap (λ (v : List Leaf). contents c ++ v) (halves (n - 1) rest))
]

parted_leaves : (fanout : ℕ) (c rest : Shape) → contents (parted fanout c rest) ≡ contents c ++ contents rest
unfolding parted
parted_leaves fanout c rest = elim (cases_Bool (nat_le (fanout + 1) (count c))) [
  | inl e ↦
      let n = left_half fanout in
      rw e (sym (append_assoc (contents (front n c)) (contents (back n c)) (contents rest)) ∙ ap (λ (v : List Leaf). v ++ contents rest) (halves n c))
  | inr e ↦ rw e refl
]

keyed_leaves : (fanout : ℕ) (key : Key) (c rest : KeyedRow) → contents (bare (keyed_parted fanout key c rest)) ≡ contents (bare c) ++ contents (bare rest)
keyed_leaves fanout key c rest = ap contents (parted_bare fanout key c rest) ∙ parted_leaves fanout (bare c) (bare rest)

inserted_leaves : (fanout : ℕ) (new : Leaf) (least : ℕ) (most : Option ℕ) (row : KeyedRow) → AreKeysBounded least most row → contents (bare (inserted_by_keys fanout new row)) ≡ placed new (contents (bare row))
inserted_leaves fanout new least most no_more h = refl
inserted_leaves fanout new least most (leaf_in x rest) h = elim (cases_Bool (nat_le (leaf_rank x) (leaf_rank new))) [
  | inl e ↦ rw e (ap (λ (v : List Leaf). x ∷ v) (inserted_leaves fanout new (leaf_rank x) most rest h.2))
  | inr e ↦ rw e refl
]
inserted_leaves fanout new least most (node_in key place c rest) h = elim (cases_Bool (starts_by (leaf_rank new) rest)) [
  | inl e ↦
      let within = most_weaken (key_before rest most) (Some (leaf_rank new)) (contents (bare c)) (within_start (leaf_rank new) most rest e) (keyed_at_most (key_rank key) (key_before rest most) c h.2) in
      let others = inserted_leaves fanout new (key_rank key) most rest h.3 in
      rw e (ap (λ (v : List Leaf). contents (bare c) ++ v) others ∙ sym (placed_behind new (contents (bare c)) (contents (bare rest)) within))
  | inr e ↦
      let behind = leaves_behind (leaf_rank new) (key_rank key) most rest h.3 e in
      let below = inserted_leaves fanout new (key_rank key) (key_before rest most) c h.2 in
      rw e (keyed_leaves fanout (lowered new key) (inserted_by_keys fanout new c) rest ∙ ap (λ (v : List Leaf). v ++ contents (bare rest)) below ∙ sym (placed_before new (contents (bare c)) (contents (bare rest)) behind))
]

pub with_leaf_leaves : (fanout : ℕ) (new : Leaf) (least : ℕ) (most : Option ℕ) (row : KeyedRow) → AreKeysBounded least most row → contents (bare (with_leaf_by_keys fanout new row)) ≡ placed new (contents (bare row))
unfolding with_leaf_by_keys
with_leaf_leaves fanout new least most row h =
    let made = inserted_by_keys fanout new row in
    let leaves = inserted_leaves fanout new least most row h in
    elim (cases_Bool (lone (bare made))) [
      | inl e ↦ rw e leaves
      | inr e ↦ rw e (append-nil (contents (bare made)) ∙ leaves)
    ]
