-- Insertions by keys of branches, where these are the first leaves'.
use Rattle.std.proofs.Common.{◌≡◌, ℕ, ◌+◌, ◌-◌, ◌<◌, true, false, refl, ap, sym, ◌∙◌, subst, arith, inl, inr}
use Rattle.std.specs.Prelude.{nat_le, ◌==◌, if◌then◌else◌, None}
use Rattle.std.proofs.lemmas.Bool.{cases_Bool}
use Rattle.ubifs_base.specs.declared.key.Key.{Key}
use Rattle.index_tree.specs.Order.{leaf_rank}
use Rattle.index_tree.specs.Shape.{Shape, leaf, node, count, begins_within, first_rank, front, back, left_half, parted, inserted, lone, rooted, with_leaf}
use Rattle.index_tree.specs.declared.leaf.Leaf.{Leaf}
use Rattle.index_media.specs.Insertion.{starts_by, first_key, keyed_front, keyed_back, keyed_parted, lowered, inserted_by_keys, with_leaf_by_keys}
use Rattle.index_media.specs.KeyedRow.{KeyedRow, no_more, leaf_in, node_in, bare, all_clean, HaveFirstKeys}
use Rattle.index_media.specs.PlacedRow.{PlacedRow, ended, leaf_at, node_at, plain}

pub clean_bare : (row : PlacedRow) → bare (all_clean row) ≡ plain row
clean_bare ended = refl
clean_bare (leaf_at x rest) = ap (leaf x) (clean_bare rest)
clean_bare (node_at branch children rest) = rw (clean_bare children, clean_bare rest) refl

pub front_bare : (n : ℕ) (row : KeyedRow) → bare (keyed_front n row) ≡ front n (bare row)
front_bare n no_more = refl
front_bare n (leaf_in x rest) = elim (cases_Bool (n == 0)) [
  | inl e ↦ rw e refl
  | inr e ↦ rw e (ap (leaf x) (front_bare (n - 1) rest))
]
front_bare n (node_in key place children rest) = elim (cases_Bool (n == 0)) [
  | inl e ↦ rw e refl
  | inr e ↦ rw e (ap (node (bare children)) (front_bare (n - 1) rest))
]

pub back_bare : (n : ℕ) (row : KeyedRow) → bare (keyed_back n row) ≡ back n (bare row)
back_bare n no_more = refl
back_bare n (leaf_in x rest) = elim (cases_Bool (n == 0)) [
  | inl e ↦ rw e refl
  | inr e ↦ rw e (back_bare (n - 1) rest)
]
back_bare n (node_in key place children rest) = elim (cases_Bool (n == 0)) [
  | inl e ↦ rw e refl
  | inr e ↦ rw e (back_bare (n - 1) rest)
]

pub parted_bare : (fanout : ℕ) (key : Key) (children rest : KeyedRow) → bare (keyed_parted fanout key children rest) ≡ parted fanout (bare children) (bare rest)
unfolding keyed_parted parted
parted_bare fanout key children rest = elim (cases_Bool (nat_le (fanout + 1) (count (bare children)))) [
  | inl e ↦ rw e (rw (front_bare (left_half fanout) children, back_bare (left_half fanout) children) refl)
  | inr e ↦ rw e refl
]

first_begins : (rank : ℕ) (row : KeyedRow) → 0 < count (bare row) → HaveFirstKeys row → begins_within rank (bare row) ≡ nat_le (first_rank (bare row)) rank
first_begins rank no_more some h = absurd (omega (arith, some))
first_begins rank (leaf_in x rest) some h = refl
first_begins rank (node_in key place children rest) some h = first_begins rank children h.0 h.2

starts_bare : (rank : ℕ) (row : KeyedRow) → HaveFirstKeys row → starts_by rank row ≡ begins_within rank (bare row)
starts_bare rank no_more h = refl
starts_bare rank (leaf_in x rest) h = refl
starts_bare rank (node_in key place children rest) h = ap (λ (n : ℕ). nat_le n rank) h.1 ∙ sym (first_begins rank children h.0 h.2)

inserted_bare : (fanout : ℕ) (new : Leaf) (row : KeyedRow) → HaveFirstKeys row → bare (inserted_by_keys fanout new row) ≡ inserted fanout new (bare row)
inserted_bare fanout new no_more h = refl
inserted_bare fanout new (leaf_in x rest) h = elim (cases_Bool (nat_le (leaf_rank x) (leaf_rank new))) [
  | inl e ↦ rw e (ap (leaf x) (inserted_bare fanout new rest h))
  | inr e ↦ rw e refl
]
inserted_bare fanout new (node_in key place children rest) h =
    let starts = starts_bare (leaf_rank new) rest h.3 in
    let others = inserted_bare fanout new rest h.3 in
    let below = inserted_bare fanout new children h.2 in
    elim (cases_Bool (starts_by (leaf_rank new) rest)) [
      | inl e ↦ let f : begins_within (leaf_rank new) (bare rest) ≡ true = sym starts ∙ e in rw (e, f) (ap (node (bare children)) others)
      | inr e ↦
          let f : begins_within (leaf_rank new) (bare rest) ≡ false = sym starts ∙ e in
          rw (e, f) (parted_bare fanout (lowered new key) (inserted_by_keys fanout new children) rest ∙ ap (λ (s : Shape). parted fanout s (bare rest)) below)
    ]

root_bare : (new : Leaf) (row : KeyedRow) (fanout : ℕ) (s : Shape) → bare row ≡ s → bare (if lone (bare row) then row else node_in (first_key new.key row) None row no_more) ≡ rooted s
root_bare new row fanout s e = subst (λ (t : Shape). bare (if lone (bare row) then row else node_in (first_key new.key row) None row no_more) ≡ rooted t) e (elim (cases_Bool (lone (bare row))) [
  | inl l ↦ rw l refl
  | inr l ↦ rw l refl
])

pub with_leaf_bare : (fanout : ℕ) (new : Leaf) (row : KeyedRow) → HaveFirstKeys row → bare (with_leaf_by_keys fanout new row) ≡ with_leaf fanout new (bare row)
unfolding with_leaf_by_keys with_leaf
with_leaf_bare fanout new row h = root_bare new (inserted_by_keys fanout new row) fanout (inserted fanout new (bare row)) (inserted_bare fanout new row h)
