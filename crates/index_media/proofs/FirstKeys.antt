-- Where each branch's key is its first leaf's, it is so after an insertion.
use Rattle.std.proofs.Common.{◌≡◌, ℕ, ◌+◌, ◌-◌, ◌<◌, ◌≤◌, refl, ap, sym, ◌∙◌, arith, inl, inr}
use Rattle.std.specs.Prelude.{Option, min, nat_le, nat_lt, ◌==◌}
use Rattle.std.proofs.lemmas.Bool.{cases_Bool, leb-true, leb-false, ltb-true, ltb-false, eqb-true}
use Rattle.ubifs_base.specs.declared.key.Key.{Key}
use Rattle.index_tree.specs.Order.{key_rank, leaf_rank}
use Rattle.index_tree.specs.Shape.{count, first_rank, lone, left_half}
use Rattle.index_tree.specs.declared.leaf.Leaf.{Leaf}
use Rattle.index_media.specs.Insertion.{starts_by, first_key, keyed_front, keyed_back, keyed_parted, lowered, inserted_by_keys, with_leaf_by_keys}
use Rattle.index_media.specs.InsertionLaws.{front_bare, back_bare}
use Rattle.index_media.specs.InsertionSound.{front_count, back_count}
use Rattle.index_media.specs.KeyedBounds.{start_above}
use Rattle.index_media.specs.KeyedKeys.{key_before, AreKeysBounded}
use Rattle.index_media.specs.KeyedRow.{KeyedRow, no_more, leaf_in, node_in, bare, HaveFirstKeys}

first_of : (key : Key) (row : KeyedRow) → 0 < count (bare row) → HaveFirstKeys row → key_rank (first_key key row) ≡ first_rank (bare row)
first_of key no_more some h = absurd (omega (arith, some))
first_of key (leaf_in x rest) some h = refl
first_of key (node_in own place c rest) some h = h.1

front_first : (n : ℕ) (row : KeyedRow) → HaveFirstKeys row → HaveFirstKeys (keyed_front n row)
front_first n no_more h = tt
front_first n (leaf_in x rest) h = elim (cases_Bool (n == 0)) [
  | inl e ↦ rw e tt
  | inr e ↦ rw e (front_first (n - 1) rest h)
]
front_first n (node_in key place c rest) h = elim (cases_Bool (n == 0)) [
  | inl e ↦ rw e tt
  | inr e ↦ rw e (h.0, h.1, h.2, front_first (n - 1) rest h.3)
]

back_first : (n : ℕ) (row : KeyedRow) → HaveFirstKeys row → HaveFirstKeys (keyed_back n row)
back_first n no_more h = tt
back_first n (leaf_in x rest) h = elim (cases_Bool (n == 0)) [
  | inl e ↦ rw e h
  | inr e ↦ rw e (back_first (n - 1) rest h)
]
back_first n (node_in key place c rest) h = elim (cases_Bool (n == 0)) [
  | inl e ↦ rw e h
  | inr e ↦ rw e (back_first (n - 1) rest h.3)
]

front_rank : (n : ℕ) (row : KeyedRow) → 0 < n → first_rank (bare (keyed_front n row)) ≡ first_rank (bare row)
front_rank n no_more some = refl
front_rank n (leaf_in x rest) some = elim (cases_Bool (n == 0)) [
  | inl e ↦ let none = eqb-true n 0 e in absurd (omega (arith, some, none))
  | inr e ↦ rw e refl
]
front_rank n (node_in key place c rest) some = elim (cases_Bool (n == 0)) [
  | inl e ↦ let none = eqb-true n 0 e in absurd (omega (arith, some, none))
  | inr e ↦ rw e refl
]

-- halves have children
front_some : (n : ℕ) (row : KeyedRow) → 0 < n → 0 < count (bare row) → 0 < count (bare (keyed_front n row))
front_some n row a b =
    let same = ap count (front_bare n row) in
    let number = front_count n (bare row) in
    omega (arith, same, number, a, b)

back_some : (n : ℕ) (row : KeyedRow) → n < count (bare row) → 0 < count (bare (keyed_back n row))
back_some n row a =
    let same = ap count (back_bare n row) in
    let number = back_count n (bare row) in
    omega (arith, same, number, a)

parted_first : (f : ℕ) (key : Key) (c rest : KeyedRow) → 1 ≤ f → 0 < count (bare c) → key_rank key ≡ first_rank (bare c) → HaveFirstKeys c → HaveFirstKeys rest → HaveFirstKeys (keyed_parted f key c rest)
unfolding keyed_parted
parted_first f key c rest one some own below others = elim (cases_Bool (nat_le (f + 1) (count (bare c)))) [
  | inl e ↦
      let n = left_half f in
      let long = leb-true (f + 1) (count (bare c)) e in
      let positive : 0 < n = omega (arith, one) in
      let short : n < count (bare c) = omega (arith, one, long) in
      let second = back_some n c short in
      rw e (
        front_some n c positive some,
        own ∙ sym (front_rank n c positive),
        front_first n c below,
        (second, first_of key (keyed_back n c) second (back_first n c below), back_first n c below, others),
      )
  | inr e ↦ rw e (some, own, below, others)
]

parted_some : (f : ℕ) (key : Key) (c rest : KeyedRow) → 0 < count (bare (keyed_parted f key c rest))
unfolding keyed_parted
parted_some f key c rest = elim (cases_Bool (nat_le (f + 1) (count (bare c)))) [
  | inl e ↦ rw e (omega arith)
  | inr e ↦ rw e (omega arith)
]

parted_rank : (f : ℕ) (key : Key) (c rest : KeyedRow) → 1 ≤ f → first_rank (bare (keyed_parted f key c rest)) ≡ first_rank (bare c)
unfolding keyed_parted
parted_rank f key c rest one = elim (cases_Bool (nat_le (f + 1) (count (bare c)))) [
  | inl e ↦ rw e (front_rank (left_half f) c (omega (arith, one)))
  | inr e ↦ rw e refl
]

inserted_some : (f : ℕ) (new : Leaf) (row : KeyedRow) → 0 < count (bare (inserted_by_keys f new row))
inserted_some f new no_more = omega arith
inserted_some f new (leaf_in x rest) = elim (cases_Bool (nat_le (leaf_rank x) (leaf_rank new))) [
  | inl e ↦ rw e (omega arith)
  | inr e ↦ rw e (omega arith)
]
inserted_some f new (node_in key place c rest) = elim (cases_Bool (starts_by (leaf_rank new) rest)) [
  | inl e ↦ rw e (omega arith)
  | inr e ↦ rw e (parted_some f (lowered new key) (inserted_by_keys f new c) rest)
]

-- the first leaf is the new one or the first one of before, whichever is lower
inserted_rank : (f : ℕ) (new : Leaf) (least : ℕ) (most : Option ℕ) (row : KeyedRow) → 1 ≤ f → 0 < count (bare row) → AreKeysBounded least most row → HaveFirstKeys row
    → first_rank (bare (inserted_by_keys f new row)) ≡ min (leaf_rank new) (first_rank (bare row))
inserted_rank f new least most no_more one some b h = absurd (omega (arith, some))
inserted_rank f new least most (leaf_in x rest) one some b h = elim (cases_Bool (nat_le (leaf_rank x) (leaf_rank new))) [
  | inl e ↦ let low = leb-true (leaf_rank x) (leaf_rank new) e in rw e (omega (arith, low))
  | inr e ↦ let high = leb-false (leaf_rank x) (leaf_rank new) e in rw e (omega (arith, high))
]
inserted_rank f new least most (node_in key place c rest) one some b h = elim (cases_Bool (starts_by (leaf_rank new) rest)) [
  | inl e ↦
      let low = start_above (key_rank key) (leaf_rank new) most rest b.3 e in
      let own = h.1 in
      rw e (omega (arith, low, own))
  | inr e ↦
      let below = inserted_rank f new (key_rank key) (key_before rest most) c one h.0 b.2 h.2 in
      rw e (parted_rank f (lowered new key) (inserted_by_keys f new c) rest one ∙ below)
]

lowered_rank : (new : Leaf) (key : Key) → key_rank (lowered new key) ≡ min (leaf_rank new) (key_rank key)
lowered_rank new key = elim (cases_Bool (nat_lt (leaf_rank new) (key_rank key))) [
  | inl e ↦ let low = ltb-true (leaf_rank new) (key_rank key) e in rw e (omega (arith, low))
  | inr e ↦ let high = ltb-false (leaf_rank new) (key_rank key) e in rw e (omega (arith, high))
]

inserted_first : (f : ℕ) (new : Leaf) (least : ℕ) (most : Option ℕ) (row : KeyedRow) → 1 ≤ f → AreKeysBounded least most row → HaveFirstKeys row → HaveFirstKeys (inserted_by_keys f new row)
inserted_first f new least most no_more one b h = tt
inserted_first f new least most (leaf_in x rest) one b h = elim (cases_Bool (nat_le (leaf_rank x) (leaf_rank new))) [
  | inl e ↦ rw e (inserted_first f new (leaf_rank x) most rest one b.2 h)
  | inr e ↦ rw e h
]
inserted_first f new least most (node_in key place c rest) one b h = elim (cases_Bool (starts_by (leaf_rank new) rest)) [
  | inl e ↦ rw e (h.0, h.1, h.2, inserted_first f new (key_rank key) most rest one b.3 h.3)
  | inr e ↦
      let rank = inserted_rank f new (key_rank key) (key_before rest most) c one h.0 b.2 h.2 in
      let own = lowered_rank new key ∙ ap (λ (n : ℕ). min (leaf_rank new) n) h.1 ∙ sym rank in
      rw e (parted_first f (lowered new key) (inserted_by_keys f new c) rest one (inserted_some f new c) own (inserted_first f new (key_rank key) (key_before rest most) c one b.2 h.2) h.3)
]

pub with_leaf_first : (f : ℕ) (new : Leaf) (least : ℕ) (most : Option ℕ) (row : KeyedRow) → 1 ≤ f → AreKeysBounded least most row → HaveFirstKeys row → HaveFirstKeys (with_leaf_by_keys f new row)
unfolding with_leaf_by_keys
with_leaf_first f new least most row one b h =
    let made = inserted_by_keys f new row in
    let first = inserted_first f new least most row one b h in
    let some = inserted_some f new row in
    elim (cases_Bool (lone (bare made))) [
      | inl e ↦ rw e first
      | inr e ↦ rw e (some, first_of new.key made some first, first, tt)
    ]
