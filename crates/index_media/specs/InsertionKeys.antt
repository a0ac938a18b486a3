-- After an insertion keys lie between those of branches again.
use Rattle.std.proofs.Common.{◌≡◌, ℕ, ◌+◌, ◌-◌, ◌<◌, ◌≤◌, true, false, refl, ap, sym, ◌∙◌, subst, arith, inl, inr}
use Rattle.std.specs.Prelude.{Option, Some, None, nat_le, nat_lt, ◌==◌}
use Rattle.std.proofs.lemmas.Bool.{cases_Bool, leb-true, leb-false, ltb-true, ltb-false, le-ltb, eqb-false}
use Rattle.ubifs_base.specs.declared.key.Key.{Key}
use Rattle.index_tree.specs.Order.{key_rank, leaf_rank}
use Rattle.index_tree.specs.Shape.{count, lone, left_half}
use Rattle.index_tree.specs.declared.leaf.Leaf.{Leaf}
use Rattle.index_media.specs.Insertion.{starts_by, first_key, keyed_front, keyed_back, keyed_parted, lowered, inserted_by_keys, with_leaf_by_keys}
use Rattle.index_media.specs.KeyedKeys.{key_before, AreKeysBounded}
use Rattle.index_media.specs.KeyedRow.{KeyedRow, no_more, leaf_in, node_in, bare}
use Rattle.index_media.specs.Keys.{IsAtMost}
use Rattle.index_media.specs.KeyedBounds.{before_within, lower_at_most, lower_least, start_above}

-- a higher one, up to the row's first key
raise_least : (least high : ℕ) (most : Option ℕ) (row : KeyedRow) → IsAtMost high (key_before row most) → AreKeysBounded least most row → AreKeysBounded high most row
raise_least least high most no_more l h = tt
raise_least least high most (leaf_in x rest) l h = (l, h.1, h.2)
raise_least least high most (node_in key place c rest) l h = (l, h.1, h.2, h.3)

-- the halves of a row
pub record HalvesBounded (low : ℕ) (most : Option ℕ) (n : ℕ) (key : Key) (row : KeyedRow) : Type 0 where
  pub front : AreKeysBounded low (Some (key_rank (first_key key (keyed_back n row)))) (keyed_front n row)
  pub back : AreKeysBounded (key_rank (first_key key (keyed_back n row))) most (keyed_back n row)
  pub above : low ≤ key_rank (first_key key (keyed_back n row))
  pub within : IsAtMost (key_rank (first_key key (keyed_back n row))) most

front_before : (n : ℕ) (most : Option ℕ) (key : Key) (row : KeyedRow) → n < count (bare row) → key_before (keyed_front n row) (Some (key_rank (first_key key (keyed_back n row)))) ≡ key_before row most
front_before n most key no_more l = absurd (omega (arith, l))
front_before n most key (leaf_in x rest) l = elim (cases_Bool (n == 0)) [
  | inl e ↦ rw e refl
  | inr e ↦ rw e refl
]
front_before n most key (node_in own place c rest) l = elim (cases_Bool (n == 0)) [
  | inl e ↦ rw e refl
  | inr e ↦ rw e refl
]

less : (n c : ℕ) → (n == 0) ≡ false → n < c + 1 → n - 1 < c
less n c e l = let other = eqb-false n 0 e in grind (arith, other, l)

pub halves_bounded : (low : ℕ) (most : Option ℕ) (n : ℕ) (key : Key) (row : KeyedRow) → n < count (bare row) → AreKeysBounded low most row → HalvesBounded low most n key row
halves_bounded low most n key no_more l h = absurd (omega (arith, l))
halves_bounded low most n key (leaf_in x rest) l h = elim (cases_Bool (n == 0)) [
  | inl e ↦ record { front = rw e tt; back = rw e (omega arith, h.1, h.2); above = rw e h.0; within = rw e h.1 }
  | inr e ↦
      let b = halves_bounded (leaf_rank x) most (n - 1) key rest (less n (count (bare rest)) e l) h.2 in
      record { front = rw e (h.0, b.above, b.front); back = rw e b.back; above = rw e (omega (arith, h.0, b.above)); within = rw e b.within }
]
halves_bounded low most n key (node_in own place c rest) l h = elim (cases_Bool (n == 0)) [
  | inl e ↦ record { front = rw e tt; back = rw e (omega arith, h.1, h.2, h.3); above = rw e h.0; within = rw e h.1 }
  | inr e ↦
      let long = less n (count (bare rest)) e l in
      let b = halves_bounded (key_rank own) most (n - 1) key rest long h.3 in
      let P : Option ℕ → Type 0 = λ m. AreKeysBounded (key_rank own) m c in
      let children = subst P (sym (front_before (n - 1) most key rest long)) h.2 in
      record { front = rw e (h.0, b.above, children, b.front); back = rw e b.back; above = rw e (omega (arith, h.0, b.above)); within = rw e b.within }
]

half_below : (fanout n : ℕ) → 1 ≤ fanout → fanout + 1 ≤ n → left_half fanout < n
half_below fanout n some l = omega (arith, some, l)

parted_bounded : (fanout least : ℕ) (most : Option ℕ) (key : Key) (c rest : KeyedRow) → 1 ≤ fanout → least ≤ key_rank key → IsAtMost (key_rank key) most
    → AreKeysBounded (key_rank key) (key_before rest most) c → AreKeysBounded (key_rank key) most rest → AreKeysBounded least most (keyed_parted fanout key c rest)
unfolding keyed_parted
parted_bounded fanout least most key c rest some l m hc hr = elim (cases_Bool (nat_le (fanout + 1) (count (bare c)))) [
  | inl e ↦
      let n = left_half fanout in
      let b = halves_bounded (key_rank key) (key_before rest most) n key c (half_below fanout (count (bare c)) some (leb-true (fanout + 1) (count (bare c)) e)) hc in
      let high = key_rank (first_key key (keyed_back n c)) in
      rw e (l, m, b.front, (b.above, before_within (key_rank key) most rest hr high b.within, b.back, raise_least (key_rank key) high most rest b.within hr))
  | inr e ↦ rw e (l, m, hc, hr)
]

-- a lowered key is the lower of both
record IsLower (new : Leaf) (key : Key) : Type 0 where
  pub leaf : key_rank (lowered new key) ≤ leaf_rank new
  pub own : key_rank (lowered new key) ≤ key_rank key
  pub least : (low : ℕ) → low ≤ leaf_rank new → low ≤ key_rank key → low ≤ key_rank (lowered new key)

lowered_is : (new : Leaf) (key : Key) → IsLower new key
lowered_is new key = elim (cases_Bool (nat_lt (leaf_rank new) (key_rank key))) [
  | inl e ↦
      let below = ltb-true (leaf_rank new) (key_rank key) e in
      record { leaf = rw e (omega arith); own = rw e (omega (arith, below)); least = λ low a b. rw e a }
  | inr e ↦
      let above = ltb-false (leaf_rank new) (key_rank key) e in
      record { leaf = rw e above; own = rw e (omega arith); least = λ low a b. rw e b }
]

first_parted : (fanout : ℕ) (most : Option ℕ) (key : Key) (c rest : KeyedRow) → key_before (keyed_parted fanout key c rest) most ≡ Some (key_rank key)
unfolding keyed_parted
first_parted fanout most key c rest = elim (cases_Bool (nat_le (fanout + 1) (count (bare c)))) [
  | inl e ↦ rw e refl
  | inr e ↦ rw e refl
]

kept_key : (new : Leaf) (key : Key) → key_rank key ≤ leaf_rank new → key_rank (lowered new key) ≡ key_rank key
kept_key new key l = rw (le-ltb (leaf_rank new) (key_rank key) l) refl

-- a row that starts within the leaf's key keeps its first key
kept_before : (fanout : ℕ) (new : Leaf) (most : Option ℕ) (row : KeyedRow) → starts_by (leaf_rank new) row ≡ true → key_before (inserted_by_keys fanout new row) most ≡ key_before row most
kept_before fanout new most no_more s = absurd cc
kept_before fanout new most (leaf_in x rest) s = rw s refl
kept_before fanout new most (node_in key place c rest) s = elim (cases_Bool (starts_by (leaf_rank new) rest)) [
  | inl e ↦ rw e refl
  | inr e ↦
      let same = kept_key new key (leb-true (key_rank key) (leaf_rank new) s) in
      rw e (first_parted fanout most (lowered new key) (inserted_by_keys fanout new c) rest ∙ ap (λ (n : ℕ). Some n) same)
]

-- where a row doesn't start within the leaf's key, the leaf is within what bounds the keys before it
leaf_before : (rank : ℕ) (most : Option ℕ) (row : KeyedRow) → IsAtMost rank most → starts_by rank row ≡ false → IsAtMost rank (key_before row most)
leaf_before rank most no_more m s = m
leaf_before rank most (leaf_in x rest) m s = let above = leb-false (leaf_rank x) rank s in omega (arith, above)
leaf_before rank most (node_in key place c rest) m s = let above = leb-false (key_rank key) rank s in omega (arith, above)

pub inserted_bounded : (fanout : ℕ) (new : Leaf) (least : ℕ) (most : Option ℕ) (row : KeyedRow) → 1 ≤ fanout → least ≤ leaf_rank new → IsAtMost (leaf_rank new) most
    → AreKeysBounded least most row → AreKeysBounded least most (inserted_by_keys fanout new row)
inserted_bounded fanout new least most no_more some l m h = (l, m, tt)
inserted_bounded fanout new least most (leaf_in x rest) some l m h = elim (cases_Bool (nat_le (leaf_rank x) (leaf_rank new))) [
  | inl e ↦ rw e (h.0, h.1, inserted_bounded fanout new (leaf_rank x) most rest some (leb-true (leaf_rank x) (leaf_rank new) e) m h.2)
  | inr e ↦ let above = leb-false (leaf_rank x) (leaf_rank new) e in let first : leaf_rank new ≤ leaf_rank x = omega (arith, above) in rw e (l, m, (first, h.1, h.2))
]
inserted_bounded fanout new least most (node_in key place c rest) some l m h = elim (cases_Bool (starts_by (leaf_rank new) rest)) [
  | inl e ↦
      let P : Option ℕ → Type 0 = λ b. AreKeysBounded (key_rank key) b c in
      let children = subst P (sym (kept_before fanout new most rest e)) h.2 in
      rw e (h.0, h.1, children, inserted_bounded fanout new (key_rank key) most rest some (start_above (key_rank key) (leaf_rank new) most rest h.3 e) m h.3)
  | inr e ↦
      let lower = lowered_is new key in
      let low = key_rank (lowered new key) in
      let children = lower_least low (key_rank key) (key_before rest most) c lower.own h.2 in
      let made = inserted_bounded fanout new low (key_before rest most) c some lower.leaf (leaf_before (leaf_rank new) most rest m e) children in
      rw e (parted_bounded fanout least most (lowered new key) (inserted_by_keys fanout new c) rest some (lower.least least l h.0) (lower_at_most low (key_rank key) most lower.own h.1) made (lower_least low (key_rank key) most rest lower.own h.3))
]

from_first : (least : ℕ) (key : Key) (row : KeyedRow) → AreKeysBounded least None row → AreKeysBounded (key_rank (first_key key row)) None row
from_first least key no_more h = tt
from_first least key (leaf_in x rest) h = (omega arith, h.1, h.2)
from_first least key (node_in own place c rest) h = (omega arith, h.1, h.2, h.3)

pub with_leaf_bounded : (fanout : ℕ) (new : Leaf) (row : KeyedRow) → 1 ≤ fanout → AreKeysBounded 0 None row → AreKeysBounded 0 None (with_leaf_by_keys fanout new row)
unfolding with_leaf_by_keys
with_leaf_bounded fanout new row some h =
    let made = inserted_by_keys fanout new row in
    let bounded = inserted_bounded fanout new 0 None row some (omega arith) tt h in
    elim (cases_Bool (lone (bare made))) [
      | inl e ↦ rw e bounded
      | inr e ↦ rw e (omega arith, tt, from_first 0 new.key made bounded, tt)
    ]
