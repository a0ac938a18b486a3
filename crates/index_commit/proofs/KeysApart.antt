-- Changes keep keys apart.
use Rattle.std.proofs.Common.{◌≡◌, ℕ, ◌+◌, ◌-◌, ◌*◌, ◌%◌, ◌<◌, ◌≤◌, true, false, List, [], ◌∷◌, ◌++◌, refl, ap, sym, ◌∙◌, subst, arith, inl, inr, append_assoc}
use Rattle.std.specs.Prelude.{◌^◌, ◌⊎◌, ◌&&◌, ◌||◌, ◌==◌, nat_le, nat_lt, Bool, Option, None, Some, ⊤}
use Rattle.std.proofs.lemmas.Bool.{cases_Bool, cases_order, leb-true, leb-false, ltb-true, ltb-false, le-ltb, lt-ltb, lt-leb, eq-eqb, eqb-false, eqb-true, and_from}
use Rattle.ubifs_base.specs.Key.{IsKey, key_words}
use Rattle.ubifs_base.specs.declared.key.Key.{Key}
use Rattle.ubifs_base.specs.declared.key.Key.TheVariants.{Ino, Block, Dent, Xent}
use Rattle.index_tree.specs.Order.{key_rank, leaf_rank, of_rank}
use Rattle.index_tree.specs.RangeRemoval.{in_range}
use Rattle.index_tree.specs.Removal.{holds, same_leaf}
use Rattle.index_tree.specs.Shape.{contents, count, first_rank, left_half, lone}
use Rattle.index_tree.specs.declared.leaf.Leaf.{Leaf}
use Rattle.index_media.specs.Clean.{node_branch, placed_of}
use Rattle.index_media.specs.Insertion.{first_key, inserted_by_keys, keyed_back, keyed_front, keyed_parted, lowered, starts_by, with_leaf_by_keys}
use Rattle.index_media.specs.InsertionSound.{AreKeys}
use Rattle.index_media.specs.KeyedKeys.{AreKeysBounded, key_before}
use Rattle.index_media.specs.KeyedRange.{pruned_by_keys, without_range_by_keys}
use Rattle.index_media.specs.KeyedRemoval.{keyed_collapsed, removed_by_keys, replaced_by_keys, without_leaf_by_keys}
use Rattle.index_media.specs.KeyedRow.{KeyedRow, HaveFirstKeys, no_more, leaf_in, node_in, bare}
use Rattle.index_media.specs.PlacedRow.{Stretch, branches_of}
use Rattle.media_sys.specs.Index.{in_order, is_entry, may_follow}
use Rattle.node_table.specs.Changing.{IsChange, changed_row}
use Rattle.node_table.specs.Exchange.{tree_without}
use Rattle.node_table.specs.Placing.{KeepsPlaces}
use Rattle.node_table.specs.declared.change.Change.{Change}
use Rattle.node_table.specs.declared.change.Change.TheVariants.{Insert, Remove, RemoveRange, Replace}
use Rattle.index_commit.specs.KeysApart.{AreKeysApart, AreLeavesApart, IsBeforeBound, IsFreeChange, IsFreeKey, MayStandBefore, is_entry_rank, leaf_before}
use Rattle.index_commit.specs.Ordered.{AreKeysInOrder}

-- ---- bounds
before_less : (a b c : ℕ) → a ≤ b → MayStandBefore b c → MayStandBefore a c
before_less a b c l (inl less) = inl (omega (arith, l, less))
before_less a b c l (inr same) =
    let e = same.0 in
    elim (cases_order a c) [
      | inl is ↦ inr (is, same.1)
      | inr other ↦ elim other [ inl less ↦ inl less | inr more ↦ absurd (omega (arith, l, e, more)) ]
    ]

bound_less : (a b : ℕ) (o : Option ℕ) → a ≤ b → IsBeforeBound b o → IsBeforeBound a o
bound_less a b None l h = tt
bound_less a b (Some c) l h = before_less a b c l h

before_at_most : (a b : ℕ) → MayStandBefore a b → a ≤ b
before_at_most a b (inl less) = omega (arith, less)
before_at_most a b (inr same) = let e = same.0 in omega (arith, e)

-- each key in front of the one bound is in front of the other
abbrev Widens : Option ℕ → Option ℕ → Type 0
Widens m o = (r : ℕ) → IsBeforeBound r m → IsBeforeBound r o

before_wider : (m o : Option ℕ) (rest : KeyedRow) → Widens m o → Widens (key_before rest m) (key_before rest o)
before_wider m o no_more f r h = f r h
before_wider m o (leaf_in x rest) f r h = h
before_wider m o (node_in key place c rest) f r h = h

wider : (m o : Option ℕ) (row : KeyedRow) → Widens m o → AreKeysApart m row → AreKeysApart o row
wider m o no_more f h = tt
wider m o (leaf_in x rest) f h = (before_wider m o rest f (leaf_rank x) h.0, wider m o rest f h.1)
wider m o (node_in key place c rest) f h =
    (before_wider m o rest f (key_rank key) h.0, wider (key_before rest m) (key_before rest o) c (before_wider m o rest f) h.1, wider m o rest f h.2)

-- what is in front of a row's first key is in front of what bounds the row
past_row : (low : ℕ) (m : Option ℕ) (row : KeyedRow) → IsBeforeBound low (key_before row m) → AreKeysApart m row → IsBeforeBound low m
past_row low m no_more l h = l
past_row low m (leaf_in x rest) l h = past_row low m rest (bound_less low (leaf_rank x) (key_before rest m) (before_at_most low (leaf_rank x) l) h.0) h.1
past_row low m (node_in key place c rest) l h = past_row low m rest (bound_less low (key_rank key) (key_before rest m) (before_at_most low (key_rank key) l) h.0) h.2

-- ---- halves
back_apart : (n : ℕ) (m : Option ℕ) (row : KeyedRow) → AreKeysApart m row → AreKeysApart m (keyed_back n row)
back_apart n m no_more h = tt
back_apart n m (leaf_in x rest) h = elim (cases_Bool (n == 0)) [
  | inl e ↦ rw e h
  | inr e ↦ rw e (back_apart (n - 1) m rest h.1)
]
back_apart n m (node_in key place c rest) h = elim (cases_Bool (n == 0)) [
  | inl e ↦ rw e h
  | inr e ↦ rw e (back_apart (n - 1) m rest h.2)
]

-- what is in front of a row's first key is in front of each later one
back_after : (low n : ℕ) (m : Option ℕ) (row : KeyedRow) → IsBeforeBound low (key_before row m) → AreKeysApart m row → IsBeforeBound low (key_before (keyed_back n row) m)
back_after low n m no_more l h = l
back_after low n m (leaf_in x rest) l h = elim (cases_Bool (n == 0)) [
  | inl e ↦ rw e l
  | inr e ↦ rw e (back_after low (n - 1) m rest (bound_less low (leaf_rank x) (key_before rest m) (before_at_most low (leaf_rank x) l) h.0) h.1)
]
back_after low n m (node_in key place c rest) l h = elim (cases_Bool (n == 0)) [
  | inl e ↦ rw e l
  | inr e ↦ rw e (back_after low (n - 1) m rest (bound_less low (key_rank key) (key_before rest m) (before_at_most low (key_rank key) l) h.0) h.2)
]

front_first : (n : ℕ) (m : Option ℕ) (row : KeyedRow) → key_before (keyed_front n row) (key_before (keyed_back n row) m) ≡ key_before row m
front_first n m no_more = refl
front_first n m (leaf_in x rest) = elim (cases_Bool (n == 0)) [
  | inl e ↦ rw e refl
  | inr e ↦ rw e refl
]
front_first n m (node_in key place c rest) = elim (cases_Bool (n == 0)) [
  | inl e ↦ rw e refl
  | inr e ↦ rw e refl
]

front_apart : (n : ℕ) (m : Option ℕ) (row : KeyedRow) → AreKeysApart m row → AreKeysApart (key_before (keyed_back n row) m) (keyed_front n row)
front_apart n m no_more h = tt
front_apart n m (leaf_in x rest) h = elim (cases_Bool (n == 0)) [
  | inl e ↦ rw e tt
  | inr e ↦
      let P : Option ℕ → Type 0 = λ o. IsBeforeBound (leaf_rank x) o in
      rw e (subst P (sym (front_first (n - 1) m rest)) h.0, front_apart (n - 1) m rest h.1)
]
front_apart n m (node_in key place c rest) h = elim (cases_Bool (n == 0)) [
  | inl e ↦ rw e tt
  | inr e ↦
      let P : Option ℕ → Type 0 = λ o. IsBeforeBound (key_rank key) o in
      let Q : Option ℕ → Type 0 = λ o. AreKeysApart o c in
      rw e (subst P (sym (front_first (n - 1) m rest)) h.0, subst Q (sym (front_first (n - 1) m rest)) h.1, front_apart (n - 1) m rest h.2)
]

-- ---- a node that splits
-- a branch's key isn't above the first key below it
abbrev IsFirstAbove : ℕ → KeyedRow → Type 0
IsFirstAbove low no_more = ⊤
IsFirstAbove low (leaf_in x rest) = low ≤ leaf_rank x
IsFirstAbove low (node_in key place c rest) = low ≤ key_rank key

-- the right half's first key, which it has
back_first : (n : ℕ) (m : Option ℕ) (key : Key) (row : KeyedRow) → n < count (bare row) → key_before (keyed_back n row) m ≡ Some (key_rank (first_key key (keyed_back n row)))
back_first n m key no_more l = absurd (omega (arith, l))
back_first n m key (leaf_in x rest) l = elim (cases_Bool (n == 0)) [
  | inl e ↦ rw e refl
  | inr e ↦ let ne = eqb-false n 0 e in rw e (back_first (n - 1) m key rest (grind (arith, ne, l)))
]
back_first n m key (node_in own place c rest) l = elim (cases_Bool (n == 0)) [
  | inl e ↦ rw e refl
  | inr e ↦ let ne = eqb-false n 0 e in rw e (back_first (n - 1) m key rest (grind (arith, ne, l)))
]

-- a branch's key is in front of each key below it but the first
key_after : (low n : ℕ) (m : Option ℕ) (row : KeyedRow) → 0 < n → 0 < count (bare row) → IsFirstAbove low row → AreKeysApart m row → IsBeforeBound low (key_before (keyed_back n row) m)
key_after low n m no_more some long l h = absurd (omega (arith, long))
key_after low n m (leaf_in x rest) some long l h = elim (cases_Bool (n == 0)) [
  | inl e ↦ let none = eqb-true n 0 e in absurd (omega (arith, none, some))
  | inr e ↦ rw e (back_after low (n - 1) m rest (bound_less low (leaf_rank x) (key_before rest m) l h.0) h.1)
]
key_after low n m (node_in key place c rest) some long l h = elim (cases_Bool (n == 0)) [
  | inl e ↦ let none = eqb-true n 0 e in absurd (omega (arith, none, some))
  | inr e ↦ rw e (back_after low (n - 1) m rest (bound_less low (key_rank key) (key_before rest m) l h.0) h.2)
]

-- a row's first key is in front of what bounds it
first_past : (m : Option ℕ) (key : Key) (row : KeyedRow) → 0 < count (bare row) → AreKeysApart m row → IsBeforeBound (key_rank (first_key key row)) m
first_past m key no_more some h = absurd (omega (arith, some))
first_past m key (leaf_in x rest) some h = past_row (leaf_rank x) m rest h.0 h.1
first_past m key (node_in own place c rest) some h = past_row (key_rank own) m rest h.0 h.2

back_some : (n : ℕ) (row : KeyedRow) → n < count (bare row) → 0 < count (bare (keyed_back n row))
back_some n no_more l = absurd (omega (arith, l))
back_some n (leaf_in x rest) l = elim (cases_Bool (n == 0)) [
  | inl e ↦ rw e (omega arith)
  | inr e ↦ let ne = eqb-false n 0 e in rw e (back_some (n - 1) rest (grind (arith, ne, l)))
]
back_some n (node_in own place c rest) l = elim (cases_Bool (n == 0)) [
  | inl e ↦ rw e (omega arith)
  | inr e ↦ let ne = eqb-false n 0 e in rw e (back_some (n - 1) rest (grind (arith, ne, l)))
]

parted_apart : (f : ℕ) (key : Key) (c rest : KeyedRow) (m : Option ℕ) → 1 ≤ f → IsFirstAbove (key_rank key) c → IsBeforeBound (key_rank key) (key_before rest m)
    → AreKeysApart (key_before rest m) c → AreKeysApart m rest → AreKeysApart m (keyed_parted f key c rest)
unfolding keyed_parted
parted_apart f key c rest m one above own below others = elim (cases_Bool (nat_le (f + 1) (count (bare c)))) [
  | inl e ↦
      let more = leb-true (f + 1) (count (bare c)) e in
      let n = left_half f in
      let b = key_before rest m in
      let less : n < count (bare c) = omega (arith, one, more) in
      let some : 0 < n = omega (arith, one) in
      let long : 0 < count (bare c) = omega (arith, more) in
      let first = back_first n b key c less in
      let P : Option ℕ → Type 0 = λ o. IsBeforeBound (key_rank key) o in
      let Q : Option ℕ → Type 0 = λ o. AreKeysApart o (keyed_front n c) in
      rw e (
        subst P first (key_after (key_rank key) n b c some long above below),
        subst Q first (front_apart n b c below),
        (first_past b key (keyed_back n c) (back_some n c less) (back_apart n b c below), back_apart n b c below, others),
      )
  | inr e ↦ rw e (own, below, others)
]

-- ---- insertions
-- no leaf of a row has the new one's key, if this isn't an entry's
abbrev IsFreeIn : Leaf → KeyedRow → Type 0
IsFreeIn new no_more = ⊤
IsFreeIn new (leaf_in x rest) = (leaf_rank x ≡ leaf_rank new → is_entry_rank (leaf_rank new) ≡ true) × IsFreeIn new rest
IsFreeIn new (node_in key place c rest) = IsFreeIn new c × IsFreeIn new rest

entry_free : (new : Leaf) (row : KeyedRow) → is_entry_rank (leaf_rank new) ≡ true → IsFreeIn new row
entry_free new no_more e = tt
entry_free new (leaf_in x rest) e = ((λ same. e), entry_free new rest e)
entry_free new (node_in key place c rest) e = (entry_free new c e, entry_free new rest e)

rank_both : (r : ℕ) (xs ys : List Leaf) → of_rank r (xs ++ ys) ≡ [] → (of_rank r xs ≡ []) × (of_rank r ys ≡ [])
rank_both r [] ys h = (refl, h)
rank_both r (x ∷ xs) ys h = elim (cases_Bool (leaf_rank x == r)) [
  | inl e ↦ let bad = rw e at h in absurd cc
  | inr e ↦ let both = rank_both r xs ys (rw e at h) in (rw e both.0, both.1)
]

none_free : (new : Leaf) (row : KeyedRow) → of_rank (leaf_rank new) (contents (bare row)) ≡ [] → IsFreeIn new row
none_free new no_more h = tt
none_free new (leaf_in x rest) h = elim (cases_Bool (leaf_rank x == leaf_rank new)) [
  | inl e ↦ let bad = rw e at h in absurd cc
  | inr e ↦ ((λ same. absurd (eqb-false (leaf_rank x) (leaf_rank new) e same)), none_free new rest (rw e at h))
]
none_free new (node_in key place c rest) h =
    let both = rank_both (leaf_rank new) (contents (bare c)) (contents (bare rest)) h in
    (none_free new c both.0, none_free new rest both.1)

free_in : (new : Leaf) (row : KeyedRow) → IsFreeKey (leaf_rank new) (contents (bare row)) → IsFreeIn new row
free_in new row (inl e) = entry_free new row e
free_in new row (inr none) = none_free new row none

lowered_least : (low : ℕ) (new : Leaf) (key : Key) → low ≤ leaf_rank new → low ≤ key_rank key → low ≤ key_rank (lowered new key)
lowered_least low new key a b = elim (cases_Bool (nat_lt (leaf_rank new) (key_rank key))) [
  | inl e ↦ rw e a
  | inr e ↦ rw e b
]

lowered_own : (new : Leaf) (key : Key) → (key_rank (lowered new key) ≤ leaf_rank new) × (key_rank (lowered new key) ≤ key_rank key)
lowered_own new key = elim (cases_Bool (nat_lt (leaf_rank new) (key_rank key))) [
  | inl e ↦ let below = ltb-true (leaf_rank new) (key_rank key) e in rw e (omega arith, omega (arith, below))
  | inr e ↦ let above = ltb-false (leaf_rank new) (key_rank key) e in rw e (above, omega arith)
]

kept_key : (new : Leaf) (key : Key) → key_rank key ≤ leaf_rank new → key_rank (lowered new key) ≡ key_rank key
kept_key new key l = rw (le-ltb (leaf_rank new) (key_rank key) l) refl

first_parted : (f : ℕ) (m : Option ℕ) (key : Key) (c rest : KeyedRow) → key_before (keyed_parted f key c rest) m ≡ Some (key_rank key)
unfolding keyed_parted
first_parted f m key c rest = elim (cases_Bool (nat_le (f + 1) (count (bare c)))) [
  | inl e ↦ rw e refl
  | inr e ↦ rw e refl
]

-- the first key of a row after an insertion: as before if the row starts within the leaf's key, and else the leaf's
first_kept : (f : ℕ) (new : Leaf) (m : Option ℕ) (row : KeyedRow) → starts_by (leaf_rank new) row ≡ true → key_before (inserted_by_keys f new row) m ≡ key_before row m
first_kept f new m no_more s = absurd cc
first_kept f new m (leaf_in x rest) s = rw s refl
first_kept f new m (node_in key place c rest) s = elim (cases_Bool (starts_by (leaf_rank new) rest)) [
  | inl e ↦ rw e refl
  | inr e ↦
      let same = kept_key new key (leb-true (key_rank key) (leaf_rank new) s) in
      rw e (first_parted f m (lowered new key) (inserted_by_keys f new c) rest ∙ ap (λ (n : ℕ). Some n) same)
]

-- where a row doesn't start within the leaf's key, its first key is greater, and so is each behind it
none_starts : (new : Leaf) (m : Option ℕ) (rest : KeyedRow) (low : ℕ) → leaf_rank new < low → AreKeysBounded low m rest → starts_by (leaf_rank new) rest ≡ false
none_starts new m no_more low l h = refl
none_starts new m (leaf_in x rest) low l h = let above = h.0 in lt-leb (leaf_rank x) (leaf_rank new) (omega (arith, l, above))
none_starts new m (node_in key place c rest) low l h = let above = h.0 in lt-leb (key_rank key) (leaf_rank new) (omega (arith, l, above))

first_new : (f low : ℕ) (new : Leaf) (m : Option ℕ) (row : KeyedRow) → starts_by (leaf_rank new) row ≡ false → AreKeysBounded low m row → key_before (inserted_by_keys f new row) m ≡ Some (leaf_rank new)
first_new f low new m no_more s h = refl
first_new f low new m (leaf_in x rest) s h = rw s refl
first_new f low new m (node_in key place c rest) s h =
    let above = leb-false (key_rank key) (leaf_rank new) s in
    let behind = none_starts new m rest (key_rank key) above h.3 in
    let lower : nat_lt (leaf_rank new) (key_rank key) ≡ true = lt-ltb (leaf_rank new) (key_rank key) above in
    let is : key_rank (lowered new key) ≡ leaf_rank new = rw lower refl in
    rw behind (first_parted f m (lowered new key) (inserted_by_keys f new c) rest ∙ ap (λ (n : ℕ). Some n) is)

-- the new leaf is in front of what follows the node that it goes to
new_before : (new : Leaf) (m : Option ℕ) (rest : KeyedRow) → starts_by (leaf_rank new) rest ≡ false → IsBeforeBound (leaf_rank new) m → IsBeforeBound (leaf_rank new) (key_before rest m)
new_before new m no_more s h = h
new_before new m (leaf_in x rest) s h = inl (leb-false (leaf_rank x) (leaf_rank new) s)
new_before new m (node_in key place c rest) s h = inl (leb-false (key_rank key) (leaf_rank new) s)

parted_above : (f low : ℕ) (key : Key) (c rest : KeyedRow) → low ≤ key_rank key → IsFirstAbove low (keyed_parted f key c rest)
unfolding keyed_parted
parted_above f low key c rest l = elim (cases_Bool (nat_le (f + 1) (count (bare c)))) [
  | inl e ↦ rw e l
  | inr e ↦ rw e l
]

-- a lowered key isn't above the first key below it
lowered_above : (f : ℕ) (new : Leaf) (key : Key) (m : Option ℕ) (c : KeyedRow) → AreKeysBounded (key_rank key) m c → IsFirstAbove (key_rank (lowered new key)) (inserted_by_keys f new c)
lowered_above f new key m no_more h = (lowered_own new key).0
lowered_above f new key m (leaf_in x rest) h =
    let own = lowered_own new key in
    let low = h.0 in
    let less = own.1 in
    elim (cases_Bool (nat_le (leaf_rank x) (leaf_rank new))) [
      | inl e ↦ rw e (omega (arith, less, low))
      | inr e ↦ rw e own.0
    ]
lowered_above f new key m (node_in other place c rest) h =
    let own = lowered_own new key in
    let low = h.0 in
    let less = own.1 in
    let first = own.0 in
    let both : key_rank (lowered new key) ≤ key_rank (lowered new other) = lowered_least (key_rank (lowered new key)) new other first (omega (arith, less, low)) in
    elim (cases_Bool (starts_by (leaf_rank new) rest)) [
      | inl e ↦ rw e (omega (arith, less, low))
      | inr e ↦ rw e (parted_above f (key_rank (lowered new key)) (lowered new other) (inserted_by_keys f new c) rest both)
    ]

inserted_apart : (f low : ℕ) (new : Leaf) (m : Option ℕ) (row : KeyedRow) → 1 ≤ f → IsFreeIn new row → IsBeforeBound (leaf_rank new) m → AreKeysBounded low m row → AreKeysApart m row
    → AreKeysApart m (inserted_by_keys f new row)
inserted_apart f low new m no_more one free own b h = (own, tt)
inserted_apart f low new m (leaf_in x rest) one free own b h = elim (cases_Bool (nat_le (leaf_rank x) (leaf_rank new))) [
  | inl e ↦
      let less = leb-true (leaf_rank x) (leaf_rank new) e in
      let P : Option ℕ → Type 0 = λ o. IsBeforeBound (leaf_rank x) o in
      let next : IsBeforeBound (leaf_rank x) (key_before (inserted_by_keys f new rest) m) = elim (cases_Bool (starts_by (leaf_rank new) rest)) [
        | inl s ↦ subst P (sym (first_kept f new m rest s)) h.0
        | inr s ↦ subst P (sym (first_new f (leaf_rank x) new m rest s b.2)) (elim (cases_order (leaf_rank x) (leaf_rank new)) [
          | inl same ↦ inr (same, free.0 same)
          | inr other ↦ elim other [ inl below ↦ inl below | inr above ↦ absurd (omega (arith, less, above)) ]
        ])
      ] in
      rw e (next, inserted_apart f (leaf_rank x) new m rest one free.1 own b.2 h.1)
  | inr e ↦ rw e (inl (leb-false (leaf_rank x) (leaf_rank new) e), h)
]
inserted_apart f low new m (node_in key place c rest) one free own b h = elim (cases_Bool (starts_by (leaf_rank new) rest)) [
  | inl e ↦
      let P : Option ℕ → Type 0 = λ o. IsBeforeBound (key_rank key) o in
      let Q : Option ℕ → Type 0 = λ o. AreKeysApart o c in
      let same = sym (first_kept f new m rest e) in
      rw e (subst P same h.0, subst Q same h.1, inserted_apart f (key_rank key) new m rest one free.1 own b.3 h.2)
  | inr e ↦
      let next = key_before rest m in
      let below = inserted_apart f (key_rank key) new next c one free.0 (new_before new m rest e own) b.2 h.1 in
      let lower = lowered_own new key in
      rw e (parted_apart f (lowered new key) (inserted_by_keys f new c) rest m one (lowered_above f new key next c b.2) (bound_less (key_rank (lowered new key)) (key_rank key) next lower.1 h.0) below h.2)
]

with_leaf_apart : (f : ℕ) (new : Leaf) (row : KeyedRow) → 1 ≤ f → IsFreeKey (leaf_rank new) (contents (bare row)) → AreKeysBounded 0 None row → AreKeysApart None row → AreKeysApart None (with_leaf_by_keys f new row)
unfolding with_leaf_by_keys
with_leaf_apart f new row one free b h =
    let made = inserted_by_keys f new row in
    let is = inserted_apart f 0 new None row one (free_in new row free) tt b h in
    elim (cases_Bool (lone (bare made))) [
      | inl e ↦ rw e is
      | inr e ↦ rw e (tt, is, tt)
    ]

-- ---- removals and replacements
removed_first : (low : ℕ) (gone : Leaf) (m : Option ℕ) (row : KeyedRow) → AreKeysApart m row → IsBeforeBound low (key_before row m) → IsBeforeBound low (key_before (removed_by_keys gone row) m)
removed_first low gone m no_more h l = l
removed_first low gone m (leaf_in x rest) h l = elim (cases_Bool (same_leaf x gone)) [
  | inl e ↦ rw e (bound_less low (leaf_rank x) (key_before rest m) (before_at_most low (leaf_rank x) l) h.0)
  | inr e ↦ rw e l
]
removed_first low gone m (node_in key place c rest) h l = elim (cases_Bool (holds gone (contents (bare c)))) [
  | inr e ↦ rw e l
  | inl e ↦ elim (cases_Bool (count (bare (removed_by_keys gone c)) == 0)) [
    | inl none ↦ rw (e, none) (bound_less low (key_rank key) (key_before rest m) (before_at_most low (key_rank key) l) h.0)
    | inr some ↦ rw (e, some) l
  ]
]

removed_apart : (gone : Leaf) (m : Option ℕ) (row : KeyedRow) → AreKeysApart m row → AreKeysApart m (removed_by_keys gone row)
removed_apart gone m no_more h = tt
removed_apart gone m (leaf_in x rest) h = elim (cases_Bool (same_leaf x gone)) [
  | inl e ↦ rw e h.1
  | inr e ↦ rw e (removed_first (leaf_rank x) gone m rest h.1 h.0, removed_apart gone m rest h.1)
]
removed_apart gone m (node_in key place c rest) h = elim (cases_Bool (holds gone (contents (bare c)))) [
  | inr e ↦ rw e (
    removed_first (key_rank key) gone m rest h.2 h.0,
    wider (key_before rest m) (key_before (removed_by_keys gone rest) m) c (λ r l. removed_first r gone m rest h.2 l) h.1,
    removed_apart gone m rest h.2,
  )
  | inl e ↦ elim (cases_Bool (count (bare (removed_by_keys gone c)) == 0)) [
    | inl none ↦ rw (e, none) h.2
    | inr some ↦ rw (e, some) (h.0, removed_apart gone (key_before rest m) c h.1, h.2)
  ]
]

-- without a bound
unbounded : (m : Option ℕ) (row : KeyedRow) → AreKeysApart m row → AreKeysApart None row
unbounded m row h = wider m None row (λ r l. tt) h

collapsed_apart : (m : Option ℕ) (row : KeyedRow) → AreKeysApart m row → AreKeysApart None (keyed_collapsed row)
collapsed_apart m no_more h = tt
collapsed_apart m (leaf_in x rest) h = unbounded m (leaf_in x rest) h
collapsed_apart m (node_in key place c rest) h = elim (cases_Bool (lone (bare c))) [
  | inl e ↦ rw e (collapsed_apart (key_before rest m) c h.1)
  | inr e ↦ rw e (unbounded m (node_in key place c rest) h)
]

without_apart : (gone : Leaf) (row : KeyedRow) → AreKeysApart None row → AreKeysApart None (tree_without gone row)
unfolding without_leaf_by_keys
without_apart gone row h = elim (cases_Bool (holds gone (contents (bare row)))) [
  | inl e ↦ rw e (collapsed_apart None (removed_by_keys gone row) (removed_apart gone None row h))
  | inr e ↦ rw e h
]

same_rank : (x y : Leaf) → same_leaf x y ≡ true → leaf_rank x ≡ leaf_rank y
unfolding same_leaf
same_rank x y h = elim (cases_Bool (leaf_rank x == leaf_rank y)) [
  | inl e ↦ eqb-true (leaf_rank x) (leaf_rank y) e
  | inr e ↦ let bad = rw e at h in absurd cc
]

replaced_first : (old new : Leaf) (m : Option ℕ) (row : KeyedRow) → leaf_rank new ≡ leaf_rank old → key_before (replaced_by_keys old new row) m ≡ key_before row m
replaced_first old new m no_more same = refl
replaced_first old new m (leaf_in x rest) same = elim (cases_Bool (same_leaf x old)) [
  | inl e ↦ rw e (ap (λ (n : ℕ). Some n) (same ∙ sym (same_rank x old e)))
  | inr e ↦ rw e refl
]
replaced_first old new m (node_in key place c rest) same = elim (cases_Bool (holds old (contents (bare c)))) [
  | inl e ↦ rw e refl
  | inr e ↦ rw e refl
]

replaced_apart : (old new : Leaf) (m : Option ℕ) (row : KeyedRow) → leaf_rank new ≡ leaf_rank old → AreKeysApart m row → AreKeysApart m (replaced_by_keys old new row)
replaced_apart old new m no_more same h = tt
replaced_apart old new m (leaf_in x rest) same h = elim (cases_Bool (same_leaf x old)) [
  | inl e ↦ let P : ℕ → Type 0 = λ n. IsBeforeBound n (key_before rest m) in rw e (subst P (sym (same ∙ sym (same_rank x old e))) h.0, h.1)
  | inr e ↦ let P : Option ℕ → Type 0 = λ o. IsBeforeBound (leaf_rank x) o in rw e (subst P (sym (replaced_first old new m rest same)) h.0, replaced_apart old new m rest same h.1)
]
replaced_apart old new m (node_in key place c rest) same h = elim (cases_Bool (holds old (contents (bare c)))) [
  | inl e ↦ rw e (h.0, replaced_apart old new (key_before rest m) c same h.1, h.2)
  | inr e ↦
      let P : Option ℕ → Type 0 = λ o. IsBeforeBound (key_rank key) o in
      let Q : Option ℕ → Type 0 = λ o. AreKeysApart o c in
      let first = sym (replaced_first old new m rest same) in
      rw e (subst P first h.0, subst Q first h.1, replaced_apart old new m rest same h.2)
]

-- ---- removals of a range
pruned_first : (from to low : ℕ) (m : Option ℕ) (row : KeyedRow) → AreKeysApart m row → IsBeforeBound low (key_before row m) → IsBeforeBound low (key_before (pruned_by_keys from to row) m)
pruned_first from to low m no_more h l = l
pruned_first from to low m (leaf_in x rest) h l = elim (cases_Bool (in_range from to x)) [
  | inl e ↦ rw e (pruned_first from to low m rest h.1 (bound_less low (leaf_rank x) (key_before rest m) (before_at_most low (leaf_rank x) l) h.0))
  | inr e ↦ rw e l
]
pruned_first from to low m (node_in key place c rest) h l = elim (cases_Bool (count (bare (pruned_by_keys from to c)) == 0)) [
  | inl none ↦ rw none (pruned_first from to low m rest h.2 (bound_less low (key_rank key) (key_before rest m) (before_at_most low (key_rank key) l) h.0))
  | inr some ↦ rw some l
]

pruned_apart : (from to : ℕ) (m : Option ℕ) (row : KeyedRow) → AreKeysApart m row → AreKeysApart m (pruned_by_keys from to row)
pruned_apart from to m no_more h = tt
pruned_apart from to m (leaf_in x rest) h = elim (cases_Bool (in_range from to x)) [
  | inl e ↦ rw e (pruned_apart from to m rest h.1)
  | inr e ↦ rw e (pruned_first from to (leaf_rank x) m rest h.1 h.0, pruned_apart from to m rest h.1)
]
pruned_apart from to m (node_in key place c rest) h = elim (cases_Bool (count (bare (pruned_by_keys from to c)) == 0)) [
  | inl none ↦ rw none (pruned_apart from to m rest h.2)
  | inr some ↦ rw some (
    pruned_first from to (key_rank key) m rest h.2 h.0,
    wider (key_before rest m) (key_before (pruned_by_keys from to rest) m) (pruned_by_keys from to c) (λ r l. pruned_first from to r m rest h.2 l) (pruned_apart from to (key_before rest m) c h.1),
    pruned_apart from to m rest h.2,
  )
]

without_range_apart : (from to : ℕ) (row : KeyedRow) → AreKeysApart None row → AreKeysApart None (without_range_by_keys from to row)
unfolding without_range_by_keys
without_range_apart from to row h = collapsed_apart None (pruned_by_keys from to row) (pruned_apart from to None row h)

-- ---- any change
pub change_apart : (f : ℕ) (change : Change) (row : KeyedRow) → 1 ≤ f → IsChange change → IsFreeChange change row → AreKeysBounded 0 None row → AreKeysApart None row → AreKeysApart None (changed_row f change row)
change_apart f (Insert x) row one is free b h = with_leaf_apart f x row one free b h
change_apart f (Remove x) row one is free b h = without_apart x row h
change_apart f (Replace gone come) row one is free b h = replaced_apart gone come None row is.0 h
change_apart f (RemoveRange from to) row one is free b h = without_range_apart (key_rank from) (key_rank to) row h

-- ---- keys that are apart are in order
words_low : (key : Key) → IsKey key → (key_words key).1 < 2 ^ 33
words_low (Ino ino) k = omega arith
words_low (Block ino block) k = omega (arith, k.1)
words_low (Dent dir hash) k = omega (arith, k.1)
words_low (Xent ino hash) k = omega (arith, k.1)

entry_words : (key : Key) → IsKey key → is_entry_rank (key_rank key) ≡ true → is_entry key ≡ true
unfolding key_rank is_entry_rank
entry_words (Ino ino) k h = let more = leb-true (2 ^ 30) ((ino * 2 ^ 33 + 0) % 2 ^ 33) h in absurd (omega (arith, more))
entry_words (Block ino block) k h = let more = leb-true (2 ^ 30) ((ino * 2 ^ 33 + (1 * 2 ^ 29 + block)) % 2 ^ 33) h in absurd (omega (arith, more, k.1))
entry_words (Dent dir hash) k h = refl
entry_words (Xent ino hash) k h = refl

words_follow : (a b c d : ℕ) (entry : Bool) → b < 2 ^ 33 → d < 2 ^ 33 → (a * 2 ^ 33 + b < c * 2 ^ 33 + d) ⊎ ((a * 2 ^ 33 + b ≡ c * 2 ^ 33 + d) × (entry ≡ true))
    → (nat_lt a c || (a == c && (nat_lt b d || (b == d && entry)))) ≡ true
words_follow a b c d entry low high (inl less) = elim (cases_order a c) [
  | inl same ↦
      let one : nat_lt a c ≡ false = le-ltb a c (omega (arith, same)) in
      let two : (a == c) ≡ true = eq-eqb a c same in
      let three : nat_lt b d ≡ true = lt-ltb b d (omega (arith, same, less)) in
      rw (one, two, three) refl
  | inr other ↦ elim other [
    | inl below ↦ let one : nat_lt a c ≡ true = lt-ltb a c below in rw one refl
    | inr above ↦ absurd (omega (arith, above, less, high))
  ]
]
words_follow a b c d entry low high (inr same) =
    let e = same.0 in
    let first : a ≡ c = omega (arith, e, low, high) in
    let second : b ≡ d = omega (arith, e, low, high) in
    let is = same.1 in
    let one : nat_lt a c ≡ false = le-ltb a c (omega (arith, first)) in
    let two : (a == c) ≡ true = eq-eqb a c first in
    let three : nat_lt b d ≡ false = le-ltb b d (omega (arith, second)) in
    let four : (b == d) ≡ true = eq-eqb b d second in
    rw (one, two, three, four) is

follows : (a b : Key) → IsKey a → IsKey b → MayStandBefore (key_rank a) (key_rank b) → may_follow (Some a) b ≡ true
unfolding key_rank
follows a b x y (inl less) = words_follow (key_words a).0 (key_words a).1 (key_words b).0 (key_words b).1 (is_entry b) (words_low a x) (words_low b y) (inl less)
follows a b x y (inr same) = words_follow (key_words a).0 (key_words a).1 (key_words b).0 (key_words b).1 (is_entry b) (words_low a x) (words_low b y) (inr (same.0, entry_words b y same.1))

-- what comes in front of a row
abbrev IsBehind : Option Key → Option ℕ → Type 0
IsBehind None first = ⊤
IsBehind (Some before) first = IsKey before × IsBeforeBound (key_rank before) first

next_follows : (before : Option Key) (key : Key) → IsKey key → IsBehind before (Some (key_rank key)) → may_follow before key ≡ true
next_follows None key k h = refl
next_follows (Some before) key k h = follows before key h.0 k h.1

branch_key : (key : Key) (place : Option Stretch) → (node_branch key place).key ≡ key
branch_key key None = refl
branch_key key (Some s) = refl

row_order : (before : Option Key) (m : Option ℕ) (row : KeyedRow) → AreKeys row → AreKeysApart m row → IsBehind before (key_before row m) → in_order before (branches_of (placed_of row)) ≡ true
row_order before m no_more k h first = refl
row_order before m (leaf_in x rest) k h first =
    and_from (may_follow before x.key) (in_order (Some x.key) (branches_of (placed_of rest))) (next_follows before x.key k.0 first) (row_order (Some x.key) m rest k.1 h.1 (k.0, h.0))
row_order before m (node_in key place c rest) k h first =
    let P : Key → Type 0 = λ own. (may_follow before own && in_order (Some own) (branches_of (placed_of rest))) ≡ true in
    subst P (sym (branch_key key place))
    (and_from (may_follow before key) (in_order (Some key) (branches_of (placed_of rest))) (next_follows before key k.0 first) (row_order (Some key) m rest k.2 h.2 (k.0, h.0)))

pub apart_in_order : (m : Option ℕ) (row : KeyedRow) → AreKeys row → AreKeysApart m row → AreKeysInOrder row
apart_in_order m no_more k h = tt
apart_in_order m (leaf_in x rest) k h = apart_in_order m rest k.1 h.1
apart_in_order m (node_in key place c rest) k h = (row_order None (key_before rest m) c k.1 h.1 tt, apart_in_order (key_before rest m) c k.1 h.1, apart_in_order m rest k.2 h.2)

-- ---- places that are given
first_same : (m : Option ℕ) (row new : KeyedRow) → KeepsPlaces row new → key_before new m ≡ key_before row m
first_same m no_more new h = ap (λ (r : KeyedRow). key_before r m) h
first_same m (leaf_in x rest) new h = ap (λ (r : KeyedRow). key_before r m) h.1
first_same m (node_in key place c rest) new h = ap (λ (r : KeyedRow). key_before r m) h.3

pub kept_apart : (m : Option ℕ) (row new : KeyedRow) → KeepsPlaces row new → AreKeysApart m row → AreKeysApart m new
kept_apart m no_more new h apart = subst (AreKeysApart m) (sym h) tt
kept_apart m (leaf_in x rest) new h apart =
    let P : Option ℕ → Type 0 = λ o. IsBeforeBound (leaf_rank x) o in
    subst (AreKeysApart m) (sym h.1) (subst P (sym (first_same m rest h.0 h.2)) apart.0, kept_apart m rest h.0 h.2 apart.1)
kept_apart m (node_in key place c rest) new h apart =
    let P : Option ℕ → Type 0 = λ o. IsBeforeBound (key_rank key) o in
    let Q : Option ℕ → Type 0 = λ o. AreKeysApart o h.1 in
    let first = sym (first_same m rest h.2 h.6) in
    subst (AreKeysApart m) (sym h.3) (subst P first apart.0, subst Q first (kept_apart (key_before rest m) c h.1 h.5 apart.1), kept_apart m rest h.2 h.6 apart.2)

-- ---- branches with the keys of their first leaves
own_first : (key : Key) (row : KeyedRow) → HaveFirstKeys row → 0 < count (bare row) → key_rank (first_key key row) ≡ first_rank (bare row)
own_first key no_more h some = absurd (omega (arith, some))
own_first key (leaf_in x rest) h some = refl
own_first key (node_in own place c rest) h some = h.1

leaves_first : (m : Option ℕ) (row : KeyedRow) (ys : List Leaf) → HaveFirstKeys row → 0 < count (bare row) → leaf_before (contents (bare row) ++ ys) m ≡ Some (first_rank (bare row))
leaves_first m no_more ys h some = absurd (omega (arith, some))
leaves_first m (leaf_in x rest) ys h some = refl
leaves_first m (node_in own place c rest) ys h some =
    ap (λ (xs : List Leaf). leaf_before xs m) (append_assoc (contents (bare c)) (contents (bare rest)) ys) ∙ leaves_first m c (contents (bare rest) ++ ys) h.2 h.0

leaves_before_row : (m : Option ℕ) (row : KeyedRow) → HaveFirstKeys row → leaf_before (contents (bare row)) m ≡ key_before row m
leaves_before_row m no_more h = refl
leaves_before_row m (leaf_in x rest) h = refl
leaves_before_row m (node_in key place c rest) h = leaves_first m c (contents (bare rest)) h.2 h.0 ∙ ap (λ (n : ℕ). Some n) (sym h.1)

leaves_both : (m : Option ℕ) (xs ys : List Leaf) → AreLeavesApart m (xs ++ ys) → AreLeavesApart (leaf_before ys m) xs × AreLeavesApart m ys
leaves_both m [] ys h = (tt, h)
leaves_both m (x ∷ []) ys h = ((h.0, tt), h.1)
leaves_both m (x ∷ y ∷ xs) ys h = let more = leaves_both m (y ∷ xs) ys h.1 in ((h.0, more.0), more.1)

pub first_keys_apart : (m : Option ℕ) (row : KeyedRow) → HaveFirstKeys row → AreLeavesApart m (contents (bare row)) → AreKeysApart m row
first_keys_apart m no_more h apart = tt
first_keys_apart m (leaf_in x rest) h apart =
    let P : Option ℕ → Type 0 = λ o. IsBeforeBound (leaf_rank x) o in
    (subst P (leaves_before_row m rest h) apart.0, first_keys_apart m rest h apart.1)
first_keys_apart m (node_in key place c rest) h apart =
    let parts = leaves_both m (contents (bare c)) (contents (bare rest)) apart in
    let Q : Option ℕ → Type 0 = λ o. AreLeavesApart o (contents (bare c)) in
    let next = key_before rest m in
    let below = first_keys_apart next c h.2 (subst Q (leaves_before_row m rest h.3) parts.0) in
    let R : ℕ → Type 0 = λ n. IsBeforeBound n next in
    (subst R (own_first key c h.2 h.0 ∙ sym h.1) (first_past next key c h.0 below), below, first_keys_apart m rest h.3 parts.1)
