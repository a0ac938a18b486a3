-- Removals and replacements make the same of a row as without keys and places, and keys lie between those of branches again.
use Rattle.std.proofs.Common.{◌≡◌, ℕ, ◌≤◌, true, refl, ap, sym, ◌∙◌, subst, arith, inl, inr}
use Rattle.std.specs.Prelude.{Option, Some, None, ◌==◌}
use Rattle.std.proofs.lemmas.Bool.{cases_Bool, eqb-true}
use Rattle.ubifs_base.specs.declared.key.Key.{Key}
use Rattle.index_tree.specs.Order.{key_rank, leaf_rank}
use Rattle.index_tree.specs.Removal.{same_leaf, holds, tidied, removed, collapsed, without_leaf}
use Rattle.index_tree.specs.Replacement.{replaced}
use Rattle.index_tree.specs.Shape.{Shape, leaf, node, contents, count, lone}
use Rattle.index_tree.specs.declared.leaf.Leaf.{Leaf}
use Rattle.index_media.specs.KeyedBounds.{lower_at_most, before_within, lower_least}
use Rattle.index_media.specs.KeyedKeys.{key_before, AreKeysBounded}
use Rattle.index_media.specs.KeyedRemoval.{keyed_tidied, removed_by_keys, keyed_collapsed, without_leaf_by_keys, replaced_by_keys}
use Rattle.index_media.specs.KeyedRow.{KeyedRow, no_more, leaf_in, node_in, bare}
use Rattle.index_media.specs.Keys.{IsAtMost}
use Rattle.index_media.specs.PlacedRow.{Stretch}

pub tidied_bare : (row : KeyedRow) → bare (keyed_tidied row) ≡ tidied (bare row)
tidied_bare no_more = refl
tidied_bare (leaf_in x rest) = refl
tidied_bare (node_in key place c rest) = elim (cases_Bool (count (bare c) == 0)) [
  | inl e ↦ rw e refl
  | inr e ↦ rw e refl
]

removed_bare : (gone : Leaf) (row : KeyedRow) → bare (removed_by_keys gone row) ≡ removed gone (bare row)
removed_bare gone no_more = refl
removed_bare gone (leaf_in x rest) = elim (cases_Bool (same_leaf x gone)) [
  | inl e ↦ rw e refl
  | inr e ↦ rw e (ap (leaf x) (removed_bare gone rest))
]
removed_bare gone (node_in key place c rest) = elim (cases_Bool (holds gone (contents (bare c)))) [
  | inl e ↦ rw e (tidied_bare (node_in key None (removed_by_keys gone c) rest) ∙ ap (λ (s : Shape). tidied (node s (bare rest))) (removed_bare gone c))
  | inr e ↦ rw e (ap (node (bare c)) (removed_bare gone rest))
]

pub collapsed_bare : (row : KeyedRow) → bare (keyed_collapsed row) ≡ collapsed (bare row)
collapsed_bare no_more = refl
collapsed_bare (leaf_in x rest) = refl
collapsed_bare (node_in key place c rest) = elim (cases_Bool (lone (bare c))) [
  | inl e ↦ rw e (collapsed_bare c)
  | inr e ↦ rw e refl
]

pub without_leaf_bare : (gone : Leaf) (row : KeyedRow) → bare (without_leaf_by_keys gone row) ≡ without_leaf gone (bare row)
unfolding without_leaf_by_keys without_leaf
without_leaf_bare gone row = collapsed_bare (removed_by_keys gone row) ∙ ap collapsed (removed_bare gone row)

pub replaced_bare : (old new : Leaf) (row : KeyedRow) → bare (replaced_by_keys old new row) ≡ replaced old new (bare row)
replaced_bare old new no_more = refl
replaced_bare old new (leaf_in x rest) = elim (cases_Bool (same_leaf x old)) [
  | inl e ↦ rw e refl
  | inr e ↦ rw e (ap (leaf x) (replaced_bare old new rest))
]
replaced_bare old new (node_in key place c rest) = elim (cases_Bool (holds old (contents (bare c)))) [
  | inl e ↦ rw e (ap (λ (s : Shape). node s (bare rest)) (replaced_bare old new c))
  | inr e ↦ rw e (ap (node (bare c)) (replaced_bare old new rest))
]

-- a weaker bound from above
pub weaken_most : (least : ℕ) (m most : Option ℕ) (row : KeyedRow) → ((n : ℕ) → IsAtMost n m → IsAtMost n most) → AreKeysBounded least m row → AreKeysBounded least most row
weaken_most least m most no_more w h = tt
weaken_most least m most (leaf_in x rest) w h = (h.0, w (leaf_rank x) h.1, weaken_most (leaf_rank x) m most rest w h.2)
weaken_most least m most (node_in key place c no_more) w h =
    (h.0, w (key_rank key) h.1, weaken_most (key_rank key) m most c w h.2, tt)
weaken_most least m most (node_in key place c (leaf_in x rest)) w h =
    (h.0, w (key_rank key) h.1, h.2, weaken_most (key_rank key) m most (leaf_in x rest) w h.3)
weaken_most least m most (node_in key place c (node_in own p d rest)) w h =
    (h.0, w (key_rank key) h.1, h.2, weaken_most (key_rank key) m most (node_in own p d rest) w h.3)

-- what is within the bound in front of a row is within that in front of what stands there later
abbrev pub BoundsLess : Option ℕ → KeyedRow → KeyedRow → Type 0
BoundsLess most row other = (n : ℕ) → IsAtMost n (key_before row most) → IsAtMost n (key_before other most)

-- a row that is bounded from a key on has no key below it
pub within_row : (least : ℕ) (most : Option ℕ) (row : KeyedRow) (n : ℕ) → n ≤ least → IsAtMost n most → AreKeysBounded least most row → IsAtMost n (key_before row most)
within_row least most no_more n l m h = m
within_row least most (leaf_in x rest) n l m h = omega (arith, l, h.0)
within_row least most (node_in key place c rest) n l m h = omega (arith, l, h.0)

tidied_before : (least : ℕ) (most : Option ℕ) (key : Key) (place : Option Stretch) (c rest : KeyedRow) → AreKeysBounded (key_rank key) most rest → IsAtMost (key_rank key) most
    → (n : ℕ) → n ≤ key_rank key → IsAtMost n (key_before (keyed_tidied (node_in key place c rest)) most)
tidied_before least most key place c rest h m n l = elim (cases_Bool (count (bare c) == 0)) [
  | inl e ↦ rw e (within_row (key_rank key) most rest n l (lower_at_most n (key_rank key) most l m) h)
  | inr e ↦ rw e l
]

removed_before : (gone : Leaf) (least : ℕ) (most : Option ℕ) (row : KeyedRow) → AreKeysBounded least most row → BoundsLess most row (removed_by_keys gone row)
removed_before gone least most no_more h n l = l
removed_before gone least most (leaf_in x rest) h n l = elim (cases_Bool (same_leaf x gone)) [
  | inl e ↦ rw e (within_row (leaf_rank x) most rest n l (lower_at_most n (leaf_rank x) most l h.1) h.2)
  | inr e ↦ rw e l
]
removed_before gone least most (node_in key place c rest) h n l = elim (cases_Bool (holds gone (contents (bare c)))) [
  | inl e ↦ rw e (tidied_before least most key None (removed_by_keys gone c) rest h.3 h.1 n l)
  | inr e ↦ rw e l
]

pub tidied_bounded : (least : ℕ) (most : Option ℕ) (key : Key) (place : Option Stretch) (c rest : KeyedRow) → least ≤ key_rank key → IsAtMost (key_rank key) most
    → AreKeysBounded (key_rank key) (key_before rest most) c → AreKeysBounded (key_rank key) most rest → AreKeysBounded least most (keyed_tidied (node_in key place c rest))
tidied_bounded least most key place c rest l m below others = elim (cases_Bool (count (bare c) == 0)) [
  | inl e ↦ rw e (lower_least least (key_rank key) most rest l others)
  | inr e ↦ rw e (l, m, below, others)
]

pub removed_bounded : (gone : Leaf) (least : ℕ) (most : Option ℕ) (row : KeyedRow) → AreKeysBounded least most row → AreKeysBounded least most (removed_by_keys gone row)
removed_bounded gone least most no_more h = tt
removed_bounded gone least most (leaf_in x rest) h = elim (cases_Bool (same_leaf x gone)) [
  | inl e ↦ rw e (lower_least least (leaf_rank x) most rest h.0 h.2)
  | inr e ↦ rw e (h.0, h.1, removed_bounded gone (leaf_rank x) most rest h.2)
]
removed_bounded gone least most (node_in key place c rest) h = elim (cases_Bool (holds gone (contents (bare c)))) [
  | inl e ↦
      let below = removed_bounded gone (key_rank key) (key_before rest most) c h.2 in
      rw e (tidied_bounded least most key None (removed_by_keys gone c) rest h.0 h.1 below h.3)
  | inr e ↦
      let below = weaken_most (key_rank key) (key_before rest most) (key_before (removed_by_keys gone rest) most) c (removed_before gone (key_rank key) most rest h.3) h.2 in
      rw e (h.0, h.1, below, removed_bounded gone (key_rank key) most rest h.3)
]

pub collapsed_bounded : (least : ℕ) (row : KeyedRow) → AreKeysBounded least None row → AreKeysBounded least None (keyed_collapsed row)
collapsed_bounded least no_more h = tt
collapsed_bounded least (leaf_in x rest) h = h
collapsed_bounded least (node_in key place c rest) h = elim (cases_Bool (lone (bare c))) [
  | inl e ↦
      let below = weaken_most (key_rank key) (key_before rest None) None c (before_within (key_rank key) None rest h.3) h.2 in
      rw e (collapsed_bounded least c (lower_least least (key_rank key) None c h.0 below))
  | inr e ↦ rw e h
]

pub without_leaf_bounded : (gone : Leaf) (row : KeyedRow) → AreKeysBounded 0 None row → AreKeysBounded 0 None (without_leaf_by_keys gone row)
unfolding without_leaf_by_keys
without_leaf_bounded gone row h = collapsed_bounded 0 (removed_by_keys gone row) (removed_bounded gone 0 None row h)

-- a leaf of the same key keeps the bounds
one_rank : (x old new : Leaf) → leaf_rank new ≡ leaf_rank old → same_leaf x old ≡ true → leaf_rank new ≡ leaf_rank x
unfolding same_leaf
one_rank x old new r s = elim (cases_Bool (leaf_rank x == leaf_rank old)) [
  | inl e ↦ r ∙ sym (eqb-true (leaf_rank x) (leaf_rank old) e)
  | inr e ↦ let none = rw e at s in absurd cc
]

replaced_before : (old new : Leaf) (most : Option ℕ) (row : KeyedRow) → leaf_rank new ≡ leaf_rank old → key_before (replaced_by_keys old new row) most ≡ key_before row most
replaced_before old new most no_more r = refl
replaced_before old new most (leaf_in x rest) r = elim (cases_Bool (same_leaf x old)) [
  | inl e ↦ rw e (ap (λ (n : ℕ). Some n) (one_rank x old new r e))
  | inr e ↦ rw e refl
]
replaced_before old new most (node_in key place c rest) r = elim (cases_Bool (holds old (contents (bare c)))) [
  | inl e ↦ rw e refl
  | inr e ↦ rw e refl
]

pub replaced_bounded : (old new : Leaf) (least : ℕ) (most : Option ℕ) (row : KeyedRow) → leaf_rank new ≡ leaf_rank old → AreKeysBounded least most row → AreKeysBounded least most (replaced_by_keys old new row)
replaced_bounded old new least most no_more r h = tt
replaced_bounded old new least most (leaf_in x rest) r h = elim (cases_Bool (same_leaf x old)) [
  | inl e ↦
      let same = one_rank x old new r e in
      let P : ℕ → Type 0 = λ n. (least ≤ n) × IsAtMost n most × AreKeysBounded n most rest in
      rw e (subst P (sym same) h)
  | inr e ↦ rw e (h.0, h.1, replaced_bounded old new (leaf_rank x) most rest r h.2)
]
replaced_bounded old new least most (node_in key place c rest) r h = elim (cases_Bool (holds old (contents (bare c)))) [
  | inl e ↦ rw e (h.0, h.1, replaced_bounded old new (key_rank key) (key_before rest most) c r h.2, h.3)
  | inr e ↦
      let P : Option ℕ → Type 0 = λ m. AreKeysBounded (key_rank key) m c in
      rw e (h.0, h.1, subst P (sym (replaced_before old new most rest r)) h.2, replaced_bounded old new (key_rank key) most rest r h.3)
]
