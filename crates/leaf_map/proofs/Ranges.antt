-- What goes with an inode, or behind a size of it, is a range of keys.
use Rattle.std.proofs.Common.{◌≡◌, ◌⊎◌, ℕ, ◌+◌, ◌-◌, ◌*◌, ◌/◌, ◌^◌, ◌<◌, ◌≤◌, Bool, true, false, cond, not, List, [], ◌∷◌, refl, sym, ap, arith, inl, inr, Option, Some}
use Rattle.std.specs.Prelude.{◌==◌, nat_le, filter, if◌then◌else◌}
use Rattle.std.specs.List.{AllByRecursion, list_any}
use Rattle.std.proofs.lemmas.Bool.{le-leb, lt-leb}
use Rattle.std.proofs.lemmas.Bool.Decides.{eqb_tells, leb_tells, nat_tests}
use Rattle.ubifs_base.specs.declared.key.Key.TheVariants.{Ino}
use Rattle.index_tree.specs.declared.leaf.Leaf.{Leaf}
use Rattle.index_tree.specs.Order.{key_rank, leaf_rank}
use Rattle.index_tree.specs.RangeRemoval.{in_range, outside_range}
use Rattle.fs_model.specs.declared.change.Change.{Change}
use Rattle.fs_model.specs.declared.change.Change.TheVariants.{SetInode, SetEntry, SetBlock, CutBlocks, DropInode}
use Rattle.group_nodes.specs.FitLaws.{r5_small}
use Rattle.leaf_map.specs.After.{goes, is_gone}
use Rattle.leaf_map.specs.Follows.{block_key_from, last_block_key}
use Rattle.leaf_map.specs.Kept.{Kept, shown_by}
use Rattle.leaf_map.specs.LeafMap.{HasKeyOf, IsKeyed}
use Rattle.leaf_map.specs.RankLaws.{rank_is}
use Rattle.leaf_map.specs.Recovered.{is_unlinked, without_orphan}
use Rattle.leaf_map.proofs.Ranks.{leaves}

inside : (from to : ℕ) (x : Leaf) (r : ℕ) → leaf_rank x ≡ r → from ≤ r → r ≤ to → in_range from to x ≡ true
inside from to x r e l m = rw (e, le-leb from r l, le-leb r to m) refl

outside : (from to : ℕ) (x : Leaf) (r : ℕ) → leaf_rank x ≡ r → (r < from) ⊎ (to < r) → in_range from to x ≡ false
outside from to x r e (inl l) = rw (e, lt-leb from r l) refl
outside from to x r e (inr l) = rw (e, lt-leb r to l) (by (nat_le from r))
  where
    by : (b : Bool) → cond b false false ≡ false
    by true = refl
    by false = refl

differ : (a b : ℕ) → (a == b) ≡ false → (a < b) ⊎ (b < a)
differ a b h = elim (leb_tells a b) [
  | inl l ↦ let le = l.1 in inl (grind (arith, nat_tests))
  | inr g ↦ inr g.1
]

-- an inode and its blocks are those of a range
inode_range : (ino from to : ℕ) (x : Leaf) (s : Option Change) → from ≡ ino * 2 ^ 33 → to ≡ ino * 2 ^ 33 + (2 ^ 30 - 1) → HasKeyOf x s → goes (DropInode ino) s ≡ in_range from to x
inode_range ino from to x (Some (SetInode other old)) f t h =
    let r = rank_is x (Some (SetInode other old)) h in
    elim (eqb_tells other ino) [
      | inl same ↦ let e = same.1 in rw same.0 (sym (inside from to x (other * 2 ^ 33) r (omega (arith, f, e)) (omega (arith, t, e))))
      | inr apart ↦ rw apart.0 (sym (outside from to x (other * 2 ^ 33) r (elim (differ other ino apart.0) [
        | inl l ↦ inl (omega (arith, f, l))
        | inr l ↦ inr (omega (arith, t, l))
      ])))
    ]
inode_range ino from to x (Some (SetBlock other at old)) f t h =
    let r = rank_is x (Some (SetBlock other at old)) h in
    let small = h.1 in
    elim (eqb_tells other ino) [
      | inl same ↦ let e = same.1 in rw same.0 (sym (inside from to x (other * 2 ^ 33 + (2 ^ 29 + at)) r (omega (arith, f, e)) (omega (arith, t, e, small))))
      | inr apart ↦ rw apart.0 (sym (outside from to x (other * 2 ^ 33 + (2 ^ 29 + at)) r (elim (differ other ino apart.0) [
        | inl l ↦ inl (omega (arith, f, l, small))
        | inr l ↦ inr (omega (arith, t, l))
      ])))
    ]
inode_range ino from to x (Some (SetEntry e)) f t h =
    let r = rank_is x (Some (SetEntry e)) h in
    let small = r5_small e.name in
    sym (outside from to x _ r (elim (leb_tells ino e.dir) [
      | inl l ↦ let le = l.1 in inr (omega (arith, t, le))
      | inr l ↦ let less = l.1 in inl (omega (arith, f, less, small))
    ]))
inode_range ino from to x s f t h = absurd h

-- the blocks behind a size are those of a range
block_range : (ino old_size new_size from to : ℕ) (x : Leaf) (s : Option Change) → from ≡ ino * 2 ^ 33 + (2 ^ 29 + (new_size + 4095) / 4096) → to ≡ ino * 2 ^ 33 + (2 ^ 30 - 1) → HasKeyOf x s
    → goes (CutBlocks ino old_size new_size) s ≡ in_range from to x
block_range ino old_size new_size from to x (Some (SetInode other old)) f t h =
    let r = rank_is x (Some (SetInode other old)) h in
    sym (outside from to x (other * 2 ^ 33) r (elim (leb_tells other ino) [
      | inl l ↦ let le = l.1 in inl (omega (arith, f, le))
      | inr l ↦ let less = l.1 in inr (omega (arith, t, less))
    ]))
block_range ino old_size new_size from to x (Some (SetBlock other at old)) f t h =
    let r = rank_is x (Some (SetBlock other at old)) h in
    let small = h.1 in
    elim (eqb_tells other ino) [
      | inl same ↦ let e = same.1 in elim (leb_tells new_size (4096 * at)) [
        | inl l ↦ let le = l.1 in rw (same.0, l.0) (sym (inside from to x (other * 2 ^ 33 + (2 ^ 29 + at)) r (omega (arith, f, e, le)) (omega (arith, t, e, small))))
        | inr l ↦ let less = l.1 in rw (same.0, l.0) (sym (outside from to x (other * 2 ^ 33 + (2 ^ 29 + at)) r (inl (omega (arith, f, e, less)))))
      ]
      | inr apart ↦ rw apart.0 (sym (outside from to x (other * 2 ^ 33 + (2 ^ 29 + at)) r (elim (differ other ino apart.0) [
        | inl l ↦ inl (omega (arith, f, l, small))
        | inr l ↦ inr (omega (arith, t, l))
      ])))
    ]
block_range ino old_size new_size from to x (Some (SetEntry e)) f t h =
    let r = rank_is x (Some (SetEntry e)) h in
    let small = r5_small e.name in
    sym (outside from to x _ r (elim (leb_tells ino e.dir) [
      | inl l ↦ let le = l.1 in inr (omega (arith, t, le))
      | inr l ↦ let less = l.1 in inl (omega (arith, f, less, small))
    ]))
block_range ino old_size new_size from to x s f t h = absurd h

first_rank : (ino : ℕ) → key_rank (Ino ino) ≡ ino * 2 ^ 33
unfolding key_rank
first_rank ino = omega arith

last_rank : (ino : ℕ) → key_rank (last_block_key ino) ≡ ino * 2 ^ 33 + (2 ^ 30 - 1)
unfolding key_rank
last_rank ino = refl

from_rank : (ino size : ℕ) → key_rank (block_key_from ino size) ≡ ino * 2 ^ 33 + (2 ^ 29 + (size + 4095) / 4096)
unfolding key_rank
from_rank ino size = refl

-- the leaves that stay are those outside a range, where the test of what goes is that of the range
stay : (gone : Kept → Bool) (from to : ℕ) (kept : List Kept) → ((x : Kept) → IsKeyed x → gone x ≡ in_range from to x.leaf) → AllByRecursion IsKeyed kept → leaves (filter (λ x. not (gone x)) kept) ≡ outside_range from to (leaves kept)
stay gone from to [] test k = refl
stay gone from to (x ∷ kept) test k = rw (test x k.0) (by (in_range from to x.leaf) (stay gone from to kept test k.1))
  where
    left : List Kept
    left = filter (λ x. not (gone x)) kept

    by : (b : Bool) → leaves left ≡ outside_range from to (leaves kept) → leaves (cond (not b) (x ∷ left) left) ≡ cond (not b) (x.leaf ∷ outside_range from to (leaves kept)) (outside_range from to (leaves kept))
    by true more = more
    by false more = ap (λ z. x.leaf ∷ z) more

-- a truncation
pub cut_follows : (ino old_size new_size : ℕ) (kept : List Kept) → AllByRecursion IsKeyed kept
    → leaves (filter (λ x. not (is_gone (CutBlocks ino old_size new_size) x)) kept) ≡ outside_range (key_rank (block_key_from ino new_size)) (key_rank (last_block_key ino)) (leaves kept)
cut_follows ino old_size new_size kept k = stay (is_gone (CutBlocks ino old_size new_size)) _ _ kept (λ x h. block_range ino old_size new_size _ _ x.leaf (shown_by x) (from_rank ino new_size) (last_rank ino) h) k

-- an inode with its blocks
pub inode_follows : (ino : ℕ) (kept : List Kept) → AllByRecursion IsKeyed kept
    → leaves (filter (λ x. not (is_gone (DropInode ino) x)) kept) ≡ outside_range (key_rank (Ino ino)) (key_rank (last_block_key ino)) (leaves kept)
inode_follows ino kept k = stay (is_gone (DropInode ino)) _ _ kept (λ x h. inode_range ino _ _ x.leaf (shown_by x) (first_rank ino) (last_rank ino) h) k

-- a listed orphan, where it goes
pub orphan_follows : (ino : ℕ) (kept : List Kept) → AllByRecursion IsKeyed kept
    → leaves (without_orphan kept ino) ≡ (if list_any (λ x. is_unlinked ino (shown_by x)) kept then outside_range (key_rank (Ino ino)) (key_rank (last_block_key ino)) (leaves kept) else leaves kept)
orphan_follows ino kept k = by (list_any (λ x. is_unlinked ino (shown_by x)) kept) (inode_follows ino kept k)
  where
    left : List Kept
    left = filter (λ x. not (is_gone (DropInode ino) x)) kept

    by : {xs : List Leaf} → (b : Bool) → leaves left ≡ xs → leaves (cond b left kept) ≡ cond b xs (leaves kept)
    by true h = h
    by false h = refl
