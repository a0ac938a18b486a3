-- Leaves that stand at copies show the same tree.
use Rattle.std.proofs.Common.{◌≡◌, ℕ, Bool, true, false, cond, not, ◌&&◌, List, [], ◌∷◌, map, refl, ap, ◌∙◌, Option, Some, None}
use Rattle.leaf_map.specs.Kept.{Kept, Placed, shown, shown_by}
use Rattle.leaf_map.specs.Parts.{Parts, is_named}
use Rattle.leaf_map.specs.Recovered.{at_copy, copy_of_leaf, is_copied, moved_to_its_copy}
use Rattle.leaf_map.specs.Shown.{blocks_shown_by, entries_of, inodes_of, tree_of, with_shown_block, with_entry, with_shown_inode}
use Rattle.leaf_map.proofs.Changes.{tree_is}

same_inodes : (move : Kept → Kept) (kept : List Kept) → ((x : Kept) → (move x).node ≡ x.node) → inodes_of (map move kept) ≡ inodes_of kept
same_inodes move [] same = refl
same_inodes move (x ∷ kept) same = ap (λ n. with_shown_inode (shown n) (inodes_of (map move kept))) (same x) ∙ ap (with_shown_inode (shown_by x)) (same_inodes move kept same)

same_blocks : (move : Kept → Kept) (kept : List Kept) → ((x : Kept) → (move x).node ≡ x.node) → blocks_shown_by (map move kept) ≡ blocks_shown_by kept
same_blocks move [] same = refl
same_blocks move (x ∷ kept) same = ap (λ n. with_shown_block (shown n) (blocks_shown_by (map move kept))) (same x) ∙ ap (with_shown_block (shown_by x)) (same_blocks move kept same)

same_entries : (move : Kept → Kept) (kept : List Kept) → ((x : Kept) → (move x).node ≡ x.node) → entries_of (map move kept) ≡ entries_of kept
same_entries move [] same = refl
same_entries move (x ∷ kept) same = ap (λ n. with_entry (shown n) (entries_of (map move kept))) (same x) ∙ ap (with_entry (shown_by x)) (same_entries move kept same)

-- leaves whose nodes are the same show one tree
pub same_tree : (move : Kept → Kept) (kept : List Kept) (highest : ℕ) → ((x : Kept) → (move x).node ≡ x.node) → tree_of (map move kept) highest ≡ tree_of kept highest
same_tree move kept highest same =
    tree_is (inodes_of (map move kept)) (inodes_of kept) (blocks_shown_by (map move kept)) (blocks_shown_by kept) (entries_of (map move kept)) (entries_of kept) highest
    (same_inodes move kept same) (same_blocks move kept same) (same_entries move kept same)

copy_node : (copies : List Placed) (x : Kept) → (at_copy copies x).node ≡ x.node
copy_node copies x = by (copy_of_leaf copies x) refl
  where
    by : (c : Option Placed) → copy_of_leaf copies x ≡ c → (at_copy copies x).node ≡ x.node
    by None e = rw e refl
    by (Some c) e = rw e refl

-- the fourth step changes no node
pub moved_node : (parts : Parts) (kept : List Kept) (x : Kept) → (moved_to_its_copy parts kept x).node ≡ x.node
moved_node parts kept x = by (not (is_named parts.named x.leaf.lnum) && is_copied parts.copies kept x.leaf.lnum)
  where
    by : (b : Bool) → (cond b (at_copy parts.copies x) x).node ≡ x.node
    by true = copy_node parts.copies x
    by false = refl
