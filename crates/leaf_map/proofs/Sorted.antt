-- The tree that leaves show is sorted.
use Rattle.std.proofs.Common.{◌≡◌, ℕ, ◌*◌, ◌+◌, ◌^◌, ◌<◌, ◌≤◌, Bool, true, false, not, List, [], ◌∷◌, refl, arith, Option, Some}
use Rattle.std.specs.Prelude.{nat_le}
use Rattle.std.specs.List.{list_all, AllByRecursion}
use Rattle.std.specs.Map.{keys_of}
use Rattle.std.specs.Ordering.{nat_cmp, is_lt}
use Rattle.std.proofs.lemmas.Bool.{false≢true, and_parts, leb-true}
use Rattle.index_tree.specs.Order.{leaf_rank, ordered_from}
use Rattle.fs_model.specs.declared.change.Change.{Change}
use Rattle.fs_model.specs.declared.change.Change.TheVariants.{SetInode, SetBlock}
use Rattle.fs_model.specs.declared.inode.Inode.{Inode}
use Rattle.fs_model.specs.Files.{Inodes, pair_cmp}
use Rattle.fs_model.specs.Proper.{ascends, IsInOrder}
use Rattle.fs_laws.specs.Maps.{ascends_from}
use Rattle.leaf_map.specs.After.{goes}
use Rattle.leaf_map.specs.Kept.{Kept, shown_by}
use Rattle.leaf_map.specs.LeafMap.{IsKeyed, IsLeafMap, are_apart, shows_same}
use Rattle.leaf_map.specs.RankLaws.{rank_is, rank_shown}
use Rattle.leaf_map.specs.Shown.{blocks_shown_by, inodes_of, tree_of, with_shown_block, with_shown_inode}
use Rattle.leaf_map.proofs.Blocks.{HasNumber, block_above_step, has_number}
use Rattle.leaf_map.proofs.Inodes.{higher}
use Rattle.leaf_map.proofs.Maps.{less_is}
use Rattle.leaf_map.proofs.Names.{entries_ascend}
use Rattle.leaf_map.proofs.Ranks.{are_from, leaves, ordered_all}

behind_step : (ino : ℕ) (old : Inode) (s : Option Change) (rest : Inodes) → not (goes (SetInode ino old) s) ≡ true → ino * 2 ^ 33 ≤ rank_shown s → list_all (λ e. is_lt (nat_cmp ino e.0)) rest ≡ true → list_all (λ e. is_lt (nat_cmp ino e.0)) (with_shown_inode s rest) ≡ true
behind_step ino old (Some (SetInode other inode)) rest n l h = by (goes (SetInode ino old) (Some (SetInode other inode))) refl n
  where
    by : (b : Bool) → goes (SetInode ino old) (Some (SetInode other inode)) ≡ b → not b ≡ true → list_all (λ e. is_lt (nat_cmp ino e.0)) ((other, inode) ∷ rest) ≡ true
    by true e t = absurd (false≢true t)
    by false e t = rw (less_is ino other (higher other ino e l)) h
behind_step ino old s rest n l h = h

inodes_behind : (ino low : ℕ) (old : Inode) (kept : List Kept) → AllByRecursion IsKeyed kept → ino * 2 ^ 33 ≤ low → are_from low kept ≡ true → list_all (λ y. not (goes (SetInode ino old) (shown_by y))) kept ≡ true → list_all (λ e. is_lt (nat_cmp ino e.0)) (inodes_of kept) ≡ true
inodes_behind ino low old [] k l h n = refl
inodes_behind ino low old (x ∷ kept) k l h n =
    let p = and_parts (nat_le low (leaf_rank x.leaf)) (are_from low kept) h in
    let q = and_parts (not (goes (SetInode ino old) (shown_by x))) (list_all (λ y. not (goes (SetInode ino old) (shown_by y))) kept) n in
    let here = leb-true low (leaf_rank x.leaf) p.0 in
    let rank = rank_is x.leaf (shown_by x) k.0 in
    behind_step ino old (shown_by x) (inodes_of kept) q.0 (omega (arith, l, here, rank)) (inodes_behind ino low old kept k.1 l p.1 q.1)

inodes_step : (leaf : Kept) (s : Option Change) (kept : List Kept) → leaf_rank leaf.leaf ≡ rank_shown s → AllByRecursion IsKeyed kept → are_from (leaf_rank leaf.leaf) kept ≡ true → list_all (λ y. not (shows_same s (shown_by y))) kept ≡ true
    → ascends nat_cmp (keys_of (inodes_of kept)) ≡ true → ascends nat_cmp (keys_of (with_shown_inode s (inodes_of kept))) ≡ true
inodes_step leaf (Some (SetInode ino inode)) kept r k f n h = ascends_from nat_cmp (inodes_of kept) (ino, inode) (inodes_behind ino (leaf_rank leaf.leaf) inode kept k (omega (arith, r)) f n) h
inodes_step leaf s kept r k f n h = h

inodes_ascend : (low : ℕ) (kept : List Kept) → AllByRecursion IsKeyed kept → ordered_from low (leaves kept) ≡ true → are_apart kept ≡ true → ascends nat_cmp (keys_of (inodes_of kept)) ≡ true
inodes_ascend low [] k o n = refl
inodes_ascend low (x ∷ kept) k o n =
    let q = and_parts (nat_le low (leaf_rank x.leaf)) (ordered_from (leaf_rank x.leaf) (leaves kept)) o in
    let p = and_parts (list_all (λ y. not (shows_same (shown_by x) (shown_by y))) kept) (are_apart kept) n in
    inodes_step x (shown_by x) kept (rank_is x.leaf (shown_by x) k.0) k.1 (ordered_all (leaf_rank x.leaf) (leaf_rank x.leaf) kept (omega arith) q.1) p.0 (inodes_ascend (leaf_rank x.leaf) kept k.1 q.1 p.1)

blocks_behind : (ino number low : ℕ) (bytes : List ℕ) (kept : List Kept) → number < 2 ^ 29 → AllByRecursion IsKeyed kept → ino * 2 ^ 33 + (2 ^ 29 + number) ≤ low → are_from low kept ≡ true → list_all (λ y. not (goes (SetBlock ino number bytes) (shown_by y))) kept ≡ true
    → list_all (λ e. is_lt (pair_cmp (ino, number) e.0)) (blocks_shown_by kept) ≡ true
blocks_behind ino number low bytes [] small k l h n = refl
blocks_behind ino number low bytes (x ∷ kept) small k l h n =
    let p = and_parts (nat_le low (leaf_rank x.leaf)) (are_from low kept) h in
    let q = and_parts (not (goes (SetBlock ino number bytes) (shown_by x))) (list_all (λ y. not (goes (SetBlock ino number bytes) (shown_by y))) kept) n in
    let here = leb-true low (leaf_rank x.leaf) p.0 in
    let rank = rank_is x.leaf (shown_by x) k.0 in
    block_above_step ino number bytes (shown_by x) (blocks_shown_by kept) small (has_number x (shown_by x) k.0) q.0 (omega (arith, l, here, rank)) (blocks_behind ino number low bytes kept small k.1 l p.1 q.1)

blocks_step : (leaf : Kept) (s : Option Change) (kept : List Kept) → HasNumber s → leaf_rank leaf.leaf ≡ rank_shown s → AllByRecursion IsKeyed kept → are_from (leaf_rank leaf.leaf) kept ≡ true → list_all (λ y. not (shows_same s (shown_by y))) kept ≡ true
    → ascends pair_cmp (keys_of (blocks_shown_by kept)) ≡ true → ascends pair_cmp (keys_of (with_shown_block s (blocks_shown_by kept))) ≡ true
blocks_step leaf (Some (SetBlock ino number bytes)) kept small r k f n h = ascends_from pair_cmp (blocks_shown_by kept) ((ino, number), bytes) (blocks_behind ino number (leaf_rank leaf.leaf) bytes kept small k (omega (arith, r)) f n) h
blocks_step leaf s kept small r k f n h = h

blocks_ascend : (low : ℕ) (kept : List Kept) → AllByRecursion IsKeyed kept → ordered_from low (leaves kept) ≡ true → are_apart kept ≡ true → ascends pair_cmp (keys_of (blocks_shown_by kept)) ≡ true
blocks_ascend low [] k o n = refl
blocks_ascend low (x ∷ kept) k o n =
    let q = and_parts (nat_le low (leaf_rank x.leaf)) (ordered_from (leaf_rank x.leaf) (leaves kept)) o in
    let p = and_parts (list_all (λ y. not (shows_same (shown_by x) (shown_by y))) kept) (are_apart kept) n in
    blocks_step x (shown_by x) kept (has_number x (shown_by x) k.0) (rank_is x.leaf (shown_by x) k.0) k.1 (ordered_all (leaf_rank x.leaf) (leaf_rank x.leaf) kept (omega arith) q.1) p.0 (blocks_ascend (leaf_rank x.leaf) kept k.1 q.1 p.1)

pub leaves_sorted : (kept : List Kept) (highest : ℕ) → IsLeafMap kept → IsInOrder (tree_of kept highest)
leaves_sorted kept highest is = record {
  inodes = inodes_ascend 0 kept is.keyed is.ordered is.apart;
  blocks = blocks_ascend 0 kept is.keyed is.ordered is.apart;
  entries = entries_ascend kept;
}
