-- The tree of which a mount makes its files is proper.
use Rattle.std.proofs.Common.{◌≡◌, ℕ, ◌≤◌, Bool, true, false, cond, List, [], ◌∷◌, filter, fold, map, max, Option, Some, None, sym, ◌∙◌, subst, inl, inr, arith}
use Rattle.std.specs.Prelude.{◌==◌, if◌then◌else◌, nat_le, nat_lt, not}
use Rattle.std.specs.List.{AllByRecursion, list_all, list_any}
use Rattle.std.specs.Option.{option_map}
use Rattle.std.proofs.Math.Nat.{le_refl, max-eq_left, max-eq_right}
use Rattle.std.proofs.lemmas.Bool.{cases_lt}
use Rattle.std.proofs.lemmas.List.Elements.{recursion_from_All}
use Rattle.ubifs_base.specs.Key.{key_words}
use Rattle.ubifs_base.specs.NodeLaws.{IsBytes}
use Rattle.ubifs_base.specs.R5.{r5_of}
use Rattle.ubifs_base.specs.declared.key.Key.{Key}
use Rattle.ubifs_base.specs.declared.key.Key.TheVariants.{Dent, Xent}
use Rattle.media_leaf.specs.LeafNode.{IsLeaf, LeafNode, inode, block, entry, truncation}
use Rattle.index_tree.specs.Keyed.{HaveKeys}
use Rattle.index_tree.specs.Order.{leaf_rank}
use Rattle.index_tree.specs.Shape.{contents as leaves_in}
use Rattle.index_tree.specs.declared.leaf.Leaf.{Leaf}
use Rattle.index_media.specs.PlacedRow.{plain}
use Rattle.fs_model.specs.declared.change.Change.{Change}
use Rattle.fs_model.specs.declared.change.Change.TheVariants.{SetBlock, SetEntry, SetInode, DropEntry, DropInode}
use Rattle.fs_model.specs.declared.inode.Entry.{Entry}
use Rattle.fs_model.specs.declared.inode.Inode.{Inode}
use Rattle.fs_model.specs.declared.inode.Kind.{Kind}
use Rattle.fs_model.specs.declared.inode.Kind.TheVariants.{Dir}
use Rattle.fs_model.specs.Files.{Tree}
use Rattle.fs_model.specs.Proper.{IsProper, IsInOrder}
use Rattle.group_nodes.specs.Nodes.{bits_of, change_of, inode_of, kind_of_bits, kind_of_type}
use Rattle.leaf_map.specs.After.{is_gone, is_idle, is_set, kept_after, kept_by, put_leaf, read}
use Rattle.leaf_map.specs.Kept.{Kept, Placed, kept_at, node_key, shown, shown_by}
use Rattle.leaf_map.specs.LeafMap.{HasKeyOf, IsKeyed, IsLeafMap}
use Rattle.leaf_map.specs.Parts.{Committed, Parts}
use Rattle.leaf_map.specs.Recovered.{committed_highest, highest_key, nodes_in_order, is_unlinked, leaves_after, leaves_found, leaves_left, listed_left, moved_to_its_copy, placed_node, recovered_of, tree_found, without_orphan}
use Rattle.leaf_map.specs.Shown.{tree_of}
use Rattle.sound_image.specs.Image.{Image, parts_of}
use Rattle.sound_image.specs.Sound.{SoundImage}
use Rattle.sound_image.specs.Summary.{tree_of_image}
use Rattle.sound_image.specs.Tree.{ShowsItsNode}
use Rattle.sound_image.proofs.FoundLeaves.{IsNumbered, found_numbers}
use Rattle.sound_image.proofs.Hanging.{sound_entries, sound_inodes}
use Rattle.sound_image.proofs.OneReads.{part_bytes}
use Rattle.sound_image.proofs.ProperNodes.{IsShownWell, read_shows_well}
use Rattle.sound_image.proofs.ProperTree.{ShowsNumbers, above_left, all_linked, block_numbers, entries_stay, entry_numbers, inode_numbers, inodes_stay, keys_stay, kinds_stay, numbered, shown_blocks, shown_entries, shown_inodes}
use Rattle.sound_image.proofs.Readable.{NodesHavePlaces, have_places}
use Rattle.sound_image.proofs.Replaying.{StoredIsIndex, committed_leaves, have_grammar, sound_copies, sound_found}

-- ---- nodes in order of number
placed_all : (P : Placed → Type 0) (xs : List Placed) (new : Placed) → AllByRecursion P xs → P new → AllByRecursion P (placed_node xs new)
placed_all P [] new a n = (n, tt)
placed_all P (y ∷ xs) new a n = by (nat_lt new.sqnum y.sqnum) (placed_all P xs new a.1 n)
  where
    by : (b : Bool) → AllByRecursion P (placed_node xs new) → AllByRecursion P (cond b (new ∷ y ∷ xs) (y ∷ placed_node xs new))
    by true more = (n, a)
    by false more = (a.0, more)

ordered_all : (P : Placed → Type 0) (nodes xs : List Placed) → AllByRecursion P xs → AllByRecursion P nodes → AllByRecursion P (fold placed_node xs nodes)
ordered_all P [] xs a n = a
ordered_all P (x ∷ nodes) xs a n = ordered_all P nodes (placed_node xs x) (placed_all P xs x a n.0) n.1

-- ---- leaves after nodes, and without orphans
-- what leaf_map says of leaves
pub record LeafLaws : Type 0 where
  pub after : (new : Placed) (kept : List Kept) → IsLeaf new.node → IsLeafMap kept → IsLeafMap (kept_after kept new)
  pub without : (ino : ℕ) (kept : List Kept) → IsLeafMap kept → IsLeafMap (without_orphan kept ino)
  pub sorted : (kept : List Kept) (highest : ℕ) → IsLeafMap kept → IsInOrder (tree_of kept highest)
  pub elsewhere : (parts : Parts) (kept : List Kept) (highest : ℕ) → tree_of (map (moved_to_its_copy parts kept) kept) highest ≡ tree_of kept highest

map_after : LeafLaws → (nodes : List Placed) (kept : List Kept) → AllByRecursion (λ x. IsLeaf x.node) nodes → IsLeafMap kept → IsLeafMap (fold kept_after kept nodes)
map_after laws [] kept n m = m
map_after laws (x ∷ nodes) kept n m = map_after laws nodes (kept_after kept x) n.1 (laws.after x kept n.0 m)

map_without : LeafLaws → (listed : List ℕ) (kept : List Kept) → IsLeafMap kept → IsLeafMap (fold without_orphan kept listed)
map_without laws [] kept m = m
map_without laws (ino ∷ listed) kept m = map_without laws listed (without_orphan kept ino) (laws.without ino kept m)

-- ---- numbers
abbrev HasNumbers : ℕ → Kept → Type 0
HasNumbers most x = ShowsNumbers most (shown_by x)

-- what is shown has the number of its key
of_key : (most : ℕ) (leaf : Leaf) (s : Option Change) → HasKeyOf leaf s → IsNumbered most leaf → ShowsNumbers most s
of_key most leaf (Some (SetInode ino it)) h n = subst (λ (k : Key). (key_words k).0 ≤ most) h n
of_key most leaf (Some (SetBlock ino number bytes)) h n = subst (λ (k : Key). (key_words k).0 ≤ most) h.0 n
of_key most leaf (Some (SetEntry e)) h n = subst (λ (k : Key). (key_words k).0 ≤ most) h n
of_key most leaf other h n = absurd h

found_have : (most : ℕ) (kept : List Kept) → AllByRecursion IsKeyed kept → AllByRecursion (λ x. IsNumbered most x.leaf) kept → AllByRecursion (HasNumbers most) kept
found_have most [] k n = tt
found_have most (x ∷ kept) k n = (of_key most x.leaf (shown_by x) k.0 n.0, found_have most kept k.1 n.1)

-- and so has what a node shows
of_node : (most : ℕ) (node : LeafNode) → (key_words (node_key node)).0 ≤ most → ShowsNumbers most (shown node)
of_node most (inode n) h = by (kind_of_bits (bits_of n.mode))
  where
    by : (k : Option Kind) → ShowsNumbers most (option_map (λ kind. SetInode n.ino (inode_of n kind)) k)
    by None = tt
    by (Some kind) = h
of_node most (block n) h = h
of_node most (entry n) h = by n.attribute (n.inum == 0) (kind_of_type n.kind) h
  where
    by : (a z : Bool) (k : Option Kind) → (key_words (if a then Xent n.dir (r5_of n.name) else Dent n.dir (r5_of n.name))).0 ≤ most
        → ShowsNumbers most (if a then None else if z then Some (DropEntry n.dir n.name) else option_map (λ kind. SetEntry (record { dir = n.dir; name = n.name; ino = n.inum; kind = kind })) k)
    by true z k g = tt
    by false true k g = tt
    by false false None g = tt
    by false false (Some kind) g = g
of_node most (truncation n) h = tt

filter_have : (most : ℕ) (p : Kept → Bool) (kept : List Kept) → AllByRecursion (HasNumbers most) kept → AllByRecursion (HasNumbers most) (filter p kept)
filter_have most p [] a = tt
filter_have most p (x ∷ kept) a = by (p x) (filter_have most p kept a.1)
  where
    by : (b : Bool) → AllByRecursion (HasNumbers most) (filter p kept) → AllByRecursion (HasNumbers most) (cond b (x ∷ filter p kept) (filter p kept))
    by true more = (a.0, more)
    by false more = more

put_have : (most : ℕ) (old : Kept → Bool) (new : Kept) (kept : List Kept) → HasNumbers most new → AllByRecursion (HasNumbers most) kept → AllByRecursion (HasNumbers most) (put_leaf old new kept)
put_have most old new [] n a = (n, tt)
put_have most old new (x ∷ kept) n a = by (old x) (nat_le (leaf_rank x.leaf) (leaf_rank new.leaf)) (put_have most old new kept n a.1)
  where
    by : (b c : Bool) → AllByRecursion (HasNumbers most) (put_leaf old new kept) → AllByRecursion (HasNumbers most) (cond b (new ∷ kept) (cond c (x ∷ put_leaf old new kept) (new ∷ x ∷ kept)))
    by true c more = (n, a.1)
    by false true more = (a.0, more)
    by false false more = (n, a)

by_have : (most : ℕ) (change : Change) (new : Kept) (kept : List Kept) → HasNumbers most new → AllByRecursion (HasNumbers most) kept → AllByRecursion (HasNumbers most) (kept_by change new kept)
by_have most change new kept n a = by (is_idle kept change) (is_set change)
  where
    by : (idle set : Bool) → AllByRecursion (HasNumbers most) (if idle then kept else if set then put_leaf (is_gone change) new kept else filter (λ x. not (is_gone change x)) kept)
    by true set = a
    by false true = put_have most (is_gone change) new kept n a
    by false false = filter_have most (λ x. not (is_gone change x)) kept a

after_have : (most : ℕ) (new : Placed) (kept : List Kept) → (key_words (node_key new.node)).0 ≤ most → AllByRecursion (HasNumbers most) kept → AllByRecursion (HasNumbers most) (kept_after kept new)
after_have most new kept n a = by (change_of new.node)
  where
    by : (c : Option Change) → AllByRecursion (HasNumbers most) (read c new kept)
    by None = a
    by (Some change) = by_have most change (kept_at new) kept (of_node most new.node n) a

all_after_have : (most : ℕ) (nodes : List Placed) (kept : List Kept) → AllByRecursion (λ (x : Placed). (key_words (node_key x.node)).0 ≤ most) nodes → AllByRecursion (HasNumbers most) kept → AllByRecursion (HasNumbers most) (fold kept_after kept nodes)
all_after_have most [] kept n a = a
all_after_have most (x ∷ nodes) kept n a = all_after_have most nodes (kept_after kept x) n.1 (after_have most x kept n.0 a)

without_have : (most ino : ℕ) (kept : List Kept) → AllByRecursion (HasNumbers most) kept → AllByRecursion (HasNumbers most) (without_orphan kept ino)
without_have most ino kept a = by (list_any (λ x. is_unlinked ino (shown_by x)) kept)
  where
    by : (b : Bool) → AllByRecursion (HasNumbers most) (if b then filter (λ x. not (is_gone (DropInode ino) x)) kept else kept)
    by true = filter_have most (λ x. not (is_gone (DropInode ino) x)) kept a
    by false = a

all_without_have : (most : ℕ) (listed : List ℕ) (kept : List Kept) → AllByRecursion (HasNumbers most) kept → AllByRecursion (HasNumbers most) (fold without_orphan kept listed)
all_without_have most [] kept a = a
all_without_have most (ino ∷ listed) kept a = all_without_have most listed (without_orphan kept ino) (without_have most ino kept a)

-- the highest number is no less than that with which it begins, and than that of each key
above_right : (a b : ℕ) → b ≤ max a b
above_right a b = elim (cases_lt a b) [
  | inl less ↦ let le : a ≤ b = omega (arith, less) in let same = max-eq_right {n = a} {m = b} le in omega (arith, same)
  | inr less ↦ subst (λ (n : ℕ). b ≤ n) (sym (max-eq_left {n = a} {m = b} less)) less
]

from_first : (keys : List Key) (n : ℕ) → n ≤ highest_key n keys
from_first [] n = omega arith
from_first (key ∷ keys) n =
    let one = above_left n (key_words key).0 in
    let more = from_first keys (max n (key_words key).0) in
    omega (arith, one, more)

of_keys : (keys : List Key) (n most : ℕ) → highest_key n keys ≤ most → AllByRecursion (λ (key : Key). (key_words key).0 ≤ most) keys
of_keys [] n most h = tt
of_keys (key ∷ keys) n most h =
    let one = above_right n (key_words key).0 in
    let more = from_first keys (max n (key_words key).0) in
    (omega (arith, one, more, h), of_keys keys (max n (key_words key).0) most h)

keys_of_leaves : (most : ℕ) (committed : List Committed) → AllByRecursion (λ (key : Key). (key_words key).0 ≤ most) (map (λ x. x.leaf.key) committed) → AllByRecursion (IsNumbered most) (map (λ x. x.leaf) committed)
keys_of_leaves most [] h = tt
keys_of_leaves most (x ∷ committed) h = (h.0, keys_of_leaves most committed h.1)

keys_of_nodes : (most : ℕ) (nodes : List Placed) → AllByRecursion (λ (key : Key). (key_words key).0 ≤ most) (map (λ x. node_key x.node) nodes) → AllByRecursion (λ (x : Placed). (key_words (node_key x.node)).0 ≤ most) nodes
keys_of_nodes most [] h = tt
keys_of_nodes most (x ∷ nodes) h = (h.0, keys_of_nodes most nodes h.1)

-- ---- of a sound image
abbrev left_of : Image → List Kept
left_of image = leaves_left (parts_of image)

left_of_index : NodesHavePlaces → StoredIsIndex → LeafLaws → (contents : ℕ → List ℕ) (image : Image) → SoundImage contents image → IsLeafMap (left_of image)
left_of_index places stored laws contents image h =
    let nodes = nodes_in_order (parts_of image).nodes in
    let leaf_nodes = ordered_all (λ x. IsLeaf x.node) (parts_of image).nodes [] tt (have_places places contents image h).leaf_nodes in
    map_without laws (listed_left (parts_of image)) (leaves_after (leaves_found (parts_of image)) nodes) (map_after laws nodes (leaves_found (parts_of image)) leaf_nodes (sound_found stored contents image h))

left_have : StoredIsIndex → (contents : ℕ → List ℕ) (image : Image) → SoundImage contents image → AllByRecursion (HasNumbers (recovered_of (parts_of image)).highest) (left_of image)
left_have stored contents image h =
    let parts = parts_of image in
    let most = (recovered_of parts).highest in
    let keys = map (λ x. node_key x.node) (nodes_in_order parts.nodes) in
    let is = stored contents image.geo.fanout _ image.placed h.index.index in
    let same = committed_leaves contents (leaves_in (plain image.placed)) image.committed h.leaves.committed in
    let K : List Leaf → Type 0 = λ xs. HaveKeys xs in
    let own = of_keys (map (λ x. x.leaf.key) parts.committed) parts.highest most (from_first keys (committed_highest parts)) in
    let found = found_have most (leaves_found parts) (sound_found stored contents image h).keyed (found_numbers parts most (subst K same is.keyed) (have_grammar contents (leaves_in (plain image.placed)) image.committed h.leaves.committed) (sound_copies contents image h) (keys_of_leaves most parts.committed own)) in
    let later = keys_of_nodes most (nodes_in_order parts.nodes) (of_keys keys (committed_highest parts) most (le_refl most)) in
    all_without_have most (listed_left parts) (leaves_after (leaves_found parts) (nodes_in_order parts.nodes)) (all_after_have most (nodes_in_order parts.nodes) (leaves_found parts) later found)

-- what recovered leaves show can stand in a proper tree
kept_well : (contents : ℕ → List ℕ) (kept : List Kept) → ((k : ℕ) → IsBytes (contents k)) → AllByRecursion (ShowsItsNode contents) kept → AllByRecursion (λ x. IsShownWell (shown_by x)) kept
kept_well contents [] fits h = tt
kept_well contents (x ∷ kept) fits h = (read_shows_well _ h.0.sqnum h.0.group x.node (part_bytes x.leaf.len x.leaf.offs (contents x.leaf.lnum) (fits x.leaf.lnum)) h.0.is, kept_well contents kept fits h.1)

-- no number in the keys of a tree is above this one
abbrev AllInodes : ℕ → Tree → Type 0
AllInodes most tree = list_all (λ (e : ℕ × Inode). nat_le e.0 most) tree.inodes ≡ true

abbrev AllBlocks : ℕ → Tree → Type 0
AllBlocks most tree = list_all (λ (e : (ℕ × ℕ) × List ℕ). nat_le e.0.0 most) tree.blocks ≡ true

abbrev AllNames : ℕ → Tree → Type 0
AllNames most tree = list_all (λ (e : (ℕ × List ℕ) × Entry). nat_le e.0.0 most) tree.entries ≡ true

pub proper_tree : NodesHavePlaces → StoredIsIndex → LeafLaws → (contents : ℕ → List ℕ) (image : Image) → ((k : ℕ) → IsBytes (contents k)) → SoundImage contents image → IsProper (tree_of_image image)
proper_tree places stored laws contents image fits h =
    let parts = parts_of image in
    let tree = tree_found parts in
    let kept = (recovered_of parts).kept in
    let most = (recovered_of parts).highest in
    let left = left_of image in
    let same : tree_of left most ≡ tree = sym (laws.elsewhere parts left most) in
    let sorted = subst IsInOrder same (laws.sorted left most (left_of_index places stored laws contents image h)) in
    let well = kept_well contents kept fits (recursion_from_All (ShowsItsNode contents) kept h.tree.shown) in
    let have = left_have stored contents image h in
    let entries = sound_entries tree kept h.tree.entries in
    let N : Tree → Type 0 = λ t. (AllInodes most t) × (AllBlocks most t) × AllNames most t in
    let numbers = subst N same (inode_numbers most left have, block_numbers most left have, entry_numbers most left have) in
    record {
      inodes_ascend = keys_stay tree.inodes sorted.inodes;
      blocks_ascend = sorted.blocks;
      entries_ascend = sorted.entries;
      inode_nodes = shown_inodes kept well;
      block_nodes = shown_blocks kept well;
      entry_nodes = shown_entries kept well;
      root = kinds_stay tree 1 Dir ∙ h.tree.root;
      entries = entries_stay tree entries;
      inodes = inodes_stay tree tree.inodes (sound_inodes tree tree.inodes h.tree.dirs h.links);
      linked = all_linked tree.inodes;
      numbers = numbered tree numbers.0 numbers.1 numbers.2 entries;
    }
