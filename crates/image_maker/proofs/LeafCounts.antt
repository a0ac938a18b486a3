-- How many leaves a proper tree has, and how many LEBs take them.
use Rattle.std.proofs.Common.{◌≡◌, ℕ, suc, ◌+◌, ◌-◌, ◌*◌, ◌^◌, ◌≤◌, true, List, [], ◌∷◌, length, map, refl, ap, arith, length-append, inl, inr}
use Rattle.std.specs.Prelude.{◌==◌, nat_lt, filter}
use Rattle.std.specs.List.{sum_by, flat_map, AllByRecursion}
use Rattle.std.specs.Map.{keys_of, values_of}
use Rattle.std.specs.Ordering.{nat_cmp, is_lt}
use Rattle.std.proofs.lemmas.Bool.{cases_lt}
use Rattle.std.proofs.lemmas.List.{length-map}
use Rattle.std.proofs.lemmas.List.Sums.{sum_by-cons}
use Rattle.std.proofs.Math.Nat.{suc-mul}
use Rattle.media_leaf.specs.LeafNode.{LeafNode}
use Rattle.fs_model.specs.declared.inode.Inode.{Inode}
use Rattle.fs_model.specs.Directory.{by_hash, entries_in}
use Rattle.fs_model.specs.Files.{Tree, Inodes}
use Rattle.fs_model.specs.Proper.{IsProper, ascends}
use Rattle.group_nodes.specs.Texts.{padded_leaf_bytes}
use Rattle.fs_model.specs.Cover.{tree_bytes}
use Rattle.ubifs_base.specs.declared.raw_geometry.RawGeometry.{RawGeometry}
use Rattle.ubifs_base.specs.Geometry.{IsGeometry, leb_reserve}
use Rattle.image_maker.proofs.Grammar.{CanBeWritten, short}
use Rattle.plain_backing.specs.Covering.{leaf_count}
use Rattle.image_maker.specs.Leaves.{block_leaf, entry_leaf, leaf_nodes_of, live_leaves}
use Rattle.image_maker.specs.Packed.{packed_leaves}
use Rattle.image_maker.proofs.Packing.{packed_fits, packed_none, packed_over}
use Rattle.image_maker.proofs.Sums.{part, part_le, part_step, sum_by-by_hash}
use Rattle.image_maker.proofs.TreeNodes.{and_first, and_second, from_zero, less_of, live_leaves-are, sum_by-live_leaves}

-- a count is a sum of ones
ones : {X : Type 0} (xs : List X) → sum_by (λ (x : X). 1) xs ≡ length xs
ones [] = refl
ones {X} (x ∷ xs) =
    let more = ones xs in
    let sum = sum_by-cons (λ (x : X). 1) x xs in
    omega (arith, more, sum)

count_of : (tree : Tree) (e : ℕ × Inode)
    → length (leaf_nodes_of tree e) ≤ 1 + (part (λ stored. 1) (λ stored. stored.0.0 == e.0) tree.blocks + part (λ entry. 1) (λ n. n.dir == e.0) (values_of tree.entries))
count_of tree e =
    let own = filter (λ stored. stored.0.0 == e.0) tree.blocks in
    let blocks = map block_leaf own in
    let entries = map entry_leaf (by_hash (entries_in tree e.0)) in
    let both = length-append blocks entries in
    let b = length-map own block_leaf in
    let n = length-map (by_hash (entries_in tree e.0)) entry_leaf in
    let sum_b = ones own in
    let sum_n = ones (by_hash (entries_in tree e.0)) in
    let less = sum_by-by_hash (λ entry. 1) (entries_in tree e.0) in
    omega (arith, both, b, n, sum_b, sum_n, less)

count_from : (tree : Tree) (inodes : Inodes) (a : ℕ) → ascends nat_cmp (a ∷ keys_of inodes) ≡ true
    → length (flat_map (leaf_nodes_of tree) inodes) ≤ length inodes + (part (λ stored. 1) (λ stored. nat_lt a stored.0.0) tree.blocks + part (λ entry. 1) (λ n. nat_lt a n.dir) (values_of tree.entries))
count_from tree [] a up = omega arith
count_from tree (e ∷ inodes) a up =
    let less = less_of a e.0 (and_first (is_lt (nat_cmp a e.0)) (ascends nat_cmp (e.0 ∷ keys_of inodes)) up) in
    let more = count_from tree inodes e.0 (and_second (is_lt (nat_cmp a e.0)) (ascends nat_cmp (e.0 ∷ keys_of inodes)) up) in
    let all = length-append (leaf_nodes_of tree e) (flat_map (leaf_nodes_of tree) inodes) in
    let here = count_of tree e in
    let b = part_step (λ stored. 1) (λ stored. stored.0.0) a e.0 less tree.blocks in
    let n = part_step (λ entry. 1) (λ n. n.dir) a e.0 less (values_of tree.entries) in
    omega (arith, more, all, here, b, n)

-- the nodes of a proper tree are no more than its inodes, blocks and entries
pub length-live_leaves : (tree : Tree) → IsProper tree → length (live_leaves tree) ≤ leaf_count tree
length-live_leaves tree p =
    let all = count_from tree tree.inodes 0 (from_zero tree.inodes p.inode_nodes p.inodes_ascend) in
    let b = part_le (λ stored. 1) (λ stored. nat_lt 0 stored.0.0) tree.blocks in
    let n = part_le (λ entry. 1) (λ e. nat_lt 0 e.dir) (values_of tree.entries) in
    let blocks = ones tree.blocks in
    let entries = ones (values_of tree.entries) in
    let values = length-map tree.entries (λ e. e.1) in
    omega (arith, all, b, n, blocks, entries, values)

-- Leaves of at most so many bytes: each LEB but the last takes more than it has beside these.
pub packed_few : (size beside most taken : ℕ) (leaves : List LeafNode) → beside + most ≤ size → AllByRecursion (λ leaf. padded_leaf_bytes leaf ≤ most) leaves
    → length (packed_leaves size taken leaves) * beside ≤ taken + sum_by padded_leaf_bytes leaves + beside
packed_few size beside most taken [] fit short =
    let one : length (packed_leaves size taken []) * beside ≡ 1 * beside = ap (λ (xs : List ℕ). length xs * beside) (packed_none size taken) in
    omega (arith, one)
packed_few size beside most taken (leaf ∷ leaves) fit short =
    let sum = sum_by-cons padded_leaf_bytes leaf leaves in
    elim (cases_lt size (taken + padded_leaf_bytes leaf)) [
      | inl over ↦
          let more = packed_few size beside most (padded_leaf_bytes leaf) leaves fit short.1 in
          let all : length (packed_leaves size taken (leaf ∷ leaves)) * beside ≡ suc (length (packed_leaves size (padded_leaf_bytes leaf) leaves)) * beside =
          ap (λ (xs : List ℕ). length xs * beside) (packed_over size taken leaf leaves over) in
          let step = suc-mul (length (packed_leaves size (padded_leaf_bytes leaf) leaves)) beside in
          let longest = short.0 in
          omega (arith, more, all, step, sum, over, longest, fit)
      | inr fits ↦
          let more = packed_few size beside most (taken + padded_leaf_bytes leaf) leaves fit short.1 in
          let all : length (packed_leaves size taken (leaf ∷ leaves)) * beside ≡ length (packed_leaves size (taken + padded_leaf_bytes leaf) leaves) * beside =
          ap (λ (xs : List ℕ). length xs * beside) (packed_fits size taken leaf leaves (omega (arith, fits))) in
          omega (arith, more, all, sum)
    ]

all_short : (leaves : List LeafNode) → AllByRecursion CanBeWritten leaves → AllByRecursion (λ leaf. padded_leaf_bytes leaf ≤ 4256) leaves
all_short [] h = tt
all_short (leaf ∷ leaves) h = (let few = short leaf h.0.0 in omega (arith, few), all_short leaves h.1)

-- the LEBs of a tree's leaves, by its bytes
pub tree_lebs : (geo : RawGeometry) (tree : Tree) → IsGeometry geo → IsProper tree → tree_bytes tree ≤ 2 ^ 30
    → length (packed_leaves geo.leb_size 0 (live_leaves tree)) * (geo.leb_size - leb_reserve geo) ≤ tree_bytes tree + (geo.leb_size - leb_reserve geo)
tree_lebs geo tree g p few =
    let all = packed_few geo.leb_size (geo.leb_size - leb_reserve geo) 4256 0 (live_leaves tree) (let room = g.leb_size.3 in omega (arith, room)) (all_short (live_leaves tree) (live_leaves-are tree p few)) in
    let sum = sum_by-live_leaves tree p in
    omega (arith, all, sum)
