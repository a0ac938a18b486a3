-- The live nodes of a tree say nothing of attributes, and are laid where they stand.
use Rattle.std.proofs.Common.{◌≡◌, ◌++◌, ℕ, true, List, [], ◌∷◌, map, refl, sym, subst}
use Rattle.std.specs.Prelude.{◌==◌, bit_and, filter}
use Rattle.std.specs.List.{AllByRecursion, flat_map, list_all}
use Rattle.std.proofs.lemmas.Bool.{and_parts, eqb-true}
use Rattle.ubifs_base.specs.declared.raw_geometry.RawGeometry.{RawGeometry}
use Rattle.media_leaf.specs.LeafNode.{LeafNode}
use Rattle.media_lpt.specs.declared.lprop.Lprop.{Lprop}
use Rattle.fs_model.specs.declared.inode.Entry.{Entry}
use Rattle.fs_model.specs.Directory.{by_hash, entries_in}
use Rattle.fs_model.specs.Files.{Blocks, Inodes, Tree}
use Rattle.leaf_map.specs.Kept.{Placed}
use Rattle.image_maker.specs.Leaves.{block_leaf, entry_leaf, leaf_nodes_of}
use Rattle.sound_image.specs.Laid.{IsPlainLeaf}
use Rattle.laid_image.specs.Laid.{IsLaidNode}
use Rattle.tree_nodes.specs.Stored.{AreNodesOfTree, IsLiveLeaf}
use Rattle.laid_tree.specs.Standing.{StandsUnmarked, is_plain}

append : (xs ys : List LeafNode) → AllByRecursion IsPlainLeaf xs → AllByRecursion IsPlainLeaf ys → AllByRecursion IsPlainLeaf (xs ++ ys)
append [] ys h k = k
append (x ∷ xs) ys h k = (h.0, append xs ys h.1 k)

blocks_plain : (bs : Blocks) → AllByRecursion IsPlainLeaf (map block_leaf bs)
blocks_plain [] = tt
blocks_plain (b ∷ bs) = (tt, blocks_plain bs)

entries_plain : (es : List Entry) → AllByRecursion IsPlainLeaf (map entry_leaf es)
entries_plain [] = tt
entries_plain (e ∷ es) = (refl, entries_plain es)

all_plain : (tree : Tree) (inodes : Inodes) → list_all is_plain inodes ≡ true → AllByRecursion IsPlainLeaf (flat_map (leaf_nodes_of tree) inodes)
all_plain tree [] h = tt
all_plain tree (e ∷ inodes) h =
    let parts = and_parts (is_plain e) (list_all is_plain inodes) h in
    let bs = filter (λ (stored : (ℕ × ℕ) × List ℕ). stored.0.0 == e.0) tree.blocks in
    let es = by_hash (entries_in tree e.0) in
    append (leaf_nodes_of tree e) (flat_map (leaf_nodes_of tree) inodes)
    ((eqb-true (bit_and e.1.flags 0x20) 0 parts.0, refl), append (map block_leaf bs) (map entry_leaf es) (blocks_plain bs) (entries_plain es)) (all_plain tree inodes parts.1)

of_nodes : (nodes : List Placed) → AllByRecursion IsPlainLeaf (map (λ x. x.node) nodes) → AllByRecursion (λ x. IsPlainLeaf x.node) nodes
of_nodes [] h = tt
of_nodes (x ∷ nodes) h = (h.0, of_nodes nodes h.1)

plain_nodes : (tree : Tree) (nodes : List Placed) → AreNodesOfTree tree nodes → list_all is_plain tree.inodes ≡ true → AllByRecursion (λ x. IsPlainLeaf x.node) nodes
plain_nodes tree nodes are plain = of_nodes nodes (subst (AllByRecursion IsPlainLeaf) (sym are) (all_plain tree tree.inodes plain))

laid : (contents : ℕ → List ℕ) (geo : RawGeometry) (props : List Lprop) (tree : Tree) (nodes : List Placed) → AllByRecursion (StandsUnmarked contents geo props) nodes → AllByRecursion (λ x. IsPlainLeaf x.node) nodes
    → AllByRecursion (IsLiveLeaf tree) nodes → AllByRecursion (IsLaidNode contents geo props) nodes
laid contents geo props tree [] s p l = tt
laid contents geo props tree (x ∷ nodes) s p l =
    (record { stands = s.0.stands; unmarked = s.0.unmarked; plain = p.0; shows = l.0.shows }, laid contents geo props tree nodes s.1 p.1 l.1)

-- live nodes that stand in main LEBs are laid nodes
pub laid_nodes : (contents : ℕ → List ℕ) (geo : RawGeometry) (props : List Lprop) (tree : Tree) (nodes : List Placed) → AreNodesOfTree tree nodes → list_all is_plain tree.inodes ≡ true
    → AllByRecursion (IsLiveLeaf tree) nodes → AllByRecursion (StandsUnmarked contents geo props) nodes → AllByRecursion (IsLaidNode contents geo props) nodes
laid_nodes contents geo props tree nodes are plain live stand = laid contents geo props tree nodes stand (plain_nodes tree nodes are plain) live
