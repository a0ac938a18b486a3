use Rattle.std.proofs.Common.{◌≡◌, List, [], ◌∷◌, ◌++◌, sym, ◌∙◌, ap, subst}
use Rattle.std.specs.Prelude.{◌==◌, filter, map}
use Rattle.ubifs_base.specs.RawOf.{raw_of}
use Rattle.fs_model.specs.Directory.{by_hash, entries_in}
use Rattle.media_leaf.specs.LeafNode.{LeafNode}
use Rattle.image_maker.specs.Leaves.{block_leaf, entry_leaf, inode_leaf}
use Rattle.tree_space.specs.Counted.{CanTake, Counts}
use Rattle.tree_space.proofs.CountedLeaves.{can_first, can_next, counts_more}
use Rattle.tree_space.proofs.counting.take_inode.Goals as goal

pub take-requires-clause-can : goal.take-requires-clause-can
take-requires-clause-can c =
    let tree = c.args.tree.now in
    let blocks = map block_leaf (filter (λ stored. stored.0.0 == c.args.ino) tree.blocks) in
    let entries = map entry_leaf (by_hash (entries_in tree c.args.ino)) in
    let node = inode_leaf tree c.args.ino c.args.inode.now in
    (node, can_first (node ∷ []) (blocks ++ entries) c.args.tally.now c.requires)

pub take_blocks-requires : goal.take_blocks-requires
take_blocks-requires c =
    let geo = raw_of c.args.geometry.now in
    let tree = c.args.tree.now in
    let blocks = map block_leaf (filter (λ stored. stored.0.0 == c.args.ino) tree.blocks) in
    let entries = map entry_leaf (by_hash (entries_in tree c.args.ino)) in
    let node = inode_leaf tree c.args.ino c.args.inode.now in
    can_first blocks entries _ (can_next geo (node ∷ []) (blocks ++ entries) _ _ c.requires (c.take.ensures node (c.inode_len.ensures.len tree c.args.ino)))

pub take_entries-requires : goal.take_entries-requires
take_entries-requires c =
    let geo = raw_of c.args.geometry.now in
    let tree = c.args.tree.now in
    let blocks = map block_leaf (filter (λ stored. stored.0.0 == c.args.ino) tree.blocks) in
    let entries = map entry_leaf (by_hash (entries_in tree c.args.ino)) in
    let node = inode_leaf tree c.args.ino c.args.inode.now in
    let rows : map entry_leaf c.as_slice.result.now ≡ entries = ap (map entry_leaf) (c.as_slice.ensures ∙ c.in_ok-rows.ensures ∙ ap by_hash c.in_ok-entries.ensures) in
    let P : List LeafNode → Type 0 = λ leaves. CanTake leaves c.take_blocks.new.tally in
    subst P (sym rows) (can_next geo blocks entries _ _ (can_next geo (node ∷ []) (blocks ++ entries) _ _ c.requires (c.take.ensures node (c.inode_len.ensures.len tree c.args.ino))) c.take_blocks.ensures)

pub returns : goal.returns
returns c =
    let geo = raw_of c.args.geometry.now in
    let tree = c.args.tree.now in
    let blocks = map block_leaf (filter (λ stored. stored.0.0 == c.args.ino) tree.blocks) in
    let entries = map entry_leaf (by_hash (entries_in tree c.args.ino)) in
    let node = inode_leaf tree c.args.ino c.args.inode.now in
    let rows : map entry_leaf c.as_slice.result.now ≡ entries = ap (map entry_leaf) (c.as_slice.ensures ∙ c.in_ok-rows.ensures ∙ ap by_hash c.in_ok-entries.ensures) in
    let P : List LeafNode → Type 0 = λ leaves. Counts geo leaves c.take_blocks.new.tally c.take_entries.new.tally in
    counts_more geo (node ∷ []) (blocks ++ entries) _ _ _ (c.take.ensures node (c.inode_len.ensures.len tree c.args.ino))
    (counts_more geo blocks entries _ _ _ c.take_blocks.ensures (subst P rows c.take_entries.ensures))
