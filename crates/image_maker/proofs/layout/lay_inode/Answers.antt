use Rattle.std.proofs.Common.{◌≡◌, List, [], ◌∷◌, sym, ◌∙◌, ap, subst, arith}
use Rattle.std.specs.Prelude.{map}
use Rattle.std.specs.List.{sum_by}
use Rattle.ubifs_base.specs.RawOf.{raw_of}
use Rattle.ubi_volume.specs.MemVolume.{state_of}
use Rattle.media_leaf.specs.LeafNode.{LeafNode}
use Rattle.fs_model.specs.Cover.{entry_bytes}
use Rattle.fs_model.specs.Directory.{by_hash, entries_in}
use Rattle.group_nodes.specs.Nodes.{node_of}
use Rattle.image_maker.specs.Laying.{AreLeavesReady, LaysLeaves}
use Rattle.image_maker.specs.Leaves.{inode_leaf, entry_leaf}
use Rattle.image_maker.proofs.Ready.{ready_first, second_ready, third_ready, three_laid, same_laid}
use Rattle.image_maker.proofs.TreeNodes.{sum_by-entries_in}
use Rattle.image_maker.proofs.layout.lay_inode.Goals as goal

pub inode_leaf-requires-clause-few : goal.inode_leaf-requires-clause-few
inode_leaf-requires-clause-few c =
    let sum = ap (sum_by entry_bytes) (c.as_slice.ensures.value ∙ c.in_ok-entries.ensures) in
    let less = sum_by-entries_in c.args.tree.now c.args.ino in
    let few = c.requires.few in
    omega (arith, sum, less, few)

pub lay-requires-clause-ready : goal.lay-requires-clause-ready
lay-requires-clause-ready c =
    let raw = raw_of c.args.geometry.now in
    let node = inode_leaf c.args.tree.now c.args.ino c.args.inode.now in
    let same : node_of c.in_ok-leaf.leaf ≡ node = c.in_ok-leaf.ensures.node c.args.tree.now (sym (c.as_slice.ensures.value ∙ c.in_ok-entries.ensures)) in
    let P : LeafNode → Type 0 = λ n. AreLeavesReady raw (n ∷ []) c.args.open_leb.now (state_of c.args.volume.now) in
    subst P (sym same) (ready_first raw (node ∷ []) _ _ _ c.requires.ready)

pub lay_blocks-requires : goal.lay_blocks-requires
lay_blocks-requires c =
    let raw = raw_of c.args.geometry.now in
    let node = inode_leaf c.args.tree.now c.args.ino c.args.inode.now in
    let same : node_of c.in_ok-leaf.leaf ≡ node = c.in_ok-leaf.ensures.node c.args.tree.now (sym (c.as_slice.ensures.value ∙ c.in_ok-entries.ensures)) in
    let laid = same_laid raw (node_of c.in_ok-leaf.leaf) node _ _ _ _ same c.in_ok-lay.ensures.laid in
    record { ready = second_ready raw node _ (map entry_leaf (by_hash (entries_in c.args.tree.now c.args.ino))) _ _ _ _ c.requires.ready laid }

pub lay_entries-requires : goal.lay_entries-requires
lay_entries-requires c =
    let raw = raw_of c.args.geometry.now in
    let node = inode_leaf c.args.tree.now c.args.ino c.args.inode.now in
    let same : node_of c.in_ok-leaf.leaf ≡ node = c.in_ok-leaf.ensures.node c.args.tree.now (sym (c.as_slice.ensures.value ∙ c.in_ok-entries.ensures)) in
    let laid = same_laid raw (node_of c.in_ok-leaf.leaf) node _ _ _ _ same c.in_ok-lay.ensures.laid in
    let rows : map entry_leaf c.in_ok-rows.rows ≡ map entry_leaf (by_hash (entries_in c.args.tree.now c.args.ino)) = ap (map entry_leaf) (c.in_ok-rows.ensures ∙ ap by_hash c.in_ok-entries.ensures) in
    let P : List LeafNode → Type 0 = λ leaves. AreLeavesReady raw leaves c.lay_blocks.new.open_leb (state_of c.lay_blocks.new.volume) in
    record { ready = subst P (sym rows) (third_ready raw node _ (map entry_leaf (by_hash (entries_in c.args.tree.now c.args.ino))) _ _ _ _ _ _ c.requires.ready laid c.in_ok-lay_blocks.ensures.laid) }

pub returns-clause-laid : goal.returns-clause-laid
returns-clause-laid c =
    let raw = raw_of c.args.geometry.now in
    let node = inode_leaf c.args.tree.now c.args.ino c.args.inode.now in
    let same : node_of c.in_ok-leaf.leaf ≡ node = c.in_ok-leaf.ensures.node c.args.tree.now (sym (c.as_slice.ensures.value ∙ c.in_ok-entries.ensures)) in
    let laid = same_laid raw (node_of c.in_ok-leaf.leaf) node _ _ _ _ same c.in_ok-lay.ensures.laid in
    let rows : map entry_leaf c.in_ok-rows.rows ≡ map entry_leaf (by_hash (entries_in c.args.tree.now c.args.ino)) = ap (map entry_leaf) (c.in_ok-rows.ensures ∙ ap by_hash c.in_ok-entries.ensures) in
    let P : List LeafNode → Type 0 = λ leaves. LaysLeaves raw leaves c.lay_blocks.new.open_leb (state_of c.lay_blocks.new.volume) c.lay_entries.new.open_leb (state_of c.lay_entries.new.volume) in
    three_laid raw node _ (map entry_leaf (by_hash (entries_in c.args.tree.now c.args.ino))) _ _ _ _ _ _ _ _ laid c.in_ok-lay_blocks.ensures.laid (subst P rows c.in_ok-lay_entries.ensures.laid)
