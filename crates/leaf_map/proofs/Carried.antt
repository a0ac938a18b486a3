-- The node that a change makes carries it.
use Rattle.std.proofs.Common.{◌≡◌, ℕ, ◌+◌, ◌<◌, ap, ◌∙◌, Option, Some}
use Rattle.std.specs.Bool.{IsTrue}
use Rattle.std.specs.Option.{option_map}
use Rattle.fs_model.specs.declared.change.Change.{Change}
use Rattle.fs_model.specs.declared.change.Change.TheVariants.{SetInode, SetEntry, DropEntry, SetBlock, CutBlocks, DropInode}
use Rattle.fs_model.specs.declared.inode.Inode.{Inode}
use Rattle.fs_model.specs.declared.inode.Kind.{Kind}
use Rattle.fs_model.specs.Backing.{is_node}
use Rattle.group_nodes.specs.NodeLaws.{mode_of_node, node_carries, bits_are, mode_is, bits_say}
use Rattle.group_nodes.specs.Nodes.{bits_of, inode_node, inode_of, kind_of_bits, node_of, type_bits}
use Rattle.leaf_map.specs.After.{ShowsChange}

-- an inode's node shows it, whatever its links
inode_shown : (ino : ℕ) (node : Inode) → node.mode < 4096 → option_map (λ kind. SetInode ino (inode_of (inode_node ino node) kind)) (kind_of_bits (bits_of (type_bits node.kind + node.mode))) ≡ Some (SetInode ino node)
inode_shown ino node small =
    ap (λ (bits : ℕ). option_map (λ kind. SetInode ino (inode_of (inode_node ino node) kind)) (kind_of_bits bits)) (bits_are node.kind node.mode small)
    ∙ ap (λ (k : Option Kind). option_map (λ kind. SetInode ino (inode_of (inode_node ino node) kind)) k) (bits_say node.kind)
    ∙ ap (λ (m : ℕ). Some (SetInode ino (record node { mode = m }))) (mode_is node.kind node.mode small)

pub change_carried : (change : Change) → IsTrue (is_node change) → ShowsChange change (node_of change)
change_carried (SetInode ino node) h = inode_shown ino node (mode_of_node (SetInode ino node) h)
change_carried (SetEntry e) h = node_carries (SetEntry e) h
change_carried (DropEntry dir name) h = node_carries (DropEntry dir name) h
change_carried (SetBlock ino number bytes) h = node_carries (SetBlock ino number bytes) h
change_carried (CutBlocks ino old_size new_size) h = node_carries (CutBlocks ino old_size new_size) h
change_carried (DropInode ino) h = node_carries (DropInode ino) h
