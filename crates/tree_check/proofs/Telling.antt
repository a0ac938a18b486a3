-- Each leaf can be told.
use Rattle.std.proofs.Common.{Bool, true, false, Option, Some, None, refl}
use Rattle.std.specs.Prelude.{◌==◌, IsSome, if◌then◌else◌}
use Rattle.std.specs.Option.{option_map}
use Rattle.media_leaf.specs.LeafNode.{LeafNode, block, entry, inode, truncation}
use Rattle.fs_model.specs.declared.change.Change.TheVariants.{DropEntry, SetEntry, SetInode}
use Rattle.fs_model.specs.declared.inode.Kind.{Kind}
use Rattle.group_nodes.specs.Nodes.{bits_of, inode_of, kind_of_bits, kind_of_type}
use Rattle.leaf_map.specs.Kept.{Kept, shown, shown_by}
use Rattle.tree_check.specs.Told.{shown_told}

node_told : (node : LeafNode) → IsSome (shown_told (shown node))
node_told (inode node) = by (kind_of_bits (bits_of node.mode))
  where
    by : (k : Option Kind) → IsSome (shown_told (option_map (λ kind. SetInode node.ino (inode_of node kind)) k))
    by None = refl
    by (Some kind) = refl
node_told (block node) = refl
node_told (entry node) = by node.attribute (node.inum == 0) (kind_of_type node.kind)
  where
    by : (a b : Bool) (k : Option Kind)
        → IsSome (shown_told (if a then None else if b then Some (DropEntry node.dir node.name) else option_map (λ kind. SetEntry (record { dir = node.dir; name = node.name; ino = node.inum; kind = kind })) k))
    by true b k = refl
    by false true k = refl
    by false false None = refl
    by false false (Some kind) = refl
node_told (truncation node) = refl

pub leaf_told : (x : Kept) → IsSome (shown_told (shown_by x))
leaf_told x = node_told x.node
