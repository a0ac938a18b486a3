use Rattle.std.proofs.Common.{ap}
use Rattle.std.specs.List.{flat_map}
use Rattle.ubifs_base.specs.RawOf.{raw_of}
use Rattle.image_maker.specs.Leaves.{leaf_nodes_of, live_leaves}
use Rattle.tree_space.proofs.CountedLeaves.{begins, next_can, next_counted}
use Rattle.tree_space.proofs.counting.take_inodes.Goals as goal

pub counting-init : goal.counting-init
counting-init c = begins (raw_of c.args.geometry.now) _ _ _ (ap (flat_map (leaf_nodes_of c.args.tree.now)) c.inodes-rest.ensures)

pub take_inode-requires : goal.take_inode-requires
take_inode-requires c =
    next_can (raw_of c.args.geometry.now) (live_leaves c.args.tree.now) _ (leaf_nodes_of c.args.tree.now (c.in-Some.ino, c.in-Some.inode.now)) (flat_map (leaf_nodes_of c.args.tree.now) c.next.new.self) _ _
    c.requires (ap (flat_map (leaf_nodes_of c.args.tree.now)) c.in-Some.ensures.steps) c.counting.invariant

pub counting-preserved : goal.counting-preserved
counting-preserved c =
    next_counted (raw_of c.args.geometry.now) (live_leaves c.args.tree.now) _ (leaf_nodes_of c.args.tree.now (c.in-Some.ino, c.in-Some.inode.now)) (flat_map (leaf_nodes_of c.args.tree.now) c.next.new.self) _ _ _
    (ap (flat_map (leaf_nodes_of c.args.tree.now)) c.in-Some.ensures.steps) c.counting.invariant c.in_ok-take_inode.ensures
