use Rattle.std.proofs.Common.{sym, ap, subst}
use Rattle.std.specs.List.{flat_map}
use Rattle.ubifs_base.specs.RawOf.{raw_of}
use Rattle.image_maker.specs.Laying.{HavePlainModes}
use Rattle.image_maker.specs.Leaves.{leaf_nodes_of, live_leaves}
use Rattle.image_maker.proofs.Ready.{begins, next_ready, next_laid}
use Rattle.image_maker.proofs.layout.lay_inodes.Goals as goal

pub laying-init : goal.laying-init
laying-init c = (begins (raw_of c.args.geometry.now) _ _ _ _ c.requires.ready (ap (flat_map (leaf_nodes_of c.args.tree.now)) c.inodes-rest.ensures), subst HavePlainModes (sym c.inodes-rest.ensures) c.requires.modes)

pub lay_inode-requires-clause-ready : goal.lay_inode-requires-clause-ready
lay_inode-requires-clause-ready c =
    next_ready (raw_of c.args.geometry.now) (live_leaves c.args.tree.now) _ (leaf_nodes_of c.args.tree.now (c.in-Some.ino, c.in-Some.inode.now)) (flat_map (leaf_nodes_of c.args.tree.now) c.next.new.self) _ _ _ _
    c.requires.ready (ap (flat_map (leaf_nodes_of c.args.tree.now)) c.in-Some.ensures.steps) c.laying.invariant.0

pub laying-preserved : goal.laying-preserved
laying-preserved c = (
  next_laid (raw_of c.args.geometry.now) (live_leaves c.args.tree.now) _ (leaf_nodes_of c.args.tree.now (c.in-Some.ino, c.in-Some.inode.now)) (flat_map (leaf_nodes_of c.args.tree.now) c.next.new.self) _ _ _ _ _ _
      (ap (flat_map (leaf_nodes_of c.args.tree.now)) c.in-Some.ensures.steps) c.laying.invariant.0 c.in_ok-lay_inode.ensures.laid,
  (subst HavePlainModes c.in-Some.ensures.steps c.laying.invariant.1).1,
)
