use Rattle.std.proofs.Common.{[], ◌∷◌, map, ap}
use Rattle.ubifs_base.specs.RawOf.{raw_of}
use Rattle.image_maker.specs.Leaves.{block_leaf}
use Rattle.tree_space.proofs.CountedLeaves.{begins, next_can, next_counted}
use Rattle.tree_space.proofs.counting.take_blocks.Goals as goal

pub counting-init : goal.counting-init
counting-init c = begins (raw_of c.args.geometry.now) _ _ _ (ap (map block_leaf) c.blocks_of-rest.ensures)

pub take-requires-clause-can : goal.take-requires-clause-can
take-requires-clause-can c = (
  block_leaf (c.in-Some._key, c.in-Some.bytes.now),
  next_can (raw_of c.args.geometry.now) _ _ (block_leaf (c.in-Some._key, c.in-Some.bytes.now) ∷ []) (map block_leaf c.next.new.self) _ _ c.requires (ap (map block_leaf) c.in-Some.ensures.steps) c.counting.invariant,
)

pub counting-preserved : goal.counting-preserved
counting-preserved c =
    next_counted (raw_of c.args.geometry.now) _ _ (block_leaf (c.in-Some._key, c.in-Some.bytes.now) ∷ []) (map block_leaf c.next.new.self) _ _ _ (ap (map block_leaf) c.in-Some.ensures.steps) c.counting.invariant (c.take.ensures (block_leaf (c.in-Some._key, c.in-Some.bytes.now)) (c.block_len.ensures.len c.in-Some._key))
