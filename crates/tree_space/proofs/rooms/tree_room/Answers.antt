use Rattle.std.proofs.Common.{arith}
use Rattle.ubifs_base.specs.RawOf.{raw_of}
use Rattle.tree_space.proofs.RoomSides.{few_leaves_small, weight_small}
use Rattle.tree_space.proofs.rooms.tree_room.Goals as goal

pub full_index_weight-requires : goal.full_index_weight-requires
full_index_weight-requires c =
    let bytes = c.bytes.ensures.bytes in
    let few = c.bytes.ensures.few in
    let small = few_leaves_small c.args.tree.now (c.leaves_of_a_tree_are_few.ensures.count c.args.tree.now c.requires) (omega (arith, bytes, few)) in
    let leaves = c.in_ok-count.ensures.leaves in
    record { few = omega (arith, small, leaves) }

pub room-requires-clause-space : goal.room-requires-clause-space
room-requires-clause-space c =
    let bytes = c.bytes.ensures.bytes in
    let few = c.bytes.ensures.few in
    let small = few_leaves_small c.args.tree.now (c.leaves_of_a_tree_are_few.ensures.count c.args.tree.now c.requires) (omega (arith, bytes, few)) in
    record {
      used = omega (arith, few);
      held = omega arith;
      credits = omega arith;
      weight = weight_small (raw_of c.args.geometry.now) c.args.tree.now c.in_ok-count.count.leaves c.full_index_weight.result c.args.geometry.now.in_range c.in_ok-count.ensures.leaves small c.full_index_weight.ensures.weight;
    }
