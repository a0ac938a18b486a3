use Rattle.std.proofs.Common.{refl, arith}
use Rattle.ubifs_base.specs.RawOf.{raw_of}
use Rattle.image_maker.specs.Leaves.{live_leaves}
use Rattle.tree_space.proofs.CountedLeaves.{all_lebs}
use Rattle.tree_space.proofs.counting.count_leaves.Goals as goal

pub take_inodes-requires : goal.take_inodes-requires
take_inodes-requires c =
    let count = c.leaves_of_a_tree_are_few.ensures.count c.args.tree.now c.requires in
    let all = c.leaves-most.ensures.all in
    let few = c.leaves-most.ensures.few in
    record { few = omega (arith, count, all, few); full = omega arith }

pub returns-clause-lebs : goal.returns-clause-lebs
returns-clause-lebs c = all_lebs (raw_of c.args.geometry.now) (live_leaves c.args.tree.now) _ _ refl refl c.in_ok-take_inodes.ensures
