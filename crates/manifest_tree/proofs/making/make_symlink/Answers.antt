use Rattle.std.proofs.Common.{◌≡◌, false, arith, rules}
use Rattle.std.specs.Prelude.{nat_le}
use Rattle.fs_model.specs.Change.{apply}
use Rattle.fs_model.specs.Making.{inode_limit, is_bad_target, making, new_symlink}
use Rattle.fs_model.specs.Operation.{group_of}
use Rattle.fs_model.specs.declared.op.Op.TheVariants.{Symlink}
use Rattle.fs_model.specs.Path.{components, last_of}
use Rattle.manifest_tree.specs.Places.{IsFreePlace}
use Rattle.manifest_tree.proofs.Groups.{closed, closed_sound, kept_by, new_symlink_group}
use Rattle.manifest_tree.proofs.making.make_symlink.Goals as goal

pub returns-clause-proper : goal.returns-clause-proper
returns-clause-proper c =
    let tree = c.args.tree.now in
    let place = c.in-Some.place in
    let p : IsFreePlace tree c.args.path.now place = rw c.in-Some.is at c.in_ok-place.ensures.found in
    let numbers : nat_le inode_limit tree.highest ≡ false = search rules in
    let good : is_bad_target c.args.target.now ≡ false = search rules in
    let made : c.put_new.new.tree ≡ apply tree (making tree place.parent.ino place.name (new_symlink c.args.target.now 0) 0) = search rules in
    let kept = c.a_new_symbolic_link_keeps_trees_proper.ensures (closed tree) 1 0 c.args.path.now c.args.target.now (closed_sound tree c.requires.proper) (omega arith) c.requires.path c.requires.target in
    kept_by tree c.put_new.new.tree place.parent.ino place.name (last_of (components c.args.path.now)) (new_symlink c.args.target.now 0) (group_of (closed tree) 1 0 (Symlink c.args.path.now c.args.target.now)) p.name
    (new_symlink_group tree c.args.path.now c.args.target.now place.parent.ino p.free good numbers) kept.proper made
