use Rattle.std.proofs.Common.{◌≡◌, rules, sym, subst}
use Rattle.buffered_files.specs.Present.{present}
use Rattle.fs_model.specs.Files.{inode_at}
use Rattle.vfs_plans.specs.Answers.{IsRefused}
use Rattle.vfs_plans.specs.Parts.{free_parent}
use Rattle.vfs_plans.proofs.Plans.{linked_is, linked_not, not_linkable, refused_so, refused_then, tree_on}
use Rattle.vfs_plans.proofs.Walking.{looks_on}
use Rattle.vfs_plans.proofs.links.linked.Goals as goal

pub returns-in_err-from-clause-refused : goal.returns-in_err-from-clause-refused
returns-in_err-from-clause-refused g c =
    let files = present (g.B.Backing.state c.args.backing.now).tree c.args.kept.now in
    let refused = refused_so (g.B.Backing.state c.args.backing.now) (g.B.Backing.state c.linkable.new.backing) c.in_err-from.field-0.0
    (not_linkable files c.args.now c.args.old.now c.args.new.now c.in_err-from.field-0.0 (search rules) (search rules)) c.in_err-from.ensures.refused in
    search (rules, refused)

pub returns-in_err-place-clause-refused : goal.returns-in_err-place-clause-refused
returns-in_err-place-clause-refused g c =
    let files = present (g.B.Backing.state c.args.backing.now).tree c.args.kept.now in
    let stops = subst (λ t. IsRefused (g.B.Backing.state c.linkable.new.backing) (g.B.Backing.state c.free_place.new.backing) (free_parent (present t c.args.kept.now).tree c.args.new.now) c.in_err-place.field-0.0) (tree_on c.linkable.ensures.looks) c.in_err-place.ensures.refused in
    let refused = refused_then (g.B.Backing.state c.free_place.new.backing) c.in_err-place.field-0.0 c.linkable.ensures.looks
    (linked_not files c.args.now c.args.old.now c.args.new.now _ _ c.in_err-place.field-0.0 (search rules) (search rules) c.in_ok-from.ensures.found c.in_ok-from.ensures.plain c.in_ok-from.ensures.named c.in_ok-from.ensures.room) stops in
    search (rules, refused)

pub returns-in_err-place-clause-looks : goal.returns-in_err-place-clause-looks
returns-in_err-place-clause-looks g c = looks_on c.linkable.ensures.looks c.free_place.ensures.looks

pub returns-in_err-inode-clause-looks : goal.returns-in_err-inode-clause-looks
returns-in_err-inode-clause-looks g c = looks_on (looks_on c.linkable.ensures.looks c.free_place.ensures.looks) c.inode.ensures.looks

pub returns-in_err-group-clause-looks : goal.returns-in_err-group-clause-looks
returns-in_err-group-clause-looks g c = looks_on (looks_on c.linkable.ensures.looks c.free_place.ensures.looks) c.inode.ensures.looks

pub returns-clause-looks : goal.returns-clause-looks
returns-clause-looks g c = looks_on (looks_on c.linkable.ensures.looks c.free_place.ensures.looks) c.inode.ensures.looks

pub returns-clause-found : goal.returns-clause-found
returns-clause-found g c =
    let t1 = tree_on c.linkable.ensures.looks in
    let t2 = tree_on (looks_on c.linkable.ensures.looks c.free_place.ensures.looks) in
    let linking = rw c.in_ok-group.ensures.ok at c.linking.ensures in
    let inode = subst (λ t. c.in_ok-inode.field-0 ≡ inode_at (present t c.args.kept.now).tree c.in_ok-place.place.parent.ino) t2 c.in_ok-inode.ensures.found in
    let group = linking (present (g.B.Backing.state c.args.backing.now).tree c.args.kept.now).tree (sym inode) in
    linked_is (present (g.B.Backing.state c.args.backing.now).tree c.args.kept.now) c.args.now c.args.old.now c.args.new.now _ _ c.in_ok-place.place.parent c.in_ok-group.group
    (search rules) (search rules) c.in_ok-from.ensures.found c.in_ok-from.ensures.plain c.in_ok-from.ensures.named c.in_ok-from.ensures.room (search rules) (search rules) (search (rules, group))
