use Rattle.std.proofs.Common.{◌≡◌, rules, sym, ap, subst, ◌∙◌}
use Rattle.buffered_files.specs.Present.{IsKept, present}
use Rattle.fs_model.specs.Files.{inode_at}
use Rattle.vfs_plans.proofs.Walking.{looks_on}
use Rattle.vfs_plans.proofs.Plans.{made_is, made_not, refused_so, tree_on}
use Rattle.vfs_plans.proofs.makes.made.Goals as goal

pub is_full-requires : goal.is_full-requires
is_full-requires g c = record { kept = subst (λ t. IsKept t c.args.kept.now) (sym (tree_on c.free_place.ensures.looks)) c.requires.kept }

pub returns-in_err-parent-clause-refused : goal.returns-in_err-parent-clause-refused
returns-in_err-parent-clause-refused g c =
    let files = present (g.B.Backing.state c.args.backing.now).tree c.args.kept.now in
    let refused = refused_so (g.B.Backing.state c.args.backing.now) (g.B.Backing.state c.free_place.new.backing) c.in_err-parent.field-0.0
    (made_not files c.args.now c.args.path.now c.args.new c.in_err-parent.field-0.0 (search rules)) c.in_err-parent.ensures.refused in
    search (rules, refused)

pub returns-in_err-is_full-clause-looks : goal.returns-in_err-is_full-clause-looks
returns-in_err-is_full-clause-looks g c = looks_on c.free_place.ensures.looks c.is_full.ensures.looks

pub returns-then-branch-clause-looks : goal.returns-then-branch-clause-looks
returns-then-branch-clause-looks g c = looks_on c.free_place.ensures.looks c.is_full.ensures.looks

pub returns-then-is_used_up-clause-looks : goal.returns-then-is_used_up-clause-looks
returns-then-is_used_up-clause-looks g c = looks_on c.free_place.ensures.looks c.is_full.ensures.looks

pub returns-in_err-inode-clause-looks : goal.returns-in_err-inode-clause-looks
returns-in_err-inode-clause-looks g c = looks_on (looks_on c.free_place.ensures.looks c.is_full.ensures.looks) c.inode.ensures.looks

pub returns-in_err-group-clause-looks : goal.returns-in_err-group-clause-looks
returns-in_err-group-clause-looks g c = looks_on (looks_on c.free_place.ensures.looks c.is_full.ensures.looks) c.inode.ensures.looks

pub returns-clause-looks : goal.returns-clause-looks
returns-clause-looks g c = looks_on (looks_on c.free_place.ensures.looks c.is_full.ensures.looks) c.inode.ensures.looks

pub returns-clause-found : goal.returns-clause-found
returns-clause-found g c =
    let t1 = tree_on c.free_place.ensures.looks in
    let t2 = tree_on (looks_on c.free_place.ensures.looks c.is_full.ensures.looks) in
    let made = rw c.in_ok-group.ensures.ok at c.making.ensures in
    let inode = subst (λ t. c.in_ok-inode.field-0 ≡ inode_at (present t c.args.kept.now).tree c.in_ok-parent.field-0.parent.ino) t2 c.in_ok-inode.ensures.found in
    let top = c.highest-highest.ensures ∙ ap (λ t. t.highest) t2 in
    let group = made (present (g.B.Backing.state c.args.backing.now).tree c.args.kept.now).tree (sym top) (sym inode) in
    made_is (present (g.B.Backing.state c.args.backing.now).tree c.args.kept.now) c.args.now c.args.path.now c.args.new c.in_ok-parent.field-0.parent c.highest-highest.result c.in_ok-group.group
    (search rules) (search rules) (search rules) (search rules) (search rules) (search rules) (search (rules, group))
