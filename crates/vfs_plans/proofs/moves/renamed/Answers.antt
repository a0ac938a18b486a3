use Rattle.std.proofs.Common.{rules}
use Rattle.std.specs.Prelude.{Ok}
use Rattle.buffered_files.specs.Present.{present}
use Rattle.vfs_plans.proofs.Plans.{refused_so, renamed_is, renamed_not, tree_on}
use Rattle.vfs_plans.proofs.Walking.{looks_on}
use Rattle.vfs_plans.proofs.moves.renamed.Goals as goal

pub returns-in_err-from-clause-refused : goal.returns-in_err-from-clause-refused
returns-in_err-from-clause-refused g c =
    let files = present (g.B.Backing.state c.args.backing.now).tree c.args.kept.now in
    let refused = refused_so (g.B.Backing.state c.args.backing.now) (g.B.Backing.state c.ends_of.new.backing) c.in_err-from.field-0.0
    (renamed_not files c.args.now c.args.old.now c.args.new.now c.in_err-from.field-0.0 (search rules) (search rules)) c.in_err-from.ensures.refused in
    search (rules, refused)

pub returns-in_err-over-clause-looks : goal.returns-in_err-over-clause-looks
returns-in_err-over-clause-looks g c = looks_on c.ends_of.ensures.looks c.entry.ensures.looks

pub returns-in_err-plan-clause-looks : goal.returns-in_err-plan-clause-looks
returns-in_err-plan-clause-looks g c = looks_on (looks_on c.ends_of.ensures.looks c.entry.ensures.looks) c.moved.ensures.looks

pub returns-clause-looks : goal.returns-clause-looks
returns-clause-looks g c = looks_on (looks_on c.ends_of.ensures.looks c.entry.ensures.looks) c.moved.ensures.looks

pub returns-clause-found : goal.returns-clause-found
returns-clause-found g c =
    let t1 = tree_on c.ends_of.ensures.looks in
    let t2 = tree_on (looks_on c.ends_of.ensures.looks c.entry.ensures.looks) in
    renamed_is (present (g.B.Backing.state c.args.backing.now).tree c.args.kept.now) c.args.now c.args.old.now c.args.new.now _ _ c.in_ok-over.over (Ok (c.in_ok-plan.plan.0, c.in_ok-plan.plan.1))
    (search rules) (search rules) c.in_ok-from.ensures.from c.in_ok-from.ensures.to c.in_ok-from.ensures.apart (search rules) (search rules)
