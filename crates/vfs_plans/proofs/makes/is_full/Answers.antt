use Rattle.std.proofs.Common.{arith}
use Rattle.buffered_files.specs.Present.{present}
use Rattle.vfs_plans.proofs.FewLinks.{not_full}
use Rattle.vfs_plans.proofs.makes.is_full.Goals as goal

pub returns-then-highest-lt64997-clause-found : goal.returns-then-highest-lt64997-clause-found
returns-then-highest-lt64997-clause-found g c =
    let tree = (g.B.Backing.state c.args.backing.now).tree in
    let low = c.if-highest-lt64997.true in
    let told = c.highest-highest.ensures in
    not_full (present tree c.args.kept.now).tree c.args.dir c.args.kind (c.present_files_are_sound.ensures.proper tree c.args.kept.now c.requires.kept) (omega (arith, low, told))
