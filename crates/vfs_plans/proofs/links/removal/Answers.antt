use Rattle.std.proofs.Common.{sym}
use Rattle.buffered_files.specs.Present.{present}
use Rattle.vfs_plans.proofs.links.removal.Goals as goal

pub returns-clause-found : goal.returns-clause-found
returns-clause-found g c =
    let made = rw c.in_ok-group.ensures.ok at c.removing.ensures in
    made (present (g.B.Backing.state c.args.backing.now).tree c.args.kept.now) (sym c.has_open-held_open.ensures) (sym c.in_ok-parent.ensures.found)
