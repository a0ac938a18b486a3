use Rattle.std.proofs.Common.{◌*◌, length, rules}
use Rattle.buffered_files.specs.CallLaws.{Goes-granted}
use Rattle.buffered_files.proofs.Cutting.{seen_granted}
use Rattle.buffered_files.proofs.Growing.{grows_granted, grows_refused}
use Rattle.buffered_files.proofs.admission.admit_again.Goals as goal

pub returns-in-Ok-admit-clause-goes : goal.returns-in-Ok-admit-clause-goes
returns-in-Ok-admit-clause-goes g c =
    Goes-granted (2 * length c.args.kept.now.pages.dirty) (g.B.Backing.state c.args.backing.now) (g.B.Backing.state c.make_room.new.backing) (g.B.Backing.state c.admit.new.self) c.args.need.now c.make_room.ensures.goes c.in-Ok-admit.ensures.ok

pub returns-in-Ok-admit-clause-grows : goal.returns-in-Ok-admit-clause-grows
returns-in-Ok-admit-clause-grows g c =
    grows_granted (g.B.Backing.state c.args.backing.now) (g.B.Backing.state c.make_room.new.backing) (g.B.Backing.state c.admit.new.self) c.args.need.now c.args.kept.now c.make_room.new.kept c.in-Ok.ensures.grows c.in-Ok-admit.ensures.ok

pub returns-in-Err-clause-grows : goal.returns-in-Err-clause-grows
returns-in-Err-clause-grows g c =
    let f = grows_refused (Unit {0}) (Unit {0}) 0 2 c.in-Err.fault (g.B.Backing.state c.args.backing.now) (g.B.Backing.state c.make_room.new.backing) c.args.kept.now c.make_room.new.kept c.in-Err.ensures.grows in
    search (rules, f)

pub returns-in-Ok-admit-clause-cut : goal.returns-in-Ok-admit-clause-cut
returns-in-Ok-admit-clause-cut g c =
    seen_granted (g.B.Backing.state c.args.backing.now) (g.B.Backing.state c.make_room.new.backing) (g.B.Backing.state c.admit.new.self) c.args.kept.now c.args.need.now c.make_room.ensures.cut c.in-Ok-admit.ensures.ok
