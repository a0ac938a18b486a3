use Rattle.std.proofs.Common.{ap}
use Rattle.ubifs_base.specs.declared.geometry.Geometry.{Geometry}
use Rattle.index_tests.proofs.Steps.{one_apart, taken_well}
use Rattle.index_tests.proofs.mounted_index_tests.committed.Goals as goal

pub returns-in-Ok-at_root : goal.returns-in-Ok-at_root
returns-in-Ok-at_root g c =
    let own = c.requires.standing in
    let next = c.args.next.now in
    let commit = c.in-Ok.ensures.committed own.row own.kept (record { shown = own.shown; stands = own.stands; apart = one_apart own.kept next own.before }) in
    taken_well c.args.geometry.now (g.V.Volume.state c.args.volume.now) (g.V.Volume.state c.commit.new.volume) own.kept own.row commit.now c.args.index.now c.in-Ok-at_root.taken next c.args.index.now.geometry.fanout
    c.in-Ok.at.root c.in-Some.root c.commit.ensures.answer.shape own.fits own.before commit.at.root c.in-Some.is (ap (λ (geo : Geometry). geo.fanout) own.own) c.in-Ok-at_root.ensures.shown (commit.stands tt)
    c.in-Ok-at_root.ensures.geometry
