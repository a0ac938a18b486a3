use Rattle.std.proofs.Common.{ap}
use Rattle.ubifs_base.specs.declared.geometry.Geometry.{Geometry}
use Rattle.benchmarks.proofs.OnVolume.{one_apart, taken_well}
use Rattle.benchmarks.proofs.volume.commit.Goals as goal

pub returns-in_ok-index-in-Some : goal.returns-in_ok-index-in-Some
returns-in_ok-index-in-Some g c =
    let own = c.requires.standing in
    let next = c.args.next.now in
    let commit = c.in_ok-at.ensures.committed own.row own.kept (record { shown = own.shown; stands = own.stands; apart = one_apart own.kept next own.before }) in
    record {
      standing =
          taken_well c.args.geometry.now (g.V.Volume.state c.args.volume.now) (g.V.Volume.state c.commit.new.volume) own.kept own.row commit.now c.args.index.now c.in_ok-index-in-Some.field-0 next c.args.index.now.geometry.fanout
          c.in_ok-at.at.root c.in-Some.root c.commit.ensures.answer.shape own.fits own.before commit.at.root c.in-Some.is (ap (λ (geo : Geometry). geo.fanout) own.own) c.in_ok-index-in-Some.ensures.shown (commit.stands tt)
          c.in_ok-index-in-Some.ensures.geometry;
    }
