use Rattle.std.proofs.Common.{◌++◌, ◌∙◌}
use Rattle.index_media.specs.Clean.{placed_of}
use Rattle.index_media.specs.PlacedRow.{lebs_of}
use Rattle.index_tests.proofs.Steps.{renewed_well}
use Rattle.index_tests.proofs.commit_step_tests.renewed.Goals as goal

pub returns : goal.returns
returns g c =
    let own = c.requires.running in
    let a = g.V.Volume.state c.args.volume.now in
    let end = c.end_commit-root.ensures.ended own.row own.begun own.kept own.given own.running in
    renewed_well c.args.geometry.now a c.args.index.now c.end_commit-root.new.self c.begin_commit-nodes.new.self c.args.next c.end_commit-root.result own end
    (c.begin_commit-nodes.ensures.begun own.row (own.given ++ lebs_of (placed_of end.now)) end.shown end.stands end.settled) (c.begin_commit-nodes.ensures.kept.geometry ∙ c.end_commit-root.ensures.geometry)
