use Rattle.mounted_index.specs.RunningLaws.{KeepsRunning-read}
use Rattle.index_tests.proofs.Steps.{runs_on}
use Rattle.index_tests.proofs.commit_step_tests.are_all_beside.Goals as goal

pub leaves_between-found-requires : goal.leaves_between-found-requires
leaves_between-found-requires g c = let own = c.requires.running in record { shown = (own.row, own.running.shown) }

pub returns : goal.returns
returns g c =
    let own = c.requires.running in
    let a = g.V.Volume.state c.args.volume.now in
    let b = g.V.Volume.state c.leaves_between-found.new.volume in
    let look = c.leaves_between-found.ensures in
    let after = c.leaves_between-found.new.self in
    runs_on c.args.geometry.now a b c.args.index.now after c.args.next own.row own
    (KeepsRunning-read a b c.args.index.now after look.reads.keeps look.reads.shape look.kept look.nodes own.kept own.given own.begun own.row own.running) look.reads.shape look.kept.geometry
