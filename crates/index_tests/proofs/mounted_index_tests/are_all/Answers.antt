use Rattle.index_tests.proofs.Steps.{looked_up}
use Rattle.index_tests.proofs.mounted_index_tests.are_all.Goals as goal

pub leaves_between-found-requires : goal.leaves_between-found-requires
leaves_between-found-requires g c = let own = c.requires.standing in record { shown = (own.row, own.shown) }

pub returns : goal.returns
returns g c =
    looked_up c.args.geometry.now (g.V.Volume.state c.args.volume.now) (g.V.Volume.state c.leaves_between-found.new.volume) c.args.index.now c.leaves_between-found.new.self c.args.next c.requires.standing c.leaves_between-found.ensures.reads.keeps
    c.leaves_between-found.ensures.reads.shape c.leaves_between-found.ensures.kept
