use Rattle.index_tests.proofs.Steps.{looked_up}
use Rattle.index_tests.proofs.mounted_index_tests.is_there.Goals as goal

pub find-found-requires : goal.find-found-requires
find-found-requires g c = let own = c.requires.standing in record { shown = (own.row, own.shown) }

pub returns : goal.returns
returns g c =
    looked_up c.args.geometry.now (g.V.Volume.state c.args.volume.now) (g.V.Volume.state c.find-found.new.volume) c.args.index.now c.find-found.new.self c.args.next c.requires.standing c.find-found.ensures.reads.keeps
    c.find-found.ensures.reads.shape c.find-found.ensures.kept
