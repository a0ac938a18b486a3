use Rattle.index_tests.proofs.Steps.{looked_up}
use Rattle.index_tests.proofs.mounted_index_tests.is_size.Goals as goal

pub size-found-requires : goal.size-found-requires
size-found-requires g c = let own = c.requires.standing in record { shown = (own.row, own.shown) }

pub returns : goal.returns
returns g c =
    looked_up c.args.geometry.now (g.V.Volume.state c.args.volume.now) (g.V.Volume.state c.size-found.new.volume) c.args.index.now c.size-found.new.self c.args.next c.requires.standing c.size-found.ensures.reads.keeps
    c.size-found.ensures.reads.shape c.size-found.ensures.kept
