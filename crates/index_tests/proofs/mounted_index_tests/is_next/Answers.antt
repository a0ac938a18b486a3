use Rattle.index_tests.proofs.Steps.{looked_up}
use Rattle.index_tests.proofs.mounted_index_tests.is_next.Goals as goal

pub after-found-requires : goal.after-found-requires
after-found-requires g c = let own = c.requires.standing in record { shown = (own.row, own.shown) }

pub returns : goal.returns
returns g c =
    looked_up c.args.geometry.now (g.V.Volume.state c.args.volume.now) (g.V.Volume.state c.after-found.new.volume) c.args.index.now c.after-found.new.self c.args.next c.requires.standing c.after-found.ensures.reads.keeps
    c.after-found.ensures.reads.shape c.after-found.ensures.kept
