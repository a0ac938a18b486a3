use Rattle.node_table.specs.UnloadedRoots.{root_moved}
use Rattle.index_cache.proofs.paged.PagedIndex.remove.Goals as goal

pub returns-in_err-found-clause-stands : goal.returns-in_err-found-clause-stands
returns-in_err-found-clause-stands g c =
    let reads = c.holds.ensures.reads in
    let s = c.args.self.now in
    root_moved (g.V.Volume.state c.args.volume.now) (g.V.Volume.state c.holds.new.volume) s.table.nodes.items s.root reads.keeps reads.shape c.requires.stands

pub make-requires-clause-stands : goal.make-requires-clause-stands
make-requires-clause-stands g c =
    let reads = c.holds.ensures.reads in
    let s = c.args.self.now in
    root_moved (g.V.Volume.state c.args.volume.now) (g.V.Volume.state c.holds.new.volume) s.table.nodes.items s.root reads.keeps reads.shape c.requires.stands
