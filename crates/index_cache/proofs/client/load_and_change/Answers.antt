use Rattle.std.specs.Prelude.{Ok}
use Rattle.node_cache.specs.Loaded.{IsReadOnlyCall}
use Rattle.node_table.proofs.Changed.{reads_then}
use Rattle.index_cache.specs.declared.paged.PagedIndex.{PagedIndex}
use Rattle.index_cache.proofs.client.load_and_change.Goals as goal

pub returns-clause-reads : goal.returns-clause-reads
returns-clause-reads g c =
    let a = g.V.Volume.state c.args.volume.now in
    let b = g.V.Volume.state c.at_root.new.volume in
    let d = g.V.Volume.state c.stage.new.volume in
    let two = c.in_ok-staged.ensures.reads in
    let then : IsReadOnlyCall {T = PagedIndex} b d (Ok c.adopt.new.self) = record { keeps = two.keeps; shape = two.shape; cause = two.cause; sure = two.sure } in
    reads_then a b d c.in_ok-index.index (Ok c.adopt.new.self) c.in_ok-index.ensures.reads then
