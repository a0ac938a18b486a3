use Rattle.node_table.specs.UnloadedRoots.{root_moved, root_stays}
use Rattle.index_cache.proofs.paged.PagedIndex.stage.Goals as goal

pub invariant_of-self : goal.invariant_of-self
invariant_of-self g c =
    let s = c.args.self.now in
    let old = s.table.nodes.items in
    let new = c.stage.new.self.nodes.items in
    let added = c.stage.ensures.added in
    let root = c.roots_stay.ensures.sound old new s.root added (record { there = s.there; bounded = s.bounded; keys = s.keys }) in
    let frozen = c.roots_stay.ensures.sound old new s.frozen added (record { there = s.frozen_there; bounded = s.frozen_bounded; keys = s.frozen_keys }) in
    record { there = root.there; bounded = root.bounded; keys = root.keys; frozen_there = frozen.there; frozen_bounded = frozen.bounded; frozen_keys = frozen.keys }

pub returns-clause-stands : goal.returns-clause-stands
returns-clause-stands g c =
    let s = c.args.self.now in
    let a = g.V.Volume.state c.args.volume.now in
    let b = g.V.Volume.state c.stage.new.volume in
    let reads = c.stage.ensures.reads in
    root_stays b s.table.nodes.items c.stage.new.self.nodes.items s.root c.stage.ensures.added s.there (root_moved a b s.table.nodes.items s.root reads.keeps reads.shape c.requires.stands)

pub returns-in_err-root-clause-stands : goal.returns-in_err-root-clause-stands
returns-in_err-root-clause-stands g c =
    let s = c.args.self.now in
    let a = g.V.Volume.state c.args.volume.now in
    let b = g.V.Volume.state c.stage.new.volume in
    let reads = c.stage.ensures.reads in
    root_stays b s.table.nodes.items c.stage.new.self.nodes.items s.root c.stage.ensures.added s.there (root_moved a b s.table.nodes.items s.root reads.keeps reads.shape c.requires.stands)
