use Rattle.node_table.specs.UnloadedRoots.{root_moved, root_stays}
use Rattle.index_cache.proofs.paged.PagedIndex.remove_range.Goals as goal

pub invariant_of-self : goal.invariant_of-self
invariant_of-self g c =
    let s = c.args.self.now in
    let old = s.table.nodes.items in
    let new = c.remove_range.new.self.nodes.items in
    let added = c.remove_range.ensures.added in
    let root = c.roots_stay.ensures.sound old new s.root added (record { there = s.there; bounded = s.bounded; keys = s.keys }) in
    let frozen = c.roots_stay.ensures.sound old new s.frozen added (record { there = s.frozen_there; bounded = s.frozen_bounded; keys = s.frozen_keys }) in
    record { there = root.there; bounded = root.bounded; keys = root.keys; frozen_there = frozen.there; frozen_bounded = frozen.bounded; frozen_keys = frozen.keys }

pub invariant_of-self-2 : goal.invariant_of-self-2
invariant_of-self-2 g c =
    let s = c.args.self.now in
    let old = s.table.nodes.items in
    let new = c.remove_range.new.self.nodes.items in
    let root = c.in_ok-left.ensures.root in
    let frozen = c.roots_stay.ensures.sound old new s.frozen c.remove_range.ensures.added (record { there = s.frozen_there; bounded = s.frozen_bounded; keys = s.frozen_keys }) in
    record { there = root.there; bounded = root.bounded; keys = root.keys; frozen_there = frozen.there; frozen_bounded = frozen.bounded; frozen_keys = frozen.keys }

pub returns-in_err-left-clause-stands : goal.returns-in_err-left-clause-stands
returns-in_err-left-clause-stands g c =
    let s = c.args.self.now in
    let a = g.V.Volume.state c.args.volume.now in
    let b = g.V.Volume.state c.remove_range.new.volume in
    let reads = c.remove_range.ensures.reads in
    root_stays b s.table.nodes.items c.remove_range.new.self.nodes.items s.root c.remove_range.ensures.added s.there (root_moved a b s.table.nodes.items s.root reads.keeps reads.shape c.requires.stands)
