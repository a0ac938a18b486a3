use Rattle.node_table.specs.StandingRows.{standing_row}
use Rattle.index_cache.proofs.paged.PagedIndex.evict.Goals as goal

pub without_clean-requires-clause-root : goal.without_clean-requires-clause-root
without_clean-requires-clause-root g c = let s = c.args.self.now in record { there = s.there; bounded = s.bounded; keys = s.keys }

pub invariant_of-self-2 : goal.invariant_of-self-2
invariant_of-self-2 g c =
    let root = c.in_ok-made.ensures.root in
    record { there = root.there; bounded = root.bounded; keys = root.keys; frozen_there = root.there; frozen_bounded = root.bounded; frozen_keys = root.keys }

pub returns-in_err-made-clause-stands : goal.returns-in_err-made-clause-stands
returns-in_err-made-clause-stands g c = let s = c.args.self.now in standing_row (g.V.Volume.state c.args.volume.now) s.table.nodes.items s.root c.requires.stands
