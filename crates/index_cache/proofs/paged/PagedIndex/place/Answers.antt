use Rattle.index_cache.proofs.paged.PagedIndex.place.Goals as goal

pub invariant_of-self : goal.invariant_of-self
invariant_of-self c =
    let s = c.args.self.now in
    let root = c.set_place.ensures.roots s.root (record { there = s.there; bounded = s.bounded; keys = s.keys }) in
    let frozen = c.set_place.ensures.roots s.frozen (record { there = s.frozen_there; bounded = s.frozen_bounded; keys = s.frozen_keys }) in
    record { there = root.there; bounded = root.bounded; keys = root.keys; frozen_there = frozen.there; frozen_bounded = frozen.bounded; frozen_keys = frozen.keys }
