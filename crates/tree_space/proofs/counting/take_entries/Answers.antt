use Rattle.std.proofs.Common.{[], ◌∷◌, refl, ap}
use Rattle.std.specs.Prelude.{map}
use Rattle.ubifs_base.specs.RawOf.{raw_of}
use Rattle.image_maker.specs.Leaves.{entry_leaf}
use Rattle.tree_space.proofs.CountedLeaves.{begins, next_can, next_counted}
use Rattle.tree_space.proofs.counting.take_entries.Goals as goal

pub counting-init : goal.counting-init
counting-init c = begins (raw_of c.args.geometry.now) _ _ _ refl

pub take-requires-clause-can : goal.take-requires-clause-can
take-requires-clause-can c = (
  entry_leaf c.in-Some.entry.now,
  next_can (raw_of c.args.geometry.now) _ _ (entry_leaf c.in-Some.entry.now ∷ []) (map entry_leaf c.in-Some.rest.now) _ _ c.requires (ap (map entry_leaf) c.in-Some.ensures.cases.0) c.counting.invariant,
)

pub counting-preserved : goal.counting-preserved
counting-preserved c =
    next_counted (raw_of c.args.geometry.now) _ _ (entry_leaf c.in-Some.entry.now ∷ []) (map entry_leaf c.in-Some.rest.now) _ _ _ (ap (map entry_leaf) c.in-Some.ensures.cases.0) c.counting.invariant
    (c.take.ensures (entry_leaf c.in-Some.entry.now) c.entry_len.ensures.len)
