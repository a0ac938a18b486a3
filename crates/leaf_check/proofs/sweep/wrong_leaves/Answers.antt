use Rattle.std.proofs.Common.{List, sym, subst}
use Rattle.std.specs.List.{AllByRecursion}
use Rattle.ubifs_base.specs.RawOf.{raw_of}
use Rattle.index_tree.specs.declared.leaf.Leaf.{Leaf}
use Rattle.sound_image.specs.Leaves.{IsSoundLeaf}
use Rattle.leaf_check.specs.Overlaps.{AreLeavesInOrder, IsNarrow}
use Rattle.leaf_check.proofs.Checked.{ok_then, swept_seen}
use Rattle.leaf_check.proofs.sweep.wrong_leaves.Goals as goal

pub sweep-requires-clause-order : goal.sweep-requires-clause-order
sweep-requires-clause-order g c = let P : List Leaf → Type 0 = λ xs. AreLeavesInOrder xs in subst P (sym c.deref.ensures.value) c.in_ok-ordered.ensures.order

pub sweep-requires-clause-narrow : goal.sweep-requires-clause-narrow
sweep-requires-clause-narrow g c = let P : List Leaf → Type 0 = λ xs. AllByRecursion IsNarrow xs in subst P (sym c.deref.ensures.value) c.in_ok-ordered.ensures.narrow

pub returns-clause-swept : goal.returns-clause-swept
returns-clause-swept g c =
    let old = g.V.Volume.state c.args.volume.now in
    ok_then c.sweep.result _ _ (λ wrong h. swept_seen (IsSoundLeaf old.holds (raw_of c.args.geometry.now) c.args.props.now) c.args.leaves.now c.in_ok-ordered.ordered.items c.deref.result.now wrong.items c.deref.ensures.value c.in_ok-ordered.ensures.same h) c.sweep.ensures.swept
