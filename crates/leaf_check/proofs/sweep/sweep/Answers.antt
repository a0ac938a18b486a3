use Rattle.std.proofs.Common.{List, None, ◌++◌, ◌∷◌, [], refl, sym, subst, ap, ◌∙◌, append_assoc}
use Rattle.std.specs.List.{AllByRecursion}
use Rattle.ubifs_base.specs.RawOf.{raw_of}
use Rattle.index_tree.specs.declared.leaf.Leaf.{Leaf}
use Rattle.sound_image.specs.Leaves.{HasItsNode, IsSoundLeaf}
use Rattle.image_check.specs.KeptLaws.{kept_next, kept_start, sure_of_area}
use Rattle.leaf_check.proofs.Checked.{ascend_of}
use Rattle.leaf_check.proofs.CommittedLeaves.{all_behind, its_moved, no_more}
use Rattle.leaf_check.proofs.Judged.{judged_moved, past_of}
use Rattle.leaf_check.proofs.Overlaps.{last_more}
use Rattle.leaf_check.proofs.Sweeps.{swept_end, swept_next, swept_past, swept_start}
use Rattle.leaf_check.proofs.sweep.sweep.Goals as goal

pub sweeping-init : goal.sweeping-init
sweeping-init g c =
    let old = g.V.Volume.state c.args.volume.now in
    (kept_start old, c.requires.room, [], refl, refl, c.requires.intact, swept_start (IsSoundLeaf old.holds (raw_of c.args.geometry.now) c.args.props.now) c.args.ordered.now _ c.new-wrong.ensures.items)

pub returns-then-is_past-clause-swept : goal.returns-then-is_past-clause-swept
returns-then-is_past-clause-swept g c =
    let old = g.V.Volume.state c.args.volume.now in
    let i = c.sweeping.invariant in
    let past = past_of c.deref.result.now c.sweeping.wrong.items c.in-Some.leaf.now c.deref.ensures.value (c.is_past.ensures c.if-is_past.true) in
    swept_past (IsSoundLeaf old.holds (raw_of c.args.geometry.now) c.args.props.now) i.2 c.in-Some.rest.now c.args.ordered.now c.sweeping.wrong.items c.in-Some.leaf.now past.0
    (sym i.3 ∙ ap (λ (xs : List Leaf). i.2 ++ xs) c.in-Some.ensures.cases.0) c.requires.narrow (ascend_of c.args.ordered.now c.requires.order) past.1 past.2 i.6

pub judge-requires-clause-intact : goal.judge-requires-clause-intact
judge-requires-clause-intact g c = λ h.
    let old = g.V.Volume.state c.args.volume.now in
    let now = g.V.Volume.state c.sweeping.volume in
    let i = c.sweeping.invariant in
    let first = c.is_first-seen.ensures h in
    let left = all_behind (HasItsNode old.holds) c.sweeping.known.now c.from_place-known.ensures.0 c.from_place-known.result.now c.from_place-known.ensures.1 i.5 in
    let Q : List Leaf → Type 0 = λ xs. AllByRecursion (HasItsNode old.holds) xs in
    its_moved old.holds now.holds c.in-Some.leaf.now (λ k. sym (i.0.keeps.holds k)) (subst Q first.1 left).0

pub sweeping-preserved : goal.sweeping-preserved
sweeping-preserved g c =
    let old = g.V.Volume.state c.args.volume.now in
    let now = g.V.Volume.state c.sweeping.volume in
    let new = g.V.Volume.state c.judge.new.volume in
    let i = c.sweeping.invariant in
    let leaf = c.in-Some.leaf.now in
    let rest = c.in-Some.rest.now in
    let IsSound = IsSoundLeaf old.holds (raw_of c.args.geometry.now) c.args.props.now in (
      kept_next old now new i.0 c.judge.ensures.keeps c.judge.ensures.shape c.in_ok-judge.ensures.cause (sure_of_area now new c.judge.result c.judge.ensures.sure),
      c.judge.ensures.len ∙ i.1,
      i.2 ++ leaf ∷ [],
      append_assoc i.2 (leaf ∷ []) rest ∙ ap (λ (xs : List Leaf). i.2 ++ xs) (sym c.in-Some.ensures.cases.0) ∙ i.3,
      sym (last_more None i.2 leaf),
      all_behind (HasItsNode old.holds) c.sweeping.known.now c.from_place-known.ensures.0 c.from_place-known.result.now c.from_place-known.ensures.1 i.5,
      swept_next IsSound i.2 rest c.args.ordered.now c.sweeping.wrong.items c.judge.new.wrong.items c.sweeping.last leaf
          (sym i.3 ∙ ap (λ (xs : List Leaf). i.2 ++ xs) c.in-Some.ensures.cases.0) i.4 c.requires.narrow (ascend_of c.args.ordered.now c.requires.order)
          (judged_moved now.holds old.holds (raw_of c.args.geometry.now) c.args.props.now c.sweeping.last leaf rest c.sweeping.wrong.items c.judge.new.wrong.items i.0.keeps.holds c.in_ok-judge.ensures.judged) i.6,
    )

pub returns-clause-swept : goal.returns-clause-swept
returns-clause-swept g c =
    let old = g.V.Volume.state c.args.volume.now in
    let i = c.sweeping.invariant in
    swept_end (IsSoundLeaf old.holds (raw_of c.args.geometry.now) c.args.props.now) i.2 c.sweeping.left.now c.args.ordered.now c.sweeping.wrong.items (no_more c.sweeping.left.now c.in_default.ensures.cases) (sym i.3) i.6
