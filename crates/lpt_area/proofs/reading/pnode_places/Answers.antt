use Rattle.std.proofs.Common.{◌≡◌, ℕ, ◌-◌, List, subst, sym, arith, rules, ap, ◌∙◌, ◌++◌, ◌∷◌, [], inl, inr}
use Rattle.ubi_volume.specs.VolumeLaws.{Keeps-then, SameShape-then}
use Rattle.ubi_volume.specs.FaultLaws.{HasAreaCause-before}
use Rattle.ubifs_base.specs.Properties.{pnode_count, tree_height}
use Rattle.ubifs_base.specs.RawOf.{raw_of}
use Rattle.media_lpt.specs.declared.lprop.Lprop.{Lprop}
use Rattle.media_lpt.specs.declared.nnode.LptPlace.{LptPlace}
use Rattle.std.specs.List.{All}
use Rattle.media_lpt.specs.Nodes.{IsPlace}
use Rattle.lpt_area.specs.KeptLaws.{kept_next, sure_of_area}
use Rattle.lpt_area.specs.Only.{SameFor}
use Rattle.lpt_area.specs.Tree.{IsBelow}
use Rattle.lpt_area.proofs.Kept.{area_sure, still_geometry}
use Rattle.lpt_area.proofs.ReadSoFar.{LevelsSoFar, levels_start, levels_next, levels_fail}
use Rattle.lpt_area.proofs.reading.pnode_places.Goals as goal

pub loop-level-init : goal.loop-level-init
loop-level-init g c =
    levels_start (raw_of c.args.geo.now) (g.V.Volume.state c.args.volume.now) c.args.root _ _ c.requires.root c.tree_height-level.ensures.number
    (c.in_ok-push.ensures.items ∙ ap (λ (xs : List LptPlace). xs ++ c.args.root ∷ []) c.new-row.ensures.items)

pub nnode_row-requires-clause-geometry : goal.nnode_row-requires-clause-geometry
nnode_row-requires-clause-geometry g c =
    still_geometry (raw_of c.args.geo.now) (g.V.Volume.state c.args.volume.now) (g.V.Volume.state c.loop-level.volume) c.requires.geometry c.loop-level.invariant.kept.shape

pub nnode_row-requires-clause-row : goal.nnode_row-requires-clause-row
nnode_row-requires-clause-row g c = let P : List LptPlace → Type 0 = λ r. All (IsPlace (raw_of c.args.geo.now)) r in subst P (sym c.deref.ensures.value) c.loop-level.invariant.places

pub returns-in_err-below-clause-keeps : goal.returns-in_err-below-clause-keeps
returns-in_err-below-clause-keeps g c = Keeps-then _ _ _ c.loop-level.invariant.kept.keeps c.nnode_row.ensures.keeps

pub returns-in_err-below-clause-shape : goal.returns-in_err-below-clause-shape
returns-in_err-below-clause-shape g c = SameShape-then _ _ _ c.loop-level.invariant.kept.shape c.nnode_row.ensures.shape

pub returns-in_err-below-clause-cause : goal.returns-in_err-below-clause-cause
returns-in_err-below-clause-cause g c = search (rules, HasAreaCause-before (g.V.Volume.state c.args.volume.now).faults (g.V.Volume.state c.loop-level.volume).faults (g.V.Volume.state c.nnode_row.new.volume).faults c.nnode_row.result c.loop-level.invariant.kept.count c.nnode_row.ensures.cause)

pub returns-in_err-below-clause-sure : goal.returns-in_err-below-clause-sure
returns-in_err-below-clause-sure g c =
    search (rules, area_sure (g.V.Volume.state c.args.volume.now) (g.V.Volume.state c.loop-level.volume) (g.V.Volume.state c.nnode_row.new.volume) c.nnode_row.result c.loop-level.invariant.kept c.nnode_row.ensures.keeps c.nnode_row.ensures.sure)

pub returns-in_default-clause-none : goal.returns-in_default-clause-none
returns-in_default-clause-none g c =
    let P : List LptPlace → Type 0 = λ r. LevelsSoFar (raw_of c.args.geo.now) (g.V.Volume.state c.args.volume.now) (g.V.Volume.state c.loop-level.volume) c.args.root c.loop-level.level r in
    levels_fail (raw_of c.args.geo.now) (g.V.Volume.state c.args.volume.now) (g.V.Volume.state c.loop-level.volume) c.args.root c.loop-level.level (c.loop-level.level - 1) c.deref.result.now (subst P (sym c.deref.ensures.value) c.loop-level.invariant)
    (omega (arith, c.loop-level-test.true)) (rw c.in_default.is at c.in_ok-below.ensures.none)

pub returns-in_default-clause-keeps : goal.returns-in_default-clause-keeps
returns-in_default-clause-keeps g c = Keeps-then _ _ _ c.loop-level.invariant.kept.keeps c.nnode_row.ensures.keeps

pub returns-in_default-clause-shape : goal.returns-in_default-clause-shape
returns-in_default-clause-shape g c = SameShape-then _ _ _ c.loop-level.invariant.kept.shape c.nnode_row.ensures.shape

pub returns-in_default-clause-cause : goal.returns-in_default-clause-cause
returns-in_default-clause-cause g c = omega (arith, c.loop-level.invariant.kept.count, c.in_ok-below.ensures.cause)

pub returns-in_default-clause-sure : goal.returns-in_default-clause-sure
returns-in_default-clause-sure g c =
    search (rules, area_sure (g.V.Volume.state c.args.volume.now) (g.V.Volume.state c.loop-level.volume) (g.V.Volume.state c.nnode_row.new.volume) c.nnode_row.result c.loop-level.invariant.kept c.nnode_row.ensures.keeps c.nnode_row.ensures.sure)

pub loop-level-preserved : goal.loop-level-preserved
loop-level-preserved g c =
    let a = g.V.Volume.state c.args.volume.now in
    let now = g.V.Volume.state c.loop-level.volume in
    let new = g.V.Volume.state c.nnode_row.new.volume in
    let before = c.loop-level.invariant in
    let P : List LptPlace → Type 0 = λ r. LevelsSoFar (raw_of c.args.geo.now) a now c.args.root c.loop-level.level r in
    levels_next (raw_of c.args.geo.now) a now new c.args.root c.loop-level.level _ c.deref.result.now c.in-Some.below.items _ _ (subst P (sym c.deref.ensures.value) before) (omega (arith, c.loop-level-test.true))
    (rw c.in-Some.is at c.in_ok-below.ensures.found) (rw c.in-Some.is at c.in_ok-below.ensures.places) c.row_len.ensures c.truncate.ensures.items
    (kept_next a now new before.kept c.nnode_row.ensures.keeps c.nnode_row.ensures.shape c.in_ok-below.ensures.cause (sure_of_area now new c.nnode_row.result c.nnode_row.ensures.sure))

pub returns-clause-found : goal.returns-clause-found
returns-clause-found g c =
    let a = g.V.Volume.state c.args.volume.now in
    let top : List Lprop → Type 0 = IsBelow (raw_of c.args.geo.now) a.holds (tree_height (pnode_count (raw_of c.args.geo.now))) (c.args.root ∷ []) in
    let P : ℕ → Type 0 = λ l. SameFor top (IsBelow (raw_of c.args.geo.now) a.holds l c.loop-level.row.items) in
    let low : c.loop-level.level ≡ 0 = omega (arith, c.loop-level-test.false) in
    subst P low c.loop-level.invariant.same

pub returns-clause-places : goal.returns-clause-places
returns-clause-places g c = c.loop-level.invariant.places

pub returns-clause-keeps : goal.returns-clause-keeps
returns-clause-keeps g c = c.loop-level.invariant.kept.keeps

pub returns-clause-shape : goal.returns-clause-shape
returns-clause-shape g c = c.loop-level.invariant.kept.shape

pub returns-clause-cause : goal.returns-clause-cause
returns-clause-cause g c = c.loop-level.invariant.kept.count

pub returns-clause-sure : goal.returns-clause-sure
returns-clause-sure g c sure = elim (c.loop-level.invariant.kept.sure sure) [ inl gone ↦ inl gone | inr fine ↦ inr (fine.0, (fine.1, tt)) ]
