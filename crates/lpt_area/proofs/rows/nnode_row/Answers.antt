use Rattle.std.proofs.Common.{List, [], refl, subst, sym, arith, rules, length-take, length-append, length-drop, inl, inr}
use Rattle.std.specs.List.{All}
use Rattle.std.proofs.lemmas.Grind
use native.Mathlib.Omega
use Rattle.ubi_volume.specs.VolumeLaws.{Keeps-none, Keeps-then, SameShape-then}
use Rattle.ubifs_base.specs.RawOf.{raw_of}
use Rattle.media_lpt.specs.declared.nnode.LptPlace.{LptPlace}
use Rattle.media_lpt.specs.Nodes.{IsPlace}
use Rattle.lpt_area.specs.Only.{IsOnly}
use Rattle.lpt_area.specs.Tree.{Row, HasNnode, no_place}
use Rattle.lpt_area.proofs.Kept.{memory_cause, not_volume}
use Rattle.lpt_area.proofs.PlaceRows.{row_none}
use Rattle.lpt_area.proofs.ReadSoFar.{read_next, read_fails}
use Rattle.std.proofs.lemmas.List.Elements.{All-append}
use Rattle.lpt_area.specs.KeptLaws.{kept_start, kept_next, sure_of_one, stays_sure}
use Rattle.lpt_area.proofs.rows.nnode_row.Goals as goal

pub loop-place-init : goal.loop-place-init
loop-place-init g c =
    let P : List LptPlace → Type 0 = λ xs. IsOnly (Row (HasNnode (raw_of c.args.geo.now)) no_place (g.V.Volume.state c.args.volume.now).holds []) xs in
    (record { kept = kept_start (g.V.Volume.state c.args.volume.now); only = subst P (sym c.new-all.ensures.items) (row_none (HasNnode (raw_of c.args.geo.now)) no_place (g.V.Volume.state c.args.volume.now).holds) }, (let A : List LptPlace → Type 0 = λ xs. All (IsPlace (raw_of c.args.geo.now)) xs in subst A (sym c.new-all.ensures.items) (λ k d lt. absurd (omega (arith, lt)))), search rules)

pub returns-in_err-four-clause-keeps : goal.returns-in_err-four-clause-keeps
returns-in_err-four-clause-keeps g c = Keeps-then _ _ _ c.loop-place.invariant.0.kept.keeps c.nnode_at.ensures.keeps

pub returns-in_default-clause-none : goal.returns-in_default-clause-none
returns-in_default-clause-none g c =
    read_fails (HasNnode (raw_of c.args.geo.now)) no_place _ (g.V.Volume.state c.loop-place.volume) c.args.row.now c.loop-place.place-index _ c.loop-place.invariant.0.kept c.loop-place-test.true
    (rw c.in_default.is at c.in_ok-four.ensures.none)

pub returns-in_default-clause-keeps : goal.returns-in_default-clause-keeps
returns-in_default-clause-keeps g c = Keeps-then _ _ _ c.loop-place.invariant.0.kept.keeps c.nnode_at.ensures.keeps

pub returns-in_default-clause-sure : goal.returns-in_default-clause-sure
returns-in_default-clause-sure g c s =
    let a = g.V.Volume.state c.args.volume.now in
    let now = g.V.Volume.state c.loop-place.volume in
    let new = g.V.Volume.state c.nnode_at.new.volume in
    let sure = stays_sure a now new c.loop-place.invariant.0.kept.sure c.nnode_at.ensures.keeps.spent (sure_of_one now new c.nnode_at.result c.nnode_at.ensures.sure) in
    elim (sure s) [ inl gone ↦ inl gone | inr fine ↦ inr (fine.0, (fine.1, tt)) ]

pub returns-in_err-extend_from_slice-clause-keeps : goal.returns-in_err-extend_from_slice-clause-keeps
returns-in_err-extend_from_slice-clause-keeps g c = Keeps-then _ _ _ c.loop-place.invariant.0.kept.keeps c.nnode_at.ensures.keeps

pub returns-in_err-extend_from_slice-clause-sure : goal.returns-in_err-extend_from_slice-clause-sure
returns-in_err-extend_from_slice-clause-sure g c =
    let a = g.V.Volume.state c.args.volume.now in
    let now = g.V.Volume.state c.loop-place.volume in
    let new = g.V.Volume.state c.nnode_at.new.volume in
    let sure = stays_sure a now new c.loop-place.invariant.0.kept.sure c.nnode_at.ensures.keeps.spent (sure_of_one now new c.nnode_at.result c.nnode_at.ensures.sure) in
    search (rules, sure)

pub loop-place-preserved : goal.loop-place-preserved
loop-place-preserved g c =
    let a = g.V.Volume.state c.args.volume.now in
    let now = g.V.Volume.state c.loop-place.volume in
    let new = g.V.Volume.state c.nnode_at.new.volume in
    let before = c.loop-place.invariant in
    let kept = kept_next a now new before.0.kept c.nnode_at.ensures.keeps c.nnode_at.ensures.shape c.in_ok-four.ensures.cause (sure_of_one now new c.nnode_at.result c.nnode_at.ensures.sure) in (
      read_next (HasNnode (raw_of c.args.geo.now)) no_place a now c.args.row.now c.loop-place.place-index _ new c.loop-place.all.items c.in-Some.four c.extend_from_slice.new.self.items before.0 c.loop-place-test.true
          (rw c.in-Some.is at c.in_ok-four.ensures.found) (search (rules, c.in_ok-extend_from_slice.ensures.items)) kept,
      (let A : List LptPlace → Type 0 = λ xs. All (IsPlace (raw_of c.args.geo.now)) xs in subst A (sym (search (rules, c.in_ok-extend_from_slice.ensures.items))) (All-append (IsPlace (raw_of c.args.geo.now)) c.loop-place.all.items c.in-Some.four before.1 (rw c.in-Some.is at c.in_ok-four.ensures.places))),
      search (rules, length-take, length-append, length-drop),
    )

pub returns-in_err-node-clause-found : goal.returns-in_err-node-clause-found
returns-in_err-node-clause-found g c = grind (Omega.arith, Grind.common_steps) steps 2000000

pub returns-in_err-node-clause-places : goal.returns-in_err-node-clause-places
returns-in_err-node-clause-places g c = grind (Omega.arith, Grind.common_steps) steps 2000000

pub returns-in_err-node-clause-none : goal.returns-in_err-node-clause-none
returns-in_err-node-clause-none g c = grind (Omega.arith, Grind.common_steps) steps 2000000

pub returns-in_err-node-clause-keeps : goal.returns-in_err-node-clause-keeps
returns-in_err-node-clause-keeps g c = Keeps-none _

pub returns-in_err-node-clause-cause : goal.returns-in_err-node-clause-cause
returns-in_err-node-clause-cause g c = memory_cause _ _ _ c.from_residual.ensures.1 (omega arith)

pub returns-in_err-node-clause-sure : goal.returns-in_err-node-clause-sure
returns-in_err-node-clause-sure g c = λ s. inr (s, (refl, not_volume _ c.from_residual.ensures.1))

pub returns-in_err-four-clause-found : goal.returns-in_err-four-clause-found
returns-in_err-four-clause-found g c = grind (Omega.arith, Grind.common_steps) steps 2000000

pub returns-in_err-four-clause-places : goal.returns-in_err-four-clause-places
returns-in_err-four-clause-places g c = grind (Omega.arith, Grind.common_steps) steps 2000000

pub returns-in_err-four-clause-none : goal.returns-in_err-four-clause-none
returns-in_err-four-clause-none g c = grind (Omega.arith, Grind.common_steps) steps 2000000

pub returns-in_err-four-clause-shape : goal.returns-in_err-four-clause-shape
returns-in_err-four-clause-shape g c = SameShape-then _ _ _ c.loop-place.invariant.0.kept.shape c.nnode_at.ensures.shape

pub returns-in_err-four-clause-cause : goal.returns-in_err-four-clause-cause
returns-in_err-four-clause-cause g c = grind (Omega.arith, Grind.common_steps) steps 2000000

pub returns-in_err-four-clause-sure : goal.returns-in_err-four-clause-sure
returns-in_err-four-clause-sure g c = grind (Omega.arith, Grind.common_steps) steps 2000000

pub returns-in_default-clause-shape : goal.returns-in_default-clause-shape
returns-in_default-clause-shape g c = SameShape-then _ _ _ c.loop-place.invariant.0.kept.shape c.nnode_at.ensures.shape

pub returns-in_default-clause-cause : goal.returns-in_default-clause-cause
returns-in_default-clause-cause g c = omega (arith, c.loop-place.invariant.0.kept.count, c.in_ok-four.ensures.cause)

pub returns-in_err-extend_from_slice-clause-shape : goal.returns-in_err-extend_from_slice-clause-shape
returns-in_err-extend_from_slice-clause-shape g c = SameShape-then _ _ _ c.loop-place.invariant.0.kept.shape c.nnode_at.ensures.shape

pub returns-in_err-extend_from_slice-clause-cause : goal.returns-in_err-extend_from_slice-clause-cause
returns-in_err-extend_from_slice-clause-cause g c = memory_cause _ _ _ c.from_residual-in_err-extend_from_slice.ensures.1 (omega (arith, c.loop-place.invariant.0.kept.count, c.in_ok-four.ensures.cause))

pub returns-clause-found : goal.returns-clause-found
returns-clause-found g c = grind (Omega.arith, Grind.common_steps) steps 2000000

pub returns-clause-places : goal.returns-clause-places
returns-clause-places g c = c.loop-place.invariant.1

pub returns-clause-none : goal.returns-clause-none
returns-clause-none g c = tt

pub returns-clause-keeps : goal.returns-clause-keeps
returns-clause-keeps g c = c.loop-place.invariant.0.kept.keeps

pub returns-clause-shape : goal.returns-clause-shape
returns-clause-shape g c = c.loop-place.invariant.0.kept.shape

pub returns-clause-cause : goal.returns-clause-cause
returns-clause-cause g c = c.loop-place.invariant.0.kept.count

pub returns-clause-sure : goal.returns-clause-sure
returns-clause-sure g c = λ s. elim (c.loop-place.invariant.0.kept.sure s) [ inl gone ↦ inl gone | inr fine ↦ inr (fine.0, (fine.1, tt)) ]

pub returns-in_err-extend_from_slice-clause-places : goal.returns-in_err-extend_from_slice-clause-places
returns-in_err-extend_from_slice-clause-places g c = grind (Omega.arith, Grind.common_steps) steps 2000000

pub returns-in_default-clause-places : goal.returns-in_default-clause-places
returns-in_default-clause-places g c = tt
