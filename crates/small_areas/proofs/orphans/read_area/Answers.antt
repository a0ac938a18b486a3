use Rattle.std.proofs.Common.{◌+◌, ◌∙◌, inl, inr, rules}
use Rattle.std.proofs.lemmas.Grind
use native.Mathlib.Omega
use Rattle.ubifs_base.specs.Areas.{orph_first}
use Rattle.ubifs_base.specs.RawOf.{raw_of}
use Rattle.ubi_volume.specs.FaultLaws.{HasAreaCause-before}
use Rattle.ubi_volume.specs.Faults.{IsNotVolume}
use Rattle.ubi_volume.specs.VolumeLaws.{Keeps-then}
use Rattle.small_areas.proofs.Kept.{area_sure, keeps_on_then}
use Rattle.small_areas.proofs.OrphanLists.{orphans_next}
use Rattle.small_areas.proofs.orphans.read_area.Goals as goal

pub loop-at-preserved : goal.loop-at-preserved
loop-at-preserved g c =
    let a = g.V.Volume.state c.args.volume.now in
    let b = g.V.Volume.state c.loop-at.volume in
    let e = g.V.Volume.state c.read_list.new.volume in
    let at = c.loop-at.at in
    let there = c.orph_first-first.result in
    let kept = c.loop-at.invariant.1 in (
      orphans_next a.holds b.holds (orph_first (raw_of c.args.geometry.now)) there at c.loop-at.inos.items c.read_list.new.inos.items c.loop-at.invariant.0 c.orph_first-first.ensures (kept.keeps.holds (there + at)) c.in_ok-read_list.ensures.read,
      keeps_on_then a b e (IsNotVolume c.read_list.result) kept c.read_list.ensures.keeps c.read_list.ensures.shape c.in_ok-read_list.ensures.cause c.read_list.ensures.sure,
      c.read_list.ensures.len ∙ c.loop-at.invariant.2,
    )

pub returns-in_err-read_list-clause-read : goal.returns-in_err-read_list-clause-read
returns-in_err-read_list-clause-read g c = grind (Omega.arith, Grind.common_steps) steps 2000000

pub returns-in_err-read_list-clause-keeps : goal.returns-in_err-read_list-clause-keeps
returns-in_err-read_list-clause-keeps g c = Keeps-then _ _ _ c.loop-at.invariant.1.keeps c.read_list.ensures.keeps

pub returns-in_err-read_list-clause-cause : goal.returns-in_err-read_list-clause-cause
returns-in_err-read_list-clause-cause g c =
    let a = g.V.Volume.state c.args.volume.now in
    let b = g.V.Volume.state c.loop-at.volume in
    let e = g.V.Volume.state c.read_list.new.volume in
    search (rules, HasAreaCause-before a.faults b.faults e.faults c.read_list.result c.loop-at.invariant.1.count c.read_list.ensures.cause)

pub returns-in_err-read_list-clause-sure : goal.returns-in_err-read_list-clause-sure
returns-in_err-read_list-clause-sure g c =
    let a = g.V.Volume.state c.args.volume.now in
    let b = g.V.Volume.state c.loop-at.volume in
    let e = g.V.Volume.state c.read_list.new.volume in
    search (rules, area_sure a b e c.read_list.result c.loop-at.invariant.1 c.read_list.ensures.keeps c.read_list.ensures.sure)

pub returns-clause-read : goal.returns-clause-read
returns-clause-read g c = grind (Omega.arith, Grind.common_steps) steps 2000000

pub returns-clause-sure : goal.returns-clause-sure
returns-clause-sure g c s = elim (c.loop-at.invariant.1.sure s) [ inl gone ↦ inl gone | inr fine ↦ inr (fine.0, (fine.1, tt)) ]
