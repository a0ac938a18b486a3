use Rattle.std.proofs.Common.{◌≡◌, ℕ, List, subst, sym, ◌∷◌, [], take, ap, ◌∙◌, arith, inl, inr, rules}
use Rattle.std.proofs.lemmas.Grind
use native.Mathlib.Omega
use Rattle.ubi_volume.specs.FaultLaws.{HasAreaCause-before}
use Rattle.ubi_volume.specs.VolumeLaws.{Keeps-then, SameShape-then}
use Rattle.ubifs_base.specs.Areas.{main_lebs}
use Rattle.ubifs_base.specs.Properties.{pnode_count, tree_height}
use Rattle.ubifs_base.specs.RawOf.{raw_of}
use Rattle.media_lpt.specs.declared.lprop.Lprop.{Lprop}
use Rattle.media_lpt.specs.declared.nnode.LptPlace.{LptPlace}
use Rattle.lpt_area.specs.KeptLaws.{kept_next, kept_start, stays_sure, sure_of_area}
use Rattle.lpt_area.specs.Only.{SameFor, HasNone, IsOnly}
use Rattle.lpt_area.specs.Tree.{IsBelow, Row, HasPnode, empty_leb}
use Rattle.lpt_area.proofs.Decided.{pnodes_say, pnodes_fail, same_fails}
use Rattle.lpt_area.proofs.Kept.{area_sure}
use Rattle.lpt_area.proofs.PlaceRows.{row_moved, none_moved}
use Rattle.lpt_area.proofs.reading.read_below.Goals as goal

pub returns-in_default-2-clause-none : goal.returns-in_default-2-clause-none
returns-in_default-2-clause-none g c =
    let geo = raw_of c.args.geo.now in
    let a = g.V.Volume.state c.args.volume.now in
    let b = g.V.Volume.state c.pnode_places.new.volume in
    let row : List LptPlace = c.in-Some.row.items in
    let P : List LptPlace → Type 0 = λ r. HasNone (Row (HasPnode geo) (empty_leb geo) b.holds r) in
    let fails = subst P c.deref.ensures.value (rw c.in_default-2.is at c.in_ok-props.ensures.none) in
    same_fails (IsBelow geo a.holds (tree_height (pnode_count geo)) (c.args.root ∷ [])) (IsBelow geo a.holds 0 row) (rw c.in-Some.is at c.in_ok-row.ensures.found)
    (pnodes_fail geo a.holds row (none_moved (HasPnode geo) (empty_leb geo) a.holds b.holds row c.pnode_places.ensures.keeps.holds fails))

pub returns-clause-found : goal.returns-clause-found
returns-clause-found g c =
    let geo = raw_of c.args.geo.now in
    let a = g.V.Volume.state c.args.volume.now in
    let b = g.V.Volume.state c.pnode_places.new.volume in
    let row : List LptPlace = c.in-Some.row.items in
    let all : List Lprop = c.in-Some-2.props.items in
    let top : List Lprop → Type 0 = IsBelow geo a.holds (tree_height (pnode_count geo)) (c.args.root ∷ []) in
    let P : List LptPlace → Type 0 = λ r. IsOnly (Row (HasPnode geo) (empty_leb geo) b.holds r) all in
    let only = subst P c.deref.ensures.value (rw c.in-Some-2.is at c.in_ok-props.ensures.found) in
    let here = row_moved (HasPnode geo) (empty_leb geo) b.holds a.holds row all (λ k. sym (c.pnode_places.ensures.keeps.holds k)) only.0 in
    let same : SameFor top (IsBelow geo a.holds 0 row) = rw c.in-Some.is at c.in_ok-row.ensures.found in
    let taken : c.truncate.new.self.items ≡ take (main_lebs geo) all = c.truncate.ensures.items ∙ ap (λ (n : ℕ). take n all) c.main_lebs.ensures in
    subst top (sym taken) (same.1 (take (main_lebs geo) all) (pnodes_say geo a.holds row all here))

pub returns-in_err-row-clause-found : goal.returns-in_err-row-clause-found
returns-in_err-row-clause-found g c = grind (Omega.arith, Grind.common_steps) steps 2000000

pub returns-in_err-row-clause-none : goal.returns-in_err-row-clause-none
returns-in_err-row-clause-none g c = grind (Omega.arith, Grind.common_steps) steps 2000000

pub returns-in_default-clause-found : goal.returns-in_default-clause-found
returns-in_default-clause-found g c = grind (Omega.arith, Grind.common_steps) steps 2000000

pub returns-in_default-clause-sure : goal.returns-in_default-clause-sure
returns-in_default-clause-sure g c = grind (Omega.arith, Grind.common_steps) steps 2000000

pub returns-in_err-props-clause-found : goal.returns-in_err-props-clause-found
returns-in_err-props-clause-found g c = grind (Omega.arith, Grind.common_steps) steps 2000000

pub returns-in_err-props-clause-none : goal.returns-in_err-props-clause-none
returns-in_err-props-clause-none g c = grind (Omega.arith, Grind.common_steps) steps 2000000

pub returns-in_default-2-clause-found : goal.returns-in_default-2-clause-found
returns-in_default-2-clause-found g c = grind (Omega.arith, Grind.common_steps) steps 2000000

pub returns-clause-none : goal.returns-clause-none
returns-clause-none g c = grind (Omega.arith, Grind.common_steps) steps 2000000

pub returns-in_err-props-clause-keeps : goal.returns-in_err-props-clause-keeps
returns-in_err-props-clause-keeps g c = Keeps-then _ _ _ c.pnode_places.ensures.keeps c.pnode_row.ensures.keeps

pub returns-in_err-props-clause-shape : goal.returns-in_err-props-clause-shape
returns-in_err-props-clause-shape g c = SameShape-then _ _ _ c.pnode_places.ensures.shape c.pnode_row.ensures.shape

pub returns-in_default-2-clause-keeps : goal.returns-in_default-2-clause-keeps
returns-in_default-2-clause-keeps g c = Keeps-then _ _ _ c.pnode_places.ensures.keeps c.pnode_row.ensures.keeps

pub returns-in_default-2-clause-shape : goal.returns-in_default-2-clause-shape
returns-in_default-2-clause-shape g c = SameShape-then _ _ _ c.pnode_places.ensures.shape c.pnode_row.ensures.shape

pub returns-clause-keeps : goal.returns-clause-keeps
returns-clause-keeps g c = Keeps-then _ _ _ c.pnode_places.ensures.keeps c.pnode_row.ensures.keeps

pub returns-clause-shape : goal.returns-clause-shape
returns-clause-shape g c = SameShape-then _ _ _ c.pnode_places.ensures.shape c.pnode_row.ensures.shape

pub returns-in_err-props-clause-cause : goal.returns-in_err-props-clause-cause
returns-in_err-props-clause-cause g c =
    let a = g.V.Volume.state c.args.volume.now in
    let b = g.V.Volume.state c.pnode_places.new.volume in
    let e = g.V.Volume.state c.pnode_row.new.volume in
    search (rules, HasAreaCause-before a.faults b.faults e.faults c.pnode_row.result c.in_ok-row.ensures.cause c.pnode_row.ensures.cause)

pub returns-in_err-props-clause-sure : goal.returns-in_err-props-clause-sure
returns-in_err-props-clause-sure g c =
    let a = g.V.Volume.state c.args.volume.now in
    let b = g.V.Volume.state c.pnode_places.new.volume in
    let e = g.V.Volume.state c.pnode_row.new.volume in
    let kept = kept_next a a b (kept_start a) c.pnode_places.ensures.keeps c.pnode_places.ensures.shape c.in_ok-row.ensures.cause (sure_of_area a b c.pnode_places.result c.pnode_places.ensures.sure) in
    search (rules, area_sure a b e c.pnode_row.result kept c.pnode_row.ensures.keeps c.pnode_row.ensures.sure)

pub returns-in_default-2-clause-cause : goal.returns-in_default-2-clause-cause
returns-in_default-2-clause-cause g c = omega (arith, c.in_ok-row.ensures.cause, c.in_ok-props.ensures.cause)

pub returns-in_default-2-clause-sure : goal.returns-in_default-2-clause-sure
returns-in_default-2-clause-sure g c s =
    let a = g.V.Volume.state c.args.volume.now in
    let b = g.V.Volume.state c.pnode_places.new.volume in
    let e = g.V.Volume.state c.pnode_row.new.volume in
    let kept = kept_next a a b (kept_start a) c.pnode_places.ensures.keeps c.pnode_places.ensures.shape c.in_ok-row.ensures.cause (sure_of_area a b c.pnode_places.result c.pnode_places.ensures.sure) in
    elim (stays_sure a b e kept.sure c.pnode_row.ensures.keeps.spent (sure_of_area b e c.pnode_row.result c.pnode_row.ensures.sure) s) [ inl gone ↦ inl gone | inr fine ↦ inr (fine.0, (fine.1, tt)) ]

pub returns-clause-cause : goal.returns-clause-cause
returns-clause-cause g c = omega (arith, c.in_ok-row.ensures.cause, c.in_ok-props.ensures.cause)

pub returns-clause-sure : goal.returns-clause-sure
returns-clause-sure g c s =
    let a = g.V.Volume.state c.args.volume.now in
    let b = g.V.Volume.state c.pnode_places.new.volume in
    let e = g.V.Volume.state c.pnode_row.new.volume in
    let kept = kept_next a a b (kept_start a) c.pnode_places.ensures.keeps c.pnode_places.ensures.shape c.in_ok-row.ensures.cause (sure_of_area a b c.pnode_places.result c.pnode_places.ensures.sure) in
    elim (stays_sure a b e kept.sure c.pnode_row.ensures.keeps.spent (sure_of_area b e c.pnode_row.result c.pnode_row.ensures.sure) s) [ inl gone ↦ inl gone | inr fine ↦ inr (fine.0, (fine.1, tt)) ]
