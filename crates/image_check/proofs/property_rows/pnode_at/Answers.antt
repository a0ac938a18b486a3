use Rattle.std.proofs.Common.{ℕ, List, [], ◌∷◌, ap, drop, subst, sym, take, ◌∙◌}
use Rattle.std.proofs.lemmas.Grind
use native.Mathlib.Omega
use Rattle.ubifs_base.specs.Properties.{pnode_len}
use Rattle.ubifs_base.specs.RawOf.{raw_of}
use Rattle.media_lpt.specs.declared.lprop.Lprop.{Lprop}
use Rattle.image_check.specs.PropertyWalk.{IsNodeRead, lpt_leb_in, pnodes}
use Rattle.image_check.proofs.WalkedRows.{elsewhere_read, stands_pnode}
use Rattle.image_check.proofs.property_rows.pnode_at.Goals as goal

pub returns-then-place-root : goal.returns-then-place-root
returns-then-place-root c =
    let geo = raw_of c.args.geo.now in
    let holds = lpt_leb_in geo c.args.area.now in
    let offs = c.args.place.offs in
    let bytes = c.part-bytes.ensures ∙ ap (λ (n : ℕ). take n (drop offs c.leb_at.result.now)) c.pnode_len.ensures ∙ ap (λ (leb : List ℕ). take (pnode_len geo) (drop offs leb)) c.leb_at.ensures in
    let E : Lprop → Type 0 = λ x. IsNodeRead (pnodes geo) c.args.root holds c.args.place c.args.first (x ∷ x ∷ x ∷ x ∷ []) c.sooner-then-place-root.result in
    subst E (sym c.empty_leb-then-place-root.ensures) (elsewhere_read (pnodes geo) c.args.root holds c.args.place c.args.first c.elsewhere.result c.in-Some.node.props c.sooner-then-place-root.result c.if-place-eq0.false c.if-place-root.true
    (stands_pnode geo (holds c.args.place.lnum) offs c.part-bytes.result.now c.in-Some.node bytes c.in-Some.ensures.found.0 c.in-Some.ensures.found.1)
    c.elsewhere.ensures.lnum c.elsewhere.ensures.offs c.elsewhere.ensures.wanted c.elsewhere.ensures.found c.sooner-then-place-root.ensures)

pub returns-then-place-eq0 : goal.returns-then-place-eq0
returns-then-place-eq0 c = grind (Omega.arith, Grind.common_steps) steps 2000000

pub returns-in_default : goal.returns-in_default
returns-in_default c = grind (Omega.arith, Grind.common_steps) steps 2000000

pub returns : goal.returns
returns c = grind (Omega.arith, Grind.common_steps) steps 2000000
