use Rattle.std.proofs.Common.{sym, ◌*◌, subst}
use Rattle.ubifs_base.specs.RawOf.{raw_of}
use Rattle.media_lpt.specs.declared.lprop.Lprop.{Lprop}
use Rattle.lpt_area.specs.Laid.{past_main}
use Rattle.lpt_area.specs.Written.{IsLprop}
use Rattle.lpt_area.proofs.LaidItems.{four-items}
use Rattle.lpt_area.proofs.NodeFits.{pnode_fits, prop_is}
use Rattle.lpt_area.proofs.levels.pnode_of.Goals as goal

pub returns-clause-node : goal.returns-clause-node
returns-clause-node c =
    let geo = raw_of c.args.geo.now in
    let P : Lprop → Type 0 = IsLprop geo in
    pnode_fits geo _ _ _ _ c.args.geo.now.in_range (subst P (sym c.prop_at.ensures) (prop_is geo c.args.props.now _ c.requires.props)) (subst P (sym c.prop_at-2.ensures) (prop_is geo c.args.props.now _ c.requires.props))
    (subst P (sym c.prop_at-3.ensures) (prop_is geo c.args.props.now _ c.requires.props)) (subst P (sym c.prop_at-4.ensures) (prop_is geo c.args.props.now _ c.requires.props))

pub returns-clause-says : goal.returns-clause-says
returns-clause-says c = rw (c.prop_at.ensures, c.prop_at-2.ensures, c.prop_at-3.ensures, c.prop_at-4.ensures) (sym (four-items past_main (4 * c.args.number) c.args.props.now))
