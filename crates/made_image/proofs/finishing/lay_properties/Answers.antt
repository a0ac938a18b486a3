use Rattle.std.proofs.Common.{◌≡◌, List, ap, sym, ◌∙◌, subst, arith}
use Rattle.ubifs_base.specs.RawOf.{raw_of}
use Rattle.ubi_volume.specs.FrameLaws.{IsSameLeb-works}
use Rattle.ubi_volume.specs.Volume.{ChangeUnderWay}
use Rattle.media_lpt.specs.declared.lprop.Lprop.{Lprop}
use Rattle.lpt_area.specs.Written.{AreProps, next_lpt}
use Rattle.laid_main.specs.Props.{laid_props}
use Rattle.made_image.proofs.Chained.{first_lpt}
use Rattle.made_image.proofs.finishing.lay_properties.Goals as goal

pub write_tree-requires-clause-props : goal.write_tree-requires-clause-props
write_tree-requires-clause-props g c =
    let geo = raw_of c.args.geometry.now in
    let main = c.args.main.now in
    let P : List Lprop → Type 0 = λ props. AreProps geo props in
    let room = c.requires.filled.room in
    let e : c.deref-3.result.now ≡ laid_props geo main.leaves.items main.index.items =
    c.deref-3.ensures.value ∙ c.in_ok-props.ensures.props ∙ ap (λ used. laid_props geo used c.deref-2.result.now) c.deref.ensures.value ∙ ap (λ used. laid_props geo main.leaves.items used) c.deref-2.ensures.value in
    subst P (sym e) (c.laid_lebs_have_their_properties.ensures.possible geo main.leaves.items main.index.items c.args.geometry.now.in_range c.requires.filled.leaves c.requires.filled.index (omega (arith, room)))

pub returns-clause-others : goal.returns-clause-others
returns-clause-others g c lnum other =
    let geo = raw_of c.args.geometry.now in
    let s0 = g.V.Volume.state c.args.volume.now in
    let s1 = g.V.Volume.state c.write_tree.new.volume in
    let any = c.write_tree.ensures.any_moment in
    IsSameLeb-works s0 s1 (next_lpt geo 0) lnum (ChangeUnderWay s0 (next_lpt geo 0) any.0) (λ e. other (e ∙ first_lpt geo)) any.1
